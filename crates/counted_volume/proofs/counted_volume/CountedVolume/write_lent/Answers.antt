-- A write that is served has one place more, and one that is refused none.
use Rattle.std.proofs.Common.{◌≡◌, ◌+◌, ◌∙◌, ap, arith, inl, inr, refl, sym, true}
use Rattle.std.specs.Prelude.{◌-◌}
use Rattle.volume.specs.declared.at_once.Served.TheVariants.{Answered}
use Rattle.volume.specs.Lent.{is_bare, origin_write}
use Rattle.counted_volume.specs.Places.{Counted, counted_with, kept_for_marks}
use Rattle.counted_volume.proofs.ServedPlaces.{served_have, served_takes, no_marks}
use Rattle.counted_volume.proofs.Full.{unsent_other}
use Rattle.counted_volume.proofs.Takings.{done_takes, full_takes, refused_takes, takes_none, unsent_takes}
use Rattle.counted_volume.proofs.counted_volume.CountedVolume.write_lent.Goals as goal

pub write_lent-requires-clause-bare : goal.write_lent-requires-clause-bare
write_lent-requires-clause-bare g c = ap (λ (x : Counted g.row.B.Denot). is_bare x.volume) c.self.view_is ∙ c.requires.bare

pub invariant_of-self : goal.invariant_of-self
invariant_of-self g c =
    let v = c.self.inside.volume in
    let w = c.write_lent.new.self in
    let is : is_bare v ≡ true = ap (λ (x : Counted g.row.B.Denot). is_bare x.volume) c.self.view_is ∙ c.requires.bare in
    let free = no_marks v is in
    served_have g.B.Block.may_hold g.B.Block.contents g.B.Block.layers g.B.Block.size g.B.Block.fault_count g.B.Block.done_count (origin_write c.args.range c.args.bytes.now) v w c.self.inside.places (omega (arith, c.if-self-gt-MAX_ENTRIES.false, free)) (Answered (v.requests + 1) c.in-Ok.reply) c.in-Ok.ensures.does c.self.invariant

pub returns-in-Ok-clause-does : goal.returns-in-Ok-clause-does
returns-in-Ok-clause-does g c = rw (← c.self.view_is) c.in-Ok.ensures.does

pub returns-then-self-gt-MAX_ENTRIES-clause-refused : goal.returns-then-self-gt-MAX_ENTRIES-clause-refused
returns-then-self-gt-MAX_ENTRIES-clause-refused g c = inl (refl, refl)

pub returns-in-Err-clause-refused : goal.returns-in-Err-clause-refused
returns-in-Err-clause-refused g c = rw (← c.self.view_is) (inr (inl c.in-Err.ensures.refused))

pub returns-then-self-gt-MAX_ENTRIES-clause-places : goal.returns-then-self-gt-MAX_ENTRIES-clause-places
returns-then-self-gt-MAX_ENTRIES-clause-places g c =
    let v = c.self.inside.volume in
    let is : is_bare v ≡ true = ap (λ (x : Counted g.row.B.Denot). is_bare x.volume) c.self.view_is ∙ c.requires.bare in
    let free = no_marks v is in
    rw (← c.self.view_is) (full_takes 1 c.self.inside.places 0 kept_for_marks v (sym free) (omega (arith, c.if-self-gt-MAX_ENTRIES.true)))

pub returns-in-Ok-clause-places : goal.returns-in-Ok-clause-places
returns-in-Ok-clause-places g c =
    let v = c.self.inside.volume in
    let w = c.write_lent.new.self in
    let is : is_bare v ≡ true = ap (λ (x : Counted g.row.B.Denot). is_bare x.volume) c.self.view_is ∙ c.requires.bare in
    let free = no_marks v is in
    rw (← c.self.view_is) (done_takes 1 c.self.inside.places (c.self.inside.places + 1) 0 kept_for_marks v w c.in-Ok.reply (sym free) (omega (arith, c.if-self-gt-MAX_ENTRIES.false)) (omega arith))

pub returns-in-Err-clause-places : goal.returns-in-Err-clause-places
returns-in-Err-clause-places g c =
    let v = c.self.inside.volume in
    let w = c.write_lent.new.self in
    let is : is_bare v ≡ true = ap (λ (x : Counted g.row.B.Denot). is_bare x.volume) c.self.view_is ∙ c.requires.bare in
    let free = no_marks v is in
    let same = ap kept_for_marks c.in-Err.ensures.refused.1 in
    rw (← c.self.view_is) (refused_takes 1 c.self.inside.places c.self.inside.places 0 kept_for_marks v w c.in-Err.refusal (sym free) (omega (arith, c.if-self-gt-MAX_ENTRIES.false))
    (unsent_other g.B.Block.contents g.B.Block.layers g.B.Block.size (origin_write c.args.range c.args.bytes.now) c.in-Err.refusal v w (inl c.in-Err.ensures.refused)) (omega (arith, same)))

pub returns-then-self-gt-MAX_ENTRIES-clause-taken : goal.returns-then-self-gt-MAX_ENTRIES-clause-taken
returns-then-self-gt-MAX_ENTRIES-clause-taken g c = takes_none _

pub returns-in-Ok-clause-taken : goal.returns-in-Ok-clause-taken
returns-in-Ok-clause-taken g c =
    let v = c.self.inside.volume in
    let w = c.write_lent.new.self in
    let is : is_bare v ≡ true = ap (λ (x : Counted g.row.B.Denot). is_bare x.volume) c.self.view_is ∙ c.requires.bare in
    let free = no_marks v is in
    rw (← c.self.view_is) (served_takes g.B.Block.may_hold g.B.Block.contents g.B.Block.layers g.B.Block.size g.B.Block.fault_count g.B.Block.done_count (origin_write c.args.range c.args.bytes.now) v w c.self.inside.places (omega (arith, c.if-self-gt-MAX_ENTRIES.false, free)) (Answered (v.requests + 1) c.in-Ok.reply) c.in-Ok.ensures.does)

pub returns-in-Err-clause-taken : goal.returns-in-Err-clause-taken
returns-in-Err-clause-taken g c =
    let v = c.self.inside.volume in
    let w = c.write_lent.new.self in
    let is : is_bare v ≡ true = ap (λ (x : Counted g.row.B.Denot). is_bare x.volume) c.self.view_is ∙ c.requires.bare in
    let free = no_marks v is in
    let same = ap kept_for_marks c.in-Err.ensures.refused.1 in
    rw (← c.self.view_is) (unsent_takes (counted_with v c.self.inside.places) (counted_with w c.self.inside.places) g.B.Block.contents g.B.Block.layers g.B.Block.size (origin_write c.args.range c.args.bytes.now) c.in-Err.refusal (inr (inl c.in-Err.ensures.refused)) (omega (arith, same)))

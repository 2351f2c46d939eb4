-- Two places more are taken, and its entry is noted.
use Rattle.std.proofs.Common.{◌∙◌, ◌+◌, refl, ap, arith, inr}
use Rattle.snapshot.specs.Opening.{shown_array}
use Rattle.volume.specs.Fresh.{is_fresh}
use Rattle.volume.specs.Volumed.{is_loud_in_all}
use Rattle.audited_volume.specs.PlacesTaken.{places_for}
use Rattle.audited_volume.proofs.Fresh.{fresh_taken}
use Rattle.counted_volume.specs.Places.{Counted, kept_for_marks, kept_for_snaps}
use Rattle.counted_volume.proofs.Fewer.{gained_have}
use Rattle.counted_volume.proofs.JournalGoing.{gained_goes_on}
use Rattle.counted_volume.proofs.Full.{untaken_other}
use Rattle.counted_volume.proofs.Takings.{done_takes, full_takes, gained_live, refused_takes}
use Rattle.counted_volume.proofs.counted_volume.CountedVolume.attach.Goals as goal

pub returns-in-Ok-clause-does : goal.returns-in-Ok-clause-does
returns-in-Ok-clause-does g c = rw (← c.self.view_is) c.in-Ok.ensures.does

pub returns-in-Err-clause-does : goal.returns-in-Err-clause-does
returns-in-Err-clause-does g c = rw (← c.self.view_is) c.in-Err.ensures.does

pub returns-in-Err-clause-refused : goal.returns-in-Err-clause-refused
returns-in-Err-clause-refused g c = inr (rw (← c.self.view_is) c.in-Err.ensures.refused)

pub returns-in-Ok-clause-goes_on : goal.returns-in-Ok-clause-goes_on
returns-in-Ok-clause-goes_on g c = λ loud more.
    rw (← c.self.view_is) (gained_goes_on g.B.Block.contents g.B.Block.layers c.self.inside.volume c.attach.new.self g.B.Block.size c.in-Ok.number c.args.overflow c.args.store (shown_array (g.B.Block.contents c.self.inside.volume.origin) (g.B.Block.contents c.args.store.device)) (is_fresh (g.B.Block.contents c.args.store.device)) c.in-Ok.ensures.does.gained (c.in-Ok.ensures.does.taken (ap (λ (j : Counted g.row.B.Denot). is_loud_in_all g.B.Block.layers j.volume) c.self.view_is ∙ loud) more) (fresh_taken g.B.Block.contents g.B.Block.layers c.args.store c.args.chunk c.self.inside.volume c.in-Ok.ensures.does.admitted (is_fresh (g.B.Block.contents c.args.store.device)) refl))

pub invariant_of-self : goal.invariant_of-self
invariant_of-self g c = gained_have c.self.inside.volume c.attach.new.self g.B.Block.contents g.B.Block.layers g.B.Block.size c.in-Ok.number c.args.overflow c.args.store c.self.inside.places _ c.in-Ok.ensures.does.gained c.in-Ok.ensures.does.number c.places_needed.ensures.is (omega (arith, c.if-self-count_may-gt-MAX_ENTRIES.false, c.count_may.ensures.count)) c.self.invariant

pub returns-then-self-count_may-gt-MAX_ENTRIES-clause-places : goal.returns-then-self-count_may-gt-MAX_ENTRIES-clause-places
returns-then-self-count_may-gt-MAX_ENTRIES-clause-places g c =
    rw (← c.self.view_is) (full_takes (places_for c.args.overflow) c.self.inside.places c.count_may.result kept_for_snaps c.self.inside.volume c.count_may.ensures.count (omega (arith, c.if-self-count_may-gt-MAX_ENTRIES.true, c.places_needed.ensures.is)))

pub returns-in-Ok-clause-places : goal.returns-in-Ok-clause-places
returns-in-Ok-clause-places g c =
    let live = gained_live c.self.inside.volume c.attach.new.self g.B.Block.contents g.B.Block.layers g.B.Block.size c.in-Ok.number c.args.overflow c.args.store c.in-Ok.ensures.does.gained in
    rw (← c.self.view_is) (done_takes (places_for c.args.overflow) c.self.inside.places (c.self.inside.places + 2) c.count_may.result kept_for_snaps c.self.inside.volume c.attach.new.self c.in-Ok.number c.count_may.ensures.count (omega (arith, c.if-self-count_may-gt-MAX_ENTRIES.false, c.places_needed.ensures.is)) (omega (arith, live)))

pub returns-in-Err-clause-places : goal.returns-in-Err-clause-places
returns-in-Err-clause-places g c =
    let other = untaken_other c.args.store.stale c.args.chunk (g.B.Block.size c.self.inside.volume.origin) (g.B.Block.size c.args.store.device) (g.B.Block.contents c.args.store.device) c.self.inside.volume c.in-Err.refused.0 c.in-Err.ensures.refused in
    rw (← c.self.view_is) (refused_takes (places_for c.args.overflow) c.self.inside.places c.self.inside.places c.count_may.result kept_for_snaps c.self.inside.volume c.attach.new.self c.in-Err.refused.0 c.count_may.ensures.count (omega (arith, c.if-self-count_may-gt-MAX_ENTRIES.false, c.places_needed.ensures.is))
    other (ap (λ v. c.self.inside.places + kept_for_marks v) c.in-Err.ensures.does.same.becomes))

use Rattle.std.proofs.Common.{ℕ, ◌*◌, ◌∙◌, List, ap, subst, refl, take, arith, ◌≡◌, true, false, sym, rules}
use Rattle.std.proofs.lemmas.List.{places}
use Rattle.file_calls.specs.Calls.{Call, Read}
use Rattle.file_calls.specs.Kept.{now_in, MayHold}
use Rattle.file_device.specs.Layers.{at_first}
use Rattle.file_device.specs.Laws.{loud_before}
use Rattle.file_device.proofs.CallsAhead.{read_kept, read_same, read_stop, read_long, read_there}
use Rattle.file_device.specs.Laws.{unbroken}
use Rattle.file_device.proofs.ahead.FileDeviceAhead.read_ahead.Goals.{then-self, else-self}
use Rattle.file_device.proofs.ahead.FileDeviceAhead.read_ahead.Goals as goal

pub invariant_of-self-2-clause-long : goal.invariant_of-self-2-clause-long
invariant_of-self-2-clause-long g c =
    let d = c.args.self.now in
    read_long (at_first (g.S.Start.first d.number) d.sectors) (g.C.FileCalls.history d.file) _ d.sectors c.args.range.first c.args.range.count (take (512 * c.args.range.count) c.fill.new.self.near.bytes.items) c.fill.result d.long c.requires.inside
    (grind (arith, places, c.requires.few, c.fill.new.self.long)) c.fill.ensures.noted

pub invariant_of-self-2-clause-there : goal.invariant_of-self-2-clause-there
invariant_of-self-2-clause-there g c =
    let d = c.args.self.now in
    read_there (at_first (g.S.Start.first d.number) d.sectors) (g.C.FileCalls.history d.file) _ d.sectors c.args.range.first c.args.range.count c.fill.new.self.near c.fill.new.self.more.items c.fill.result d.long c.requires.inside c.requires.some
    (omega (arith, c.requires.few, c.fill.new.self.long)) c.fill.ensures.count c.fill.ensures.first c.fill.ensures.more c.fill.ensures.noted

pub returns-clause-does : goal.returns-clause-does
returns-clause-does g c =
    let d = c.args.self.now in
    let start = at_first (g.S.Start.first d.number) d.sectors in
    let past : List Call = g.C.FileCalls.history d.file in
    let bytes : List ℕ = take (512 * c.args.range.count) c.fill.new.self.near.bytes.items in
    record {
      loud = λ loud. loud_before start (Read _ _ _) past d.is_broken d.pieces (read_kept start past _ _ _ _ c.fill.ensures.noted _ _ loud);
      same = λ loud. ap (now_in start) c.fill.ensures.noted ∙ read_same start past d.sectors c.args.range.first c.args.range.count bytes c.fill.result d.long c.requires.inside (read_kept start past _ _ _ _ c.fill.ensures.noted _ _ loud);
      stop = λ loud s' v held. read_stop start past d.sectors c.args.range.first c.args.range.count bytes c.fill.result d.long c.requires.inside (read_kept start past _ _ _ _ c.fill.ensures.noted _ _ loud) s' v (subst (λ h. MayHold start h s' v) c.fill.ensures.noted held);
      sized = refl;
      faulty = refl;
      counted = refl;
    }

pub returns-then-self-2-clause-sure : goal.returns-then-self-2-clause-sure
returns-then-self-2-clause-sure g c = λ all.
    (let d = c.args.self.now in
    let none : (d.is_broken ≡ false) × (d.has_failed ≡ false) = unbroken (g.C.FileCalls.history d.file) d.is_broken d.has_failed d.broken d.failed all in
    elim c.if-self.branch [
      | then-self w ↦ (let is : d.is_broken ≡ true = search rules in absurd (let no : true ≡ false = sym is ∙ none.0 in cc))
      | else-self w ↦ (let is : d.has_failed ≡ true = search rules in absurd (let no : true ≡ false = sym is ∙ none.1 in cc))
    ])

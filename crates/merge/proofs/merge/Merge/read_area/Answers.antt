use Rattle.std.proofs.Common.{◌≡◌, true, ap, ◌∙◌, sym, subst, refl}
use Rattle.store.specs.Held.{committed}
use Rattle.volume_laws.specs.MergeSteps.{ReadsArea}
use Rattle.merge.specs.Due.{can_read_area_of}
use Rattle.merge.specs.Merging.{Merging, due_of}
use Rattle.merge.proofs.Changes.{merging, same_merging, reads_area}
use Rattle.merge.proofs.merge.Merge.read_area.Goals as goal

pub returns-clause-step : goal.returns-clause-step
returns-clause-step g c =
    let m = c.self.inside in
    let s = m.store in
    let t = c.merge_area_read.new.self in
    let v : Merging g.row.B.Denot = merging m.number s.device m.failed s.state s.places.next (committed s.exceptions) m.group m.buffer.items in
    let due : can_read_area_of v ≡ true = ap can_read_area_of c.self.view_is ∙ c.requires.due in
    let fields = same_merging m.number t.device m.failed t.state t.state t.places.next s.places.next (committed t.exceptions) (committed s.exceptions) m.group m.group m.buffer.items m.buffer.items
    refl (ap (λ x. x.next) c.merge_area_read.ensures.places) (ap committed c.merge_area_read.ensures.exceptions) refl refl in
    rw (← c.self.view_is) (λ loud.
    subst (λ (x : Merging g.row.B.Denot). ReadsArea (due_of g.B.Block.contents loud v) (due_of g.B.Block.contents loud x)) (sym fields)
    (reads_area g.B.Block.contents loud v t.device t.state due c.merge_area_read.ensures.same c.in-Ok.ensures.state))

pub returns-clause-adds : goal.returns-clause-adds
returns-clause-adds g c = rw (← c.self.view_is) c.merge_area_read.ensures.adds

use Rattle.std.proofs.Common.{◌≡◌, true, ap, ◌∙◌}
use Rattle.store.specs.Held.{committed}
use Rattle.merge.specs.Due.{can_release_of}
use Rattle.merge.specs.Merging.{Merging}
use Rattle.merge.proofs.Changes.{merging, ends_group}
use Rattle.merge.proofs.merge.Merge.release.Goals as goal

pub returns-clause-step : goal.returns-clause-step
returns-clause-step g c =
    let m = c.self.inside in
    let s = m.store in
    let v : Merging g.row.B.Denot = merging m.number s.device m.failed s.state s.places.next (committed s.exceptions) m.group m.buffer.items in
    let due : can_release_of m.group ≡ true = ap (λ (v : Merging g.row.B.Denot). can_release_of v.group) c.self.view_is ∙ c.requires.due in
    rw (← c.self.view_is) (λ loud. ends_group g.B.Block.contents loud v c.self.invariant.present c.self.invariant.alone due)

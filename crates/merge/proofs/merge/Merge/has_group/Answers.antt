use Rattle.store.specs.Held.{committed}
use Rattle.merge.specs.Merging.{Merging}
use Rattle.merge.proofs.Changes.{merging}
use Rattle.merge.proofs.Looks.{looks_agree}
use Rattle.merge.proofs.merge.Merge.has_group.Goals as goal

pub returns-clause-looks : goal.returns-clause-looks
returns-clause-looks g c =
    let m = c.self.inside in
    let s = m.store in
    let v : Merging g.row.B.Denot = merging m.number s.device m.failed s.state s.places.next (committed s.exceptions) m.group m.buffer.items in
    rw (← c.self.view_is) (λ loud. looks_agree g.B.Block.contents loud v c.self.invariant.present)

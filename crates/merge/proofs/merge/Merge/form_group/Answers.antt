use Rattle.std.proofs.Common.{◌≡◌, ◌-◌, true, nat_lt, ap, ◌∙◌, take, length}
use Rattle.store.specs.Held.{committed}
use Rattle.merge.specs.Due.{can_group_of}
use Rattle.merge.specs.Merging.{Merging}
use Rattle.merge.proofs.Stages.{idle_from}
use Rattle.merge.proofs.Changes.{merging, forms}
use Rattle.merge.proofs.merge.Merge.form_group.Goals as goal

pub returns-in-Some-clause-step : goal.returns-in-Some-clause-step
returns-in-Some-clause-step g c =
    let m = c.self.inside in
    let s = m.store in
    let v : Merging g.row.B.Denot = merging m.number s.device m.failed s.state s.places.next (committed s.exceptions) m.group m.buffer.items in
    let due : can_group_of v ≡ true = ap can_group_of c.self.view_is ∙ c.requires.due in
    let idle = idle_from m.failed m.group (nat_lt 0 s.state.filled) due in
    rw (← c.self.view_is) (λ loud. (take (length v.pairs - c.in-Some.run'.count) v.pairs, forms g.B.Block.contents loud v c.in-Some.run'.first c.in-Some.run'.count idle.sound idle.none c.in-Some.ensures))

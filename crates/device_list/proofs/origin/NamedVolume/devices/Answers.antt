-- How many stacks there are.
use Rattle.std.proofs.Common.{length, sym, ap, ◌∙◌, arith}
use Rattle.std.proofs.lemmas.Bool.{cond-true, cond-false}
use Rattle.std.specs.Prelude.{is_some}
use Rattle.device_list.specs.Backed.{Backed}
use Rattle.command_semantics.specs.Stopping.{stores_left}
use Rattle.device_list.proofs.Stops.{left_count}
use Rattle.device_list.proofs.origin.NamedVolume.devices.Goals as goal
use Rattle.device_list.proofs.origin.NamedVolume.devices.Goals.{in-None, in-Some}

pub returns : goal.returns
returns c =
    let count = left_count c.self.inside.snaps.items c.self.inside.merging c.self.inside.volume.rested c.self.invariant.many c.self.invariant.begun in
    let left = sym (ap (λ (v : Backed). length (stores_left v.shown.snaps v.shown.state.snaps v.shown.merging)) c.self.view_is) ∙ count in
    elim c.match-self.branch [
      | in-None w ↦ (let none = left ∙ cond-false _ _ _ (ap is_some w.in-None.is) in let is = w.stores-is in let len = w.len-stores.ensures in let add = c.saturating_add.ensures in omega (arith, none, is, len, add))
      | in-Some w ↦ (let one = left ∙ cond-true _ _ _ (ap is_some w.in-Some.is) in let is = w.stores-is in let len = w.len.ensures in let more = w.saturating_add-stores.ensures in let add = c.saturating_add.ensures in omega (arith, one, is, len, more, add))
    ]

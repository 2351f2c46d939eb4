use Rattle.std.proofs.Common.{◌∙◌}
use Rattle.device_list.proofs.Orders.{named_each, numbers_rise, ordered_with}
use Rattle.device_list.proofs.origin.NamedVolume.look_at_snapshots.Goals as goal

pub returns-clause-named : goal.returns-clause-named
returns-clause-named c = rw (← c.self.view_is) (named_each c.self.inside.snaps.items c.self.inside.volume.rested c.self.invariant.many)

pub returns-clause-numbers : goal.returns-clause-numbers
returns-clause-numbers c = rw (← c.self.view_is) (numbers_rise c.self.inside.volume.rested c.is_quiet.ensures.numbers)

pub returns-clause-ordered : goal.returns-clause-ordered
returns-clause-ordered c =
    rw (← c.self.view_is) (λ sound quiet. ordered_with c.self.inside.merging c.self.inside.volume.rested c.self.invariant.begun (c.is_quiet.ensures.ordered (c.is_quiet.ensures.value ∙ quiet) (c.self.invariant.loud sound)))

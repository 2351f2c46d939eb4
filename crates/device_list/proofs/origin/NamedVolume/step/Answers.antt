use Rattle.std.proofs.Common.{refl, ◌∙◌}
use Rattle.device_list.proofs.Events.{behind, stepped}
use Rattle.device_list.proofs.Holds.{stays_held}
use Rattle.device_list.proofs.Merges.{merge_is, still_begun}
use Rattle.device_list.proofs.origin.NamedVolume.step.Goals as goal

pub invariant_of-self : goal.invariant_of-self
invariant_of-self c = stays_held _ _ c.self-2.inside.volume.rested c.step.new.self.rested _ _ c.self-2.invariant c.step.ensures.seen.kept c.step.ensures.seen.requests

pub returns-clause-stepped : goal.returns-clause-stepped
returns-clause-stepped c =
    let fewer = (invariant_of-self c).requests in
    rw (← c.self-2.view_is)
    (stepped c.args.event c.self-2.inside.volume.rested c.step.new.self.rested _ _ (behind c.self-2.inside.volume.rested _ c.step.ensures.whole.0 refl (merge_is _ c.self-2.inside.volume.rested c.self-2.invariant.begun) refl refl c.self-2.invariant.requests) (behind c.step.new.self.rested _ c.step.ensures.whole.1 refl (merge_is _ c.step.new.self.rested (c.self-2.invariant.begun ∙ still_begun c.self-2.inside.volume.rested c.step.new.self.rested c.step.ensures.seen.kept.merging)) refl refl fewer)
    c.step.result c.step.ensures.does.due c.step.ensures.does.exact c.step.ensures.does.legal c.step.ensures.does.cause c.step.ensures.does.one c.step.ensures.does.closes c.step.ensures.does.stops)

use Rattle.std.proofs.Common.{sym, ap, ◌∙◌}
use Rattle.command_semantics.specs.Status.{merge_state}
use Rattle.device_list.proofs.Merges.{some_names}
use Rattle.device_list.proofs.origin.NamedVolume.trace_merge.Goals as goal

pub merge_at-requires : goal.merge_at-requires
merge_at-requires c =
    let g = c.in-Some.ensures.some in
    let h = some_names c.self.inside.merging c.self.inside.volume.rested g.0 c.self.invariant.begun g.1 in
    rw (← c.self.view_is) (h.0, h.1, g.2 ∙ ap merge_state (sym h.2))

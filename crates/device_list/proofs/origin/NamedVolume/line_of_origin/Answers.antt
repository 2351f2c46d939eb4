use Rattle.std.proofs.Common.{◌≡◌, Some, sym, ap, ◌∙◌}
use Rattle.std.specs.Prelude.{Option, is_some}
use Rattle.command_semantics.specs.State.{Names}
use Rattle.device_list.specs.Held.{merging_with}
use Rattle.device_list.proofs.Merges.{names_stand}
use Rattle.device_list.proofs.origin.NamedVolume.line_of_origin.Goals as goal

pub line_of_merged_origin-requires : goal.line_of_merged_origin-requires
line_of_merged_origin-requires c =
    let was : c.self.inside.merging ≡ Some c.in-Some.names = c.in-Some.is in
    let stand = names_stand c.in-Some.names c.self.inside.volume.rested (sym (ap (λ (o : Option Names). is_some o) was) ∙ c.self.invariant.begun) in
    rw (← c.self.view_is) (stand.0, ap (λ (o : Option Names). merging_with o c.self.inside.volume.rested) was ∙ stand.1, stand.2)

use Rattle.std.proofs.Common.{refl, sym, ◌∙◌, subst}
use Rattle.whole_commands.specs.Merges.{Merged}
use Rattle.command_semantics.specs.Changes.{Steps}
use Rattle.command_semantics.specs.Messages.{told_role}
use Rattle.device_list.specs.Held.{merged_inside}
use Rattle.device_list.proofs.Holds.{stays_held}
use Rattle.device_list.proofs.Merges.{goes_on, inside_is, still_begun}
use Rattle.device_list.proofs.Tells.{mounted}
use Rattle.device_list.proofs.origin.NamedVolume.tell.Goals as goal

pub invariant_of-self : goal.invariant_of-self
invariant_of-self c =
    let told = c.tell_role.ensures in
    stays_held _ _ c.self.inside.volume.rested c.tell_role.new.volume.rested _ _ c.self.invariant told.rest.kept told.rest.requests

pub returns : goal.returns
returns c =
    let told = c.tell_role.ensures in
    let begun = c.self.invariant.begun in
    let after = begun ∙ still_begun c.self.inside.volume.rested c.tell_role.new.volume.rested told.rest.kept.merging in
    rw (← c.self.view_is)
    (mounted c.args.role c.args.message.now c.tell_role.result _ _ (merged_inside c.tell_role.new.volume.rested) (rw (goes_on _ c.self.inside.volume.rested c.tell_role.new.volume.rested begun after) (rw told.rest.kept.attached (rw told.rest.quiet (rw told.rest.flying refl))))
    (subst (λ (m : Merged). Steps c.tell_role.result m (merged_inside c.tell_role.new.volume.rested) (told_role c.args.role c.args.message.now m)) (sym (inside_is _ c.self.inside.volume.rested begun)) told.steps))

use Rattle.std.proofs.Common.{ap, rules, ◌∙◌}
use Rattle.device_list.specs.Tables.{table_of}
use Rattle.device_list.proofs.Showing.{refused_shown, shown_at, shown_in, shown_insert, shown_inside, shown_remove}
use Rattle.device_commands.proofs.Closing.{closed_is, closed_sound, stays}
use Rattle.device_commands.proofs.Fills.{left_anyway}
use Rattle.device_commands.proofs.origins.close.Goals as goal

pub returns-in-Ok-clause-done : goal.returns-in-Ok-clause-done
returns-in-Ok-clause-done c =
    closed_is (table_of c.args.held.now) c.args.v c.remove-volume.result.shown c.in-Ok.stack c.push_reserved.new.self.items (shown_in c.remove-volume.new.self.items)
    c.requires (shown_at c.args.held.now.volumes.items c.args.v c.remove-volume.result (shown_inside c.args.held.now.volumes.items c.args.v c.requires) c.remove-volume.ensures.value) c.in-Ok.ensures.ok (search rules) (ap shown_in c.remove-volume.ensures.items ∙ shown_remove c.args.held.now.volumes.items c.args.v)

pub returns-in-Ok-clause-sound : goal.returns-in-Ok-clause-sound
returns-in-Ok-clause-sound c = λ sound.
    closed_sound (table_of c.args.held.now) c.args.v c.remove-volume.result.shown c.in-Ok.stack c.push_reserved.new.self.items (shown_in c.remove-volume.new.self.items)
    c.requires (shown_at c.args.held.now.volumes.items c.args.v c.remove-volume.result (shown_inside c.args.held.now.volumes.items c.args.v c.requires) c.remove-volume.ensures.value) c.in-Ok.ensures.sound (search rules) (ap shown_in c.remove-volume.ensures.items ∙ shown_remove c.args.held.now.volumes.items c.args.v) sound

pub returns-in-Err-clause-done : goal.returns-in-Err-clause-done
returns-in-Err-clause-done c =
    stays (table_of c.args.held.now) c.args.v c.remove-volume.result.shown c.in-Err.volume.shown _ (shown_in c.remove-volume.new.self.items) (shown_in c.put_volume_back.new.volumes.items) c.in-Err.refusal
    c.requires (shown_at c.args.held.now.volumes.items c.args.v c.remove-volume.result (shown_inside c.args.held.now.volumes.items c.args.v c.requires) c.remove-volume.ensures.value) (refused_shown _ c.remove-volume.result c.in-Err.volume c.in-Err.ensures.err) (search rules) (ap shown_in c.remove-volume.ensures.items ∙ shown_remove c.args.held.now.volumes.items c.args.v) (ap shown_in c.put_volume_back.ensures ∙ shown_insert c.remove-volume.new.self.items c.args.v c.in-Err.volume)

pub returns-in-Err-clause-room : goal.returns-in-Err-clause-room
returns-in-Err-clause-room c = left_anyway c.in-Err.refusal _ _ _ _ c.in-Err.ensures.err.0

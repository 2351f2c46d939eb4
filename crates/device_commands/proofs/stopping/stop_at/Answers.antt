use Rattle.std.proofs.Common.{ap, rules, ◌∙◌}
use Rattle.device_list.specs.Tables.{table_of}
use Rattle.device_list.proofs.Showing.{shown_at, shown_in, shown_inside, shown_remove}
use Rattle.device_commands.proofs.Stops.{stopped_is, stopped_named, stopped_sound}
use Rattle.device_commands.proofs.stopping.stop_at.Goals as goal

pub returns-clause-done : goal.returns-clause-done
returns-clause-done c =
    stopped_is (table_of c.args.held.now) c.args.v c.remove.result.shown c.stop-stopped.result.shown c.free_all.new.stacks.items (shown_in c.remove.new.self.items)
    c.requires (shown_at c.args.held.now.volumes.items c.args.v c.remove.result (shown_inside c.args.held.now.volumes.items c.args.v c.requires) c.remove.ensures.value) c.stop-stopped.ensures.left (search rules) (ap shown_in c.remove.ensures.items ∙ shown_remove c.args.held.now.volumes.items c.args.v)

pub returns-clause-sound : goal.returns-clause-sound
returns-clause-sound c = λ sound.
    stopped_sound (table_of c.args.held.now) c.args.v c.remove.result.shown c.stop-stopped.result.shown c.free_all.new.stacks.items (shown_in c.remove.new.self.items)
    c.requires (shown_at c.args.held.now.volumes.items c.args.v c.remove.result (shown_inside c.args.held.now.volumes.items c.args.v c.requires) c.remove.ensures.value) c.stop-stopped.ensures.sound (search rules) (ap shown_in c.remove.ensures.items ∙ shown_remove c.args.held.now.volumes.items c.args.v) sound

pub returns-clause-named : goal.returns-clause-named
returns-clause-named c = λ named.
    stopped_named (table_of c.args.held.now) c.args.v c.remove.result.shown c.stop-stopped.result.shown c.free_all.new.stacks.items (shown_in c.remove.new.self.items)
    c.requires (shown_at c.args.held.now.volumes.items c.args.v c.remove.result (shown_inside c.args.held.now.volumes.items c.args.v c.requires) c.remove.ensures.value) c.stop-stopped.ensures.left (search rules) (ap shown_in c.remove.ensures.items ∙ shown_remove c.args.held.now.volumes.items c.args.v) named

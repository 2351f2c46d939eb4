use Rattle.std.proofs.Common.{ap, rules, ◌∙◌}
use Rattle.device_list.specs.Tables.{table_of}
use Rattle.device_list.proofs.Showing.{shown_at, shown_in, shown_inside, shown_remove}
use Rattle.device_commands.proofs.Loses.{left_durable, losing_named, stops_losing}
use Rattle.device_commands.proofs.stopping.lose_at.Goals as goal

pub returns-clause-done : goal.returns-clause-done
returns-clause-done c =
    let volumes = c.args.held.now.volumes.items in
    stops_losing (table_of c.args.held.now) c.args.v c.remove.result.shown c.stop-stopped.result c.free_lost.new.stacks.items (shown_in c.remove.new.self.items)
    c.requires (shown_at volumes c.args.v c.remove.result (shown_inside volumes c.args.v c.requires) c.remove.ensures.value) c.stop-stopped.ensures.left (search rules) (ap shown_in c.remove.ensures.items ∙ shown_remove volumes c.args.v)

pub returns-clause-durable : goal.returns-clause-durable
returns-clause-durable c =
    let volumes = c.args.held.now.volumes.items in
    left_durable volumes c.args.v c.remove.result c.stop-stopped.result c.args.held.now.stacks.items c.free_lost.new.stacks.items (shown_inside volumes c.args.v c.requires) c.remove.ensures.value c.stop-stopped.ensures.devices (search rules)

pub returns-clause-named : goal.returns-clause-named
returns-clause-named c = λ named.
    let volumes = c.args.held.now.volumes.items in
    losing_named (table_of c.args.held.now) c.args.v c.remove.result.shown c.stop-stopped.result c.free_lost.new.stacks.items (shown_in c.remove.new.self.items)
    c.requires (shown_at volumes c.args.v c.remove.result (shown_inside volumes c.args.v c.requires) c.remove.ensures.value) c.stop-stopped.ensures.left (search rules) (ap shown_in c.remove.ensures.items ∙ shown_remove volumes c.args.v) named

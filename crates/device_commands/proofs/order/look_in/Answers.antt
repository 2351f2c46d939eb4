use Rattle.command_semantics.proofs.AtPlace.{volume_here}
use Rattle.device_list.specs.Tables.{table_of}
use Rattle.device_list.proofs.Showing.{shown_at, shown_inside}
use Rattle.device_commands.proofs.Orders.{in_order}
use Rattle.device_commands.proofs.order.look_in.Goals as goal

pub returns : goal.returns
returns c =
    let was = c.index.result.now in
    let old = was.shown in
    let volumes = c.args.held.now.volumes.items in
    let look = c.look_at_snapshots.ensures in
    let there = volume_here (table_of c.args.held.now) c.args.v old c.requires (shown_at volumes c.args.v was (shown_inside volumes c.args.v c.requires) c.index.ensures) in rw there (in_order old look.named look.numbers look.ordered)

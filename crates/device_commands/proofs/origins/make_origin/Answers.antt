use Rattle.std.proofs.Common.{rules}
use Rattle.device_list.specs.Tables.{table_of}
use Rattle.device_list.proofs.Showing.{shown_in}
use Rattle.device_commands.proofs.Made.{fits_still, made_is, shown_last}
use Rattle.device_commands.proofs.origins.make_origin.Goals as goal

pub returns-in-Ok : goal.returns-in-Ok
returns-in-Ok c =
    made_is c.args.name c.args.sectors c.args.device.now (table_of c.args.held.now) c.in_ok-i.i c.remove-stack.result c.in-Ok.volume.shown c.remove-stack.new.self.items (shown_in c.push_reserved.new.self.items)
    (search rules) (search rules) c.remove-stack.ensures.value
    (fits_still c.args.sectors c.sectors.result c.args.held.now.stacks.items c.in_ok-i.i c.index.result.now c.remove-stack.result (search rules) c.index.ensures c.remove-stack.ensures.value c.sectors.ensures.value c.in_ok-same_size.ensures.value) c.in-Ok.ensures.ok c.remove-stack.ensures.items (shown_last c.args.held.now.volumes.items c.reserve.new.self.items c.push_reserved.new.self.items c.in-Ok.volume c.push_reserved.ensures.items c.reserve.ensures.items)

use Rattle.device_list.specs.Tables.{table_of}
use Rattle.device_list.proofs.Showing.{shown_at, shown_inside}
use Rattle.device_commands.proofs.Maps.{map_held_in, map_never, mapped_in}
use Rattle.device_commands.proofs.Ruled.{loud_here}
use Rattle.device_commands.proofs.mapping.map_at.Goals as goal

pub returns-clause-done : goal.returns-clause-done
returns-clause-done c = λ loud.
    let at = shown_at c.args.held.now.volumes.items c.args.v c.index.result.now (shown_inside c.args.held.now.volumes.items c.args.v c.requires.0) c.index.ensures in
    mapped_in c.map.result c.args.v c.args.role (table_of c.args.held.now) c.index.result.now.shown c.requires.0 at
    (c.map.ensures.done (loud_here (table_of c.args.held.now) c.args.v c.index.result.now.shown loud c.requires.0 at))

pub returns-clause-held : goal.returns-clause-held
returns-clause-held c =
    map_held_in c.map.result c.args.role c.args.v (table_of c.args.held.now) c.index.result.now.shown c.requires.0 (shown_at c.args.held.now.volumes.items c.args.v c.index.result.now (shown_inside c.args.held.now.volumes.items c.args.v c.requires.0) c.index.ensures) c.map.ensures.held

pub returns-clause-room : goal.returns-clause-room
returns-clause-room c = let never = map_never c.map.result c.args.role c.index.result.now.shown c.map.ensures.held in never.other

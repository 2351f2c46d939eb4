use Rattle.device_list.specs.Tables.{table_of}
use Rattle.device_list.proofs.Showing.{shown_at, shown_inside}
use Rattle.device_commands.proofs.Denied.{held_in}
use Rattle.device_commands.proofs.InVolume.{among_in, shown_in}
use Rattle.device_commands.proofs.Ruled.{sound_here}
use Rattle.device_commands.proofs.RulesNeverFull.{status_never}
use Rattle.device_commands.proofs.shown.status_at.Goals as goal

pub returns-clause-done : goal.returns-clause-done
returns-clause-done c = λ sound.
    shown_in c.status.result c.args.v c.args.role (table_of c.args.held.now) c.index.result.now.shown
    c.requires.0 (shown_at c.args.held.now.volumes.items c.args.v c.index.result.now (shown_inside c.args.held.now.volumes.items c.args.v c.requires.0) c.index.ensures) (c.status.ensures.done
    (sound_here (table_of c.args.held.now) c.args.v c.index.result.now.shown sound c.requires.0 (shown_at c.args.held.now.volumes.items c.args.v c.index.result.now (shown_inside c.args.held.now.volumes.items c.args.v c.requires.0) c.index.ensures)).0
    (sound_here (table_of c.args.held.now) c.args.v c.index.result.now.shown sound c.requires.0 (shown_at c.args.held.now.volumes.items c.args.v c.index.result.now (shown_inside c.args.held.now.volumes.items c.args.v c.requires.0) c.index.ensures)).1)

pub returns-clause-among : goal.returns-clause-among
returns-clause-among c =
    among_in c.status.result c.args.role c.args.v (table_of c.args.held.now) c.index.result.now.shown c.requires.0 (shown_at c.args.held.now.volumes.items c.args.v c.index.result.now (shown_inside c.args.held.now.volumes.items c.args.v c.requires.0) c.index.ensures) c.status.ensures.among

pub returns-clause-held : goal.returns-clause-held
returns-clause-held c =
    held_in c.status.result c.args.role c.args.v (table_of c.args.held.now) c.index.result.now.shown c.requires.0 (shown_at c.args.held.now.volumes.items c.args.v c.index.result.now (shown_inside c.args.held.now.volumes.items c.args.v c.requires.0) c.index.ensures) c.status.ensures.held

pub returns-clause-room : goal.returns-clause-room
returns-clause-room c = let never = status_never c.status.result c.args.role c.index.result.now.shown c.status.ensures.held in never.other

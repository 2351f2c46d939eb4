use Rattle.std.specs.Prelude.{Ok}
use Rattle.command_semantics.specs.Naming.{AreNamed}
use Rattle.command_semantics.specs.Origins.{closed}
use Rattle.command_semantics.specs.Removing.{lowered}
use Rattle.command_semantics.specs.Snapshots.{left_by}
use Rattle.command_semantics.proofs.Keeping.{changes_keep, enters_keep}
use Rattle.command_semantics.proofs.NamedRules.{closed_named, left_by_named, lowered_top_named}
use Rattle.command_semantics.proofs.SoundRules.{IsSound, lowered_sound}
use Rattle.device_list.specs.Tables.{table_of}
use Rattle.device_commands.proofs.remove.remove_device.Goals as goal

pub returns-in-Free-default-eq0-clause-sound : goal.returns-in-Free-default-eq0-clause-sound
returns-in-Free-default-eq0-clause-sound c = λ sound.
    changes_keep IsSound (Ok tt) (table_of c.args.held.now) (table_of c.take_top.new.held) (lowered c.in-Free-default-eq0.i (table_of c.args.held.now))
    c.take_top.ensures sound (lowered_sound c.in-Free-default-eq0.i (table_of c.args.held.now) sound)

pub returns-in-Free-default-eq0-clause-named : goal.returns-in-Free-default-eq0-clause-named
returns-in-Free-default-eq0-clause-named c = λ named.
    changes_keep AreNamed (Ok tt) (table_of c.args.held.now) (table_of c.take_top.new.held) (lowered c.in-Free-default-eq0.i (table_of c.args.held.now))
    c.take_top.ensures named (lowered_top_named c.in-Free-default-eq0.i (table_of c.args.held.now) named)

pub returns-in-In-default-Origin-clause-named : goal.returns-in-In-default-Origin-clause-named
returns-in-In-default-Origin-clause-named c = λ named.
    changes_keep AreNamed c.close.result (table_of c.args.held.now) (table_of c.close.new.held) (closed c.in-In-default-Origin.v (table_of c.args.held.now))
    c.close.ensures.done named (closed_named c.in-In-default-Origin.v (table_of c.args.held.now) named)

pub returns-in-In-default-Snapshot-clause-named : goal.returns-in-In-default-Snapshot-clause-named
returns-in-In-default-Snapshot-clause-named c = λ named.
    enters_keep AreNamed c.detach.result (table_of c.args.held.now) (table_of c.detach.new.held) (left_by c.in-In-default-Snapshot.v c.in-In-default-Snapshot.k (table_of c.args.held.now))
    c.detach.ensures.done named (left_by_named c.in-In-default-Snapshot.v c.in-In-default-Snapshot.k (table_of c.args.held.now) named)

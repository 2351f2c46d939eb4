use Rattle.std.proofs.Common.{rules}
use Rattle.std.specs.Prelude.{Ok}
use Rattle.command_semantics.specs.Disks.{make}
use Rattle.command_semantics.specs.Naming.{AreNamed}
use Rattle.command_semantics.proofs.Keeping.{changes_keep}
use Rattle.command_semantics.proofs.NamedRules.{make_named}
use Rattle.command_semantics.proofs.SoundRules.{IsSound, make_sound}
use Rattle.device_list.specs.Tables.{table_of}
use Rattle.device_commands.proofs.disks.make_disk.Goals as goal

pub returns-clause-named : goal.returns-clause-named
unfolding make
returns-clause-named c = λ named.
    changes_keep AreNamed (Ok tt) (table_of c.args.held.now) _ (make c.args.name c.args.sectors (table_of c.args.held.now))
    (search rules) named (make_named c.args.name c.args.sectors (table_of c.args.held.now) named)

pub returns-clause-sound : goal.returns-clause-sound
unfolding make
returns-clause-sound c = λ sound.
    changes_keep IsSound (Ok tt) (table_of c.args.held.now) (table_of (record { stacks = c.push.new.self; volumes = c.args.held.now.volumes }))
    (make c.args.name c.args.sectors (table_of c.args.held.now))
    (search rules) sound (make_sound c.args.name c.args.sectors (table_of c.args.held.now) sound)

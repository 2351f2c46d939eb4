use Rattle.command_semantics.specs.Naming.{AreNamed}
use Rattle.command_semantics.specs.Messages.{told_at}
use Rattle.command_semantics.specs.declared.place.Place.TheVariants.{Free, In}
use Rattle.command_semantics.proofs.Keeping.{steps_keep}
use Rattle.command_semantics.proofs.NamedRules.{told_at_named}
use Rattle.command_semantics.proofs.SoundRules.{IsSound, told_at_sound}
use Rattle.device_list.specs.Tables.{table_of}
use Rattle.device_commands.proofs.messages.tell.Goals as goal

pub returns-in-Free-clause-sound : goal.returns-in-Free-clause-sound
returns-in-Free-clause-sound c = λ sound.
    let place = Free c.in-Free.i c.in-Free.depth in
    steps_keep IsSound c.tell_free.result (table_of c.args.held.now) (table_of c.tell_free.new.held) (told_at place c.args.message.now (table_of c.args.held.now))
    c.tell_free.ensures sound (told_at_sound place c.args.message.now (table_of c.args.held.now) sound)

pub returns-in-Free-clause-named : goal.returns-in-Free-clause-named
returns-in-Free-clause-named c = λ named.
    let place = Free c.in-Free.i c.in-Free.depth in
    steps_keep AreNamed c.tell_free.result (table_of c.args.held.now) (table_of c.tell_free.new.held) (told_at place c.args.message.now (table_of c.args.held.now))
    c.tell_free.ensures named (told_at_named place c.args.message.now (table_of c.args.held.now) named)

pub returns-in-In-clause-sound : goal.returns-in-In-clause-sound
returns-in-In-clause-sound c = λ sound.
    let place = In c.in-In.v c.in-In.role in
    steps_keep IsSound c.tell_in.result (table_of c.args.held.now) (table_of c.tell_in.new.held) (told_at place c.args.message.now (table_of c.args.held.now))
    c.tell_in.ensures sound (told_at_sound place c.args.message.now (table_of c.args.held.now) sound)

pub returns-in-In-clause-named : goal.returns-in-In-clause-named
returns-in-In-clause-named c = λ named.
    let place = In c.in-In.v c.in-In.role in
    steps_keep AreNamed c.tell_in.result (table_of c.args.held.now) (table_of c.tell_in.new.held) (told_at place c.args.message.now (table_of c.args.held.now))
    c.tell_in.ensures named (told_at_named place c.args.message.now (table_of c.args.held.now) named)

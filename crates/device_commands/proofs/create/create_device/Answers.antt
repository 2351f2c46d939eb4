use Rattle.std.proofs.Common.{◌≡◌, sym, subst}
use Rattle.command_semantics.specs.Creating.{made}
use Rattle.command_semantics.specs.Journal.{enters_journal}
use Rattle.command_semantics.proofs.Starving.{serves_if_keep}
use Rattle.command_semantics.proofs.SoundRules.{IsSound, made_sound}
use Rattle.device_list.specs.Tables.{table_of}
use Rattle.device_commands.proofs.Ruled.{target_ruled}
use Rattle.device_commands.proofs.create.create_device.Goals as goal

pub returns-clause-sound : goal.returns-clause-sound
returns-clause-sound c = λ sound loud.
    serves_if_keep IsSound (enters_journal c.args.line.target) c.made.result (table_of c.made.new.held) (λ t. t ≡ table_of c.args.held.now) (made c.args.name c.args.line.sectors c.args.line.target (table_of c.args.held.now))
    (c.made.ensures.done (target_ruled c.args.line.sectors c.args.line.target (table_of c.args.held.now) sound)) (made_sound c.args.name c.args.line.sectors c.args.line.target (table_of c.args.held.now) loud sound) (λ t same. subst IsSound (sym same) sound)

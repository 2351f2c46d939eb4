use Rattle.std.proofs.Common.{◌≡◌, subst}
use Rattle.std.specs.Prelude.{IfSome}
use Rattle.command.specs.declared.grammar.Command.{Command}
use Rattle.device_list.specs.Tables.{table_of}
use Rattle.script_runner.specs.Asking.{first_refusal}
use Rattle.script_runner.proofs.step.obey_other.Goals as goal

pub returns-clause-still : goal.returns-clause-still
returns-clause-still c =
    let P : Command → Type 0 = λ command. IfSome (first_refusal command (table_of c.args.held.now)) (λ _. (table_of c.obey_any.new.held ≡ table_of c.args.held.now) × (c.obey_any.new.ended.items ≡ c.args.ended.now.items)) in
    subst P c.replace-command.ensures.value c.obey_any.ensures.still

use Rattle.script_runner.proofs.UndoingLemmas.{finishes, undoes}
use Rattle.script_runner.proofs.undoing.look_at_undoing.Goals as goal

pub returns-clause-undoes : goal.returns-clause-undoes
returns-clause-undoes c = undoes

pub returns-clause-finishes : goal.returns-clause-finishes
returns-clause-finishes c = finishes

use Rattle.device_list.specs.Tables.{table_of}
use Rattle.script_runner.proofs.DeskLemmas.{may_err, may_ok}
use Rattle.script_runner.proofs.desk.outcome.Goals as goal

pub returns-in-Err-clause-done : goal.returns-in-Err-clause-done
returns-in-Err-clause-done c = λ ruled. may_err c.args.line.now (table_of c.args.held.now) (table_of c.answer.new.held) c.in-Err.refusal (c.in-Err.ensures.done ruled)

pub returns-in_default-clause-done : goal.returns-in_default-clause-done
returns-in_default-clause-done c = λ ruled. may_ok c.args.line.now (table_of c.args.held.now) (table_of c.answer.new.held) c.answer.new.own (c.in_default.ensures.done ruled)

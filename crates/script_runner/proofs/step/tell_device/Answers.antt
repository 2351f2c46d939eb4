use Rattle.device_list.specs.Tables.{table_of}
use Rattle.script_runner.proofs.StepLemmas.{told_done}
use Rattle.script_runner.proofs.step.tell_device.Goals as goal

pub returns-in-Ok-clause-done : goal.returns-in-Ok-clause-done
returns-in-Ok-clause-done c =
    told_done c.worded.result c.args.name.now c.args.message.now (table_of c.args.held.now) (table_of c.tell.new.held) c.in-Ok.answer c.in-Ok.ensures.done c.worded.ensures

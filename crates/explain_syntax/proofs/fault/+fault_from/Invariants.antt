use Rattle.std.proofs.Common.{length}
use Rattle.explain_syntax.proofs.fault.+fault_from.Given as goal

abbrev pub decreases-fault_from : goal.decreases-fault_from
decreases-fault_from l = length l.form.now

-- The replies that are left are counted on.
use Rattle.std.proofs.Common.{◌≡◌, drop}
use Rattle.script_runner.specs.Output.{counted}
use Rattle.script_runner.proofs.summary.Summary.with_all.Given as goal

abbrev pub invariant-loop-reply : goal.invariant-loop-reply
invariant-loop-reply l = counted (drop l.reply-index l.replies) l.summary ≡ counted l.replies l.initial.summary

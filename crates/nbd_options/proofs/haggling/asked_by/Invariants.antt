use Rattle.std.proofs.Common.{◌≡◌}
use Rattle.nbd_options.specs.Haggled.{asked_by}
use Rattle.nbd_options.proofs.haggling.asked_by.Given as goal

abbrev pub invariant-loop-left : goal.invariant-loop-left
invariant-loop-left l = asked_by l.context l.chooses l.found l.left l.rest ≡ asked_by l.context l.chooses l.start l.count l.text

abbrev pub decreases-loop-left : goal.decreases-loop-left
decreases-loop-left l = l.left

use Rattle.std.proofs.Common.{◌≡◌, ◌++◌, drop}
use Rattle.nbd_options.specs.Haggled.{listed}
use Rattle.nbd_options.proofs.haggling.list.Given as goal

abbrev pub invariant-loop-export : goal.invariant-loop-export
invariant-loop-export l = l.answer.items ++ listed (drop l.export-index l.exports) ≡ listed l.exports

use Rattle.std.proofs.Common.{◌≡◌, drop}
use Rattle.nbd_options.specs.Haggled.{named_from}
use Rattle.nbd_options.proofs.finding.found.Given as goal

abbrev pub invariant-loop-export : goal.invariant-loop-export
invariant-loop-export l = named_from l.export (drop l.export l.exports) l.name ≡ named_from 0 l.exports l.name

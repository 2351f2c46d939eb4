-- A flush has the first sector for its range.
use Rattle.std.proofs.Common.{◌≤◌, ap}
use Rattle.std.specs.Coded.{le_prop}
use Rattle.plain_machine.specs.declared.request.Op.TheVariants.{Flush}
use Rattle.plain_machine.specs.declared.request.Request.{Request}
use Rattle.plain_machine.proofs.request.Request.kept.Goals as goal

pub returns-in-Flush : goal.returns-in-Flush
returns-in-Flush c =
    let whole : 1 ≤ 1 → Request = λ h. record { dev = c.args.self.dev; op = Flush; range = record { first = 0; count = 1; size = 1; inside = h } } in
    rw c.in-Flush.is (ap whole (le_prop _ _))

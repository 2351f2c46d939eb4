use Rattle.std.proofs.Common.{codes, decimal}
use Rattle.cow_reports.proofs.Lines.{two_more}
use Rattle.cow_reports.proofs.json.push_front.Goals as goal

pub returns : goal.returns
returns c = two_more _ _ _ (codes "{\"sectors\":") (decimal c.args.sectors) c.in_ok-extend_from_slice.ensures.items c.in_ok-push_number.ensures

-- What is found from a place on is found there of all.
use Rattle.std.proofs.Common.{◌∙◌, ap}
use Rattle.std.specs.List.{position}
use Rattle.snapshot.specs.Kept.{Kept}
use Rattle.snapshot_list.specs.Finding.{is_copy_of}
use Rattle.snapshot_list.proofs.Finds.{at_tail, within_tail}
use Rattle.snapshot_list.proofs.finding_near.find_copy_from.Goals as goal

pub returns-in-Some-clause-found : goal.returns-in-Some-clause-found
returns-in-Some-clause-found g c = (
  within_tail c.args.snaps.now c.args.from c.in-Some.place c.in-Some.ensures.found.0,
  λ s. ap (λ (x : Kept _). position (is_copy_of c.args.stage c.args.number) x.copies) (at_tail c.args.snaps.now c.args.from c.in-Some.place s) ∙ c.in-Some.ensures.found.1 s,
)

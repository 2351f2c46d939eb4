-- One more is seen.
use Rattle.std.proofs.Common.{map, subst}
use Rattle.std.proofs.lemmas.List.{take_all}
use Rattle.in_flight.specs.declared.copies.ChunkCopy.{ChunkCopy}
use Rattle.snapshot_list.specs.MergeStarting.{IsLeastFrom}
use Rattle.snapshot_list.proofs.Sought.{least_none, least_one_more}
use Rattle.snapshot_list.proofs.seeking.least_copied.Goals as goal

pub loop-copy-init : goal.loop-copy-init
loop-copy-init c = least_none c.args.low c.args.most c.requires

pub lesser_from-least-requires : goal.lesser_from-least-requires
lesser_from-least-requires c = c.loop-copy.invariant.from

pub loop-copy-preserved : goal.loop-copy-preserved
loop-copy-preserved c =
    least_one_more (λ (p : ChunkCopy). p.pair.old) c.args.copies.now c.loop-copy.copy-index c.args.low c.args.most c.loop-copy.least c.lesser_from-least.result c.copy-item.result c.loop-copy-test.true c.copy-item.is c.loop-copy.invariant c.lesser_from-least.ensures

pub returns : goal.returns
returns c = subst (λ xs. IsLeastFrom c.args.low c.args.most (map (λ p. p.pair.old) xs) c.loop-copy.least) (take_all c.loop-copy.copy-index c.args.copies.now c.loop-copy-test.false) c.loop-copy.invariant

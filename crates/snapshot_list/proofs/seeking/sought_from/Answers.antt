-- The least of the copies' chunks, and of the marks'.
use Rattle.std.proofs.Common.{map, subst}
use Rattle.in_flight.specs.declared.copies.ChunkCopy.{ChunkCopy}
use Rattle.in_flight.specs.declared.copies.Mark.{Mark}
use Rattle.snapshot_list.specs.MergeStarting.{IsLeastFrom}
use Rattle.snapshot_list.proofs.Sought.{least_then}
use Rattle.snapshot_list.proofs.seeking.sought_from.Goals as goal

pub least_marked-requires : goal.least_marked-requires
least_marked-requires g c = c.least_copied-least.ensures.from

pub returns : goal.returns
returns g c =
    let s = c.args.snap.now in
    let copied = subst (λ (xs : _). IsLeastFrom c.args.low c.args.published (map (λ (p : ChunkCopy). p.pair.old) xs) c.least_copied-least.result) c.copies.ensures c.least_copied-least.ensures in
    let marked = subst (λ (xs : _). IsLeastFrom c.args.low c.least_copied-least.result (map (λ (m : Mark). m.chunk) xs) c.least_marked.result) c.marks.ensures c.least_marked.ensures in
    least_then c.args.low c.args.published (map (λ (p : ChunkCopy). p.pair.old) s.copies) (map (λ (m : Mark). m.chunk) s.marks) c.least_copied-least.result c.least_marked.result copied marked

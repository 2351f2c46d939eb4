use Rattle.std.proofs.Common.{◌≡◌, ℕ, ◌+◌, ◌-◌, ◌*◌, ◌<◌, ◌≤◌, arith, refl, sym, subst}
use Rattle.std.specs.Prelude.{min}
use Rattle.cow_image.specs.Runs.{IsRun}
use Rattle.cow_salvage.proofs.Reading.{end_at, low_at, run_less}
use Rattle.snapshot_extents.specs.Ranges.{AreRanges}
use Rattle.snapshot_extents.proofs.Joins.{ranges_more}
use Rattle.snapshot_extents.proofs.Runs.{range_shown, place_near}
use Rattle.snapshot_extents.proofs.ranging.ranges.Goals as goal

pub range_of-requires-clause-near : goal.range_of-requires-clause-near
range_of-requires-clause-near c = place_near 68_719_476_736 c.args.pairs.now c.loop-done.number c.run_at-run.result.chunks c.run_at-run.result.place c.requires.within c.run_at-run.ensures.run c.run_at-run.ensures.some

pub loop-done-preserved : goal.loop-done-preserved
loop-done-preserved c =
    let i = c.loop-done.invariant in
    let chunk : ℕ = c.args.chunk in
    let number : ℕ = c.loop-done.number in
    let done : ℕ = c.loop-done.done in
    let chunks : ℕ = c.min-chunks.result in
    let end : ℕ = c.min-end.result in
    let some = c.requires.some in
    let test = c.loop-done-test.true in
    let at = i.at test in
    let is : end ≡ min c.args.size (done + chunks * chunk) = c.min-end.ensures in
    let fewest = c.min-chunks.ensures in
    let run_some = c.run_at-run.ensures.some in
    let few : chunks ≤ c.args.size - done = omega arith in
    let more : done < done + chunks * chunk = past done chunks chunk (omega arith) some in
    let inside : end ≤ c.args.size = omega arith in
    let within : end ≤ done + chunks * chunk = omega arith in
    let on : done < end = omega arith in
    let run : IsRun c.args.pairs.now number c.run_at-run.result.place chunks = run_less c.args.pairs.now number c.run_at-run.result.place c.run_at-run.result.chunks chunks c.run_at-run.ensures.run (omega arith) in
    let starts = c.range_of.ensures.start in
    let counts = c.range_of.ensures.count in
    record {
      inside = inside;
      sectors = refl;
      low = low_at chunk number chunks done end c.args.size some i.low few test is;
      at = λ lt. end_at chunk number chunks (c.args.size - done) done end c.args.size some at is lt;
      told = subst (AreRanges chunk c.args.pairs.now (512 * end)) (sym c.in_ok-add.ensures)
          (ranges_more chunk c.args.pairs.now c.loop-done.ranges.items c.range_of.result (512 * done) (512 * end) i.told starts (omega arith) (omega arith)
          (range_shown chunk c.args.pairs.now number chunks done end c.run_at-run.result.place c.range_of.result some run at within starts counts c.range_of.ensures.copy));
    }
  where
    past : (done chunks chunk : ℕ) → 0 < chunks → 0 < chunk → done < done + chunks * chunk
    past done chunks chunk some other = let more : 0 < chunks * chunk = grind arith in omega arith

use Rattle.std.proofs.Common.{◌≡◌, ℕ, ◌+◌, ◌-◌, ◌*◌, ◌<◌, ◌≤◌, ◌∙◌, List, length, Option, Some, None, arith, refl, sym, ap, subst}
use Rattle.std.specs.Prelude.{min}
use Rattle.cow_image.specs.Runs.{IsRun}
use Rattle.cow_image.specs.Shown.{shown}
use Rattle.cow_salvage.specs.Differences.{AreDifferences, Differs, IsSame}
use Rattle.cow_salvage.proofs.Adding.{more_others}
use Rattle.cow_salvage.proofs.Reading.{same_run, end_at, low_at, no_place, run_less}
use Rattle.cow_salvage.proofs.differing.compare_all.Goals as goal
use Rattle.cow_salvage.proofs.differing.compare_all.Goals.{then-is_some+in_ok-compare_run, else-is_some}

pub loop-done-preserved : goal.loop-done-preserved
loop-done-preserved g c =
    let i = c.loop-done.invariant in
    let chunk : ℕ = c.args.chunk in
    let number : ℕ = c.loop-done.number in
    let done : ℕ = c.loop-done.done in
    let chunks : ℕ = c.min-chunks.result in
    let end : ℕ = c.min-end.result in
    let some = c.requires.some in
    let test = c.loop-done-test.true in
    let at = i.at test in
    let is : end ≡ min c.args.size (done + chunks * chunk) = c.min-end.ensures in
    let fewest = c.min-chunks.ensures in
    let few : chunks ≤ c.args.size - done = omega arith in
    let inside : end ≤ c.args.size = omega arith in
    let within : end ≤ done + chunks * chunk = omega arith in
    let run : IsRun c.args.pairs.now number c.run_at-run.result.place chunks = run_less c.args.pairs.now number c.run_at-run.result.place c.run_at-run.result.chunks chunks c.run_at-run.ensures.run (omega arith) in
    record {
      origin = elim c.if-is_some.branch [ then-is_some+in_ok-compare_run w ↦ ap g.O.Image.bytes w.origin-is ∙ w.in_ok-compare_run.ensures.origin ∙ i.origin | else-is_some w ↦ ap g.O.Image.bytes w.origin-is ∙ i.origin ];
      cow = elim c.if-is_some.branch [ then-is_some+in_ok-compare_run w ↦ ap g.C.Image.bytes w.cow-is ∙ w.in_ok-compare_run.ensures.cow ∙ i.cow | else-is_some w ↦ ap g.C.Image.bytes w.cow-is ∙ i.cow ];
      ours = c.if-is_some.auto.ours ∙ i.ours;
      theirs = c.if-is_some.auto.theirs ∙ i.theirs;
      inside = inside;
      sectors = refl;
      low = low_at chunk number chunks done end c.args.size some i.low few test is;
      at = λ lt. end_at chunk number chunks (c.args.size - done) done end c.args.size some at is lt;
      told = λ o b ois bis whole h.
          let a : List ℕ = shown chunk o b c.args.pairs.now 0 (512 * c.args.size) in
          let before = i.told o b ois bis whole h in
          elim c.if-is_some.branch [
            | then-is_some+in_ok-compare_run w ↦ subst (λ (v : _). AreDifferences a o end v.items) (sym w.spans-is) (w.in_ok-compare_run.ensures.all c.args.size o b (i.origin ∙ ois) (i.cow ∙ bis) inside before)
            | else-is_some w ↦
                let none : c.run_at-run.result.place ≡ None = no_place c.run_at-run.result.place (sym c.is_some.ensures ∙ w.if-is_some.false) in
                subst (λ (v : _). AreDifferences a o end v.items) (sym w.spans-is)
                (more_others (Differs a o) (IsSame a o) done end c.loop-done.spans.items (omega arith) before (same_run chunk o b c.args.pairs.now number chunks done end c.args.size some (subst (λ (p : Option ℕ). IsRun c.args.pairs.now number p chunks) none run) at within inside whole))
          ];
    }

pub returns : goal.returns
returns g c = record {
  all = λ o b ois bis whole h.
      let i = c.loop-done.invariant in
      let end : c.loop-done.done ≡ c.args.size = let inside = i.inside in let past = c.loop-done-test.false in omega arith in
      subst (λ (n : ℕ). AreDifferences (shown c.args.chunk o b c.args.pairs.now 0 (512 * c.args.size)) o n c.loop-done.spans.items) end (i.told o b ois bis whole h);
}

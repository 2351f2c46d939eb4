use Rattle.std.proofs.Common.{◌≡◌, ℕ, ◌+◌, ◌-◌, ◌*◌, ◌<◌, ◌≤◌, ◌∙◌, List, length, take, drop, Some, arith, refl, sym, ap, subst, length-append, length-drop}
use Rattle.std.proofs.lemmas.List.{length-take-le}
use Rattle.cow_image.specs.Shown.{shown}
use Rattle.cow_salvage.specs.Differences.{AreDifferences}
use Rattle.cow_salvage.proofs.Reading.{shown_at}
use Rattle.cow_salvage.proofs.differing.compare_run.Goals as goal

pub loop-done-preserved : goal.loop-done-preserved
loop-done-preserved g c =
    let i = c.loop-done.invariant in
    let done : ℕ = c.loop-done.done in
    let count : ℕ = c.min-count.result in
    let least = c.min-count.ensures in
    let test = c.loop-done-test.true in
    let ours = i.ours in
    let theirs = i.theirs in
    let ours_long : length (take (512 * count) c.loop-done.ours) ≡ 512 * count = length-take-le (512 * count) c.loop-done.ours (omega arith) in
    let theirs_long : length (take (512 * count) c.loop-done.theirs) ≡ 512 * count = length-take-le (512 * count) c.loop-done.theirs (omega arith) in
    let ours_kept = c.show_range.auto.out in
    let theirs_kept = c.read_at.auto.out in
    record {
      origin = c.in-Ok-show_range.ensures.origin ∙ c.in-Ok.ensures.bytes ∙ i.origin;
      cow = c.in-Ok-show_range.ensures.cow ∙ i.cow;
      ours = simp (length-append, length-drop) (omega arith);
      theirs = simp (length-append, length-drop) (omega arith);
      inside = omega arith;
      told = λ size o b ois bis le h.
          let a : List ℕ = shown c.args.chunk o b c.args.pairs.now 0 (512 * size) in
          let got = rw (i.origin ∙ ois) at c.in-Ok.ensures.data in
          let seen = c.in-Ok-show_range.ensures.shown o b (c.in-Ok.ensures.bytes ∙ i.origin ∙ ois) (i.cow ∙ bis) in
          let part = shown_at c.args.chunk o b c.args.pairs.now (512 * done) (512 * count) (512 * size) (omega arith) in
          c.in-Ok-compare.ensures.added a o (seen ∙ ap (shown c.args.chunk o b c.args.pairs.now (512 * done)) ours_long ∙ sym part) (got ∙ ap (λ (n : ℕ). take n (drop (512 * done) o)) theirs_long) (i.told size o b ois bis le h);
    }

pub returns-clause-all : goal.returns-clause-all
returns-clause-all g c = λ size o b ois bis le h.
    let i = c.loop-done.invariant in
    let end : c.loop-done.done ≡ c.args.end = let inside = i.inside in let past = c.loop-done-test.false in omega arith in
    subst (λ (n : ℕ). AreDifferences (shown c.args.chunk o b c.args.pairs.now 0 (512 * size)) o n c.loop-done.spans.items) end (i.told size o b ois bis le h)

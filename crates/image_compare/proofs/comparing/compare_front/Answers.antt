use Rattle.std.proofs.Common.{◌≡◌, ◌∙◌, ℕ, ◌*◌, length, take, drop, ap, subst, arith, length-append, length-drop}
use Rattle.std.proofs.lemmas.List.{length-take-le}
use Rattle.image_compare.specs.Comparisons.{IsFront}
use Rattle.image_compare.proofs.comparing.compare_front.Goals as goal

pub loop-done-preserved : goal.loop-done-preserved
loop-done-preserved g c =
    let i = c.loop-done.invariant in
    let done : ℕ = c.loop-done.done in
    let count : ℕ = c.min-count.result in
    let least = c.min-count.ensures in
    let test = c.loop-done-test.true in
    let inside = i.inside in
    let ours = i.ours in
    let theirs = i.theirs in
    let ours_long : length (take (512 * count) c.loop-done.ours) ≡ 512 * count = length-take-le (512 * count) c.loop-done.ours (omega arith) in
    let theirs_long : length (take (512 * count) c.loop-done.theirs) ≡ 512 * count = length-take-le (512 * count) c.loop-done.theirs (omega arith) in
    let ours_kept = c.read_at.auto.out in
    let theirs_kept = c.read_at-in-loop-done.auto.out in
    let few = c.add.ensures.few in
    record {
      one = c.in-Ok.ensures.bytes ∙ i.one;
      other = c.in-Ok-read_at.ensures.bytes ∙ i.other;
      ours = simp (length-append, length-drop) (omega arith);
      theirs = simp (length-append, length-drop) (omega arith);
      inside = omega arith;
      few = few;
      told = λ a b ais bis.
          let got = rw (i.one ∙ ais) at c.in-Ok.ensures.data in
          let got_other = rw (i.other ∙ bis) at c.in-Ok-read_at.ensures.data in
          c.add.ensures.told a b (got ∙ ap (λ (n : ℕ). take n (drop (512 * done) a)) ours_long) (got_other ∙ ap (λ (n : ℕ). take n (drop (512 * done) b)) theirs_long) (i.told a b ais bis);
    }

pub returns : goal.returns
returns g c = λ a b ais bis.
    let end : c.loop-done.done ≡ c.args.end = let inside = c.loop-done.invariant.inside in let past = c.loop-done-test.false in omega arith in
    subst (λ (n : ℕ). IsFront a b n c.loop-done.front) end (c.loop-done.invariant.told a b ais bis)

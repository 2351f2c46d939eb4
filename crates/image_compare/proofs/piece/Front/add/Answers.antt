use Rattle.std.proofs.Common.{◌≡◌, ◌∙◌, ℕ, ◌+◌, ◌-◌, ◌*◌, ap, subst, arith, take, drop}
use Rattle.cow_salvage.proofs.Reading.{part_at}
use Rattle.image_compare.specs.Comparisons.{IsFront}
use Rattle.image_compare.proofs.piece.Front.add.Goals as goal

pub loop-i-preserved : goal.loop-i-preserved
loop-i-preserved c =
    let i : ℕ = c.loop-i.i in
    let done : ℕ = c.args.done in
    let whole : 512 * i + 512 - 512 * i ≡ 512 = omega arith in
    let next : (done + i) + 1 ≡ done + (i + 1) = omega arith in
    let few = c.add_sector.ensures.few in
    record {
      few = omega arith;
      told = λ a b ours theirs h.
          subst (λ (n : ℕ). IsFront a b n c.add_sector.new.self) next
          (c.add_sector.ensures.told a b
          (ap (λ k. take k (drop (512 * i) c.args.ours.now)) whole ∙ part_at a c.args.ours.now done c.args.count i ours c.loop-i-test.true)
          (ap (λ k. take k (drop (512 * i) c.args.theirs.now)) whole ∙ part_at b c.args.theirs.now done c.args.count i theirs c.loop-i-test.true)
          (c.loop-i.invariant.told a b ours theirs h));
    }

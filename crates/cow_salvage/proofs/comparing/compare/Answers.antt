use Rattle.std.proofs.Common.{◌≡◌, ℕ, ◌+◌, ◌-◌, ◌*◌, ◌<◌, ◌≤◌, ◌∙◌, List, arith, refl, sym, subst, add-zero}
use Rattle.sector.specs.Bytes.{sector_at}
use Rattle.cow_salvage.specs.Differences.{AreDifferences, Differs, IsSame}
use Rattle.cow_salvage.proofs.Adding.{more_others, more_by}
use Rattle.cow_salvage.proofs.Reading.{differs_at, same_at}
use Rattle.cow_salvage.proofs.comparing.compare.Goals as goal
use Rattle.cow_salvage.proofs.comparing.compare.Goals.{then-ne+in_ok-add_sector, else-ne}

pub loop-i-init : goal.loop-i-init
loop-i-init c = record { told = λ a o ours theirs h. subst (λ (n : ℕ). AreDifferences a o n c.args.spans.now.items) (sym (add-zero c.args.first)) h }

pub loop-i-preserved : goal.loop-i-preserved
loop-i-preserved c = record {
  told = λ a o ours theirs h.
      let first : ℕ = c.args.first in
      let i : ℕ = c.loop-i.i in
      let before = c.loop-i.invariant.told a o ours theirs h in
      let whole : 512 * i + 512 - 512 * i ≡ 512 = omega arith in
      let next : (first + i) + 1 ≡ first + (i + 1) = omega arith in
      elim c.if-ne.branch [
        | then-ne+in_ok-add_sector w ↦
            subst (λ (n : ℕ). AreDifferences a o n c.if-ne.spans.items) next
            (subst (λ (v : _). AreDifferences a o ((first + i) + 1) v.items) (sym w.spans-is) (more_by (Differs a o) (IsSame a o) (first + i) c.loop-i.spans.items _ before w.in_ok-add_sector.ensures.added (differs_at a o c.args.ours.now c.args.theirs.now first c.args.count i _ c.ne.result ours theirs c.loop-i-test.true whole c.ne.ensures w.if-ne.true)))
        | else-ne w ↦
            subst (λ (n : ℕ). AreDifferences a o n c.if-ne.spans.items) next
            (subst (λ (v : _). AreDifferences a o ((first + i) + 1) v.items) (sym w.spans-is) (more_others (Differs a o) (IsSame a o) (first + i) ((first + i) + 1) c.loop-i.spans.items (omega arith) before
            (λ s low high. let here : first + i ≡ s = omega arith in subst (λ (n : ℕ). sector_at a n ≡ sector_at o n) here (same_at a o c.args.ours.now c.args.theirs.now first c.args.count i _ c.ne.result ours theirs c.loop-i-test.true whole c.ne.ensures w.if-ne.false))))
      ];
}

pub returns : goal.returns
returns c = record {
  added = λ a o ours theirs h.
      let all : c.args.first + c.loop-i.i ≡ c.args.first + c.args.count = let end = c.loop-i.auto.i-end in let past = c.loop-i-test.false in omega arith in
      subst (λ (n : ℕ). AreDifferences a o n c.loop-i.spans.items) all (c.loop-i.invariant.told a o ours theirs h);
}

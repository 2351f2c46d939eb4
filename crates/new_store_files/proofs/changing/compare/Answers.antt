use Rattle.std.proofs.Common.{◌≡◌, ℕ, ◌+◌, ◌-◌, ◌*◌, arith, sym, subst}
use Rattle.new_store_files.specs.Changed.{AreChanged}
use Rattle.new_store_files.proofs.Changes.{is_changed, is_kept, changed_more, kept_more}
use Rattle.new_store_files.proofs.changing.compare.Goals as goal
use Rattle.new_store_files.proofs.changing.compare.Goals.{then-ne+in_ok-push, else-ne}

pub loop-index-preserved : goal.loop-index-preserved
loop-index-preserved c = record {
  told = λ o a theirs ours h.
      let chunk : ℕ = c.args.chunk in
      let first : ℕ = c.args.first in
      let index : ℕ = c.loop-index.index in
      let before = c.loop-index.invariant.told o a theirs ours h in
      let at : 512 * chunk * index ≡ 512 * (chunk * index) = grind arith in
      let whole : 512 * chunk * index + 512 * chunk - 512 * chunk * index ≡ 512 * chunk = omega arith in
      let next : (first + index) + 1 ≡ first + (index + 1) = omega arith in
      elim c.if-ne.branch [
        | then-ne+in_ok-push w ↦
            subst (λ (n : ℕ). AreChanged chunk o a n c.if-ne.pairs.items) next
            (subst (λ (v : _). AreChanged chunk o a ((first + index) + 1) v.items) (sym w.pairs-is)
            (subst (AreChanged chunk o a ((first + index) + 1)) (sym w.in_ok-push.ensures.items)
            (changed_more chunk (first + index) o a c.loop-index.pairs.items before (is_changed chunk first c.args.count index (512 * chunk * index) _ a o c.args.ours.now c.args.theirs.now c.ne.result ours theirs c.loop-index-test.true at whole c.ne.ensures w.if-ne.true))))
        | else-ne w ↦
            subst (λ (n : ℕ). AreChanged chunk o a n c.if-ne.pairs.items) next
            (subst (λ (v : _). AreChanged chunk o a ((first + index) + 1) v.items) (sym w.pairs-is)
            (kept_more chunk (first + index) o a c.loop-index.pairs.items before (is_kept chunk first c.args.count index (512 * chunk * index) _ a o c.args.ours.now c.args.theirs.now c.ne.result ours theirs c.loop-index-test.true at whole c.ne.ensures w.if-ne.false)))
      ];
}

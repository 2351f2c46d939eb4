use Rattle.std.proofs.Common.{arith}
use Rattle.std.proofs.lemmas.List.Sorted.{All-permutation}
use Rattle.std.proofs.lemmas.Result.{on_ok_weaker}
use Rattle.cow_merge.specs.Begun.{begun}
use Rattle.cow_merge.specs.Holding.{IsPairOf}
use Rattle.cow_merge.proofs.Steps.{passes_both}
use Rattle.cow_merge.proofs.Areas.{copies_both}
use Rattle.cow_merge.proofs.Gathered.{back_gathered}
use Rattle.cow_merge.proofs.copying.copy_areas.Goals as goal

pub returns-in_err-count-clause-passes : goal.returns-in_err-count-clause-passes
returns-in_err-count-clause-passes g c = λ o s first le rolls. c.read_slots.ensures.passes o s first rolls

pub returns-clause-passes : goal.returns-clause-passes
returns-clause-passes g c = λ o s first le rolls.
    let copies = c.read_slots.ensures.copies o s first rolls in
    let all = All-permutation (IsPairOf (begun c.args.sizes o s)) _ _ c.sort_unstable_by_key.ensures.permutation (c.in_ok-count.ensures.pairs o s first le rolls) in
    passes_both _ _ _ _ _ _ _ _ _ _ _ _ _ (c.read_slots.ensures.passes o s first rolls) (c.copy_slots.ensures.passes o s first all copies.rolls)

pub returns-clause-copies : goal.returns-clause-copies
returns-clause-copies g c = on_ok_weaker c.copy_slots.result (λ copied o s first le rolls.
    let copies = c.read_slots.ensures.copies o s first rolls in
    let all = All-permutation (IsPairOf (begun c.args.sizes o s)) _ _ c.sort_unstable_by_key.ensures.permutation (c.in_ok-count.ensures.pairs o s first le rolls) in
    copies_both _ first _ _ _ _ _ _ _ _ _ _ _ copies (copied o s first all copies.rolls)) c.copy_slots.ensures.copies

pub returns-clause-back : goal.returns-clause-back
returns-clause-back g c = on_ok_weaker c.copy_slots.result (λ back o s first le rolls.
    let copies = c.read_slots.ensures.copies o s first rolls in
    let all = All-permutation (IsPairOf (begun c.args.sizes o s)) _ _ c.sort_unstable_by_key.ensures.permutation (c.in_ok-count.ensures.pairs o s first le rolls) in
    back_gathered (begun c.args.sizes o s) first _ (g.F.FileSet.will_last c.copy_slots.new.files) _ _ _ _ (c.in_ok-count.ensures.gathered o s first le rolls) c.sort_unstable_by_key.ensures.permutation (back o s first all copies.rolls)) c.copy_slots.ensures.back

pub returns-clause-cause : goal.returns-clause-cause
returns-clause-cause g c = record {
  later = (let x = c.read_slots.ensures.cause.later in let y = c.copy_slots.ensures.cause.later in omega arith);
  failed = λ e there. (let (o, s, first, le, rolls, given) = there in
      let copies = c.read_slots.ensures.copies o s first rolls in
      let all = All-permutation (IsPairOf (begun c.args.sizes o s)) _ _ c.sort_unstable_by_key.ensures.permutation (c.in_ok-count.ensures.pairs o s first le rolls) in
      let x = c.read_slots.ensures.cause.later in
      let y = c.copy_slots.ensures.cause.failed e (o, s, first, all, copies.rolls, given) in
      omega arith);
}

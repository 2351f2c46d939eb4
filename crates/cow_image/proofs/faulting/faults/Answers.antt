use Rattle.std.proofs.Common.{arith, ◌∙◌, ◌++◌, ◌+◌, take, drop, ap, sym, not}
use Rattle.std.proofs.Math.Bool.{not-not}
use Rattle.std.proofs.lemmas.List.{length-take-le}
use Rattle.cow_image.specs.Judged.{faults_after}
use Rattle.cow_image.specs.Sorted.{old_of, new_of}
use Rattle.cow_image.proofs.Lists.{no_chunks}
use Rattle.cow_image.proofs.SlotFaults.{faults_step, faults_end, seen_more}
use Rattle.cow_image.proofs.faulting.faults.Goals as goal

pub loop-slot-preserved : goal.loop-slot-preserved
unfolding no_chunks
loop-slot-preserved c =
    let lt = c.loop-slot-test.true in
    let i = c.loop-slot.invariant in
    let pairs = c.args.pairs.now in
    let slot = c.loop-slot.slot in
    let old = ap not c.in_ok-insert.ensures.added ∙ not-not _ ∙ i.olds _ in
    let new = ap not c.in_ok-insert-2.ensures.added ∙ not-not _ ∙ i.news _ in
    let more = c.in_ok-push_faults.ensures (take slot pairs) (sym (length-take-le slot pairs (omega arith))) old new in
    record {
      told = ap (λ xs. xs ++ faults_after c.args.chunk c.args.origin c.args.size (take (slot + 1) pairs) (drop (slot + 1) pairs)) more
          ∙ faults_step c.args.chunk c.args.origin c.args.size pairs slot _ c.loop-slot.faults.items lt i.told;
      olds = λ q. seen_more old_of pairs slot q no_chunks _ _ lt (c.in_ok-insert.ensures.updates.0 q) (i.olds q);
      news = λ q. seen_more new_of pairs slot q no_chunks _ _ lt (c.in_ok-insert-2.ensures.updates.0 q) (i.news q);
    }

pub returns-clause-all : goal.returns-clause-all
returns-clause-all c = λ few. faults_end c.args.chunk c.args.origin c.args.size c.args.pairs.now c.loop-slot.slot c.loop-slot.faults.items c.loop-slot-test.false c.loop-slot.invariant.told

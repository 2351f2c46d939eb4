-- One seat more has its tasks.
use Rattle.std.proofs.Common.{◌≡◌, ◌+◌, ◌<◌, length, subst, sym, ap, ◌∙◌, arith}
use Rattle.std.proofs.lemmas.List.Edits.{length-remove}
use Rattle.std.proofs.lemmas.List.Elements.{All-push, All-same}
use Rattle.std.specs.List.{All}
use Rattle.parallel_threads.specs.Tasks.{MayMerge}
use Rattle.parallel_threads.proofs.Places.{AreNewFrom, rest_of}
use Rattle.parallel_threads.proofs.giving.begin_all.Goals as goal

pub new-requires-clause-asked : goal.new-requires-clause-asked
new-requires-clause-asked g c =
    subst (All (MayMerge g.J.Room.merges)) (sym (c.take_tasks-list.ensures.taken ∙ c.loop-i.invariant.others c.loop-i.i (omega arith)))
    (c.requires.asked c.loop-i.i (omega (arith, c.loop-i-test.true)))

pub loop-i-preserved : goal.loop-i-preserved
loop-i-preserved g c =
    let was = c.loop-i.invariant in
    let some : 0 < length c.loop-i.seats.items = omega (arith, was.left, c.loop-i-test.true) in
    let less = length-remove c.loop-i.seats.items 0 some in
    record {
      left = omega (arith, was.left, ap length c.remove-seat.ensures.items, less, some);
      seats = subst (AreNewFrom (c.loop-i.i + 1 + 1)) (sym c.remove-seat.ensures.items) (rest_of (c.loop-i.i + 1) c.loop-i.seats.items some was.seats);
      many = c.take_tasks-list.ensures.many ∙ was.many;
      others = λ k behind. c.take_tasks-list.ensures.others k (λ same. omega (arith, behind, same)) ∙ was.others k (omega (arith, behind));
      count = omega (arith, c.push_reserved.ensures.len, was.count);
      room = c.push_reserved.ensures.capacity ∙ was.room;
      unbegun = All-same (λ run. run.done ≡ 0) _ _ c.push_reserved.ensures.items (All-push (λ run. run.done ≡ 0) c.loop-i.runs.items c.new.result was.unbegun c.new.ensures);
    }

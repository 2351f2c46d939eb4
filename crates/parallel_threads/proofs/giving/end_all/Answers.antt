-- One seat more gave its tasks back.
use Rattle.std.proofs.Common.{◌≡◌, ◌+◌, ◌<◌, ◌++◌, ◌∷◌, [], ℕ, List, length, length-append, slice_index_or, subst, sym, ap, ◌∙◌, arith}
use Rattle.std.specs.List.{All}
use Rattle.parallel_threads.specs.declared.task.Task.{Task}
use Rattle.parallel_threads.specs.Tasks.{IsEnded, IsNew, IsUnbegun, denied_of, pieces_at}
use Rattle.volume_threads.specs.Rigs.{SeatShape}
use Rattle.parallel_threads.proofs.Places.{HaveGiven, given_more, seats_more}
use Rattle.parallel_threads.proofs.giving.end_all.Goals as goal

pub loop-i-preserved : goal.loop-i-preserved
loop-i-preserved g c =
    let places = length c.args.tasks.now.items in
    let i = c.loop-i.i in
    let seat = c.into_parts-seat.result.0 in
    let list = c.into_parts-seat.result.1.items in
    let seats = c.loop-i.seats.items in
    let Ended : ℕ → List Task → SeatShape → Type 0 = λ i list seat. IsEnded (denied_of g.J.Room.start g.J.Room.fixed) (pieces_at g.J.Room.fixed) (g.J.Plan.tasks (i + 1)) list (i + 1) seat in
    let Kept : ℕ → List Task → SeatShape → Type 0 = λ i list seat. list ≡ g.J.Plan.tasks (i + 1) in
    let none : All (λ run. run.done ≡ 0) c.args.runs.items → IsUnbegun (g.J.Plan.tasks (i + 1)) list seat =
    λ fresh. c.into_parts-seat.ensures.unbegun (c.next.ensures.first (c.loop-i.invariant.left fresh)) in
    let count : length (seats ++ seat ∷ []) ≡ i + 1 = length-append seats (seat ∷ []) ∙ ap (λ n. n + 1) c.loop-i.invariant.count in
    record {
      many = c.put_tasks.ensures.many ∙ c.loop-i.invariant.many;
      count = ap length c.push_reserved.ensures.items ∙ count;
      rest = omega (arith, c.next.ensures.fewer, c.loop-i.invariant.rest);
      room = c.push_reserved.ensures.capacity ∙ c.loop-i.invariant.room;
      ended = subst (HaveGiven Ended places (i + 1) c.put_tasks.new.tasks.items) (sym c.push_reserved.ensures.items)
          (given_more Ended places i c.loop-i.tasks.items c.put_tasks.new.tasks.items seats list seat c.loop-i.invariant.count c.loop-i.invariant.ended
          (λ within. c.put_tasks.ensures.put (subst (λ n. i < n) (sym c.loop-i.invariant.many) within))
          c.put_tasks.ensures.others
          c.into_parts-seat.ensures.ended);
      left = λ fresh. c.next.ensures.rest (c.loop-i.invariant.left fresh);
      numbers = subst (λ (ss : List SeatShape). (j : ℕ) (d : SeatShape) → j < i + 1 → (slice_index_or ss j d).number ≡ j + 1) (sym c.push_reserved.ensures.items)
          (seats_more (λ j s. s.number ≡ j + 1) i seats seat c.loop-i.invariant.count c.loop-i.invariant.numbers c.into_parts-seat.ensures.ended.0);
      unbegun = λ fresh. subst (λ (ss : List SeatShape). (j : ℕ) (d : SeatShape) → j < i + 1 → IsNew (slice_index_or ss j d)) (sym c.push_reserved.ensures.items)
          (seats_more (λ j s. IsNew s) i seats seat c.loop-i.invariant.count (c.loop-i.invariant.unbegun fresh) (none fresh).1);
      kept = λ fresh. subst (HaveGiven Kept places (i + 1) c.put_tasks.new.tasks.items) (sym c.push_reserved.ensures.items)
          (given_more Kept places i c.loop-i.tasks.items c.put_tasks.new.tasks.items seats list seat c.loop-i.invariant.count (c.loop-i.invariant.kept fresh)
          (λ within. c.put_tasks.ensures.put (subst (λ n. i < n) (sym c.loop-i.invariant.many) within))
          c.put_tasks.ensures.others
          (none fresh).0);
      others = λ k behind. c.put_tasks.ensures.others k (λ same. omega (arith, behind, same)) ∙ c.loop-i.invariant.others k (omega (arith, behind));
    }

pub returns-clause-kept : goal.returns-clause-kept
returns-clause-kept g c = λ fresh i low within. c.loop-i.invariant.kept fresh i (record { number = 0; sittings = []; watches = [] }) (omega (arith, low, c.loop-i-test.false)) within

-- The replies of one seat more are told.
use Rattle.std.proofs.Common.{◌≡◌, ◌<◌, ◌+◌, ◌-◌, ◌++◌, ℕ, List, length, length-set, map, ap, ◌∙◌, arith}
use Rattle.command_replies.specs.declared.command_reply.CommandReply.{CommandReply}
use Rattle.parallel_threads.specs.declared.task.Task.{Task}
use Rattle.parallel_threads.specs.Tasks.{tasks_at}
use Rattle.parallel_threads.proofs.Places.{apart, at}
use Rattle.parallel_lines.specs.Answering.{reply_of}
use Rattle.parallel_lines.proofs.Tells.{first_more, first_replies, seat_fits}
use Rattle.parallel_lines.proofs.running.tell_seats.Goals as goal

pub tell_seat-requires : goal.tell_seat-requires
tell_seat-requires c =
    let told = tasks_at c.args.tasks.items in
    let i = c.from.result - 1 in
    let low : i < length c.loop-seat.tasks.items = omega (arith, c.from.ensures, c.loop-seat.invariant.many) in
    let list : c.replace-list.result.items ≡ told i =
    ap (λ v. v.items) c.replace-list.ensures.value ∙ at c.loop-seat.tasks.items i c.index_mut.result.now low c.index_mut.ensures.value ∙ c.loop-seat.invariant.left i (omega (arith, c.from.ensures)) in
    let place : c.loop-seat.seat - 1 ≡ i = omega (arith, c.from.ensures) in
    let so_far : length c.loop-seat.replies.items ≡ length (first_replies i told) = ap length c.loop-seat.invariant.told ∙ ap (λ (n : ℕ). length (first_replies n told)) place in
    let many : length c.replace-list.result.items ≡ length (told i) = ap length list in
    record { room = omega (arith, so_far, many, seat_fits i told (omega (arith, c.from.ensures)), c.requires.room, c.loop-seat.invariant.room) }

pub loop-seat-preserved : goal.loop-seat-preserved
loop-seat-preserved c =
    let told = tasks_at c.args.tasks.items in
    let i = c.from.result - 1 in
    let low : i < length c.loop-seat.tasks.items = omega (arith, c.from.ensures, c.loop-seat.invariant.many) in
    let list : c.replace-list.result.items ≡ told i =
    ap (λ v. v.items) c.replace-list.ensures.value ∙ at c.loop-seat.tasks.items i c.index_mut.result.now low c.index_mut.ensures.value ∙ c.loop-seat.invariant.left i (omega (arith, c.from.ensures)) in
    let place : c.loop-seat.seat - 1 ≡ i = omega (arith, c.from.ensures) in
    let next : i + 1 ≡ c.loop-seat.seat + 1 - 1 = omega (arith, c.from.ensures) in
    let seat : c.loop-seat.seat ≡ i + 1 = omega (arith, c.from.ensures) in
    record {
      many = length-set c.loop-seat.tasks.items i c.replace-list.new.dest ∙ c.loop-seat.invariant.many;
      left = λ k behind. apart c.loop-seat.tasks.items i k c.replace-list.new.dest (λ same. omega (arith, same, behind, c.from.ensures)) ∙ c.loop-seat.invariant.left k (omega (arith, behind));
      told = c.tell_seat.ensures.told
          ∙ ap (λ (l : List CommandReply). l ++ map (reply_of c.loop-seat.seat) c.replace-list.result.items) (c.loop-seat.invariant.told ∙ ap (λ (n : ℕ). first_replies n told) place)
          ∙ ap (λ (n : ℕ). first_replies i told ++ map (reply_of n) c.replace-list.result.items) seat
          ∙ ap (λ (l : List Task). first_replies i told ++ map (reply_of (i + 1)) l) list
          ∙ first_more i told
          ∙ ap (λ (n : ℕ). first_replies n told) next;
      room = c.tell_seat.ensures.room ∙ c.loop-seat.invariant.room;
    }

pub returns-clause-told : goal.returns-clause-told
returns-clause-told c =
    let last : c.loop-seat.seat - 1 ≡ 8 = omega arith in
    c.loop-seat.invariant.told ∙ ap (λ (n : ℕ). first_replies n (tasks_at c.args.tasks.items)) last

pub returns-clause-room : goal.returns-clause-room
returns-clause-room c =
    let last : c.loop-seat.seat - 1 ≡ 8 = omega arith in
    let many : length c.loop-seat.replies.items ≡ length (first_replies 8 (tasks_at c.args.tasks.items)) = ap length c.loop-seat.invariant.told ∙ ap (λ (n : ℕ). length (first_replies n (tasks_at c.args.tasks.items))) last in
    omega (arith, many, c.requires.room, c.loop-seat.invariant.room)

-- The first volume that is left is closed.
use Rattle.std.proofs.Common.{◌≡◌, ◌+◌, ◌<◌, ◌≤◌, ◌++◌, ℕ, [], List, length, slice_index_or, vec_capacity, refl, sym, ap, ◌∙◌, subst}
use Rattle.audited_volume.specs.declared.entry.Entry.{Entry}
use Rattle.locked_volume.specs.AskedFor.{AddsAskedFor}
use Rattle.locked_volume.specs.Fixed.{StaysFrom, fixed_of}
use Rattle.volume_threads.specs.Rigs.{IsSettledAt, SeatShape}
use Rattle.volume_threads.proofs.Rows.{AreFrom, AreUpTo, grown, taken, first_is, all_from, none_yet, long_more, one_less, none_done, some_left, below_end, at_end}
use Rattle.volume_threads.proofs.rig.Rig.close.Goals as goal

pub loop-init : goal.loop-init
loop-init g c = record {
  many = ap length c.self.invariant.2;
  left = none_done (length c.self.inside.places.items) g.J.Room.volumes c.self.invariant.1;
  room = subst (λ n. n ≤ vec_capacity c.self.inside.audits) c.self.invariant.1 c.self.invariant.3;
  seats = refl;
  numbers = all_from (λ k p. p.volume ≡ k) (length c.self.inside.places.items) c.self.inside.places.items refl c.self.invariant.0;
  quiet = none_yet (λ k a. a.held ≡ []) c.self.inside.audits.items;
  stays = none_yet (λ k a. StaysFrom (g.J.Room.fixed k) (fixed_of g.B.Block.size g.B.Block.layers a)) c.self.inside.audits.items;
  grows = none_yet (λ k a. (more : List Entry) × (a.entries ≡ g.J.Room.start k ++ more)) c.self.inside.audits.items;
  asked = none_yet (λ k a. AddsAskedFor (g.J.Room.merges k) (g.J.Room.start k) a.entries) c.self.inside.audits.items;
  settled = none_yet (λ k a. (i : ℕ) (s : SeatShape) → i < length c.args.seats.now → IsSettledAt (g.J.Room.start k) a k (slice_index_or c.args.seats.now i s)) c.self.inside.audits.items;
}

pub close_one-requires : goal.close_one-requires
close_one-requires g c =
    let some = some_left c.loop.counter c.len-end.result c.self.inside.places.len (length c.self.inside.places.items) g.J.Room.volumes (length c.loop.places.items) c.loop-test.true c.len-end.ensures c.self.inside.places.ok.0 c.self.invariant.1 c.loop.invariant.left in
    subst (λ n. n < g.J.Room.volumes) (sym (first_is (λ k p. p.volume ≡ k) c.loop.counter c.loop.places.items c.remove.result some c.remove.ensures.value c.loop.invariant.numbers))
    (below_end c.loop.counter c.len-end.result c.self.inside.places.len (length c.self.inside.places.items) g.J.Room.volumes c.loop-test.true c.len-end.ensures c.self.inside.places.ok.0 c.self.invariant.1)

pub loop-preserved : goal.loop-preserved
loop-preserved g c =
    let some = some_left c.loop.counter c.len-end.result c.self.inside.places.len (length c.self.inside.places.items) g.J.Room.volumes (length c.loop.places.items) c.loop-test.true c.len-end.ensures c.self.inside.places.ok.0 c.self.invariant.1 c.loop.invariant.left in
    let here = first_is (λ k p. p.volume ≡ k) c.loop.counter c.loop.places.items c.remove.result some c.remove.ensures.value c.loop.invariant.numbers in
    let seats = c.close_one.ensures.seats ∙ c.loop.invariant.seats in
    record {
      many = ap length c.push_reserved.ensures.items ∙ long_more c.loop.audits.items c.close_one.result c.loop.counter c.loop.invariant.many;
      left = ap (λ l. length l + (c.loop.counter + 1)) c.remove.ensures.items ∙ one_less c.loop.places.items c.loop.counter g.J.Room.volumes some c.loop.invariant.left;
      room = subst (λ n. g.J.Room.volumes ≤ n) (sym c.push_reserved.ensures.capacity) c.loop.invariant.room;
      seats = seats;
      numbers = subst (AreFrom (λ k p. p.volume ≡ k) (c.loop.counter + 1)) (sym c.remove.ensures.items)
          (taken (λ k p. p.volume ≡ k) c.loop.counter c.loop.places.items some c.loop.invariant.numbers);
      quiet = subst (AreUpTo (λ k a. a.held ≡ []) (c.loop.counter + 1)) (sym c.push_reserved.ensures.items)
          (grown (λ k a. a.held ≡ []) c.loop.counter c.loop.audits.items c.close_one.result c.loop.invariant.many c.loop.invariant.quiet c.close_one.ensures.quiet);
      stays = subst (AreUpTo (λ k a. StaysFrom (g.J.Room.fixed k) (fixed_of g.B.Block.size g.B.Block.layers a)) (c.loop.counter + 1)) (sym c.push_reserved.ensures.items)
          (grown (λ k a. StaysFrom (g.J.Room.fixed k) (fixed_of g.B.Block.size g.B.Block.layers a)) c.loop.counter c.loop.audits.items c.close_one.result c.loop.invariant.many c.loop.invariant.stays
          (subst (λ n. StaysFrom (g.J.Room.fixed n) (fixed_of g.B.Block.size g.B.Block.layers c.close_one.result)) here c.close_one.ensures.stays));
      grows = subst (AreUpTo (λ k a. (more : List Entry) × (a.entries ≡ g.J.Room.start k ++ more)) (c.loop.counter + 1)) (sym c.push_reserved.ensures.items)
          (grown (λ k a. (more : List Entry) × (a.entries ≡ g.J.Room.start k ++ more)) c.loop.counter c.loop.audits.items c.close_one.result c.loop.invariant.many c.loop.invariant.grows
          (subst (λ n. (more : List Entry) × (c.close_one.result.entries ≡ g.J.Room.start n ++ more)) here c.close_one.ensures.grows));
      asked = subst (AreUpTo (λ k a. AddsAskedFor (g.J.Room.merges k) (g.J.Room.start k) a.entries) (c.loop.counter + 1)) (sym c.push_reserved.ensures.items)
          (grown (λ k a. AddsAskedFor (g.J.Room.merges k) (g.J.Room.start k) a.entries) c.loop.counter c.loop.audits.items c.close_one.result c.loop.invariant.many c.loop.invariant.asked
          (subst (λ n. AddsAskedFor (g.J.Room.merges n) (g.J.Room.start n) c.close_one.result.entries) here c.close_one.ensures.asked));
      settled = subst (AreUpTo (λ k a. (i : ℕ) (s : SeatShape) → i < length c.args.seats.now → IsSettledAt (g.J.Room.start k) a k (slice_index_or c.args.seats.now i s)) (c.loop.counter + 1)) (sym c.push_reserved.ensures.items)
          (grown (λ k a. (i : ℕ) (s : SeatShape) → i < length c.args.seats.now → IsSettledAt (g.J.Room.start k) a k (slice_index_or c.args.seats.now i s)) c.loop.counter c.loop.audits.items c.close_one.result c.loop.invariant.many c.loop.invariant.settled
          (subst (λ n. (i : ℕ) (s : SeatShape) → i < length c.args.seats.now → IsSettledAt (g.J.Room.start n) c.close_one.result n (slice_index_or c.args.seats.now i s)) here
          (subst (λ (ss : List SeatShape). (i : ℕ) (s : SeatShape) → i < length ss → IsSettledAt (g.J.Room.start c.remove.result.volume) c.close_one.result c.remove.result.volume (slice_index_or ss i s)) seats c.close_one.ensures.settled)));
    }

pub returns-clause-quiet : goal.returns-clause-quiet
returns-clause-quiet g c k d low =
    c.loop.invariant.quiet k d (at_end k c.loop.counter c.len-end.result c.self.inside.places.len (length c.self.inside.places.items) g.J.Room.volumes c.loop-test.false c.len-end.ensures c.self.inside.places.ok.0 c.self.invariant.1 low)

pub returns-clause-stays : goal.returns-clause-stays
returns-clause-stays g c k d low =
    c.loop.invariant.stays k d (at_end k c.loop.counter c.len-end.result c.self.inside.places.len (length c.self.inside.places.items) g.J.Room.volumes c.loop-test.false c.len-end.ensures c.self.inside.places.ok.0 c.self.invariant.1 low)

pub returns-clause-grows : goal.returns-clause-grows
returns-clause-grows g c k d low =
    c.loop.invariant.grows k d (at_end k c.loop.counter c.len-end.result c.self.inside.places.len (length c.self.inside.places.items) g.J.Room.volumes c.loop-test.false c.len-end.ensures c.self.inside.places.ok.0 c.self.invariant.1 low)

pub returns-clause-asked : goal.returns-clause-asked
returns-clause-asked g c k d low =
    c.loop.invariant.asked k d (at_end k c.loop.counter c.len-end.result c.self.inside.places.len (length c.self.inside.places.items) g.J.Room.volumes c.loop-test.false c.len-end.ensures c.self.inside.places.ok.0 c.self.invariant.1 low)

pub returns-clause-settled : goal.returns-clause-settled
returns-clause-settled g c k d i s low lows =
    subst (λ (ss : List SeatShape). IsSettledAt (g.J.Room.start k) (slice_index_or c.loop.audits.items k d) k (slice_index_or ss i s)) (sym c.loop.invariant.seats)
    (c.loop.invariant.settled k d
    (at_end k c.loop.counter c.len-end.result c.self.inside.places.len (length c.self.inside.places.items) g.J.Room.volumes c.loop-test.false c.len-end.ensures c.self.inside.places.ok.0 c.self.invariant.1 low)
    i s (subst (λ (ss : List SeatShape). i < length ss) c.loop.invariant.seats lows))

-- The first volumes are closed, and the places of the others are left.
use Rattle.std.proofs.Common.{◌≡◌, ◌+◌, ◌<◌, ◌≤◌, ◌++◌, ℕ, List, [], length, slice_index_or, vec_capacity}
use Rattle.audited_volume.specs.declared.entry.Entry.{Entry}
use Rattle.locked_volume.specs.AskedFor.{AddsAskedFor}
use Rattle.locked_volume.specs.Fixed.{StaysFrom, fixed_of}
use Rattle.volume_threads.specs.Rigs.{IsSettledAt, SeatShape}
use Rattle.volume_threads.proofs.Rows.{AreFrom, AreUpTo}
use Rattle.volume_threads.proofs.rig.Rig.close.Given as goal

abbrev pub invariant-loop : goal.invariant-loop
invariant-loop g l = record {
  many : length l.audits.items ≡ l.counter;
  left : length l.places.items + l.counter ≡ g.J.Room.volumes;
  room : g.J.Room.volumes ≤ vec_capacity l.audits;
  seats : l.seats ≡ l.fn.seats;
  numbers : AreFrom (λ k p. p.volume ≡ k) l.counter l.places.items;
  quiet : AreUpTo (λ k a. a.held ≡ []) l.counter l.audits.items;
  stays : AreUpTo (λ k a. StaysFrom (g.J.Room.fixed k) (fixed_of g.B.Block.size g.B.Block.layers a)) l.counter l.audits.items;
  grows : AreUpTo (λ k a. (more : List Entry) × (a.entries ≡ g.J.Room.start k ++ more)) l.counter l.audits.items;
  asked : AreUpTo (λ k a. AddsAskedFor (g.J.Room.merges k) (g.J.Room.start k) a.entries) l.counter l.audits.items;
  settled : AreUpTo (λ k a. (i : ℕ) (s : SeatShape) → i < length l.fn.seats → IsSettledAt (g.J.Room.start k) a k (slice_index_or l.fn.seats i s)) l.counter l.audits.items;
}

-- The first volumes have their places, and the others are left.
use Rattle.std.proofs.Common.{◌≡◌, ◌+◌, length, vec_capacity}
use Rattle.locked_volume.specs.Fixed.{fixed_of}
use Rattle.volume_threads.specs.Rigs.{IsStart}
use Rattle.volume_threads.proofs.Rows.{AreFrom, AreUpTo}
use Rattle.volume_threads.proofs.making.place_all.Given as goal

abbrev pub invariant-loop-volume : goal.invariant-loop-volume
invariant-loop-volume g l = record {
  audits_left : length l.audits.items + l.volume ≡ g.J.Room.volumes;
  volumes_left : length l.volumes.items + l.volume ≡ g.J.Room.volumes;
  many : length l.places.items ≡ l.volume;
  tables : AreFrom (λ k o. o.table ≡ g.J.Room.history k) l.volume l.volumes.items;
  boards : AreFrom (λ k o. o.boards ≡ g.J.Room.boards k) l.volume l.volumes.items;
  starts : AreFrom (λ k a. IsStart (g.J.Room.start k) (g.J.Room.fixed k) (fixed_of g.B.Block.size g.B.Block.layers a) a) l.volume l.audits.items;
  places : AreUpTo (λ k p. p.volume ≡ k) l.volume l.places.items;
  room : vec_capacity l.places ≡ vec_capacity l.fn.places;
  back : vec_capacity l.audits ≡ vec_capacity l.fn.audits;
}

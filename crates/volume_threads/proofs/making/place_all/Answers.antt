-- The first volume that is left gets its place.
use Rattle.std.proofs.Common.{◌≡◌, ◌+◌, subst, sym, ◌∙◌, arith}
use Rattle.locked_volume.specs.Fixed.{fixed_of}
use Rattle.volume_threads.specs.Rigs.{IsStart}
use Rattle.volume_threads.proofs.Rows.{AreFrom, AreUpTo, grown, taken, first_is}
use Rattle.volume_threads.proofs.making.place_all.Goals as goal

pub place_one-requires-clause-history : goal.place_one-requires-clause-history
place_one-requires-clause-history g c =
    first_is (λ k o. o.table ≡ g.J.Room.history k) c.loop-volume.volume c.loop-volume.volumes.items c.remove-opened.result (omega arith) c.remove-opened.ensures.value c.loop-volume.invariant.tables

pub place_one-requires-clause-boards : goal.place_one-requires-clause-boards
place_one-requires-clause-boards g c =
    first_is (λ k o. o.boards ≡ g.J.Room.boards k) c.loop-volume.volume c.loop-volume.volumes.items c.remove-opened.result (omega arith) c.remove-opened.ensures.value c.loop-volume.invariant.boards

pub place_one-requires-clause-start : goal.place_one-requires-clause-start
place_one-requires-clause-start g c =
    (first_is (λ k a. IsStart (g.J.Room.start k) (g.J.Room.fixed k) (fixed_of g.B.Block.size g.B.Block.layers a) a) c.loop-volume.volume c.loop-volume.audits.items c.remove-audit.result (omega arith) c.remove-audit.ensures.value c.loop-volume.invariant.starts).entries

pub place_one-requires-clause-held : goal.place_one-requires-clause-held
place_one-requires-clause-held g c =
    (first_is (λ k a. IsStart (g.J.Room.start k) (g.J.Room.fixed k) (fixed_of g.B.Block.size g.B.Block.layers a) a) c.loop-volume.volume c.loop-volume.audits.items c.remove-audit.result (omega arith) c.remove-audit.ensures.value c.loop-volume.invariant.starts).held

pub place_one-requires-clause-fixed : goal.place_one-requires-clause-fixed
place_one-requires-clause-fixed g c =
    (first_is (λ k a. IsStart (g.J.Room.start k) (g.J.Room.fixed k) (fixed_of g.B.Block.size g.B.Block.layers a) a) c.loop-volume.volume c.loop-volume.audits.items c.remove-audit.result (omega arith) c.remove-audit.ensures.value c.loop-volume.invariant.starts).fixed_is

pub loop-volume-preserved : goal.loop-volume-preserved
loop-volume-preserved g c = record {
  audits_left = omega arith;
  volumes_left = omega arith;
  many = omega arith;
  tables = subst (AreFrom (λ k o. o.table ≡ g.J.Room.history k) (c.loop-volume.volume + 1)) (sym c.remove-opened.ensures.items)
      (taken (λ k o. o.table ≡ g.J.Room.history k) c.loop-volume.volume c.loop-volume.volumes.items (omega arith) c.loop-volume.invariant.tables);
  boards = subst (AreFrom (λ k o. o.boards ≡ g.J.Room.boards k) (c.loop-volume.volume + 1)) (sym c.remove-opened.ensures.items)
      (taken (λ k o. o.boards ≡ g.J.Room.boards k) c.loop-volume.volume c.loop-volume.volumes.items (omega arith) c.loop-volume.invariant.boards);
  starts = subst (AreFrom (λ k a. IsStart (g.J.Room.start k) (g.J.Room.fixed k) (fixed_of g.B.Block.size g.B.Block.layers a) a) (c.loop-volume.volume + 1)) (sym c.remove-audit.ensures.items)
      (taken (λ k a. IsStart (g.J.Room.start k) (g.J.Room.fixed k) (fixed_of g.B.Block.size g.B.Block.layers a) a) c.loop-volume.volume c.loop-volume.audits.items (omega arith) c.loop-volume.invariant.starts);
  places = subst (AreUpTo (λ k p. p.volume ≡ k) (c.loop-volume.volume + 1)) (sym c.push_reserved.ensures.items)
      (grown (λ k p. p.volume ≡ k) c.loop-volume.volume c.loop-volume.places.items c.place_one.result c.loop-volume.invariant.many c.loop-volume.invariant.places c.place_one.ensures);
  room = c.push_reserved.ensures.capacity ∙ c.loop-volume.invariant.room;
  back = c.remove-audit.ensures.capacity ∙ c.loop-volume.invariant.back;
}

-- One snapshot more has room.
use Rattle.std.proofs.Common.{◌<◌, length, get_or, refl, ◌∙◌, arith}
use Rattle.snapshot.specs.Kept.{Kept}
use Rattle.snapshot_list.proofs.Starts.{unroomed_set, rooms_none, rooms_more, rooms_done, element_is}
use Rattle.snapshot_list.proofs.starting.take_rooms.Goals as goal

pub loop-k-init : goal.loop-k-init
loop-k-init g c = (refl, rw (c.reserve.ensures.items, c.clear.ensures.items) (rooms_none c.args.first c.args.snaps.now), omega (arith, c.in-Ok.ensures.ok, c.reserve.ensures.len, c.clear.ensures.len))

pub returns-in-Err-clause-same : goal.returns-in-Err-clause-same
returns-in-Err-clause-same g c =
    let within : c.loop-k.k < length c.loop-k.snaps = omega (arith, c.loop-k-test.true, c.loop-k.auto.snaps, c.loop-k.auto.k-end) in
    let s : Kept g.row.B.Denot = get_or c.loop-k.snaps c.loop-k.k c.index-snaps-k.result in
    unroomed_set c.loop-k.snaps c.loop-k.k s c.take_room.new.snap (element_is c.loop-k.snaps c.loop-k.k c.index-snaps-k.result within) c.take_room.ensures.same ∙ c.loop-k.invariant.0

pub push_reserved-requires : goal.push_reserved-requires
push_reserved-requires g c = omega (arith, c.loop-k-test.true, c.loop-k.auto.k-end, c.loop-k.invariant.1.len, c.loop-k.invariant.2, c.loop-k.rooms.ok)

pub loop-k-preserved : goal.loop-k-preserved
loop-k-preserved g c =
    let within : c.loop-k.k < length c.loop-k.snaps = omega (arith, c.loop-k-test.true, c.loop-k.auto.snaps, c.loop-k.auto.k-end) in
    let s : Kept g.row.B.Denot = get_or c.loop-k.snaps c.loop-k.k c.index-snaps-k.result in (
      unroomed_set c.loop-k.snaps c.loop-k.k s c.take_room.new.snap (element_is c.loop-k.snaps c.loop-k.k c.index-snaps-k.result within) c.take_room.ensures.same ∙ c.loop-k.invariant.0,
      rw (c.push_reserved.ensures.items) (rooms_more c.args.first c.loop-k.k c.loop-k.snaps c.loop-k.rooms.items c.take_room.new.snap c.in-Ok-take_room.room c.loop-k.invariant.1 within c.in-Ok-take_room.ensures.ok),
      omega (arith, c.loop-k.invariant.2, c.push_reserved.ensures.capacity),
    )

pub returns-clause-ok : goal.returns-clause-ok
returns-clause-ok g c = rooms_done c.args.first c.loop-k.k c.loop-k.snaps c.loop-k.rooms.items c.loop-k.invariant.1 (omega (arith, c.loop-k-test.false, c.loop-k.auto.snaps, c.loop-k.auto.k-end))

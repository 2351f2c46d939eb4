-- One snapshot more is saved.
use Rattle.std.proofs.Common.{◌≡◌, ◌∷◌, [], ◌<◌, rules, length, length-append, get_or, vec_len, sym, ◌∙◌, ap, subst, arith, refl}
use Rattle.std.proofs.lemmas.Iterator.Consumers.{YieldsList-turn, YieldsList-end}
use Rattle.snapshot.specs.Kept.{Kept}
use Rattle.snapshot_list.specs.Starting.{HasRoomFor, IsSavedIn, own_of}
use Rattle.snapshot_list.proofs.Drained.{drained}
use Rattle.snapshot_list.proofs.Starts.{saved_none, saved_here, saved_more, saved_step, saved_all, element_is}
use Rattle.snapshot_list.proofs.starting.save_in_all.Goals as goal

pub loop-room-init : goal.loop-room-init
loop-room-init g c = (refl, saved_none g.B.Block.contents g.B.Block.layers (own_of c.args.first) c.args.snaps.now c.args.copies c.args.flights.now)

pub offset_bounds-snaps-place : goal.offset_bounds-snaps-place
offset_bounds-snaps-place g c =
    let turn = YieldsList-turn (drained c.args.rooms.now.items (vec_len c.args.rooms.now) c.into_iter-room-iterator.ensures.into_iter_gives c.drain-room-items.ensures.rest (omega (arith, c.args.rooms.now.ok))) c.loop-room.yielded c.loop-room.room-iterator c.loop-room.yielded_by c.next.result c.next.new.self c.in-Some.room c.in-Some.is c.next.ensures.steps in
    let within : c.loop-room.place < length c.args.snaps.now = omega (arith, turn.0, c.loop-room.invariant.0, c.requires.rooms.len) in
    let inside : c.loop-room.place < length c.loop-room.snaps = omega (arith, within, c.loop-room.auto.snaps) in
    search rules

pub bounds-snaps-place : goal.bounds-snaps-place
bounds-snaps-place g c =
    let turn = YieldsList-turn (drained c.args.rooms.now.items (vec_len c.args.rooms.now) c.into_iter-room-iterator.ensures.into_iter_gives c.drain-room-items.ensures.rest (omega (arith, c.args.rooms.now.ok))) c.loop-room.yielded c.loop-room.room-iterator c.loop-room.yielded_by c.next.result c.next.new.self c.in-Some.room c.in-Some.is c.next.ensures.steps in
    let within : c.loop-room.place < length c.args.snaps.now = omega (arith, turn.0, c.loop-room.invariant.0, c.requires.rooms.len) in
    omega (arith, within, c.loop-room.auto.snaps)

pub save_in-given-requires-clause-begins : goal.save_in-given-requires-clause-begins
save_in-given-requires-clause-begins g c =
    let turn = YieldsList-turn (drained c.args.rooms.now.items (vec_len c.args.rooms.now) c.into_iter-room-iterator.ensures.into_iter_gives c.drain-room-items.ensures.rest (omega (arith, c.args.rooms.now.ok))) c.loop-room.yielded c.loop-room.room-iterator c.loop-room.yielded_by c.next.result c.next.new.self c.in-Some.room c.in-Some.is c.next.ensures.steps in
    let within : c.loop-room.place < length c.args.snaps.now = omega (arith, turn.0, c.loop-room.invariant.0, c.requires.rooms.len) in
    let same = saved_here g.B.Block.contents g.B.Block.layers (own_of c.args.first) c.loop-room.place c.args.snaps.now c.loop-room.snaps c.args.copies c.loop-room.given c.args.flights.now c.loop-room.flights c.index-snaps-place.result c.loop-room.invariant.1 in
    subst (λ (x : Kept g.row.B.Denot). c.args.first < x.state.origin) (sym same) (c.requires.begins c.loop-room.place c.index-snaps-place.result within)

pub save_in-given-requires-clause-room : goal.save_in-given-requires-clause-room
save_in-given-requires-clause-room g c =
    let turn = YieldsList-turn (drained c.args.rooms.now.items (vec_len c.args.rooms.now) c.into_iter-room-iterator.ensures.into_iter_gives c.drain-room-items.ensures.rest (omega (arith, c.args.rooms.now.ok))) c.loop-room.yielded c.loop-room.room-iterator c.loop-room.yielded_by c.next.result c.next.new.self c.in-Some.room c.in-Some.is c.next.ensures.steps in
    let within : c.loop-room.place < length c.args.snaps.now = omega (arith, turn.0, c.loop-room.invariant.0, c.requires.rooms.len) in
    let same = saved_here g.B.Block.contents g.B.Block.layers (own_of c.args.first) c.loop-room.place c.args.snaps.now c.loop-room.snaps c.args.copies c.loop-room.given c.args.flights.now c.loop-room.flights c.index-snaps-place.result c.loop-room.invariant.1 in
    let is : get_or c.args.rooms.now.items c.loop-room.place c.in-Some.room ≡ c.in-Some.room = ap (λ i. get_or c.args.rooms.now.items i c.in-Some.room) c.loop-room.invariant.0 ∙ sym turn.1 in
    subst (HasRoomFor c.args.first (get_or c.loop-room.snaps c.loop-room.place c.index-snaps-place.result)) is
    (subst (λ (x : Kept g.row.B.Denot). HasRoomFor c.args.first x (get_or c.args.rooms.now.items c.loop-room.place c.in-Some.room)) (sym same) (c.requires.rooms.each c.loop-room.place c.index-snaps-place.result c.in-Some.room within))

pub save_in-given-requires-clause-few : goal.save_in-given-requires-clause-few
save_in-given-requires-clause-few g c =
    let turn = YieldsList-turn (drained c.args.rooms.now.items (vec_len c.args.rooms.now) c.into_iter-room-iterator.ensures.into_iter_gives c.drain-room-items.ensures.rest (omega (arith, c.args.rooms.now.ok))) c.loop-room.yielded c.loop-room.room-iterator c.loop-room.yielded_by c.next.result c.next.new.self c.in-Some.room c.in-Some.is c.next.ensures.steps in
    let within : c.loop-room.place < length c.args.snaps.now = omega (arith, turn.0, c.loop-room.invariant.0, c.requires.rooms.len) in
    omega (arith, within, c.requires.few, c.loop-room.invariant.1.few)

pub overflow_add-place : goal.overflow_add-place
overflow_add-place g c =
    let turn = YieldsList-turn (drained c.args.rooms.now.items (vec_len c.args.rooms.now) c.into_iter-room-iterator.ensures.into_iter_gives c.drain-room-items.ensures.rest (omega (arith, c.args.rooms.now.ok))) c.loop-room.yielded c.loop-room.room-iterator c.loop-room.yielded_by c.next.result c.next.new.self c.in-Some.room c.in-Some.is c.next.ensures.steps in
    let within : c.loop-room.place < length c.args.snaps.now = omega (arith, turn.0, c.loop-room.invariant.0, c.requires.rooms.len) in
    omega (arith, within, turn.0, c.loop-room.invariant.0, c.args.rooms.now.ok)

pub loop-room-preserved : goal.loop-room-preserved
loop-room-preserved g c =
    let turn = YieldsList-turn (drained c.args.rooms.now.items (vec_len c.args.rooms.now) c.into_iter-room-iterator.ensures.into_iter_gives c.drain-room-items.ensures.rest (omega (arith, c.args.rooms.now.ok))) c.loop-room.yielded c.loop-room.room-iterator c.loop-room.yielded_by c.next.result c.next.new.self c.in-Some.room c.in-Some.is c.next.ensures.steps in
    let within : c.loop-room.place < length c.args.snaps.now = omega (arith, turn.0, c.loop-room.invariant.0, c.requires.rooms.len) in
    let len : length c.loop-room.snaps ≡ length c.args.snaps.now = omega (arith, c.loop-room.auto.snaps) in
    let s : Kept g.row.B.Denot = get_or c.args.snaps.now c.loop-room.place c.index-snaps-place.result in
    let same = saved_here g.B.Block.contents g.B.Block.layers (own_of c.args.first) c.loop-room.place c.args.snaps.now c.loop-room.snaps c.args.copies c.loop-room.given c.args.flights.now c.loop-room.flights c.index-snaps-place.result c.loop-room.invariant.1 in
    let one : IsSavedIn g.B.Block.contents g.B.Block.layers (own_of c.args.first s) s c.save_in-given.new.snap c.loop-room.given c.save_in-given.result c.loop-room.flights c.save_in-given.new.flights =
    subst (λ (x : Kept g.row.B.Denot). IsSavedIn g.B.Block.contents g.B.Block.layers (own_of c.args.first x) x c.save_in-given.new.snap c.loop-room.given c.save_in-given.result c.loop-room.flights c.save_in-given.new.flights) same c.save_in-given.ensures.saved in (
      omega (arith, c.loop-room.invariant.0, length-append c.loop-room.yielded (c.in-Some.room ∷ [])),
      saved_more g.B.Block.contents g.B.Block.layers (own_of c.args.first) c.loop-room.place c.args.snaps.now c.loop-room.snaps s c.save_in-given.new.snap c.args.copies c.loop-room.given c.save_in-given.result c.args.flights.now c.loop-room.flights c.save_in-given.new.flights within len
          (element_is c.args.snaps.now c.loop-room.place c.index-snaps-place.result within) c.loop-room.invariant.1 one (saved_step g.B.Block.contents g.B.Block.layers (own_of c.args.first s) s c.save_in-given.new.snap c.loop-room.given c.save_in-given.result c.loop-room.flights c.save_in-given.new.flights one),
    )

pub returns : goal.returns
returns g c =
    let end = YieldsList-end (drained c.args.rooms.now.items (vec_len c.args.rooms.now) c.into_iter-room-iterator.ensures.into_iter_gives c.drain-room-items.ensures.rest (omega (arith, c.args.rooms.now.ok))) c.loop-room.yielded c.loop-room.room-iterator c.loop-room.yielded_by c.next.result c.next.new.self c.in-None.is c.next.ensures.steps in
    let whole : length c.args.snaps.now ≡ c.loop-room.place = omega (arith, end.1, c.loop-room.invariant.0, c.requires.rooms.len) in
    record { saved = saved_all g.B.Block.contents g.B.Block.layers (own_of c.args.first) c.loop-room.place c.args.snaps.now c.loop-room.snaps c.args.copies c.loop-room.given c.args.flights.now c.loop-room.flights (omega (arith, whole)) (omega (arith, whole, c.loop-room.auto.snaps)) c.loop-room.invariant.1 }

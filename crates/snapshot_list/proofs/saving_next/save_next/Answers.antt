-- One snapshot more is saved.
use Rattle.std.proofs.Common.{◌≡◌, ◌+◌, ◌<◌, ◌≤◌, length, get_or, sym, subst, arith}
use Rattle.snapshot.specs.Kept.{Kept}
use Rattle.snapshot_list.specs.Starting.{next_chunk_of}
use Rattle.snapshot_list.proofs.Starts.{element_is}
use Rattle.snapshot_list.specs.MergeStarting.{KeepsRoomFor, IsNextSavedIn}
use Rattle.snapshot_list.proofs.NextStarts.{saved_none, saved_here, saved_more, saved_step, room_later}
use Rattle.snapshot_list.proofs.saving_next.save_next.Goals as goal

pub loop-k-init : goal.loop-k-init
loop-k-init g c = saved_none g.B.Block.contents g.B.Block.layers (next_chunk_of c.args.first c.args.count) c.args.snaps.now c.args.copies c.args.flights.now

pub save_next_in-given-requires-clause-begins : goal.save_next_in-given-requires-clause-begins
save_next_in-given-requires-clause-begins g c =
    let within : c.loop-k.k < length c.args.snaps.now = omega (arith, c.loop-k-test.true, c.loop-k.auto.snaps, c.loop-k.auto.k-end) in
    let same = saved_here g.B.Block.contents g.B.Block.layers (next_chunk_of c.args.first c.args.count) c.loop-k.k c.args.snaps.now c.loop-k.snaps c.args.copies c.loop-k.given c.args.flights.now c.loop-k.flights c.index-snaps-k.result c.loop-k.invariant in
    subst (λ (x : Kept g.row.B.Denot). c.args.first + c.args.count ≤ x.state.origin) (sym same) (c.requires.begins c.loop-k.k c.index-snaps-k.result within)

pub save_next_in-given-requires-clause-room : goal.save_next_in-given-requires-clause-room
save_next_in-given-requires-clause-room g c =
    let within : c.loop-k.k < length c.args.snaps.now = omega (arith, c.loop-k-test.true, c.loop-k.auto.snaps, c.loop-k.auto.k-end) in
    let same = saved_here g.B.Block.contents g.B.Block.layers (next_chunk_of c.args.first c.args.count) c.loop-k.k c.args.snaps.now c.loop-k.snaps c.args.copies c.loop-k.given c.args.flights.now c.loop-k.flights c.index-snaps-k.result c.loop-k.invariant in
    subst (λ (x : Kept g.row.B.Denot). KeepsRoomFor (next_chunk_of c.args.first c.args.count x) c.loop-k.given x) (sym same)
    (room_later (next_chunk_of c.args.first c.args.count (get_or c.args.snaps.now c.loop-k.k c.index-snaps-k.result)) c.args.copies c.loop-k.given (get_or c.args.snaps.now c.loop-k.k c.index-snaps-k.result) c.loop-k.invariant.more (c.requires.room c.loop-k.k c.index-snaps-k.result within))

pub loop-k-preserved : goal.loop-k-preserved
loop-k-preserved g c =
    let within : c.loop-k.k < length c.args.snaps.now = omega (arith, c.loop-k-test.true, c.loop-k.auto.snaps, c.loop-k.auto.k-end) in
    let len : length c.loop-k.snaps ≡ length c.args.snaps.now = omega (arith, c.loop-k.auto.snaps) in
    let s : Kept g.row.B.Denot = get_or c.args.snaps.now c.loop-k.k c.index-snaps-k.result in
    let same = saved_here g.B.Block.contents g.B.Block.layers (next_chunk_of c.args.first c.args.count) c.loop-k.k c.args.snaps.now c.loop-k.snaps c.args.copies c.loop-k.given c.args.flights.now c.loop-k.flights c.index-snaps-k.result c.loop-k.invariant in
    let one : IsNextSavedIn g.B.Block.contents g.B.Block.layers (next_chunk_of c.args.first c.args.count s) s c.save_next_in-given.new.snap c.loop-k.given c.save_next_in-given.result c.loop-k.flights c.save_next_in-given.new.flights =
    subst (λ (x : Kept g.row.B.Denot). IsNextSavedIn g.B.Block.contents g.B.Block.layers (next_chunk_of c.args.first c.args.count x) x c.save_next_in-given.new.snap c.loop-k.given c.save_next_in-given.result c.loop-k.flights c.save_next_in-given.new.flights) same c.save_next_in-given.ensures.saved in
    saved_more g.B.Block.contents g.B.Block.layers (next_chunk_of c.args.first c.args.count) c.loop-k.k c.args.snaps.now c.loop-k.snaps s c.save_next_in-given.new.snap c.args.copies c.loop-k.given c.save_next_in-given.result c.args.flights.now c.loop-k.flights c.save_next_in-given.new.flights within len
    (element_is c.args.snaps.now c.loop-k.k c.index-snaps-k.result within) c.loop-k.invariant one (saved_step g.B.Block.contents g.B.Block.layers (next_chunk_of c.args.first c.args.count s) s c.save_next_in-given.new.snap c.loop-k.given c.save_next_in-given.result c.loop-k.flights c.save_next_in-given.new.flights one)

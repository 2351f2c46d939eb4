-- The chunks of each snapshot that the pair's chunk touches.
use Rattle.std.proofs.Common.{◌≡◌, ◌*◌, ℕ, sym, subst, arith}
use Rattle.std.specs.List.{All}
use Rattle.in_flight.specs.Copies.{count_of}
use Rattle.snapshot.specs.Kept.{Kept}
use Rattle.snapshot_list.specs.Starting.{next_chunk_of}
use Rattle.snapshot_list.specs.MergeStarting.{AreNextSavedIn, IsNextSaved, KeepsRoomFor, next_for}
use Rattle.snapshot_list.proofs.NextStarts.{next_same}
use Rattle.snapshot_list.proofs.saving_next.save_pair.Goals as goal

pub first_of-requires : goal.first_of-requires
first_of-requires g c = (c.requires.room c.in-Some.pair c.in-Some.is).begins

pub count_of-requires : goal.count_of-requires
count_of-requires g c = (c.requires.room c.in-Some.pair c.in-Some.is).begins

pub save_next-requires-clause-begins : goal.save_next-requires-clause-begins
save_next-requires-clause-begins g c = λ k d lt.
    let inside = (c.requires.room c.in-Some.pair c.in-Some.is).origin k d lt in
    omega (arith, inside, c.first_of.ensures, c.count_of.ensures.fits)

pub save_next-requires-clause-room : goal.save_next-requires-clause-room
save_next-requires-clause-room g c =
    let m = c.args.merge.now.state in
    let q = c.in-Some.pair in
    let can = c.requires.room q c.in-Some.is in
    let at : next_chunk_of {B = g.row.B.Denot} c.first_of.result c.count_of.result ≡ next_for m.chunk m.origin q = next_same c.first_of.result (m.chunk * q.old) c.count_of.result (count_of m.chunk m.origin q.old) c.first_of.ensures c.count_of.ensures.is in
    subst (λ (f : Kept g.row.B.Denot → ℕ). All (λ (s : Kept g.row.B.Denot). KeepsRoomFor (f s) c.args.copies s) c.args.snaps.now) (sym at) can.room

pub save_next-requires-clause-few : goal.save_next-requires-clause-few
save_next-requires-clause-few g c = c.requires.few c.in-Some.pair c.in-Some.is

pub returns-in-Some : goal.returns-in-Some
returns-in-Some g c =
    let m = c.args.merge.now.state in
    let q = c.in-Some.pair in
    let at : next_chunk_of {B = g.row.B.Denot} c.first_of.result c.count_of.result ≡ next_for m.chunk m.origin q = next_same c.first_of.result (m.chunk * q.old) c.count_of.result (count_of m.chunk m.origin q.old) c.first_of.ensures c.count_of.ensures.is in
    let saved = subst (λ (f : Kept g.row.B.Denot → ℕ). AreNextSavedIn g.B.Block.contents g.B.Block.layers f c.args.snaps.now c.save_next.new.snaps c.args.copies c.save_next.result c.args.flights.now c.save_next.new.flights) at c.save_next.ensures.saved in
    record {
      saved = subst (λ o. IsNextSaved g.B.Block.contents g.B.Block.layers m.chunk m.origin o c.args.snaps.now c.save_next.new.snaps c.args.copies c.save_next.result c.args.flights.now c.save_next.new.flights) (sym c.in-Some.is) saved;
    }

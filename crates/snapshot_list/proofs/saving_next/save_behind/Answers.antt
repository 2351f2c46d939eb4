-- What is sought behind the chunk that was published, is the first that is not.
use Rattle.std.proofs.Common.{◌*◌, ◌<◌, sym, ap, subst, arith}
use Rattle.std.specs.Prelude.{not}
use Rattle.chunk.proofs.Limits.{is_chunk-some}
use Rattle.volume_laws.specs.Published.{is_published}
use Rattle.snapshot_list.specs.MergeStarting.{IsLeastFrom, IsNextSavedIn, KeepsRoomFor, pending_of}
use Rattle.snapshot_list.proofs.NextStarts.{next_begins}
use Rattle.snapshot_list.proofs.Sought.{before_published}
use Rattle.snapshot_list.proofs.saving_next.save_behind.Goals as goal

pub next_chunk_from-chunk-requires-clause-before : goal.next_chunk_from-chunk-requires-clause-before
next_chunk_from-chunk-requires-clause-before g c =
    let s = c.args.snap.now in
    let from = subst (λ n. IsLeastFrom n c.args.published (pending_of s) c.sought_from-from.result) c.own_chunk-low.ensures c.sought_from-from.ensures in
    before_published s c.args.first c.args.count c.args.published c.sought_from-from.result (sym c.if-not-is_live.ensures) c.requires.behind from

pub save_chunk-requires-clause-begins : goal.save_chunk-requires-clause-begins
save_chunk-requires-clause-begins g c =
    let s = c.args.snap.now in
    let some = subst (λ n. 0 < n) c.chunk.ensures.is (is_chunk-some c.chunk.result c.chunk.ensures.allowed) in
    let low = next_begins (λ n. not (is_published s.pairs s.marks n)) s.state.chunk c.args.first c.args.count some c.requires.some in
    let at = ap (λ n. s.state.chunk * n) c.next_chunk_from-chunk.ensures in
    omega (arith, low, at, c.requires.begins)

pub save_chunk-requires-clause-room : goal.save_chunk-requires-clause-room
save_chunk-requires-clause-room g c = subst (λ n. KeepsRoomFor n c.args.copies c.args.snap.now) (sym c.next_chunk_from-chunk.ensures) c.requires.room

pub returns : goal.returns
returns g c = record {
  saved = subst (λ n. IsNextSavedIn g.B.Block.contents g.B.Block.layers n c.args.snap.now c.save_chunk.new.snap c.args.copies c.save_chunk.result c.args.flights.now c.save_chunk.new.flights) c.next_chunk_from-chunk.ensures c.save_chunk.ensures.saved;
}

-- The first chunk that is not published begins inside the origin.
use Rattle.std.proofs.Common.{◌∙◌, ◌*◌, ◌<◌, sym, ap, subst, arith}
use Rattle.std.specs.Prelude.{not}
use Rattle.std.specs.Option.{is_some}
use Rattle.chunk.proofs.Limits.{is_chunk-some}
use Rattle.volume_laws.specs.Published.{is_published}
use Rattle.snapshot_list.specs.Starting.{next_chunk_of}
use Rattle.snapshot_list.specs.MergeStarting.{KeepsRoomFor, IsNextSavedIn}
use Rattle.snapshot_list.proofs.NextStarts.{next_begins, saved_busy}
use Rattle.snapshot_list.proofs.saving_next.save_next_in.Goals as goal

pub returns-then-is_some : goal.returns-then-is_some
returns-then-is_some g c = record {
  saved = saved_busy g.B.Block.contents g.B.Block.layers (next_chunk_of c.args.first c.args.count c.args.snap.now) c.args.snap.now c.args.copies c.args.copies c.args.flights.now c.requires.room
      (sym (ap is_some c.merging.ensures.is) ∙ sym c.is_some.ensures ∙ c.if-is_some.true);
}

pub save_chunk-requires-clause-begins : goal.save_chunk-requires-clause-begins
save_chunk-requires-clause-begins g c =
    let s = c.args.snap.now in
    let some = subst (λ n. 0 < n) c.chunk.ensures.is (is_chunk-some c.chunk.result c.chunk.ensures.allowed) in
    let low = next_begins (λ n. not (is_published s.pairs s.marks n)) s.state.chunk c.args.first c.args.count some c.requires.some in
    let at = ap (λ n. s.state.chunk * n) c.next_chunk-chunk.ensures in
    omega (arith, low, at, c.requires.begins)

pub save_chunk-requires-clause-room : goal.save_chunk-requires-clause-room
save_chunk-requires-clause-room g c = subst (λ n. KeepsRoomFor n c.args.copies c.args.snap.now) (sym c.next_chunk-chunk.ensures) c.requires.room

pub returns : goal.returns
returns g c = record {
  saved = subst (λ n. IsNextSavedIn g.B.Block.contents g.B.Block.layers n c.args.snap.now c.save_chunk.new.snap c.args.copies c.save_chunk.result c.args.flights.now c.save_chunk.new.flights) c.next_chunk-chunk.ensures c.save_chunk.ensures.saved;
}

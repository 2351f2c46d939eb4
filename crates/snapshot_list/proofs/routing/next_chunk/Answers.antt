-- It is sought from the first that is touched.
use Rattle.std.proofs.Common.{◌≡◌, ◌<◌, true, sym, subst}
use Rattle.std.specs.List.{All}
use Rattle.chunk.specs.Pieces.{chunks_over}
use Rattle.volume_laws.specs.Published.{is_published}
use Rattle.snapshot_list.proofs.Sought.{none_earlier}
use Rattle.snapshot_list.proofs.routing.next_chunk.Goals as goal

pub next_chunk_from-requires-clause-before : goal.next_chunk_from-requires-clause-before
next_chunk_from-requires-clause-before g c =
    let s = c.args.snap.now in
    subst (λ n. All (λ x. x < n → is_published s.pairs s.marks x ≡ true) (chunks_over s.state.chunk c.args.first c.args.count)) (sym c.own_chunk.ensures)
    (none_earlier (λ x. is_published s.pairs s.marks x ≡ true) s.state.chunk c.args.first c.args.count)

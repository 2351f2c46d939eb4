-- The chunks before the present one are published.
use Rattle.std.proofs.Common.{◌≡◌}
use Rattle.std.specs.Prelude.{not}
use Rattle.in_flight.specs.Due.{first_by}
use Rattle.chunk.specs.Pieces.{chunks_over}
use Rattle.volume_laws.specs.Published.{is_published}
use Rattle.snapshot_list.proofs.Unpublished.{first_until}
use Rattle.snapshot_list.proofs.routing.first_unpublished_from.Given as goal

abbrev pub invariant-loop-chunk : goal.invariant-loop-chunk
invariant-loop-chunk g l =
    first_by (λ c. not (is_published l.snap.pairs l.snap.marks c)) (λ c. c) (chunks_over l.snap.state.chunk l.first l.count) ≡ first_until (λ c. not (is_published l.snap.pairs l.snap.marks c)) l.last l.chunk

use Rattle.std.proofs.Common.{ap, ◌∙◌}
use Rattle.cow_format.specs.Picture.{place_of}
use Rattle.store.specs.Held.{committed, pairs_pending}
use Rattle.snapshot.proofs.Stores.{placed_inside}
use Rattle.snapshot.proofs.Copies.{like_same}
use Rattle.snapshot.proofs.Steps.{step_like}
use Rattle.snapshot.proofs.snapshot.Snapshot.read_at.Goals as goal

pub read_chunk-requires-clause-inside : goal.read_chunk-requires-clause-inside
read_chunk-requires-clause-inside g c =
    let s = c.self.inside.store in
    let (old, is) = c.requires.placed in
    let (o, h) = placed_inside s.state.chunk s.state.origin s.state.size (committed s.exceptions) (pairs_pending s.exceptions) old c.args.place s.given.inside (ap (λ v. place_of v.pairs old) c.self.view_is ∙ is) in
    h.new

pub returns-clause-in_step : goal.returns-clause-in_step
returns-clause-in_step g c =
    let s = c.self.inside.store in
    let t = c.read_chunk.new.self in
    step_like g.B.Block.contents g.B.Block.layers g.B.Block.size _ s.state t.area.bytes.items _ _ _ c.self.invariant.0 (like_same s.state t.state c.read_chunk.ensures.state) t.size t.given t.stored

use Rattle.std.proofs.Common.{◌++◌, ap, ◌∙◌}
use Rattle.cow_format.specs.Picture.{place_of}
use Rattle.store.specs.Held.{committed, pairs_pending}
use Rattle.merge.specs.Lists.{released_of}
use Rattle.merge.specs.Merging.{Merging}
use Rattle.merge.proofs.Stages.{listed_inside}
use Rattle.merge.proofs.merge.Merge.read_at.Goals as goal

pub read_chunk-requires-clause-inside : goal.read_chunk-requires-clause-inside
read_chunk-requires-clause-inside g c =
    let s = c.self.inside.store in
    let (old, is) = c.requires.placed in
    let (o, h) = listed_inside s.state (committed s.exceptions) (pairs_pending s.exceptions) c.self.inside.group old c.args.place c.self.invariant.present s.given.inside
    (ap (λ (m : Merging g.row.B.Denot). place_of (m.pairs ++ released_of m.group) old) c.self.view_is ∙ is) in
    h.new

use Rattle.std.proofs.Common.{◌≡◌, ℕ, Bool}
use Rattle.nbd_read_session.specs.Blocks.{marked_for}
use Rattle.cow_nbd.proofs.Arrays.{known_marks}
use Rattle.cow_nbd.proofs.pictures.PicturesServed.marks.Goals as goal

pub returns-clause-data : goal.returns-clause-data
returns-clause-data g c =
    let s = c.args.self.now in
    known_marks s.chunk s.pairs.items s.size _ (g.O.Image.bytes s.origin) (g.C.Image.bytes s.cow) (λ (marks : ℕ → Bool). (c.marked.result.marked ≡ marks c.args.at) × (c.marked.result.len ≡ marked_for marks (marks c.args.at) c.args.most c.args.at))
    (rw c.as_slice.ensures.value at c.marked.ensures.marked, rw c.as_slice.ensures.value at c.marked.ensures.len)

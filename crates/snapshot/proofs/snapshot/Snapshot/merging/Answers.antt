use Rattle.std.proofs.Common.{ap, ◌∙◌, sym}
use Rattle.snapshot.specs.Kept.{is_among}
use Rattle.snapshot.proofs.Spared.{spared_in}
use Rattle.snapshot.proofs.snapshot.Snapshot.merging.Goals as goal

pub returns-clause-copied : goal.returns-clause-copied
returns-clause-copied g c = λ n is none.
    ap (λ v. is_among c.self.inside.merging v.copies) (sym c.self.view_is)
    ∙ spared_in c.self.inside.store.state.chunk n c.self.inside.spare c.self.inside.merging c.self.inside.copies.items c.self.invariant.2 is (ap (λ v. v.spare) c.self.view_is ∙ none)

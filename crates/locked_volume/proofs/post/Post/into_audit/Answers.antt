-- The entries since the rig was made are those that the keeper knows.
use Rattle.std.proofs.Common.{◌++◌, ap, ◌∙◌, subst}
use Rattle.locked_volume.specs.AskedFor.{AddsAskedFor}
use Rattle.locked_volume.proofs.AskedFor.{adds_asked}
use Rattle.locked_volume.proofs.post.Post.into_audit.Goals as goal

pub returns-clause-grows : goal.returns-clause-grows
returns-clause-grows g c =
    let known = c.self.inside.keeper.me.0.all in
    (known, c.self.invariant.0.knows ∙ ap (λ p. g.J.Room.start p.volume ++ known) c.self.view_is)

pub returns-clause-asked : goal.returns-clause-asked
returns-clause-asked g c =
    subst (λ p. AddsAskedFor (g.J.Room.merges p.volume) (g.J.Room.start p.volume) c.self.inside.audit.entries) c.self.view_is
    (adds_asked (g.J.Room.merges c.self.inside.volume) (g.J.Room.start c.self.inside.volume) c.self.inside.keeper.me.0.all c.self.inside.audit.entries c.self.invariant.0.knows c.self.invariant.2)

-- Nothing was done.
use Rattle.std.proofs.Common.{refl, subst}
use Rattle.locked_volume.specs.Boards.{AreKeptUp}
use Rattle.locked_volume.proofs.Passes.{kept_still}
use Rattle.locked_volume.proofs.post.Post.advance.Goals as goal

pub returns-in_default-clause-told : goal.returns-in_default-clause-told
returns-in_default-clause-told g c =
    subst (λ p. AreKeptUp p.audit.volume p.told p.told) c.self.view_is
    (kept_still (g.J.Room.boards c.self.inside.volume) c.self.inside.audit.volume c.self.inside.audit.volume c.self.inside.publishers refl c.self.invariant.1)

pub returns-in-Issue-clause-told : goal.returns-in-Issue-clause-told
returns-in-Issue-clause-told g c =
    subst (λ p. AreKeptUp p.audit.volume p.told p.told) c.self.view_is
    (kept_still (g.J.Room.boards c.self.inside.volume) c.self.inside.audit.volume c.self.inside.audit.volume c.self.inside.publishers refl c.self.invariant.1)

pub returns-in-CopyRead-clause-told : goal.returns-in-CopyRead-clause-told
returns-in-CopyRead-clause-told g c =
    subst (λ p. AreKeptUp p.audit.volume p.told p.told) c.self.view_is
    (kept_still (g.J.Room.boards c.self.inside.volume) c.self.inside.audit.volume c.self.inside.audit.volume c.self.inside.publishers refl c.self.invariant.1)

pub returns-in-CopyWrite-clause-told : goal.returns-in-CopyWrite-clause-told
returns-in-CopyWrite-clause-told g c =
    subst (λ p. AreKeptUp p.audit.volume p.told p.told) c.self.view_is
    (kept_still (g.J.Room.boards c.self.inside.volume) c.self.inside.audit.volume c.self.inside.audit.volume c.self.inside.publishers refl c.self.invariant.1)

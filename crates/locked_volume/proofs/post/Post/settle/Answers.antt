use Rattle.std.proofs.Common.{◌++◌, sym, ap, ◌∙◌}
use Rattle.locked_volume.proofs.Posting.{settled_own}
use Rattle.locked_volume.proofs.post.Post.settle.Goals as goal

pub returns-clause-own : goal.returns-clause-own
returns-clause-own g c =
    settled_own (g.J.Room.start c.args.self.now.volume) c.self.inside.keeper.me.0.all c.args.self.now.audit.entries c.args.me.me.0.old c.args.me.me.0.mine c.args.seat c.args.me.me.0.seat
    (sym (ap (λ p. p.audit.entries) c.self.view_is) ∙ c.self.invariant.0.knows ∙ ap (λ p. g.J.Room.start p.volume ++ c.self.inside.keeper.me.0.all) c.self.view_is)
    c.requires.seat.number c.settle.ensures.own

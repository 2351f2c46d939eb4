-- The pieces are those of the volume when the rig was made.
use Rattle.std.proofs.Common.{sym, ap, ◌∙◌}
use Rattle.volume.specs.Volumed.{piece_with}
use Rattle.locked_volume.specs.Fixed.{piece_at}
use Rattle.locked_volume.proofs.Denied.{piece_is}
use Rattle.locked_volume.proofs.post.Post.piece.Goals as goal

pub returns-clause-piece : goal.returns-clause-piece
returns-clause-piece g c =
    let v = c.self.inside.audit.volume in
    c.piece.ensures.piece ∙ ap (λ w. piece_with w.merge w.snaps) c.volume.ensures ∙ sym (piece_is v.merge v.snaps)
    ∙ c.self.invariant.0.stays.piece ∙ ap (λ p. piece_at (g.J.Room.fixed p.volume)) c.self.view_is

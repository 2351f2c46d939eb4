use Rattle.std.proofs.Common.{sym, ◌∙◌, subst}
use Rattle.locked_volume.specs.Beside.{IsBeside}
use Rattle.volume_threads.proofs.turns.act.Goals as goal

pub advance-requires : goal.advance-requires
advance-requires g c = record {
  beside = subst (λ n. IsBeside (g.J.Room.history n) (g.J.Room.boards n) c.args.place.now.beside) (sym (c.issue.ensures.post ∙ c.requires.post)) c.args.place.now.is_beside;
}

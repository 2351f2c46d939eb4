use Rattle.std.proofs.Common.{sym, ap, ◌∙◌, subst}
use Rattle.locked_volume.specs.Beside.{IsBeside}
use Rattle.locked_volume.specs.Posts.{PostShape}
use Rattle.volume_threads.proofs.turns.begin.Goals as goal

pub advance-requires : goal.advance-requires
advance-requires g c = record {
  beside = subst (λ n. IsBeside (g.J.Room.history n) (g.J.Room.boards n) c.args.place.now.beside)
      (sym (ap (λ (p : PostShape g.row.B.Denot). p.volume) c.deref_mut-then-eq.ensures.value ∙ c.begin_merge-got.ensures.post ∙ ap (λ (p : PostShape g.row.B.Denot). p.volume) c.deref_mut.ensures.value ∙ c.locked-post.ensures)) c.args.place.now.is_beside;
}

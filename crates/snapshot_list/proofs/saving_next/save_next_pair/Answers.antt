-- Over the lists of the vectors.
use Rattle.std.proofs.Common.{sym, subst}
use Rattle.snapshot_list.specs.MergeStarting.{CanSaveNext, GoesOnBehind}
use Rattle.snapshot_list.proofs.saving_next.save_next_pair.Goals as goal

pub save_beside-requires-clause-room : goal.save_beside-requires-clause-room
save_beside-requires-clause-room g c = λ m is q next. subst (λ ss. CanSaveNext m.state.chunk m.state.origin c.args.copies ss q) (sym c.deref_mut.ensures.value) (c.requires.room m is q next)

pub save_beside-requires-clause-behind : goal.save_beside-requires-clause-behind
save_beside-requires-clause-behind g c = λ m is q next. subst (λ ss. GoesOnBehind c.args.place c.args.published m.state.chunk m.state.origin ss q) (sym c.deref_mut.ensures.value) (c.requires.behind m is q next)

-- Over the lists of the vectors.
use Rattle.std.proofs.Common.{sym, subst}
use Rattle.snapshot_list.specs.MergeStarting.{CanSaveNext}
use Rattle.snapshot_list.proofs.saving_next.save_waiting.Goals as goal

pub save_last-requires-clause-room : goal.save_last-requires-clause-room
save_last-requires-clause-room g c = λ q is. subst (λ ss. CanSaveNext c.args.merge.now.state.chunk c.args.merge.now.state.origin c.args.copies ss q) (sym c.deref_mut.ensures.value) (c.requires.room q is)

-- The pair is the last that waits.
use Rattle.std.proofs.Common.{◌∙◌, sym, subst, true}
use Rattle.snapshot_list.specs.MergeStarting.{IsNextSaved}
use Rattle.snapshot_list.proofs.saving_next.save_last.Goals as goal

pub save_pair-requires-clause-room : goal.save_pair-requires-clause-room
save_pair-requires-clause-room g c = λ q is. c.requires.room q (sym (c.next.ensures ∙ (c.has_group.ensures.looks true).next) ∙ is)

pub returns : goal.returns
returns g c = record {
  saved = subst (λ o. IsNextSaved g.B.Block.contents g.B.Block.layers c.args.merge.now.state.chunk c.args.merge.now.state.origin o c.args.snaps.now c.save_pair.new.snaps c.args.copies c.save_pair.result c.args.flights.now c.save_pair.new.flights) (c.next.ensures ∙ (c.has_group.ensures.looks true).next) c.save_pair.ensures.saved;
}

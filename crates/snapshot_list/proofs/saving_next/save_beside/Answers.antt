-- The pair is the one that is copied next.
use Rattle.std.proofs.Common.{◌∙◌, sym, subst}
use Rattle.snapshot_list.specs.MergeStarting.{IsNextSaved, IsNextSavedBeside}
use Rattle.snapshot_list.proofs.saving_next.save_beside.Goals as goal

pub save_pair_at-requires-clause-room : goal.save_pair_at-requires-clause-room
save_pair_at-requires-clause-room g c = λ q is. c.requires.room c.in-Some.merge c.in-Some.is q (sym c.next_pair.ensures ∙ is)

pub save_pair_at-requires-clause-few : goal.save_pair_at-requires-clause-few
save_pair_at-requires-clause-few g c = λ q is. c.requires.few c.in-Some.merge c.in-Some.is q (sym c.next_pair.ensures ∙ is)

pub save_pair_at-requires-clause-behind : goal.save_pair_at-requires-clause-behind
save_pair_at-requires-clause-behind g c = λ q is. c.requires.behind c.in-Some.merge c.in-Some.is q (sym c.next_pair.ensures ∙ is)

pub returns-in-Some : goal.returns-in-Some
returns-in-Some g c =
    let m = c.in-Some.merge in
    let saved = subst (λ o. IsNextSaved g.B.Block.contents g.B.Block.layers m.state.chunk m.state.origin o c.args.snaps.now c.save_pair_at.new.snaps c.args.copies c.save_pair_at.result c.args.flights.now c.save_pair_at.new.flights) c.next_pair.ensures c.save_pair_at.ensures.saved in
    record {
      saved = subst (λ o. IsNextSavedBeside g.B.Block.contents g.B.Block.layers o c.args.snaps.now c.save_pair_at.new.snaps c.args.copies c.save_pair_at.result c.args.flights.now c.save_pair_at.new.flights) (sym c.in-Some.is) saved;
    }

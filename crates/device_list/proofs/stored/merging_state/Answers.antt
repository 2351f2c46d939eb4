use Rattle.std.proofs.Common.{sym, ◌∙◌}
use Rattle.device_list.proofs.Uses.{failed_is, merged_is}
use Rattle.device_list.proofs.stored.merging_state.Goals as goal

pub returns-then-is_merge_failed-clause-some : goal.returns-then-is_merge_failed-clause-some
returns-then-is_merge_failed-clause-some c =
    let m = c.in-Some.ensures.some in
    failed_is c.args.volume.now.rested m.0 m.1 (sym c.is_merge_failed.ensures ∙ c.if-is_merge_failed.true)

pub returns-clause-some : goal.returns-clause-some
returns-clause-some c =
    merged_is c.args.volume.now.rested c.in-Some-merging_store.store.now c.in-Some.usage c.from.result c.in-Some.ensures.some c.in-Some-merging_store.ensures.some
    (sym c.is_merge_failed.ensures ∙ c.if-is_merge_failed.false) (c.from.ensures ∙ c.sectors_of.ensures)

use Rattle.cow_merge.proofs.Steps.{stays_one, stays_both}
use Rattle.cow_merge.proofs.settling.settle.Goals as goal

pub returns-in_err-sync-2-clause-stays : goal.returns-in_err-sync-2-clause-stays
returns-in_err-sync-2-clause-stays g c =
    stays_both _ _ _ _ _ _ _ _ _ _ (stays_one _ _ _ _ _ _ _ _ c.sync.ensures.time c.sync.ensures.len c.sync.ensures.stop) (stays_one _ _ _ _ _ _ _ _ c.sync-2.ensures.time c.sync-2.ensures.len c.sync-2.ensures.stop) c.sync.ensures.len c.sync.ensures.stop

use Rattle.std.proofs.Common.{List, subst, ◌∙◌}
use Rattle.sector.specs.declared.pair.Pair.{Pair}
use Rattle.cow_salvage.proofs.Orders.{differ_if}
use Rattle.new_store_files.specs.Written.{IsRepairOf}
use Rattle.new_store_files.proofs.repairing.repair.Goals as goal

pub returns-in-Ok-write_store-clause-all : goal.returns-in-Ok-write_store-clause-all
returns-in-Ok-write_store-clause-all g c = λ b is.
    let kept = c.as_slice.ensures.value ∙ c.in-Ok-sift.ensures.kept in
    let (s, store, good, appends) = c.in-Ok-write_store.ensures.all b is in
    (s, subst (λ (ps : List Pair). IsRepairOf c.args.chunk b ps s) kept (record { store = store; good = good; once = differ_if c.as_slice.result.now c.args.chunk c.args.origin c.args.size c.args.slots.now kept }), appends)

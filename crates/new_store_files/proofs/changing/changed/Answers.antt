use Rattle.std.proofs.Common.{sym, subst}
use Rattle.new_store_files.specs.Changed.{AreChanged}
use Rattle.new_store_files.proofs.Changes.{none_changed}
use Rattle.new_store_files.proofs.changing.changed.Goals as goal

pub returns-in-Ok-compare_all-clause-all : goal.returns-in-Ok-compare_all-clause-all
returns-in-Ok-compare_all-clause-all g c = λ o a ois ais.
    c.in-Ok-compare_all.ensures.all o a ois ais (subst (AreChanged c.args.chunk o a 0) (sym c.new-pairs.ensures.items) (none_changed c.args.chunk o a))

use Rattle.audited_volume.proofs.Cut.{first_saved, marked_first, marked_none}
use Rattle.audited_volume.proofs.fold.mark.Goals as goal

pub returns-in_default-clause-marked : goal.returns-in_default-clause-marked
returns-in_default-clause-marked c = marked_none c.args.number c.args.saved.now.items (rw c.as_slice.ensures.value at c.in_default.ensures.none)

pub returns-clause-marked : goal.returns-clause-marked
returns-clause-marked c =
    let first = first_saved c.args.number c.args.saved.now.items c.in-Some.k (rw c.as_slice.ensures.value at c.in-Some.ensures.some) in
    marked_first c.args.number c.args.saved.now.items c.in-Some.k c.index_mut.result.now c.mark_one.new.saved first c.index_mut.ensures.value c.mark_one.ensures

use Rattle.audited_volume.proofs.Cut.{first_saved, not_none, put_first, under_none}
use Rattle.audited_volume.proofs.fold.put_saved.Goals as goal

pub returns-in_default-clause-put : goal.returns-in_default-clause-put
returns-in_default-clause-put c = λ array found room. absurd (not_none _ _ (under_none c.args.number c.args.saved.now.items (rw c.as_slice.ensures.value at c.in_default.ensures.none)) found)

pub returns-clause-put : goal.returns-clause-put
returns-clause-put c = λ array found room.
    let first = first_saved c.args.number c.args.saved.now.items c.in-Some.k (rw c.as_slice.ensures.value at c.in-Some.ensures.some) in
    put_first c.args.number c.args.first c.args.bytes.now array c.args.saved.now.items c.in-Some.k c.index_mut.result.now c.put_in.new.saved first c.index_mut.ensures.value found room c.put_in.ensures

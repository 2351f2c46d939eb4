use Rattle.std.proofs.Common.{ap, map, refl, ◌∙◌}
use Rattle.audited_volume.specs.Books.{shown_in}
use Rattle.audited_volume.proofs.Cut.{first_saved, not_none, out_first, under_none, without_first, without_none}
use Rattle.audited_volume.proofs.fold.take_out.Goals as goal

pub returns-in_default-clause-left : goal.returns-in_default-clause-left
returns-in_default-clause-left c = without_none c.args.number c.args.saved.now.items (rw c.as_slice.ensures.value at c.in_default.ensures.none)

pub returns-in_default-clause-found : goal.returns-in_default-clause-found
returns-in_default-clause-found c = λ array found. absurd (not_none _ _ (under_none c.args.number c.args.saved.now.items (rw c.as_slice.ensures.value at c.in_default.ensures.none)) found)

pub returns-clause-left : goal.returns-clause-left
returns-clause-left c =
    let first = first_saved c.args.number c.args.saved.now.items c.in-Some.k (rw c.as_slice.ensures.value at c.in-Some.ensures.some) in
    ap (map shown_in) c.remove.ensures.items ∙ without_first c.args.number c.args.saved.now.items c.in-Some.k first

pub returns-clause-found : goal.returns-clause-found
returns-clause-found c = λ array found.
    let first = first_saved c.args.number c.args.saved.now.items c.in-Some.k (rw c.as_slice.ensures.value at c.in-Some.ensures.some) in
    (_, refl, out_first c.args.number c.args.saved.now.items c.in-Some.k c.remove.result array first c.remove.ensures.value found)

-- The store's names that come first.
use Rattle.std.proofs.Common.{inl, inr, sym, ap, ◌∙◌, vec_len, arith}
use Rattle.std.proofs.lemmas.Bool.{eqb-true}
use Rattle.std.proofs.lemmas.List.{nil_from_length}
use Rattle.device_list.proofs.Stops.{merging_next}
use Rattle.device_list.proofs.stack_names.take_store.Goals as goal
use Rattle.device_list.proofs.stack_names.take_store.Goals.{then-before-eq0-via-then-before-eq0, then-before-eq0-via-else-before-eq0+then-is_empty}

pub returns-in-Some-clause-some : goal.returns-in-Some-clause-some
returns-in-Some-clause-some c =
    let some = sym c.take.ensures.value ∙ c.in-Some.is in
    let store = ap (λ n. n.store) (sym c.names.view_is) in
    let next = merging_next c.args.before.now c.args.merging.now c.take.new.self c.in-Some.names c.names.inside.store.items c.args.snaps.now.items some c.take.ensures.after store in
    elim c.then-before-eq0.branch [
      | then-before-eq0-via-then-before-eq0 w ↦ next (inl w.if-before-eq0.true)
      | then-before-eq0-via-else-before-eq0+then-is_empty w ↦ (let empty = eqb-true (vec_len c.args.snaps.now) 0 (sym w.is_empty.ensures ∙ w.if-is_empty.true) in next (inr (nil_from_length c.args.snaps.now.items (omega (arith, empty)))))
    ]

use Rattle.std.proofs.Common.{arith, rules, ◌≡◌, ◌<◌, [], None, true, false, sym, ap, ◌∙◌, length}
use Rattle.std.specs.Prelude.{vec_len}
use Rattle.std.proofs.lemmas.Bool.{eqb-true}
use Rattle.std.proofs.lemmas.List.{nil_from_length}
use Rattle.volume.specs.Stopped.{is_merge_next}
use Rattle.volume.proofs.Taken.{all_taken, merge_taken, snap_taken}
use Rattle.volume.proofs.stopping.Stopped.take.Goals as goal

pub returns-then-comes_next-clause-some : goal.returns-then-comes_next-clause-some
returns-then-comes_next-clause-some g c =
    let gone : c.self.inside.origin ≡ None = search rules in
    let next : is_merge_next c.self.inside.snaps.items c.self.inside.merge ≡ true = ap (λ ss. is_merge_next ss c.self.inside.merge) (sym c.as_slice.ensures.value) ∙ sym c.comes_next.ensures ∙ c.if-comes_next.true in
    rw c.into_device.ensures
    (sym c.self.view_is ∙ merge_taken c.self.inside.origin c.take.new.self c.self.inside.snaps.items c.self.inside.merge c.take-then-comes_next.new.self c.in-Some-take.merge gone c.take.ensures.after (sym c.take-then-comes_next.ensures.value ∙ c.in-Some-take.is) c.take-then-comes_next.ensures.after next)

pub returns-else-is_empty-clause-some : goal.returns-else-is_empty-clause-some
returns-else-is_empty-clause-some g c =
    let gone : c.self.inside.origin ≡ None = search rules in
    let other : is_merge_next c.self.inside.snaps.items c.self.inside.merge ≡ false = ap (λ ss. is_merge_next ss c.self.inside.merge) (sym c.as_slice.ensures.value) ∙ sym c.comes_next.ensures ∙ c.if-comes_next.false in
    let some : 0 < length c.self.inside.snaps.items = search rules in
    rw (c.into_device-else-is_empty.ensures, c.remove.ensures.items)
    (sym c.self.view_is ∙ snap_taken c.self.inside.origin c.take.new.self c.self.inside.snaps.items c.self.inside.merge c.remove.result gone c.take.ensures.after other some c.remove.ensures.value)

pub returns-then-is_empty-clause-none : goal.returns-then-is_empty-clause-none
returns-then-is_empty-clause-none g c =
    let gone : c.self.inside.origin ≡ None = search rules in
    let other : is_merge_next c.self.inside.snaps.items c.self.inside.merge ≡ false = ap (λ ss. is_merge_next ss c.self.inside.merge) (sym c.as_slice.ensures.value) ∙ sym c.comes_next.ensures ∙ c.if-comes_next.false in
    let zero : vec_len c.self.inside.snaps ≡ 0 = eqb-true (vec_len c.self.inside.snaps) 0 (sym c.is_empty.ensures ∙ c.if-is_empty.true) in
    let bare : c.self.inside.snaps.items ≡ [] = nil_from_length c.self.inside.snaps.items (omega (arith, zero)) in
    let all = all_taken c.self.inside.origin c.take.new.self c.self.inside.snaps.items c.self.inside.merge gone c.take.ensures.after bare other in
    (sym c.self.view_is ∙ all.0, all.1)

use Rattle.std.proofs.Common.{◌≡◌, ◌∙◌, ℕ, true, false, ◌+◌, sym, ap, subst, refl, take}
use Rattle.std.specs.Prelude.{Option, Some, None, is_some, not}
use Rattle.std.specs.Cmp.{unsigned_Decides}
use Rattle.std.proofs.lemmas.Slice.Eq.{slice_eq-Decides}
use Rattle.image_compare.specs.Comparisons.{IsFront}
use Rattle.image_compare.proofs.Fronts.{front_same, front_first, front_kept}
use Rattle.image_compare.proofs.piece.Front.add_sector.Goals as goal

pub returns-then-eq-clause-told : goal.returns-then-eq-clause-told
returns-then-eq-clause-told c = λ a b ours theirs h.
    let same = (slice_eq-Decides unsigned_Decides c.args.ours.now c.args.theirs.now c.eq.result c.eq.ensures).0 c.if-eq.true in
    front_same a b c.args.done c.args.self.now (sym ours ∙ same ∙ theirs) h

told_none : (first : Option ℕ) → is_some first ≡ false → first ≡ None
told_none None is = refl
told_none (Some n) is = cc

told_some : (first : Option ℕ) → is_some first ≡ true → first ≡ None → ⊥
told_some None is none = cc
told_some (Some n) is none = cc

pub returns-then-is_none-clause-told : goal.returns-then-is_none-clause-told
returns-then-is_none-clause-told c = λ a b ours theirs h.
    let none : c.args.self.now.first ≡ None = told_none c.args.self.now.first (c.is_none.ensures ∙ ap not c.if-is_none.true) in
    front_first a b c.args.done c.first_in.result c.args.self.now.differing c.first_in.ensures.inside
    (ap (take c.first_in.result) (sym ours) ∙ c.first_in.ensures.alike ∙ ap (take c.first_in.result) theirs)
    (λ same. c.first_in.ensures.other (ap (take (c.first_in.result + 1)) ours ∙ same ∙ ap (take (c.first_in.result + 1)) (sym theirs)))
    (subst (λ (f : Option ℕ). IsFront a b c.args.done (record { first = f; differing = c.args.self.now.differing })) none h)

pub returns-else-is_none-clause-told : goal.returns-else-is_none-clause-told
returns-else-is_none-clause-told c = λ a b ours theirs h.
    front_kept a b c.args.done c.args.self.now.differing c.args.self.now.first
    (told_some c.args.self.now.first (c.is_none.ensures ∙ ap not c.if-is_none.false))
    (λ same. let equal = (slice_eq-Decides unsigned_Decides c.args.ours.now c.args.theirs.now c.eq.result c.eq.ensures).1 (ours ∙ same ∙ sym theirs) in let no : true ≡ false = sym equal ∙ c.if-eq.false in cc)
    h

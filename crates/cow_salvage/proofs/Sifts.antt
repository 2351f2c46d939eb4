-- Pairs that are sifted one by one.
use Rattle.std.proofs.Common.{◌≡◌, ◌==◌, ℕ, ◌+◌, ◌<◌, ◌||◌, Bool, true, false, cond, List, [], ◌∷◌, ◌++◌, length, get_or, take, refl, ap, ◌∙◌, sym, Option}
use Rattle.std.specs.Prelude.{fold}
use Rattle.std.proofs.Math.Bool.{or-false, or-true}
use Rattle.std.proofs.lemmas.List.{take_more}
use Rattle.std.proofs.lemmas.List.Folds.{list_any-append}
use Rattle.std.proofs.lemmas.List.Sums.{fold_push}
use Rattle.sector.specs.declared.pair.Pair.{Pair}
use Rattle.cow_image.specs.declared.fault.Fault.{Fault}
use Rattle.cow_image.specs.Judged.{stands_in}
use Rattle.cow_salvage.specs.declared.using.Slot.{Slot}
use Rattle.cow_salvage.specs.Kept.{Sifted, why_skipped, sifted_as, sifted_by, sifted_more, sifted}

cond_or : (here was : Bool) → cond here true was ≡ (was || here)
cond_or true was = sym (or-true was)
cond_or false was = sym (or-false was)

-- what a set of numbers holds, once one more is put into it
pub stands_push : (number : Pair → ℕ) (kept : List Pair) (pair : Pair) (q : ℕ) (now was : Bool) → now ≡ cond (number pair == q) true was → was ≡ stands_in number kept q → now ≡ stands_in number (kept ++ pair ∷ []) q
stands_push number kept pair q now was put held =
    put ∙ cond_or (number pair == q) was ∙ ap (λ b. b || (number pair == q)) held
    ∙ sym (list_any-append (λ p. number p == q) kept (pair ∷ []) ∙ ap (λ b. stands_in number kept q || b) (or-false (number pair == q)))

-- a slot more
pub sift_step : (chunk origin size : ℕ) (slots : List Slot) (i : ℕ) (d : Slot) (kept : List Pair) (skipped : List Fault) (why : Option Fault) → i < length slots → kept ≡ (sifted chunk origin size (take i slots)).kept → skipped ≡ (sifted chunk origin size (take i slots)).skipped → why ≡ why_skipped chunk origin size kept (get_or slots i d) → sifted_by why (sifted_as kept skipped) (get_or slots i d).pair ≡ sifted chunk origin size (take (i + 1) slots)
sift_step chunk origin size slots i d kept skipped why lt k s w =
    let next : Slot = get_or slots i d in
    ap (λ y. sifted_by y (sifted_as kept skipped) next.pair) w
    ∙ ap (λ x. sifted_by (why_skipped chunk origin size x next) (sifted_as x skipped) next.pair) k
    ∙ ap (λ y. sifted_by (why_skipped chunk origin size (sifted chunk origin size (take i slots)).kept next) (sifted_as (sifted chunk origin size (take i slots)).kept y) next.pair) s
    ∙ sym (ap (λ xs. sifted chunk origin size xs) (take_more slots i d lt) ∙ fold_push (sifted_more chunk origin size) (sifted_as [] []) (take i slots) next)

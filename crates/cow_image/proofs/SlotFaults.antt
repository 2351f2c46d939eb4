-- The faults of pairs, slot by slot.
use Rattle.std.proofs.Common.{◌≡◌, ◌==◌, ℕ, ◌+◌, ◌<◌, ◌≤◌, ◌||◌, Bool, true, false, cond, List, [], ◌∷◌, ◌++◌, length, get_or, take, drop, arith, refl, ap, ◌∙◌, sym, append_assoc}
use Rattle.std.proofs.Math.Bool.{or-false, or-true}
use Rattle.std.proofs.lemmas.List.{take_more, drop_more, drop_all, append-nil}
use Rattle.std.proofs.lemmas.List.Folds.{list_any-append}
use Rattle.sector.specs.declared.pair.Pair.{Pair}
use Rattle.cow_image.specs.declared.fault.Fault.{Fault}
use Rattle.cow_image.specs.Judged.{slot_faults, faults_after, faults_of, stands_in, IsFirstFault}

-- the faults of the next slot, and of those after it
pub faults_step : (chunk origin size : ℕ) (pairs : List Pair) (i : ℕ) (d : Pair) (told : List Fault) → i < length pairs → told ++ faults_after chunk origin size (take i pairs) (drop i pairs) ≡ faults_of chunk origin size pairs → (told ++ slot_faults chunk origin size (take i pairs) (get_or pairs i d)) ++ faults_after chunk origin size (take (i + 1) pairs) (drop (i + 1) pairs) ≡ faults_of chunk origin size pairs
faults_step chunk origin size pairs i d told lt all =
    append_assoc told (slot_faults chunk origin size (take i pairs) (get_or pairs i d)) (faults_after chunk origin size (take (i + 1) pairs) (drop (i + 1) pairs))
    ∙ ap (λ xs. told ++ xs) (sym (ap (λ xs. faults_after chunk origin size (take i pairs) xs) (drop_more pairs i d lt)
    ∙ ap (λ xs. slot_faults chunk origin size (take i pairs) (get_or pairs i d) ++ faults_after chunk origin size xs (drop (i + 1) pairs)) (sym (take_more pairs i d lt))))
    ∙ all

-- no slot is left
pub faults_end : (chunk origin size : ℕ) (pairs : List Pair) (i : ℕ) (told : List Fault) → length pairs ≤ i → told ++ faults_after chunk origin size (take i pairs) (drop i pairs) ≡ faults_of chunk origin size pairs → told ≡ faults_of chunk origin size pairs
faults_end chunk origin size pairs i told past all =
    sym (append-nil told) ∙ ap (λ xs. told ++ xs) (sym (ap (λ xs. faults_after chunk origin size (take i pairs) xs) (drop_all i pairs past))) ∙ all

-- the numbers of one pair more
stands_more : (number : Pair → ℕ) (pairs : List Pair) (i q : ℕ) (d : Pair) → i < length pairs → stands_in number (take (i + 1) pairs) q ≡ (stands_in number (take i pairs) q || (number (get_or pairs i d) == q))
stands_more number pairs i q d lt =
    ap (λ xs. stands_in number xs q) (take_more pairs i d lt)
    ∙ list_any-append (λ pair. number pair == q) (take i pairs) (get_or pairs i d ∷ [])
    ∙ ap (λ b. stands_in number (take i pairs) q || b) (or-false (number (get_or pairs i d) == q))

cond_or : (here was : Bool) → cond here true was ≡ (was || here)
cond_or true was = sym (or-true was)
cond_or false was = sym (or-false was)

-- what a set of numbers holds, once one more is put into it
pub seen_more : (number : Pair → ℕ) (pairs : List Pair) (i q : ℕ) (d : Pair) (now was : Bool) → i < length pairs → now ≡ cond (number (get_or pairs i d) == q) true was → was ≡ stands_in number (take i pairs) q → now ≡ stands_in number (take (i + 1) pairs) q
seen_more number pairs i q d now was lt put held =
    put ∙ cond_or (number (get_or pairs i d) == q) was ∙ ap (λ b. b || (number (get_or pairs i d) == q)) held ∙ sym (stands_more number pairs i q d lt)

-- a list that has an item begins with its first
pub head_is : (told : List Fault) (d : Fault) → 0 < length told → (more : List Fault) × (told ≡ get_or told 0 d ∷ more)
head_is [] d some = absurd (omega arith)
head_is (fault ∷ told) d some = (told, refl)

-- the first of faults that were found in these pairs
pub first_is : (chunk origin size : ℕ) (all pairs : List Pair) (told rest more : List Fault) (fault : Fault) → all ≡ pairs → told ≡ fault ∷ more → told ++ rest ≡ faults_of chunk origin size pairs → IsFirstFault chunk origin size all fault
first_is chunk origin size all pairs told rest more fault same begins front =
    (more ++ rest, ap (faults_of chunk origin size) same ∙ sym front ∙ ap (λ xs. xs ++ rest) begins)

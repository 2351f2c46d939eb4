-- One write after another.
use Rattle.std.proofs.Common.{◌≡◌, ℕ, List, [], ◌++◌, refl, sym, ap, ◌∙◌, Option, Some, None, append_assoc}
use Rattle.std.proofs.lemmas.List.{append-nil}
use Rattle.std.specs.Io.KnownBytes.{Appends}

-- two writes, one after the other, write both texts
pub appends_more : (a b c : Option (List ℕ)) (s t : List ℕ) → Appends a b s → Appends b c t → Appends a c (s ++ t)
appends_more None b c s t p q = tt
appends_more (Some xs) None c s t p q = absurd p
appends_more (Some xs) (Some ys) None s t p q = absurd q
appends_more (Some xs) (Some ys) (Some zs) s t p q = q ∙ ap (λ u. u ++ t) p ∙ append_assoc xs s t

-- From old, now was written so far, and with what is left the writer will hold all.
abbrev pub WritesOn : Option (List ℕ) → Option (List ℕ) → List ℕ → List ℕ → Type 0
WritesOn None now left all = Unit {0}
WritesOn (Some xs) None left all = ⊥
WritesOn (Some xs) (Some ys) left all = ys ++ left ≡ xs ++ all

-- nothing is written yet, and all is left
pub starts : (a : Option (List ℕ)) (all : List ℕ) → WritesOn a a all all
starts None all = tt
starts (Some xs) all = refl

-- one more write takes its text from what is left
pub writes_on : (a b c : Option (List ℕ)) (s left left' all : List ℕ) → WritesOn a b left all → left ≡ s ++ left' → Appends b c s → WritesOn a c left' all
writes_on None b c s left left' all p e q = tt
writes_on (Some xs) None c s left left' all p e q = absurd p
writes_on (Some xs) (Some ys) None s left left' all p e q = absurd q
writes_on (Some xs) (Some ys) (Some zs) s left left' all p e q = ap (λ u. u ++ left') q ∙ append_assoc ys s left' ∙ ap (λ u. ys ++ u) (sym e) ∙ p

-- with nothing left, all is written
pub ends : (a b : Option (List ℕ)) (left all : List ℕ) → WritesOn a b left all → left ≡ [] → Appends a b all
ends None b left all p e = tt
ends (Some xs) None left all p e = absurd p
ends (Some xs) (Some ys) left all p e = sym (append-nil ys) ∙ ap (λ u. ys ++ u) (sym e) ∙ p

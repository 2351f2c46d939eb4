-- Rows that grow at their end and are taken from their front, each item at its own number.
use Rattle.std.proofs.Common.{◌≡◌, ℕ, suc, ◌+◌, ◌<◌, ◌≤◌, List, [], ◌∷◌, ◌++◌, length, get_or, sym, ap, ◌∙◌, subst, arith, below_more, length-append}
use Rattle.std.specs.List.{remove}
use Rattle.std.proofs.Math.ListN.{get_or-append}
use Rattle.std.proofs.Math.Seq.{get_or-append_seam}

-- the first items are as they should be
abbrev pub AreUpTo : {A : Type 0} → (ℕ → A → Type 0) → ℕ → List A → Type 0
AreUpTo {A = A} P n xs = (k : ℕ) (d : A) → k < n → P k (get_or xs k d)

-- all items are, the first of which has this number
abbrev pub AreFrom : {A : Type 0} → (ℕ → A → Type 0) → ℕ → List A → Type 0
AreFrom {A = A} P n xs = (k : ℕ) (d : A) → k < length xs → P (n + k) (get_or xs k d)

pub grown : {A : Type 0} (P : ℕ → A → Type 0) (n : ℕ) (xs : List A) (x : A) → length xs ≡ n → AreUpTo P n xs → P n x → AreUpTo P (n + 1) (xs ++ x ∷ [])
grown P n xs x long all here k d =
    below_more (λ j. P j (get_or (xs ++ x ∷ []) j d)) n
    (λ j low. subst (P j) (sym (get_or-append xs (x ∷ []) d j (omega (arith, long, low)))) (all j d low))
    (subst (P n) (sym (ap (λ m. get_or (xs ++ x ∷ []) m d) (sym long) ∙ get_or-append_seam xs x [] d)) here)
    k

pub taken : {A : Type 0} (P : ℕ → A → Type 0) (n : ℕ) (xs : List A) → 0 < length xs → AreFrom P n xs → AreFrom P (n + 1) (remove xs 0)
taken P n [] some all k d low = absurd (omega (arith, some))
taken P n (x ∷ xs) some all k d low = subst (λ m. P m (get_or xs k d)) (omega arith) (all (suc k) d (omega (arith, low)))

-- the first of them
pub first_is : {A : Type 0} (P : ℕ → A → Type 0) (n : ℕ) (xs : List A) (x : A) → 0 < length xs → x ≡ get_or xs 0 x → AreFrom P n xs → P n x
first_is P n xs x some is all = subst (λ m. P m x) (omega arith) (subst (P (n + 0)) (sym is) (all 0 x some))

-- all of them, from the first number on
pub all_from : {A : Type 0} (P : ℕ → A → Type 0) (n : ℕ) (xs : List A) → length xs ≡ n → AreUpTo P n xs → AreFrom P 0 xs
all_from P n xs long all k d low = subst (λ m. P m (get_or xs k d)) (omega arith) (all k d (omega (arith, long, low)))

-- none of them yet
pub none_yet : {A : Type 0} (P : ℕ → A → Type 0) (xs : List A) → AreUpTo P 0 xs
none_yet P xs k d low = absurd (omega (arith, low))

pub long_more : {A : Type 0} (xs : List A) (x : A) (n : ℕ) → length xs ≡ n → length (xs ++ x ∷ []) ≡ n + 1
long_more xs x n long = let h = length-append xs (x ∷ []) in omega (arith, h, long)

pub one_less : {A : Type 0} (xs : List A) (n v : ℕ) → 0 < length xs → length xs + n ≡ v → length (remove xs 0) + (n + 1) ≡ v
one_less [] n v some long = absurd (omega (arith, some))
one_less (x ∷ xs) n v some long = omega (arith, long)

pub none_done : (left volumes : ℕ) → left ≡ volumes → left + 0 ≡ volumes
none_done left volumes long = omega (arith, long)

-- one more is left before the end
pub some_left : (counter end len all volumes left : ℕ) → counter < end → end ≡ len → len ≡ all → all ≡ volumes → left + counter ≡ volumes → 0 < left
some_left counter end len all volumes left low a b c d = omega (arith, low, a, b, c, d)

pub below_end : (counter end len all volumes : ℕ) → counter < end → end ≡ len → len ≡ all → all ≡ volumes → counter < volumes
below_end counter end len all volumes low a b c = omega (arith, low, a, b, c)

-- at the end each is done
pub at_end : (k counter end len all volumes : ℕ) → end ≤ counter → end ≡ len → len ≡ all → all ≡ volumes → k < volumes → k < counter
at_end k counter end len all volumes last a b c low = omega (arith, last, a, b, c, low)

-- room for as many as there are
pub has_room : (volumes count len room : ℕ) → volumes ≡ count → len ≡ count → len ≤ room → volumes ≤ room
has_room volumes count len room a b c = omega (arith, a, b, c)

-- Sums over lists that change in one place.
use Rattle.std.proofs.Common.{◌≡◌, ℕ, zero, suc, ◌<◌, ◌≤◌, Bool, true, false, List, [], ◌∷◌, length, get_or, drop, map, refl, arith, cond}
use Rattle.std.specs.Prelude.{Some, None, position, nat_lt}
use Rattle.std.specs.List.{sum_by, remove, position_or_len}
use Rattle.std.proofs.lemmas.List.Sums.{sum_by-cons, fails_before_first}

pub remove_le : {X : Type 0} (f : X → ℕ) (xs : List X) (i : ℕ) → sum_by f (remove xs i) ≤ sum_by f xs
remove_le f [] zero = omega arith
remove_le f [] (suc i) = omega arith
remove_le f (x ∷ xs) zero = let all = sum_by-cons f x xs in omega (arith, all)
remove_le f (x ∷ xs) (suc i) =
    let less = sum_by-cons f x (remove xs i) in
    let all = sum_by-cons f x xs in
    let rest = remove_le f xs i in
    omega (arith, less, all, rest)

pub ones : {X : Type 0} (xs : List X) → sum_by (λ x. 1) xs ≡ length xs
ones [] = refl
ones (x ∷ xs) = let all = sum_by-cons (λ x. 1) x xs in let rest = ones xs in omega (arith, all, rest)

pub same_sum : {X : Type 0} (f g : X → ℕ) (xs : List X) → ((x : X) → f x ≡ g x) → sum_by f xs ≡ sum_by g xs
same_sum f g [] same = refl
same_sum f g (x ∷ xs) same = let a = sum_by-cons f x xs in let b = sum_by-cons g x xs in let rest = same_sum f g xs same in omega (arith, a, b, rest, same x)

pub no_sum : {X : Type 0} (f : X → ℕ) (xs : List X) → ((k : ℕ) (d : X) → k < length xs → f (get_or xs k d) ≡ 0) → sum_by f xs ≡ 0
no_sum f [] none = refl
no_sum f (x ∷ xs) none =
    let all = sum_by-cons f x xs in
    let first : f x ≡ 0 = none 0 x (omega arith) in
    let rest = no_sum f xs (λ k d lt. none (suc k) d (omega arith)) in
    omega (arith, all, first, rest)

none_at : (b : Bool) (n : ℕ) → cond b (Some n) None ≡ None → b ≡ false
none_at true n none = absurd (cc)
none_at false n none = refl

-- where no element passes
pub none_passes : {X : Type 0} (p : X → Bool) (xs : List X) → position p xs ≡ None → (k : ℕ) (d : X) → k < length xs → p (get_or xs k d) ≡ false
none_passes p xs none k d lt =
    let past : nat_lt (position_or_len p xs) (length xs) ≡ false = none_at (nat_lt (position_or_len p xs) (length xs)) (position_or_len p xs) none in
    let far : length xs ≤ position_or_len p xs = grind arith in
    fails_before_first p xs k d (omega (arith, far, lt))

pub drop_le : {X : Type 0} (f : X → ℕ) (k : ℕ) (xs : List X) → sum_by f (drop k xs) ≤ sum_by f xs
drop_le f zero xs = omega arith
drop_le f (suc k) [] = omega arith
drop_le f (suc k) (x ∷ xs) = let all = sum_by-cons f x xs in let rest = drop_le f k xs in omega (arith, all, rest)

pub map_sum : {X : Type 0} (f : X → ℕ) (g : X → X) (xs : List X) → ((x : X) → f (g x) ≡ f x) → sum_by f (map g xs) ≡ sum_by f xs
map_sum f g [] same = refl
map_sum f g (x ∷ xs) same =
    let a = sum_by-cons f (g x) (map g xs) in
    let b = sum_by-cons f x xs in
    let rest = map_sum f g xs same in
    omega (arith, a, b, rest, same x)

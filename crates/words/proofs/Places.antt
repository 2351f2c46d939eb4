-- Where a byte stands first, by what is before it in 16 bytes after those in which it does not stand.
use Rattle.std.proofs.Common.{◌≡◌, ◌≢◌, ℕ, ◌+◌, ◌-◌, ◌<◌, ◌≤◌, Bool, true, false, cond, List, length, take, drop, eqb, ltb, Some, None, refl, sym, ap, ◌∙◌, arith, eq-eqb}
use Rattle.std.specs.Prelude.{nat_lt, not, position}
use Rattle.std.specs.List.{position_or_len}
use Rattle.std.proofs.lemmas.Bool.{lt-ltb}
use Rattle.std.proofs.lemmas.List.{take_rest, length-drop}
use Rattle.std.proofs.lemmas.List.Folds.{prefix_len-append}
use Rattle.std.proofs.lemmas.List.Sums.{prefix_len-le-length}
use Rattle.std.proofs.lemmas.Simd.{chunk-drop, length-chunk}
use borrow.Author.Tests.{tests}
use Rattle.words.proofs.Bools.{no_more, other}

-- how many bytes stand before the first that is b
abbrev before : ℕ → List ℕ → ℕ
before b xs = position_or_len (λ x. eqb x b) xs

parted : (b : ℕ) (xs : List ℕ) (at : ℕ) → before b (drop at xs) ≡ cond (eqb (before b (take 16 (drop at xs))) (length (take 16 (drop at xs)))) (length (take 16 (drop at xs)) + before b (drop (at + 16) xs)) (before b (take 16 (drop at xs)))
parted b xs at = ap (before b) (chunk-drop at 16 xs) ∙ prefix_len-append (λ x. not (eqb x b)) (take 16 (drop at xs)) (drop (at + 16) xs)

-- it stands before none of the bytes at the front
pub none_before : (b : ℕ) (xs : List ℕ) → before b xs ≡ 0 + before b (drop 0 xs)
none_before b xs = omega arith

-- nor in the next 16
pub none_here : (b : ℕ) (xs : List ℕ) (at : ℕ) → at + 16 ≤ length xs → before b xs ≡ at + before b (drop at xs) → 16 ≤ before b (take 16 (drop at xs)) → before b xs ≡ at + 16 + before b (drop (at + 16) xs)
none_here b xs at room is none =
    let long = length-chunk at 16 xs room in
    let within = prefix_len-le-length (λ x. not (eqb x b)) (take 16 (drop at xs)) in
    let all : before b (take 16 (drop at xs)) ≡ length (take 16 (drop at xs)) = omega (arith, long, within, none) in
    let next = parted b xs at ∙ ap (λ t. cond t (length (take 16 (drop at xs)) + before b (drop (at + 16) xs)) (before b (take 16 (drop at xs)))) (eq-eqb _ _ all) in
    omega (arith, is, next, long)

is_at : (b : ℕ) (xs : List ℕ) (i : ℕ) → before b xs ≡ i → i < length xs → Some i ≡ position (λ x. eqb x b) xs
is_at b xs i is within =
    sym (ap (λ n. cond (nat_lt n (length xs)) (Some n) None) is ∙ ap (λ t. cond t (Some i) None) (lt-ltb i (length xs) within))

-- it stands in them
pub place_here : (b : ℕ) (xs : List ℕ) (at i : ℕ) → at + 16 ≤ length xs → before b xs ≡ at + before b (drop at xs) → i ≡ before b (take 16 (drop at xs)) → i < 16 → Some (at + i) ≡ position (λ x. eqb x b) xs
place_here b xs at i room is here less =
    let long = length-chunk at 16 xs room in
    let ne : before b (take 16 (drop at xs)) ≢ length (take 16 (drop at xs)) = λ e. absurd (omega (arith, long, here, less, e)) in
    let next = parted b xs at ∙ ap (λ t. cond t (length (take 16 (drop at xs)) + before b (drop (at + 16) xs)) (before b (take 16 (drop at xs)))) (other _ _ ne) in
    is_at b xs (at + i) (omega (arith, is, next, here)) (omega (arith, room, less))

some_at : (b : Bool) (n i : ℕ) → cond b (Some n) None ≡ Some i → (b ≡ true) × (n ≡ i)
some_at true n i is = (refl, cc)
some_at false n i is = absurd cc

none_at : (b : Bool) (n : ℕ) → cond b (Some n) None ≡ None → b ≡ false
none_at true n is = absurd cc
none_at false n is = refl

less_at : (n m : ℕ) → ltb n m ≡ true → n < m
less_at n m is = grind (arith, tests, is)

no_less : (n m : ℕ) → ltb n m ≡ false → m ≤ n
no_less n m is = grind (arith, tests, is)

-- it stands past them
pub place_past : (b : ℕ) (xs : List ℕ) (at i : ℕ) → before b xs ≡ at + before b (drop at xs) → position (λ x. eqb x b) (take (length xs - at) (drop at xs)) ≡ Some i → Some (at + i) ≡ position (λ x. eqb x b) xs
place_past b xs at i is past =
    let found = some_at (ltb (before b (drop at xs)) (length (drop at xs))) (before b (drop at xs)) i (ap (position (λ x. eqb x b)) (sym (take_rest xs at)) ∙ past) in
    let less = less_at (before b (drop at xs)) (length (drop at xs)) found.0 in
    is_at b xs (at + i) (omega (arith, is, found.1)) (omega (arith, found.1, less, length-drop at xs))

-- it stands nowhere
pub no_place : (b : ℕ) (xs : List ℕ) (at : ℕ) → at ≤ length xs → before b xs ≡ at + before b (drop at xs) → position (λ x. eqb x b) (take (length xs - at) (drop at xs)) ≡ None → None ≡ position (λ x. eqb x b) xs
no_place b xs at room is past =
    let none = none_at (ltb (before b (drop at xs)) (length (drop at xs))) (before b (drop at xs)) (ap (position (λ x. eqb x b)) (sym (take_rest xs at)) ∙ past) in
    let end = no_less (before b (drop at xs)) (length (drop at xs)) none in
    sym (ap (λ t. cond t (Some (before b xs)) None) (no_more (before b xs) (length xs) (omega (arith, is, end, length-drop at xs))))

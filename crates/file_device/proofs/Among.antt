-- A piece is found among those that were read ahead.
use Rattle.std.proofs.Common.{◌≡◌, ℕ, ◌+◌, ◌*◌, ◌-◌, ◌<◌, ◌≤◌, ◌∙◌, Bool, true, false, cond, List, ◌∷◌, length, get_or, refl, ap, subst, arith}
use Rattle.std.specs.Prelude.{◌||◌, ◌==◌, nat_lt, if◌then◌else◌, Some, None}
use Rattle.std.specs.List.{All, list_any, position, position_or_len}
use Rattle.std.proofs.lemmas.Bool.Decides.{nat_tests}
use Rattle.std.proofs.lemmas.List.{places, same_lists}
use Rattle.std.proofs.lemmas.List.Elements.{All-head, All-tail}
use Rattle.std.proofs.lemmas.List.Folds.{list_any_none}
use Rattle.std.proofs.lemmas.List.Sums.{fails_before_first}
use Rattle.sector.specs.Bytes.{sectors_at}
use Rattle.device.specs.Layers.{is_within}
use Rattle.file_device.specs.declared.piece.Piece.{Piece}
use Rattle.file_device.specs.Pieces.{IsPieceOf, has_all}

pub record Within (first count from many : ℕ) : Type 0 where
  pub low : from ≤ first
  pub high : first + count ≤ from + many

pub within : (first count from many : ℕ) → is_within first count (from, many) ≡ true → Within first count from many
within first count from many is = record { low = grind (arith, nat_tests); high = grind (arith, nat_tests) }

-- one that has some sectors is there
not_none : (first count from many : ℕ) → 0 < count → is_within first count (from, many) ≡ true → (many == 0) ≡ false
not_none first count from many some is = let w = within first count from many is in let some_there : 0 < many = omega (arith, w.low, w.high, some) in grind (arith, nat_tests, some_there)

one_more : (b : Bool) (p : Piece) (xs : List Piece) → b ≡ false → (if b then xs else p ∷ xs) ≡ p ∷ xs
one_more false p xs is = refl
one_more true p xs is = absurd (let no : ⊥ = cc in no)

pub near_of : (P : Piece → Type 0) (p : Piece) (xs : List Piece) (first count : ℕ) → 0 < count → has_all first count p ≡ true → All P (if p.count == 0 then xs else p ∷ xs) → P p
near_of P p xs first count some has all =
    All-head P p xs (subst (All P) (one_more (p.count == 0) p xs (not_none first count p.first p.count some has)) all)

pub near_any : (p : Piece) (xs : List Piece) (first count : ℕ) → 0 < count → has_all first count p ≡ true → list_any (has_all first count) (if p.count == 0 then xs else p ∷ xs) ≡ true
near_any p xs first count some has =
    ap (list_any (has_all first count)) (one_more (p.count == 0) p xs (not_none first count p.first p.count some has)) ∙ ap (λ b. b || list_any (has_all first count) xs) has

pub more_of : (P : Piece → Type 0) (b : Bool) (p : Piece) (xs : List Piece) → All P (if b then xs else p ∷ xs) → All P xs
more_of P true p xs all = all
more_of P false p xs all = All-tail P p xs all

or_true : (b : Bool) → (b || true) ≡ true
or_true true = refl
or_true false = refl

pub more_any : (t : Piece → Bool) (b : Bool) (p : Piece) (xs : List Piece) → list_any t xs ≡ true → list_any t (if b then xs else p ∷ xs) ≡ true
more_any t true p xs is = is
more_any t false p xs is = ap (λ b. t p || b) is ∙ or_true (t p)

pub none_any : (t : Piece → Bool) (b : Bool) (p : Piece) (xs : List Piece) → t p ≡ false → list_any t xs ≡ false → list_any t (if b then xs else p ∷ xs) ≡ false
none_any t true p xs one is = is
none_any t false p xs one is = ap (λ b. b || list_any t xs) one ∙ is

pub rest_any : (t : Piece → Bool) (b : Bool) (p : Piece) (xs : List Piece) → t p ≡ false → list_any t (if b then xs else p ∷ xs) ≡ list_any t xs
rest_any t true p xs one = refl
rest_any t false p xs one = ap (λ b. b || list_any t xs) one

no_place : (b : Bool) (i : ℕ) → cond b (Some i) None ≡ None → b ≡ false
no_place true i is = absurd (let no : ⊥ = cc in no)
no_place false i is = refl

pub position_none : (t : Piece → Bool) (xs : List Piece) → position t xs ≡ None → list_any t xs ≡ false
position_none t xs is =
    let past : nat_lt (position_or_len t xs) (length xs) ≡ false = no_place _ _ is in
    let long : length xs ≤ position_or_len t xs = grind (arith, nat_tests, past) in
    list_any_none t xs (λ k d lt. fails_before_first t xs k d (omega (arith, lt, long)))

-- sectors of a piece
pub part_of : (b : List ℕ) (n : ℕ) (p : Piece) (first count : ℕ) → length b ≡ 512 * n → 512 * p.count ≤ length p.bytes.items → IsPieceOf b n p → has_all first count p ≡ true
    → sectors_at p.bytes.items (first - p.first) count ≡ sectors_at b first count
part_of b n p first count long room is has =
    let w = within first count p.first p.count has in
    same_lists _ _ (grind (arith, places, w.low, w.high, long, room, is.inside)) (λ k d h.
    let small : k < 512 * count = grind (arith, places) in
    let in_piece : 512 * (first - p.first) + k < 512 * p.count = omega (arith, small, w.low, w.high) in
    let at = ap (λ xs. get_or xs (512 * (first - p.first) + k) 0) is.same in
    let place : 512 * p.first + (512 * (first - p.first) + k) ≡ 512 * first + k = omega (arith, w.low) in
    let one : get_or p.bytes.items (512 * (first - p.first) + k) 0 ≡ get_or b (512 * p.first + (512 * (first - p.first) + k)) 0 = grind (arith, places, at, in_piece, room) in
    let moved : get_or p.bytes.items (512 * (first - p.first) + k) 0 ≡ get_or b (512 * first + k) 0 = one ∙ ap (λ i. get_or b i 0) place in
    grind (arith, places, moved, small))

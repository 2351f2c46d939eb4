-- Names of 16 bytes, zero past the name.
use Rattle.std.proofs.Common.{◌≡◌, ℕ, ◌+◌, ◌-◌, ◌*◌, ◌<◌, ◌≤◌, true, false, cond, List, [], ◌∷◌, ◌++◌, length, get_or, take, drop, drop-cons, add-one, eqb, refl, sym, ap, ◌∙◌, arith, eq-eqb, inl, inr}
use Rattle.std.specs.Prelude.{◌&&◌, not, replicate}
use Rattle.std.specs.List.{list_all}
use Rattle.std.specs.Str.{bytes_eq}
use Rattle.std.proofs.Math.ListN.{set}
use Rattle.std.proofs.Math.Seq.{take-length}
use Rattle.std.proofs.lemmas.Bool.{cases_eq}
use Rattle.std.proofs.lemmas.Bool.Decides.{same_from_decides}
use Rattle.std.proofs.lemmas.List.{drop-drop, drop-replicate, drop-set-lt, length-take, take-append-drop, take_more, take_more_set}
use Rattle.std.proofs.lemmas.Slice.Eq.{bytes_eq-Decides}
use borrow.Author.Tests.{tests}
use lib.Lanes.{mask_l, zip2}
use Rattle.words.proofs.Bools.{other}
use Rattle.words.specs.Names.{is_name_byte}

doubled : (n : ℕ) → eqb (0 + 2 * n) 0 ≡ eqb n 0
doubled n = grind (arith, tests)

odd : (n : ℕ) → eqb (1 + 2 * n) 0 ≡ false
odd n = grind (arith, tests)

-- no lane of two vectors differs just where they are the same
pub same_lanes : (xs ys : List ℕ) → length xs ≡ length ys → eqb (mask_l (zip2 (λ x y. not (eqb x y)) xs ys)) 0 ≡ bytes_eq xs ys
same_lanes [] [] long = refl
same_lanes [] (y ∷ ys) long = absurd (omega (arith, long))
same_lanes (x ∷ xs) [] long = absurd (omega (arith, long))
same_lanes (x ∷ xs) (y ∷ ys) long =
    let more = same_lanes xs ys (omega (arith, long)) in
    elim (eqb x y) as (λ t. eqb (cond (not t) 1 0 + 2 * mask_l (zip2 (λ x y. not (eqb x y)) xs ys)) 0 ≡ (t && bytes_eq xs ys)) [
      | true ↦ doubled (mask_l (zip2 (λ x y. not (eqb x y)) xs ys)) ∙ more
      | false ↦ odd (mask_l (zip2 (λ x y. not (eqb x y)) xs ys))
    ]

whole : (n : ℕ) (a : List ℕ) → drop n a ≡ replicate (16 - n) 0 → a ≡ take n a ++ replicate (16 - n) 0
whole n a zero = sym (take-append-drop n a) ∙ ap (λ t. take n a ++ t) zero

-- names are the same where all 16 bytes are
pub same_padded : (n m : ℕ) (a b : List ℕ) → n ≤ 16 → m ≤ 16 → length a ≡ 16 → length b ≡ 16 → drop n a ≡ replicate (16 - n) 0 → drop m b ≡ replicate (16 - m) 0 → (eqb n m && bytes_eq a b) ≡ bytes_eq (take n a) (take m b)
same_padded n m a b few less long also zero zeros = elim (cases_eq n m) [
  | inl e ↦ ap (λ t. t && bytes_eq a b) (eq-eqb n m e) ∙ same_from_decides (bytes_eq a b) (bytes_eq (take n a) (take m b)) (bytes_eq-Decides a b) (
    (λ is. whole n a zero ∙ ap (λ t. t ++ replicate (16 - n) 0) ((bytes_eq-Decides (take n a) (take m b)).0 is) ∙ ap (λ k. take m b ++ replicate (16 - k) 0) e ∙ sym (whole m b zeros)),
    (λ is. (bytes_eq-Decides (take n a) (take m b)).1 (ap (take n) is ∙ ap (λ k. take k b) e)),
  )
  | inr ne ↦ ap (λ t. t && bytes_eq a b) (other n m ne) ∙ elim (bytes_eq (take n a) (take m b)) as (λ t. bytes_eq (take n a) (take m b) ≡ t → false ≡ t) [
    | true ↦ λ is. absurd (ne (let same = ap length ((bytes_eq-Decides (take n a) (take m b)).0 is) in let one = length-take n a in let two = length-take m b in omega (arith, same, one, two, few, less, long, also)))
    | false ↦ λ is. refl
  ] refl
]

cut : (word : List ℕ) (i : ℕ) → i < length word → drop i word ≡ get_or word i 0 ∷ drop (i + 1) word
cut word i lt = rw (add-one, drop-cons word i 0 lt)

-- a byte of a name leaves it to the others whether all are
pub name_here : (word : List ℕ) (i : ℕ) → i < length word → is_name_byte (get_or word i 0) ≡ true → list_all is_name_byte (drop (i + 1) word) ≡ list_all is_name_byte (drop i word)
name_here word i lt is = sym (ap (list_all is_name_byte) (cut word i lt) ∙ ap (λ b. b && list_all is_name_byte (drop (i + 1) word)) is)

-- and another byte decides it
pub no_name_here : (word : List ℕ) (i : ℕ) → i < length word → is_name_byte (get_or word i 0) ≡ false → list_all is_name_byte (drop i word) ≡ false
no_name_here word i lt none = ap (list_all is_name_byte) (cut word i lt) ∙ ap (λ b. b && list_all is_name_byte (drop (i + 1) word)) none

-- a byte that is put in its place stands behind those before it
pub front_here : (word bytes : List ℕ) (i : ℕ) → i < length word → i < length bytes → take i bytes ≡ take i word → take (i + 1) (set bytes i (get_or word i 0)) ≡ take (i + 1) word
front_here word bytes i lt room is = take_more_set bytes i (get_or word i 0) room ∙ ap (λ t. t ++ get_or word i 0 ∷ []) is ∙ sym (take_more word i 0 lt)

-- and zeros past it
pub back_here : (bytes : List ℕ) (i b : ℕ) → drop i bytes ≡ replicate (16 - i) 0 → drop (i + 1) (set bytes i b) ≡ replicate (16 - (i + 1)) 0
back_here bytes i b is =
    let same : 16 - i - 1 ≡ 16 - (i + 1) = omega arith in
    drop-set-lt (i + 1) bytes i b (omega arith) ∙ sym (drop-drop 1 i bytes) ∙ ap (drop 1) is ∙ drop-replicate 1 (16 - i) 0 ∙ ap (λ n. replicate n 0) same

-- at last all stand there
pub front_all : (word bytes : List ℕ) (n : ℕ) → n ≡ length word → take n bytes ≡ take n word → take (length word) bytes ≡ word
front_all word bytes n long is = ap (λ k. take k bytes) (sym long) ∙ is ∙ ap (λ k. take k word) long ∙ take-length word

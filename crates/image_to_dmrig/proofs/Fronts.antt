-- Fronts of the lines of an image.
use Rattle.std.proofs.Common.{◌≡◌, inl, inr, ℕ, zero, suc, ◌+◌, ◌-◌, ◌*◌, ◌<◌, ◌≤◌, true, false, List, [], ◌++◌, length, take, drop, eqb, refl, sym, ap, subst, ◌∙◌, arith, append_assoc, append-nil, length-drop, Option, Some, IfSome}
use Rattle.std.specs.Prelude.{min}
use Rattle.std.specs.List.{list_all}
use Rattle.std.proofs.lemmas.Bool.{cases_lt}
use Rattle.std.proofs.lemmas.Grind.{common_steps}
use Rattle.image_to_dmrig.specs.Loads.{load_line, piece, load_if, loads_below, IsFrontOf, IsRest}

-- a front with no more than there is
all_taken : (n : ℕ) (xs : List ℕ) → length xs ≤ n → take n xs ≡ xs
all_taken n xs le = grind (arith, common_steps)

least_taken : (n : ℕ) (xs : List ℕ) → take (min (length xs) n) xs ≡ take n xs
least_taken n xs = elim (cases_lt (length xs) n) [
  | inl low ↦ (let is : min (length xs) n ≡ length xs = omega arith in ap (λ k. take k xs) is ∙ all_taken (length xs) xs (omega arith) ∙ sym (all_taken n xs (omega arith)))
  | inr high ↦ (let is : min (length xs) n ≡ n = omega arith in ap (λ k. take k xs) is)
]

-- what is read of an image is its piece
pub piece_read : (b out : List ℕ) (number count : ℕ) → IsRest b number count → out ≡ take count (drop (8192 * number) b) → out ≡ piece b number
piece_read b out number count is read =
    let len = length-drop (8192 * number) b in
    let least : count ≡ min (length (drop (8192 * number) b)) 8192 = is ∙ ap (λ n. min n 8192) (sym len) in
    read ∙ ap (λ n. take n (drop (8192 * number) b)) least ∙ least_taken 8192 (drop (8192 * number) b)

pub piece_got : (a : Option (List ℕ)) (b out : List ℕ) (number count : ℕ) → a ≡ Some b → IfSome a (λ (bs : List ℕ). out ≡ take count (drop (8192 * number) bs)) → IsRest b number count → out ≡ piece b number
piece_got a b out number count is read rest = piece_read b out number count rest (subst (λ (o : Option (List ℕ)). IfSome o (λ (bs : List ℕ). out ≡ take count (drop (8192 * number) bs))) is read)

-- a piece of zeros has no line
pub blank_piece : (name : List ℕ) (number : ℕ) (bytes out : List ℕ) → out ≡ bytes → list_all (λ byte. eqb byte 0) out ≡ true → load_if name number bytes ≡ []
blank_piece name number bytes out same blank = ap (load_if name number) (sym same) ∙ rw blank refl

-- another one has
pub loaded_piece : (name : List ℕ) (number : ℕ) (bytes out : List ℕ) → out ≡ bytes → list_all (λ byte. eqb byte 0) out ≡ false → load_if name number bytes ≡ load_line name (16 * number) out
loaded_piece name number bytes out same some = ap (load_if name number) (sym same) ∙ rw some refl

-- nothing is a front of anything
pub no_front : (whole : List ℕ) → IsFrontOf [] whole
no_front whole = (whole, refl)

pub whole_front : (whole : List ℕ) → IsFrontOf whole whole
whole_front whole = ([], append-nil whole)

-- a front of a front
pub front_of_front : (a b c : List ℕ) → IsFrontOf a b → IsFrontOf b c → IsFrontOf a c
front_of_front a b c (rest, is) (more, is') = (rest ++ more, sym (append_assoc a rest more) ∙ ap (λ xs. xs ++ more) is ∙ is')

-- of two texts the first, or a front of it
pub front_left : (front a b : List ℕ) → IsFrontOf front a → IsFrontOf front (a ++ b)
front_left front a b is = front_of_front front a (a ++ b) is (b, refl)

-- the first, and a front of the second
pub front_right : (front a b : List ℕ) → IsFrontOf front b → IsFrontOf (a ++ front) (a ++ b)
front_right front a b (rest, is) = (rest, append_assoc a front rest ∙ ap (λ xs. a ++ xs) is)

-- a line more
pub loads_more : (name b : List ℕ) (number : ℕ) → loads_below name b (number + 1) ≡ loads_below name b number ++ load_if name number (piece b number)
loads_more name b number = let e : number + 1 ≡ suc number = omega arith in ap (loads_below name b) e

-- fewer pieces are a front of more
loads_up : (name b : List ℕ) (number more : ℕ) → IsFrontOf (loads_below name b number) (loads_below name b (number + more))
loads_up name b number zero = let e : number ≡ number + 0 = omega arith in subst (λ (n : ℕ). IsFrontOf (loads_below name b number) (loads_below name b n)) e (whole_front (loads_below name b number))
loads_up name b number (suc more) =
    let e : (number + more) + 1 ≡ number + suc more = omega arith in
    subst (λ (n : ℕ). IsFrontOf (loads_below name b number) (loads_below name b n)) e
    (subst (λ (xs : List ℕ). IsFrontOf (loads_below name b number) xs) (sym (loads_more name b (number + more)))
    (front_left (loads_below name b number) (loads_below name b (number + more)) (load_if name (number + more) (piece b (number + more))) (loads_up name b number more)))

-- a front of the next line, after those before it
pub loads_front : (name b front : List ℕ) (number end : ℕ) → number < end → IsFrontOf front (load_if name number (piece b number)) → IsFrontOf (loads_below name b number ++ front) (loads_below name b end)
loads_front name b front number end lt is =
    let more : ℕ = end - (number + 1) in
    let e : (number + 1) + more ≡ end = omega arith in
    front_of_front (loads_below name b number ++ front) (loads_below name b (number + 1)) (loads_below name b end)
    (subst (λ (xs : List ℕ). IsFrontOf (loads_below name b number ++ front) xs) (sym (loads_more name b number)) (front_right front (loads_below name b number) (load_if name number (piece b number)) is))
    (subst (λ (n : ℕ). IsFrontOf (loads_below name b (number + 1)) (loads_below name b n)) e (loads_up name b (number + 1) more))

-- so many bytes are left from a piece on
pub rest_of : (b : List ℕ) (number sectors count : ℕ) → length b ≡ 512 * sectors → count ≡ min (512 * sectors - 8192 * number) 8192 → IsRest b number count
rest_of b number sectors count len is = is ∙ ap (λ n. min (n - 8192 * number) 8192) (sym len)

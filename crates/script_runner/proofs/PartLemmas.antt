-- A line that is taken part by part: each part ahead of the reader, and then what the reader gives.
use Rattle.std.proofs.Common.{◌≡◌, ℕ, suc, ◌+◌, ◌<◌, ◌≤◌, Bool, true, false, List, [], ◌∷◌, ◌++◌, length, take, eqb, ltb, refl, sym, ap, ◌∙◌, arith, Option, subst}
use Rattle.std.proofs.lemmas.Bool.{lt-ltb}
use Rattle.std.proofs.lemmas.List.{append-nil, length-take, length-append}
use Rattle.std.proofs.lemmas.Grind.{common_steps}
use Rattle.std.specs.List.{after_first, before_first, list_any, position_or_len}
use Rattle.words.specs.Lines.{is_end, left}
use Rattle.words.proofs.LineLemmas.{WithinLine, part_of_line}

-- whether a line has begun: it has a byte
abbrev pub has_bytes : List ℕ → Bool
has_bytes line = ltb 0 (length line)

kept_whole : (max : ℕ) (kept : List ℕ) → length kept ≤ max → take max kept ≡ kept
kept_whole max kept h = grind (arith, common_steps)

pub any_more : (b : ℕ) (xs : List ℕ) → eqb b 10 ≡ false → list_any is_end (b ∷ xs) ≡ list_any is_end xs
any_more b xs e = rw e refl

pub any_here : (b : ℕ) (xs : List ℕ) → eqb b 10 ≡ true → list_any is_end (b ∷ xs) ≡ true
any_here b xs e = rw e refl

pub before_more : (b : ℕ) (xs : List ℕ) → eqb b 10 ≡ false → before_first is_end (b ∷ xs) ≡ b ∷ before_first is_end xs
before_more b xs e =
    let n = position_or_len is_end xs in
    let next : 1 + n ≡ suc n = omega arith in
    rw e (ap (λ k. take k (b ∷ xs)) next)

-- a part in which no line ends begins with a byte that ends none
not_here : (b : ℕ) (xs : List ℕ) → list_any is_end (b ∷ xs) ≡ false → eqb b 10 ≡ false
not_here b xs none = elim (eqb b 10) as (λ t. eqb b 10 ≡ t → eqb b 10 ≡ false) [
  | true ↦ λ e. absurd (let bad : true ≡ false = sym (any_here b xs e) ∙ none in cc)
  | false ↦ λ e. e
] refl

-- some of a part in which no line ends is added to the line
some_before : (b : ℕ) (xs : List ℕ) → list_any is_end (b ∷ xs) ≡ false → 0 < length (before_first is_end (b ∷ xs))
some_before b xs none =
    let more : length (before_first is_end (b ∷ xs)) ≡ suc (length (before_first is_end xs)) = ap length (before_more b xs (not_here b xs none)) in
    omega (arith, more)

grows : (max : ℕ) (kept before : List ℕ) → 0 < length before → ltb 0 (length (take (max + 1) (kept ++ before))) ≡ true
grows max kept before some =
    let cut = length-take (max + 1) (kept ++ before) in
    let long = length-append kept before in
    lt-ltb 0 (length (take (max + 1) (kept ++ before))) (omega (arith, cut, long, some))

-- A part in which no line ends was taken, or none was there.
pub part_taken : (max : ℕ) (xs : Option (List ℕ)) (part more : List ℕ) (rest : Option (List ℕ)) (kept now : List ℕ) → length kept ≤ max + 1 → WithinLine (max + 1) xs (left part rest) (has_bytes kept) kept → list_any is_end part ≡ false → now ≡ take (max + 1) (kept ++ before_first is_end part) → more ≡ after_first is_end part → WithinLine (max + 1) xs (left more rest) (has_bytes now) now
part_taken max xs [] more rest kept now short within none is after =
    let same : now ≡ kept = is ∙ ap (take (max + 1)) (append-nil kept) ∙ kept_whole (max + 1) kept short in
    let P : List ℕ → Type 0 = λ line. WithinLine (max + 1) xs (left more rest) (has_bytes line) line in
    let Q : List ℕ → Type 0 = λ ahead. WithinLine (max + 1) xs (left ahead rest) (has_bytes kept) kept in
    subst P (sym same) (subst Q (sym after) within)
part_taken max xs (b ∷ part) more rest kept now short within none is after =
    let grown : has_bytes now ≡ true = ap has_bytes is ∙ grows max kept (before_first is_end (b ∷ part)) (some_before b part none) in
    let P : Bool → Type 0 = λ begun. WithinLine (max + 1) xs (left more rest) begun now in
    subst P (sym grown) (part_of_line max xs (b ∷ part) more rest (has_bytes kept) kept now within (omega arith) none is after)

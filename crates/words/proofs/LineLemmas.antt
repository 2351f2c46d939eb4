-- The first line of a text from its front, which `lines_of` finds from the end, and the loop that reads it.
use Rattle.std.proofs.Common.{◌≡◌, ◌≢◌, ℕ, suc, ◌+◌, ◌<◌, ◌≤◌, Bool, true, false, List, [], ◌∷◌, ◌++◌, length, take, drop, cond, subst, eqb, refl, sym, ap, ◌∙◌, arith, Option, Some, None, append_assoc, inl, inr}
use Rattle.std.proofs.lemmas.Bool.{cases_lt}
use Rattle.std.specs.Prelude.{MatchBool, ⊤}
use Rattle.std.specs.Io.KnownBytes.{IsAtEnd, Keeps}
use Rattle.std.specs.List.{after_first, before_first, list_any, position_or_len}
use Rattle.std.proofs.lemmas.List.{take-append-le, append-nil, length-take, length-take-le}
use Rattle.std.proofs.lemmas.Grind.{common_steps}
use Rattle.words.specs.Lines.{lines_of, begin_with, ReadsLine, IsKept, is_end, left}

abbrev pub first_line : List ℕ → List ℕ
first_line [] = []
first_line (b ∷ bytes) = cond (eqb b 10) [] (b ∷ first_line bytes)

abbrev pub after_line : List ℕ → List ℕ
after_line [] = []
after_line (b ∷ bytes) = cond (eqb b 10) bytes (after_line bytes)

-- the lines of a text are its first line and those of what follows it
pub lines_cut : (b : ℕ) (bytes : List ℕ) → lines_of (b ∷ bytes) ≡ first_line (b ∷ bytes) ∷ lines_of (after_line (b ∷ bytes))
lines_cut b [] = elim (eqb b 10) as (λ t. cond t ([] ∷ []) ((b ∷ []) ∷ []) ≡ cond t [] (b ∷ []) ∷ lines_of (cond t [] [])) [ true ↦ refl | false ↦ refl ]
lines_cut b (c ∷ bytes) =
    elim (eqb b 10) as (λ t. cond t ([] ∷ lines_of (c ∷ bytes)) (begin_with b (lines_of (c ∷ bytes)))
    ≡ cond t [] (b ∷ first_line (c ∷ bytes)) ∷ lines_of (cond t (c ∷ bytes) (after_line (c ∷ bytes)))) [
      | true ↦ refl
      | false ↦ ap (begin_with b) (lines_cut c bytes)
    ]

-- xs begins the text, ys is what is left of it, and the line so far is kept
abbrev pub WithinLine : ℕ → Option (List ℕ) → Option (List ℕ) → Bool → List ℕ → Type 0
WithinLine max (Some xs) (Some ys) begun kept =
    MatchBool begun ((xs ≢ []) × (take max (kept ++ first_line ys) ≡ take max (first_line xs)) × (after_line ys ≡ after_line xs)) ((ys ≡ xs) × (kept ≡ []))
WithinLine max (Some xs) None begun kept = ⊥
WithinLine max None ys begun kept = ⊤

-- before its first byte, a line holds nothing
pub within_start : (max : ℕ) (xs : Option (List ℕ)) → WithinLine max xs xs false []
within_start max None = tt
within_start max (Some xs) = (refl, refl)

-- the same, of any text that is not empty
pub whole_line : (xs : List ℕ) → xs ≢ [] → lines_of xs ≡ first_line xs ∷ lines_of (after_line xs)
whole_line [] h = absurd (h refl)
whole_line (b ∷ bytes) h = lines_cut b bytes

-- the part of the line that is kept is not longer than max
kept_whole : (max : ℕ) (kept : List ℕ) → length kept ≤ max → take max kept ≡ kept
kept_whole max kept h = grind (arith, common_steps)

-- to cut a line and then add to it gives what cutting it afterwards does
cut_again : (max : ℕ) (s t : List ℕ) → take max (take max s ++ t) ≡ take max (s ++ t)
cut_again max s t = elim (cases_lt max (length s)) [
  | inl h ↦ let cut : length (take max s) ≡ max = length-take-le max s (omega arith) in
      take-append-le max (take max s) t (omega arith) ∙ kept_whole max (take max s) (omega arith) ∙ sym (take-append-le max s t (omega arith))
  | inr h ↦ ap (λ u. take max (u ++ t)) (kept_whole max s h)
]

-- the same text is left
pub within_kept : (max : ℕ) (xs ys zs : Option (List ℕ)) (begun : Bool) (kept : List ℕ) → WithinLine max xs ys begun kept → Keeps ys zs → WithinLine max xs zs begun kept
within_kept max None ys zs begun kept within same = tt
within_kept max (Some xs) None zs begun kept within same = absurd within
within_kept max (Some xs) (Some ys) None begun kept within same = absurd same
within_kept max (Some xs) (Some ys) (Some zs) begun kept within same = let P : List ℕ → Type 0 = λ ts. WithinLine max (Some xs) (Some ts) begun kept in subst P (sym same) within

-- a byte before the end of a line
before_more : (b : ℕ) (xs : List ℕ) → eqb b 10 ≡ false → before_first is_end (b ∷ xs) ≡ b ∷ before_first is_end xs
before_more b xs e =
    let n = position_or_len is_end xs in
    let next : 1 + n ≡ suc n = omega arith in
    rw e (ap (λ k. take k (b ∷ xs)) next)

after_more : (b : ℕ) (xs : List ℕ) → eqb b 10 ≡ false → after_first is_end (b ∷ xs) ≡ after_first is_end xs
after_more b xs e =
    let n = position_or_len is_end xs in
    let next : 1 + n + 1 ≡ suc (n + 1) = omega arith in
    rw e (ap (λ k. drop k (b ∷ xs)) next)

first_more : (b : ℕ) (bytes : List ℕ) → eqb b 10 ≡ false → first_line (b ∷ bytes) ≡ b ∷ first_line bytes
first_more b bytes e = rw e refl

later_more : (b : ℕ) (bytes : List ℕ) → eqb b 10 ≡ false → after_line (b ∷ bytes) ≡ after_line bytes
later_more b bytes e = rw e refl

any_more : (b : ℕ) (bytes : List ℕ) → eqb b 10 ≡ false → list_any is_end (b ∷ bytes) ≡ list_any is_end bytes
any_more b bytes e = rw e refl

any_here : (b : ℕ) (bytes : List ℕ) → eqb b 10 ≡ true → list_any is_end (b ∷ bytes) ≡ true
any_here b bytes e = rw e refl

-- the line ends in this part
line_here : (part rest : List ℕ) → list_any is_end part ≡ true → first_line (part ++ rest) ≡ before_first is_end part
line_here [] rest has = absurd (let none : ⊥ = cc in none)
line_here (b ∷ part) rest has = elim (eqb b 10) as (λ t. eqb b 10 ≡ t → first_line ((b ∷ part) ++ rest) ≡ before_first is_end (b ∷ part)) [
  | true ↦ λ e. rw e refl
  | false ↦ λ e. first_more b (part ++ rest) e ∙ ap (λ ys. b ∷ ys) (line_here part rest (sym (any_more b part e) ∙ has)) ∙ sym (before_more b part e)
] refl

after_here : (part rest : List ℕ) → list_any is_end part ≡ true → after_line (part ++ rest) ≡ after_first is_end part ++ rest
after_here [] rest has = absurd (let none : ⊥ = cc in none)
after_here (b ∷ part) rest has = elim (eqb b 10) as (λ t. eqb b 10 ≡ t → after_line ((b ∷ part) ++ rest) ≡ after_first is_end (b ∷ part) ++ rest) [
  | true ↦ λ e. rw e refl
  | false ↦ λ e. later_more b (part ++ rest) e ∙ after_here part rest (sym (any_more b part e) ∙ has) ∙ ap (λ ys. ys ++ rest) (sym (after_more b part e))
] refl

-- the line goes on after this part
no_more : (b : ℕ) (part : List ℕ) → list_any is_end (b ∷ part) ≡ false → (eqb b 10 ≡ false) × (list_any is_end part ≡ false)
no_more b part none = elim (eqb b 10) as (λ t. eqb b 10 ≡ t → (eqb b 10 ≡ false) × (list_any is_end part ≡ false)) [
  | true ↦ λ e. absurd (let bad : true ≡ false = sym (any_here b part e) ∙ none in cc)
  | false ↦ λ e. (e, sym (any_more b part e) ∙ none)
] refl

line_later : (part rest : List ℕ) → list_any is_end part ≡ false → first_line (part ++ rest) ≡ part ++ first_line rest
line_later [] rest none = refl
line_later (b ∷ part) rest none =
    let is = no_more b part none in
    first_more b (part ++ rest) is.0 ∙ ap (λ ys. b ∷ ys) (line_later part rest is.1)

after_later : (part rest : List ℕ) → list_any is_end part ≡ false → after_line (part ++ rest) ≡ after_line rest
after_later [] rest none = refl
after_later (b ∷ part) rest none =
    let is = no_more b part none in
    later_more b (part ++ rest) is.0 ∙ after_later part rest is.1

before_all : (part : List ℕ) → list_any is_end part ≡ false → before_first is_end part ≡ part
before_all [] none = refl
before_all (b ∷ part) none =
    let is = no_more b part none in
    before_more b part is.0 ∙ ap (λ ys. b ∷ ys) (before_all part is.1)

after_all : (part : List ℕ) → list_any is_end part ≡ false → after_first is_end part ≡ []
after_all [] none = refl
after_all (b ∷ part) none =
    let is = no_more b part none in
    after_more b part is.0 ∙ after_all part is.1

-- of a line whose text is not at its end, whether it has begun or begins
begins_now : (max : ℕ) (xs ys : List ℕ) (begun : Bool) (kept : List ℕ) → WithinLine max (Some xs) (Some ys) begun kept → ys ≢ [] → (xs ≢ []) × (take max (kept ++ first_line ys) ≡ take max (first_line xs)) × (after_line ys ≡ after_line xs)
begins_now max xs ys true kept within some = within
begins_now max xs ys false kept within some = (
  λ empty. some (within.0 ∙ empty),
  ap (λ ks. take max (ks ++ first_line ys)) within.1 ∙ ap (λ ts. take max (first_line ts)) within.0,
  ap after_line within.0,
)

not_empty : (part rest : List ℕ) → 0 < length part → (part ++ rest) ≢ []
not_empty [] rest some = absurd (omega arith)
not_empty (b ∷ part) rest some = λ empty. let long : length (b ∷ (part ++ rest)) ≡ 0 = ap length empty in omega (arith, long)

has_some : (part : List ℕ) → list_any is_end part ≡ true → 0 < length part
has_some [] has = absurd (let none : ⊥ = cc in none)
has_some (b ∷ part) has = omega arith

-- a part of the line
pub part_of_line : (max : ℕ) (xs : Option (List ℕ)) (part more : List ℕ) (rest : Option (List ℕ)) (begun : Bool) (kept now : List ℕ) → WithinLine (max + 1) xs (left part rest) begun kept → 0 < length part → list_any is_end part ≡ false → now ≡ take (max + 1) (kept ++ before_first is_end part) → more ≡ after_first is_end part → WithinLine (max + 1) xs (left more rest) true now
part_of_line max None part more rest begun kept now within some none is after = tt
part_of_line max (Some xs) part more None begun kept now within some none is after = absurd within
part_of_line max (Some xs) part more (Some rest) begun kept now within some none is after =
    let here = begins_now (max + 1) xs (part ++ rest) begun kept within (not_empty part rest some) in
    let left' : more ++ rest ≡ rest = ap (λ ms. ms ++ rest) (after ∙ after_all part none) in
    let kept' : now ≡ take (max + 1) (kept ++ part) = is ∙ ap (λ ps. take (max + 1) (kept ++ ps)) (before_all part none) in (
      here.0,
      ap (λ ts. take (max + 1) (now ++ first_line ts)) left' ∙ ap (λ ks. take (max + 1) (ks ++ first_line rest)) kept'
          ∙ cut_again (max + 1) (kept ++ part) (first_line rest) ∙ ap (take (max + 1)) (append_assoc kept part (first_line rest))
          ∙ ap (λ f. take (max + 1) (kept ++ f)) (sym (line_later part rest none)) ∙ here.1,
      ap after_line left' ∙ sym (after_later part rest none) ∙ here.2,
    )

pub short_part : (max : ℕ) (line now : List ℕ) → now ≡ take (max + 1) line → length now ≤ max + 1
short_part max line now is = let cut = length-take (max + 1) line in let same = ap length is in omega (arith, cut, same)

-- the first max + 1 bytes of a line are what is kept of it
is_kept : (max : ℕ) (kept line : List ℕ) → kept ≡ take (max + 1) line → IsKept max line kept
is_kept max kept line e = (
  λ short. e ∙ kept_whole (max + 1) line (omega arith),
  λ long. let cut : length (take (max + 1) line) ≡ max + 1 = length-take-le (max + 1) line (omega arith) in
      let same : length kept ≡ max + 1 = ap length e ∙ cut in omega arith,
)

-- the same, where the line ended here
kept_line : (max : ℕ) (kept first whole : List ℕ) → length kept ≤ max + 1 → first ≡ [] → take (max + 1) (kept ++ first) ≡ take (max + 1) whole → IsKept max whole kept
kept_line max kept first whole short none e = is_kept max kept whole (
    sym (kept_whole (max + 1) kept short) ∙ ap (take (max + 1)) (sym (append-nil kept)) ∙ ap (λ f. take (max + 1) (kept ++ f)) (sym none) ∙ e)

-- the text ends, with a line that has begun or without one
pub end_of_text : (max : ℕ) (xs ys zs : Option (List ℕ)) (begun : Bool) (kept : List ℕ) → length kept ≤ max + 1 → WithinLine (max + 1) xs ys begun kept → IsAtEnd ys → Keeps ys zs → ReadsLine max xs zs begun kept
end_of_text max None ys zs begun kept short within end after = tt
end_of_text max (Some xs) None zs begun kept short within end after = absurd within
end_of_text max (Some xs) (Some ys) None begun kept short within end after = absurd after
end_of_text max (Some xs) (Some ys) (Some zs) false kept short within end after = ap lines_of (sym within.0 ∙ end)
end_of_text max (Some xs) (Some ys) (Some zs) true kept short within end after =
    let left' : after_line xs ≡ zs = sym within.2 ∙ ap after_line end ∙ sym end ∙ sym after in (
      first_line xs,
      whole_line xs within.0 ∙ ap (λ t. first_line xs ∷ lines_of t) left',
      kept_line max kept (first_line ys) (first_line xs) short (ap first_line end) within.1,
    )

-- the line ends
pub end_of_line : (max : ℕ) (xs : Option (List ℕ)) (part more : List ℕ) (rest : Option (List ℕ)) (begun : Bool) (kept now : List ℕ) → WithinLine (max + 1) xs (left part rest) begun kept → list_any is_end part ≡ true → now ≡ take (max + 1) (kept ++ before_first is_end part) → more ≡ after_first is_end part → ReadsLine max xs (left more rest) true now
end_of_line max None part more rest begun kept now within has is after = tt
end_of_line max (Some xs) part more None begun kept now within has is after = absurd within
end_of_line max (Some xs) part more (Some rest) begun kept now within has is after =
    let here = begins_now (max + 1) xs (part ++ rest) begun kept within (not_empty part rest (has_some part has)) in
    let left' : after_line xs ≡ more ++ rest = sym here.2 ∙ after_here part rest has ∙ ap (λ ms. ms ++ rest) (sym after) in (
      first_line xs,
      whole_line xs here.0 ∙ ap (λ t. first_line xs ∷ lines_of t) left',
      is_kept max now (first_line xs) (is ∙ ap (λ f. take (max + 1) (kept ++ f)) (sym (line_here part rest has)) ∙ here.1),
    )

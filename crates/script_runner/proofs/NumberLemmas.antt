-- The first line of a text, by where its end stands, and the lines that are printed one after another.
use Rattle.std.proofs.Common.{◌≡◌, ℕ, suc, ◌+◌, ◌-◌, ◌<◌, true, false, List, [], ◌∷◌, length, take, drop, eqb, refl, sym, ap, ◌∙◌, arith, Option, Some, None, subst}
use Rattle.std.specs.Prelude.{position}
use Rattle.std.specs.List.{after_first, before_first, flat_map, list_any, position_or_len}
use Rattle.std.specs.Io.KnownBytes.{Appends}
use Rattle.std.proofs.Math.Seq.{take-length}
use Rattle.words.specs.Lines.{begin_with, is_end, lines_of}
use Rattle.words.proofs.LineParts.{after_some, any_none, any_some, before_some}
use Rattle.words.proofs.Written.{WritesOn, writes_on}
use Rattle.script_runner.specs.Numbered.{numbered, numbered_line}
use Rattle.script_runner.proofs.PartLemmas.{any_here, any_more, before_more}

after_more : (b : ℕ) (xs : List ℕ) → eqb b 10 ≡ false → after_first is_end (b ∷ xs) ≡ after_first is_end xs
after_more b xs e =
    let n = position_or_len is_end xs in
    let next : 1 + n + 1 ≡ suc (n + 1) = omega arith in
    rw e (ap (λ k. drop k (b ∷ xs)) next)

lines_more : (b : ℕ) (xs : List ℕ) → eqb b 10 ≡ false → lines_of (b ∷ xs) ≡ begin_with b (lines_of xs)
lines_more b xs e = rw e refl

-- the line that ends first is the first
lines_here : (text : List ℕ) → list_any is_end text ≡ true → lines_of text ≡ before_first is_end text ∷ lines_of (after_first is_end text)
lines_here [] has = absurd (let none : ⊥ = cc in none)
lines_here (b ∷ text) has = elim (eqb b 10) as (λ t. eqb b 10 ≡ t → lines_of (b ∷ text) ≡ before_first is_end (b ∷ text) ∷ lines_of (after_first is_end (b ∷ text))) [
  | true ↦ λ e. rw e refl
  | false ↦ λ e. lines_more b text e ∙ ap (begin_with b) (lines_here text (sym (any_more b text e) ∙ has))
      ∙ ap (λ line. line ∷ lines_of (after_first is_end text)) (sym (before_more b text e))
      ∙ ap (λ later. before_first is_end (b ∷ text) ∷ lines_of later) (sym (after_more b text e))
] refl

-- a text without an end is one line
abbrev pub one_line : List ℕ → List (List ℕ)
one_line [] = []
one_line (b ∷ text) = (b ∷ text) ∷ []

begins_one : (b : ℕ) (text : List ℕ) → begin_with b (one_line text) ≡ (b ∷ text) ∷ []
begins_one b [] = refl
begins_one b (c ∷ text) = refl

lines_whole : (text : List ℕ) → list_any is_end text ≡ false → lines_of text ≡ one_line text
lines_whole [] none = refl
lines_whole (b ∷ text) none = elim (eqb b 10) as (λ t. eqb b 10 ≡ t → lines_of (b ∷ text) ≡ (b ∷ text) ∷ []) [
  | true ↦ λ e. absurd (let bad : true ≡ false = sym (any_here b text e) ∙ none in cc)
  | false ↦ λ e. lines_more b text e ∙ ap (begin_with b) (lines_whole text (sym (any_more b text e) ∙ none)) ∙ begins_one b text
] refl

one_whole : (text : List ℕ) → 0 < length text → one_line text ≡ text ∷ []
one_whole [] some = absurd (omega (arith, some))
one_whole (b ∷ text) some = refl

-- what stands behind the first end
after_at : (text : List ℕ) (i : ℕ) → i < length text → position is_end text ≡ Some i → take (length text - (i + 1)) (drop (i + 1) text) ≡ after_first is_end text
after_at text i within is =
    let count : length text - 0 ≡ length text = omega arith in
    let whole : take (length text - 0) (drop 0 text) ≡ text = ap (λ n. take n text) count ∙ take-length text in
    let W : List ℕ → Type 0 = λ xs. i < length xs in
    let P : List ℕ → Type 0 = λ xs. position is_end xs ≡ Some i in
    after_some text 0 (length text) i (i + 1) (omega arith) (subst W (sym whole) within) (subst P (sym whole) is) ∙ ap (after_first is_end) whole

pub cut_at : (text : List ℕ) (i : ℕ) → i < length text → position is_end text ≡ Some i → lines_of text ≡ take i text ∷ lines_of (take (length text - (i + 1)) (drop (i + 1) text))
cut_at text i within is =
    lines_here text (sym (any_some text i is))
    ∙ ap (λ line. line ∷ lines_of (after_first is_end text)) (sym (before_some text i is))
    ∙ ap (λ later. take i text ∷ lines_of later) (sym (after_at text i within is))

pub uncut : (text : List ℕ) → 0 < length text → position is_end text ≡ None → lines_of text ≡ text ∷ lines_of (take (length text - length text) (drop (length text) text))
uncut text some none =
    let zero : length text - length text ≡ 0 = omega arith in
    lines_whole text (sym (any_none text none)) ∙ one_whole text some
    ∙ ap (λ n. text ∷ lines_of (take n (drop (length text) text))) (sym zero)

-- the lines so far were printed, and those of the rest are left
pub line_printed : (number : ℕ) (all : List ℕ) (before now then : Option (List ℕ)) (text line later : List ℕ) → WritesOn before now (numbered number text) all → lines_of text ≡ line ∷ lines_of later → Appends now then (numbered_line number line) → WritesOn before then (numbered number later) all
unfolding numbered
line_printed number all before now then text line later on cut one =
    writes_on before now then (numbered_line number line) (numbered number text) (numbered number later) all on (ap (flat_map (numbered_line number)) cut) one

pub none_printed : (number : ℕ) (text : List ℕ) → length text ≡ 0 → numbered number text ≡ []
unfolding numbered
none_printed number [] none = refl
none_printed number (b ∷ text) none = absurd (omega (arith, none))

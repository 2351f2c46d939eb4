-- The words of a line, the first of them cut off.
use Rattle.std.proofs.Common.{◌≡◌, ℕ, suc, ◌+◌, ◌<◌, ◌≤◌, true, false, List, [], ◌∷◌, length, length-drop, length-take, take, drop, eqb, ltb, filter, refl, sym, ap, ◌∙◌, arith, inl, inr}
use Rattle.std.specs.Prelude.{not}
use Rattle.std.specs.List.{slice_split, after_first, before_first, position_or_len}
use Rattle.std.proofs.lemmas.Bool.{cases_lt, lt-ltb}
use Rattle.std.proofs.Math.Seq.{take-length}
use Rattle.std.proofs.Math.ListN.{drop_of_length-le}
use Rattle.std.proofs.lemmas.List.Splits.{slice_split_first, slice_split_none}
use Rattle.std.proofs.lemmas.List.Sums.{prefix_len-le-length, fails_before_first}
use Rattle.words.specs.Words.{words_of}
use Rattle.words.specs.Word.{after_word, first_word, is_space, unspaced}

-- a word in front of others, if it is one
abbrev pub in_front : List ℕ → List (List ℕ) → List (List ℕ)
in_front [] words = words
in_front (b ∷ word) words = (b ∷ word) ∷ words

-- the parts that are words
abbrev words_among : List (List ℕ) → List (List ℕ)
words_among parts = filter (λ word. ltb 0 (length word)) parts

among_front : (word : List ℕ) (parts : List (List ℕ)) → words_among (word ∷ parts) ≡ in_front word (words_among parts)
among_front [] parts = refl
among_front (b ∷ word) parts =
    let some : ltb 0 (length (b ∷ word)) ≡ true = lt-ltb 0 (length (b ∷ word)) (omega arith) in
    rw some refl

-- with no space there is nothing after it
whole : (xs : List ℕ) → length xs ≤ position_or_len is_space xs → words_of xs ≡ in_front (before_first is_space xs) (words_of (after_first is_space xs))
whole xs long =
    let within = prefix_len-le-length (λ x. not (is_space x)) xs in
    let end : position_or_len is_space xs ≡ length xs = omega (arith, within, long) in
    let word : before_first is_space xs ≡ xs = ap (λ n. take n xs) end ∙ take-length xs in
    let none : after_first is_space xs ≡ [] = drop_of_length-le xs (omega (arith, end)) in
    ap words_among (slice_split_none is_space xs (λ k d lt. fails_before_first is_space xs k d (omega (arith, end, lt))))
    ∙ among_front xs []
    ∙ ap (λ w. in_front w []) (sym word)
    ∙ ap (λ ys. in_front (before_first is_space xs) (words_of ys)) (sym none)

-- the words of a line that begins with no space, or is empty
cut_here : (xs : List ℕ) → words_of xs ≡ in_front (before_first is_space xs) (words_of (after_first is_space xs))
cut_here xs = elim (cases_lt (position_or_len is_space xs) (length xs)) [
  | inl less ↦ ap words_among (slice_split_first is_space xs 0 less) ∙ among_front (before_first is_space xs) (slice_split is_space (after_first is_space xs))
  | inr long ↦ whole xs long
]

one_space : (b : ℕ) (xs : List ℕ) → eqb b 32 ≡ true → unspaced (b ∷ xs) ≡ unspaced xs
one_space b xs e =
    let n = position_or_len (λ byte. not (is_space byte)) xs in
    let next : 1 + n ≡ suc n = omega arith in
    rw e (ap (λ k. drop k (b ∷ xs)) next)

no_space : (b : ℕ) (xs : List ℕ) → eqb b 32 ≡ false → unspaced (b ∷ xs) ≡ b ∷ xs
no_space b xs e = rw e refl

space_first : (b : ℕ) (xs : List ℕ) → eqb b 32 ≡ true → words_of (b ∷ xs) ≡ words_of xs
space_first b xs e = rw e refl

-- spaces in front are no words
words_of-unspaced : (xs : List ℕ) → words_of (unspaced xs) ≡ words_of xs
words_of-unspaced [] = refl
words_of-unspaced (b ∷ xs) = elim (eqb b 32) as (λ t. eqb b 32 ≡ t → words_of (unspaced (b ∷ xs)) ≡ words_of (b ∷ xs)) [
  | true ↦ λ e. ap words_of (one_space b xs e) ∙ words_of-unspaced xs ∙ sym (space_first b xs e)
  | false ↦ λ e. ap words_of (no_space b xs e)
] refl

-- a byte that is no space begins a word
pub word_begins : (b : ℕ) (xs : List ℕ) → eqb b 32 ≡ false → first_word (b ∷ xs) ≡ b ∷ take (position_or_len is_space xs) xs
word_begins b xs e =
    let n = position_or_len is_space xs in
    let next : 1 + n ≡ suc n = omega arith in
    ap (before_first is_space) (no_space b xs e) ∙ rw e (ap (λ k. take k (b ∷ xs)) next)

front_some : (word : List ℕ) (words : List (List ℕ)) → 0 < length word → in_front word words ≡ word ∷ words
front_some [] words some = absurd (omega arith)
front_some (b ∷ word) words some = refl

-- the first word, and the words of what stands after it
pub words_cut : (xs : List ℕ) → words_of xs ≡ in_front (first_word xs) (words_of (after_word xs))
words_cut xs = sym (words_of-unspaced xs) ∙ cut_here (unspaced xs)

-- a line with a first word begins with it
pub words_some : (xs : List ℕ) → 0 < length (first_word xs) → words_of xs ≡ first_word xs ∷ words_of (after_word xs)
words_some xs some = words_cut xs ∙ front_some (first_word xs) (words_of (after_word xs)) some

-- a line without one has none
pub words_none : (xs : List ℕ) → length (first_word xs) ≡ 0 → words_of xs ≡ []
words_none [] none = refl
words_none (b ∷ xs) none = elim (eqb b 32) as (λ t. eqb b 32 ≡ t → words_of (b ∷ xs) ≡ []) [
  | true ↦ λ e. space_first b xs e ∙ words_none xs (sym (ap (λ ys. length (before_first is_space ys)) (one_space b xs e)) ∙ none)
  | false ↦ λ e. absurd (let some = ap length (word_begins b xs e) in omega (arith, some, none))
] refl

-- what stands after the first word is shorter
pub after_shorter : (xs : List ℕ) → 0 < length (first_word xs) → length (after_word xs) < length xs
after_shorter xs some =
    let front = length-drop (position_or_len (λ byte. not (is_space byte)) xs) xs in
    let back = length-drop (position_or_len is_space (unspaced xs) + 1) (unspaced xs) in
    let word = length-take (position_or_len is_space (unspaced xs)) (unspaced xs) in
    omega (arith, front, back, word, some)

-- The first run from the front.
use Rattle.std.proofs.Common.{◌≡◌, ◌≢◌, ℕ, ◌+◌, ◌*◌, ◌<◌, ◌≤◌, zero, suc, Bool, map, List, [], ◌∷◌, ◌++◌, length, get_or, take, drop, eqb, cond, true, false, refl, sym, ap, ◌∙◌, drop-cons, add-one, arith, rules, eq-eqb, subst, inl, inr}
use Rattle.std.proofs.lemmas.Bool.{cases_eq}
use Rattle.std.specs.Prelude.{not, replicate}
use Rattle.command_replies.specs.Runs.{runs_of, onto_run, data_words, run_word, AreLongest, EndsBefore}
use Rattle.std.specs.List.{flat_map}
use borrow.Author.Tests.{tests}
use lib.Lanes.{mask_l}
use Rattle.std.proofs.lemmas.List.{take-append-drop, replicate-append-replicate}
use Rattle.std.proofs.Math.Seq.{take-add}

-- how many bytes at the front are b
abbrev pub front : ℕ → List ℕ → ℕ
front b [] = 0
front b (x ∷ xs) = cond (eqb x b) (front b xs + 1) 0

-- a byte is itself
same : (b : ℕ) → eqb b b ≡ true
same b = eq-eqb b b refl

-- and no other
pub other : (b c : ℕ) → b ≢ c → eqb b c ≡ false
other b c h = search rules

-- what is left from a place begins with the byte there
cut : (xs : List ℕ) (i : ℕ) → i < length xs → drop i xs ≡ get_or xs i 0 ∷ drop (i + 1) xs
cut xs i lt = rw (add-one, drop-cons xs i 0 lt)

-- the front lies within the bytes
pub front_within : (b : ℕ) (xs : List ℕ) → front b xs ≤ length xs
front_within b [] = omega arith
front_within b (x ∷ xs) =
    let more = front_within b xs in
    elim (eqb x b) as (λ t. cond t (front b xs + 1) 0 ≤ length (x ∷ xs)) [ true ↦ omega arith | false ↦ omega arith ]

-- the front of the first byte is not empty
pub front_some : (xs : List ℕ) → 0 < length xs → 0 < front (get_or xs 0 0) xs
front_some [] h = absurd (omega arith)
front_some (x ∷ xs) h = rw (same x) (omega arith)

-- bytes that are all b lengthen it by all of them
front_more : (b : ℕ) (n : ℕ) (xs : List ℕ) → front b (replicate n b ++ xs) ≡ n + front b xs
front_more b zero xs = omega arith
front_more b (suc n) xs = rw (same b) (let more = front_more b n xs in omega arith)

pub front_even : (b : ℕ) (xs : List ℕ) (n : ℕ) → take n xs ≡ replicate n b → front b xs ≡ n + front b (drop n xs)
front_even b xs n e = ap (front b) (sym (take-append-drop n xs) ∙ ap (λ ys. ys ++ drop n xs) e) ∙ front_more b n (drop n xs)

-- the same byte again and again, and then 64 times more
pub more_even : (b : ℕ) (xs : List ℕ) (i : ℕ) → take i xs ≡ replicate i b → take 64 (drop i xs) ≡ replicate 64 b → take (i + 64) xs ≡ replicate (i + 64) b
more_even b xs i e more = take-add i 64 xs ∙ ap (λ ys. ys ++ take 64 (drop i xs)) e ∙ ap (λ ys. replicate i b ++ ys) more ∙ replicate-append-replicate i 64 b

lane : (x b : ℕ) (same : Bool) (xs : List ℕ) → eqb x b ≡ same → mask_l (map (λ y. not (eqb y b)) (x ∷ xs)) ≡ cond (not same) 1 0 + 2 * mask_l (map (λ y. not (eqb y b)) xs)
lane x b same xs e = rw e refl

-- lanes none of which is another byte
same_lanes : (xs : List ℕ) (b : ℕ) → mask_l (map (λ x. not (eqb x b)) xs) ≡ 0 → xs ≡ replicate (length xs) b
same_lanes [] b none = refl
same_lanes (x ∷ xs) b none = elim (cases_eq x b) [
  | inl e ↦ let more : mask_l (map (λ y. not (eqb y b)) xs) ≡ 0 = omega (arith, lane x b true xs (eq-eqb x b e), none) in
      ap (λ y. y ∷ xs) e ∙ ap (λ ys. b ∷ ys) (same_lanes xs b more)
  | inr ne ↦ absurd (omega (arith, lane x b false xs (other x b ne), none))
]

pub is_zero : (n : ℕ) → eqb n 0 ≡ true → n ≡ 0
is_zero n is = grind (arith, tests, is)

pub even_lanes : (xs : List ℕ) (b : ℕ) → length xs ≡ 64 → mask_l (map (λ x. not (eqb x b)) xs) ≡ 0 → xs ≡ replicate 64 b
even_lanes xs b long none = same_lanes xs b none ∙ ap (λ n. replicate n b) long

-- a byte that is b lengthens the front
pub front_here : (b : ℕ) (xs : List ℕ) (i : ℕ) → i < length xs → get_or xs i 0 ≡ b → front b (drop i xs) ≡ front b (drop (i + 1) xs) + 1
front_here b xs i lt e = ap (front b) (cut xs i lt) ∙ ap (λ t. cond t (front b (drop (i + 1) xs) + 1) 0) (eq-eqb (get_or xs i 0) b e)

-- a byte that is not b ends it
pub front_all : (b : ℕ) (xs : List ℕ) (i : ℕ) → i < length xs → get_or xs i 0 ≢ b → front b (drop i xs) ≡ 0
front_all b xs i lt e = ap (front b) (cut xs i lt) ∙ ap (λ t. cond t (front b (drop (i + 1) xs) + 1) 0) (other (get_or xs i 0) b e)

-- one byte less is left
past : (n b : ℕ) (cs : List ℕ) → drop (n + 1) (b ∷ cs) ≡ drop n cs
past n b cs = rw add-one refl

-- the run that b begins, where c is the next byte
joins : (b c : ℕ) (cs : List ℕ) → b ≡ c → onto_run b ((front c cs + 1, c) ∷ runs_of (drop (front c cs) cs)) ≡ (front b (c ∷ cs) + 1, b) ∷ runs_of (drop (front b (c ∷ cs)) (c ∷ cs))
joins b c cs e = let P : ℕ → Type 0 = λ d. onto_run b ((front d cs + 1, d) ∷ runs_of (drop (front d cs) cs)) ≡ (front b (d ∷ cs) + 1, b) ∷ runs_of (drop (front b (d ∷ cs)) (d ∷ cs)) in
    subst P e (rw (same b) (ap (λ (xs : List ℕ). (front b cs + 1 + 1, b) ∷ runs_of xs) (sym (past (front b cs) b cs))))

-- the same, where c is another byte
ends : (b c : ℕ) (cs : List ℕ) → b ≢ c → onto_run b ((front c cs + 1, c) ∷ runs_of (drop (front c cs) cs)) ≡ (front b (c ∷ cs) + 1, b) ∷ ((front c cs + 1, c) ∷ runs_of (drop (front c cs) cs))
ends b c cs ne = rw (other b c ne, other c b (λ h. ne (sym h))) refl

-- the first run is the front, and the other runs are those of what follows it
pub runs_first : (b : ℕ) (xs : List ℕ) → runs_of (b ∷ xs) ≡ (front b xs + 1, b) ∷ runs_of (drop (front b xs) xs)
runs_first b [] = refl
runs_first b (c ∷ cs) =
    let next = runs_first c cs in
    elim (cases_eq b c) [
      | inl e ↦ ap (onto_run b) next ∙ joins b c cs e
      | inr ne ↦ ap (onto_run b) next ∙ ends b c cs ne ∙ ap (λ rs. (front b (c ∷ cs) + 1, b) ∷ rs) (sym next)
          ∙ ap (λ n. (front b (c ∷ cs) + 1, b) ∷ runs_of (drop n (c ∷ cs))) (sym (ap (λ t. cond t (front b cs + 1) 0) (other c b (λ h. ne (sym h)))))
    ]

-- the same, of any bytes but none
pub runs_cut : (xs : List ℕ) → 0 < length xs → runs_of xs ≡ (front (get_or xs 0 0) xs, get_or xs 0 0) ∷ runs_of (drop (front (get_or xs 0 0) xs) xs)
runs_cut [] h = absurd (omega arith)
runs_cut (x ∷ xs) h = runs_first x xs ∙ rw (same x) (ap (λ (ys : List ℕ). (front x xs + 1, x) ∷ runs_of ys) (sym (past (front x xs) x xs)))

-- so the first word is that run, and the other words are those of what follows it
pub words_cut : (xs : List ℕ) (n : ℕ) → runs_of xs ≡ (n, get_or xs 0 0) ∷ runs_of (drop n xs) → data_words xs ≡ run_word (n, get_or xs 0 0) ++ data_words (drop n xs)
words_cut xs n e = ap (flat_map run_word) e

abbrev pub run_bytes : ℕ × ℕ → List ℕ
run_bytes run = replicate run.0 run.1

-- a byte in front of runs is a byte in front of what they say
front_says : (b : ℕ) (runs : List (ℕ × ℕ)) → flat_map run_bytes (onto_run b runs) ≡ b ∷ flat_map run_bytes runs
front_says b [] = refl
front_says b ((n, c) ∷ runs) = elim (cases_eq b c) [
  | inl e ↦ rw (eq-eqb b c e) (rw (add-one, e) refl)
  | inr ne ↦ rw (other b c ne) refl
]

-- the runs say the bytes again
pub runs_say_bytes : (bytes : List ℕ) → flat_map (λ (run : ℕ × ℕ). replicate run.0 run.1) (runs_of bytes) ≡ bytes
runs_say_bytes [] = refl
runs_say_bytes (b ∷ bytes) = front_says b (runs_of bytes) ∙ ap (λ (xs : List ℕ). b ∷ xs) (runs_say_bytes bytes)

-- a byte in front of longest runs gives longest runs
onto_longest : (b : ℕ) (runs : List (ℕ × ℕ)) → AreLongest runs → AreLongest (onto_run b runs)
onto_longest b [] h = (omega arith, tt, tt)
onto_longest b ((n, c) ∷ runs) h = elim (cases_eq b c) [
  | inl e ↦ rw (eq-eqb b c e) (omega arith, (let P : ℕ → Type 0 = λ d. EndsBefore d runs in subst P (sym e) h.1), h.2)
  | inr ne ↦ rw (other b c ne) (omega arith, ne, h)
]

-- the runs of any bytes are longest
pub runs_longest : (bytes : List ℕ) → AreLongest (runs_of bytes)
runs_longest [] = tt
runs_longest (b ∷ bytes) = onto_longest b (runs_of bytes) (runs_longest bytes)

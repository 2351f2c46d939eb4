-- A text is read line by line.
use Rattle.std.proofs.Common.{◌≡◌, ◌≢◌, ◌⊎◌, inl, inr, ℕ, ◌+◌, ◌<◌, true, List, [], ◌∷◌, ◌++◌, length, take, eqb, ltb, refl, sym, ap, ◌∙◌, arith, subst, Option, Some, None, IfSome, length-append, append_assoc, append-nil}
use Rattle.std.specs.Prelude.{Result, Ok, Err}
use Rattle.std.specs.List.{slice_split, onto_first}
use Rattle.std.specs.Io.KnownBytes.{IsAtEnd}
use Rattle.std.specs.Io.BufRead.{take_through, drop_through}
use Rattle.std.proofs.lemmas.Bool.{cases_eq, eq-eqb, ne_eqb, lt-ltb}
use Rattle.std.proofs.lemmas.List.{take_at}
use Rattle.std.proofs.lemmas.List.Splits.{length-slice_split}
use Rattle.image_to_dmrig.specs.Told.{answer_of, told_with, told_from, HasNoEnd}

abbrev pub lines : List ℕ → List (List ℕ)
lines text = slice_split (λ byte. eqb byte 10) text

-- what was told, and then what the rest tells
abbrev pub told_after : List ℕ → Result (List ℕ) ℕ → Result (List ℕ) ℕ
told_after bytes (Ok more) = Ok (bytes ++ more)
told_after bytes (Err number) = Err number

-- the first line of a text has no end, and is all of it; or it has one, and the others follow
abbrev pub Cut : List ℕ → Type 0
Cut xs = ((take_through 10 xs ≡ xs) × (lines xs ≡ xs ∷ []) × HasNoEnd xs) ⊎ ((body : List ℕ) × (take_through 10 xs ≡ body ++ 10 ∷ []) × (lines xs ≡ body ∷ lines (drop_through 10 xs)))

cut_end : (x : ℕ) (xs : List ℕ) → x ≡ 10 → Cut (x ∷ xs)
cut_end x xs is = inr ([], rw (eq-eqb x 10 is) (ap (λ y. y ∷ []) is), rw (eq-eqb x 10 is) refl)

no_end : (x : ℕ) (xs : List ℕ) → x ≢ 10 → HasNoEnd xs → HasNoEnd (x ∷ xs)
no_end x xs ne none [] is = ne (let h : x ∷ xs ≡ 10 ∷ [] = is in cc)
no_end x xs ne none (c ∷ cs) is = none cs (let h : x ∷ xs ≡ c ∷ (cs ++ 10 ∷ []) = is in cc)

cut_more : (x : ℕ) (xs : List ℕ) → x ≢ 10 → Cut xs → Cut (x ∷ xs)
cut_more x xs ne (inl (all, one, none)) = inl (rw (ne_eqb x 10 ne) (ap (λ ys. x ∷ ys) all), rw (ne_eqb x 10 ne) (ap (onto_first x) one), no_end x xs ne none)
cut_more x xs ne (inr (body, through, more)) = inr (x ∷ body, rw (ne_eqb x 10 ne) (ap (λ ys. x ∷ ys) through), rw (ne_eqb x 10 ne) (ap (onto_first x) more))

pub cut : (xs : List ℕ) → Cut xs
cut [] = inl (refl, refl, λ body is. (let len = ap length is in let more = length-append body (10 ∷ []) in absurd (omega arith)))
cut (x ∷ xs) = elim (cases_eq x 10) [ inl is ↦ cut_end x xs is | inr ne ↦ cut_more x xs ne (cut xs) ]

-- two bodies with the same end
same_body : (a b : List ℕ) → a ++ 10 ∷ [] ≡ b ++ 10 ∷ [] → a ≡ b
same_body a b is =
    let len : length a ≡ length b = (let both = ap length is in let left = length-append a (10 ∷ []) in let right = length-append b (10 ∷ []) in omega arith) in
    sym (take_at a (10 ∷ []) (length a) refl) ∙ ap (take (length a)) is ∙ take_at b (10 ∷ []) (length a) (sym len)

-- a line that was read with its end is the first
pub line_read : (xs line body : List ℕ) → line ≡ take_through 10 xs → line ≡ body ++ 10 ∷ [] → lines xs ≡ body ∷ lines (drop_through 10 xs)
line_read xs line body read ends = elim (cut xs) [
  | inl (all, one, none) ↦ absurd (none body (sym all ∙ sym read ∙ ends))
  | inr (here, through, more) ↦ more ∙ ap (λ b. b ∷ lines (drop_through 10 xs)) (same_body here body (sym through ∙ sym read ∙ ends))
]

-- one that was read without is all of the text
pub rest_read : (xs line : List ℕ) → line ≡ take_through 10 xs → HasNoEnd line → (lines xs ≡ xs ∷ []) × (line ≡ xs)
rest_read xs line read none = elim (cut xs) [
  | inl (all, one, _) ↦ (one, read ∙ all)
  | inr (here, through, more) ↦ absurd (none here (read ∙ through))
]

-- there is always a line, be it empty
some_lines : (parts : List (List ℕ)) (number : ℕ) (body : List ℕ) → 0 < length parts → told_from number (body ∷ parts) ≡ told_with number (answer_of body) (told_from (number + 1) parts)
some_lines [] number body some = absurd (omega arith)
some_lines (next ∷ parts) number body some = refl

-- what a text tells, by its first line
pub told_line : (number : ℕ) (xs body : List ℕ) → lines xs ≡ body ∷ lines (drop_through 10 xs) → told_from number (lines xs) ≡ told_with number (answer_of body) (told_from (number + 1) (lines (drop_through 10 xs)))
told_line number xs body is =
    let count = length-slice_split (λ byte. eqb byte 10) (drop_through 10 xs) in
    ap (told_from number) is ∙ some_lines (lines (drop_through 10 xs)) number body (omega arith)

-- an answer more
pub told_more : (bytes here : List ℕ) (number : ℕ) (answer : Option (List ℕ)) (rest : Result (List ℕ) ℕ) → answer ≡ Some here → told_after bytes (told_with number answer rest) ≡ told_after (bytes ++ here) rest
told_more bytes here number answer (Ok more) is = rw is (ap Ok (sym (append_assoc bytes here more)))
told_more bytes here number answer (Err later) is = rw is refl

-- a line that is no answer
pub told_none : (bytes : List ℕ) (number : ℕ) (answer : Option (List ℕ)) (rest : Result (List ℕ) ℕ) → answer ≡ None → told_after bytes (told_with number answer rest) ≡ Err number
told_none bytes number answer rest is = rw is refl

-- nothing was told yet
pub told_first : (rest : Result (List ℕ) ℕ) → rest ≡ told_after [] rest
told_first (Ok more) = refl
told_first (Err number) = refl

-- nothing is left
pub told_last : (bytes xs : List ℕ) (number : ℕ) → xs ≡ [] → told_after bytes (told_from number (lines xs)) ≡ Ok bytes
told_last bytes xs number none = rw none (ap Ok (append-nil bytes))

-- a last part that is not empty
last_part : (number : ℕ) (xs : List ℕ) → 0 < length xs → told_from number (xs ∷ []) ≡ Err number
last_part number xs some = let t : ltb 0 (length xs) ≡ true = lt-ltb 0 (length xs) some in rw t refl

-- a last line without its end
pub told_cut : (bytes xs line : List ℕ) (number : ℕ) → 0 < length line → line ≡ take_through 10 xs → HasNoEnd line → told_after bytes (told_from number (lines xs)) ≡ Err number
told_cut bytes xs line number some read none =
    let (one, all) = rest_read xs line read none in
    let same : length line ≡ length xs = ap length all in
    ap (λ parts. told_after bytes (told_from number parts)) one ∙ ap (told_after bytes) (last_part number xs (omega arith))

-- what was read of known bytes into a line that was empty
pub got_line : (a : Option (List ℕ)) (xs line new : List ℕ) → a ≡ Some xs → line ≡ [] → IfSome a (λ (ys : List ℕ). new ≡ line ++ take_through 10 ys) → new ≡ take_through 10 xs
got_line a xs line new is none read = subst (λ (o : Option (List ℕ)). IfSome o (λ (ys : List ℕ). new ≡ line ++ take_through 10 ys)) is read ∙ ap (λ (l : List ℕ). l ++ take_through 10 xs) none

-- and what is left of them
pub left_after : (a b : Option (List ℕ)) (xs : List ℕ) → a ≡ Some xs → IfSome a (λ (ys : List ℕ). b ≡ Some (drop_through 10 ys)) → b ≡ Some (drop_through 10 xs)
left_after a b xs is read = subst (λ (o : Option (List ℕ)). IfSome o (λ (ys : List ℕ). b ≡ Some (drop_through 10 ys))) is read

pub at_end : (a : Option (List ℕ)) (xs : List ℕ) → a ≡ Some xs → IsAtEnd a → xs ≡ []
at_end a xs is end = subst (λ (o : Option (List ℕ)). IsAtEnd o) is end

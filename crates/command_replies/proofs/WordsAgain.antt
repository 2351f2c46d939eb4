-- Words that are printed with a space before each are the words of that line.
use Rattle.std.proofs.Common.{◌≡◌, ℕ, ◌<◌, ◌≤◌, List, [], ◌∷◌, ◌++◌, length, eqb, ltb, filter, true, false, refl, ap, ◌∙◌, rules, arith}
use Rattle.std.specs.List.{slice_split, onto_first, list_all}
use Rattle.std.specs.Char.{is_ascii_digit}
use Rattle.words.specs.Words.{words_of}
use Rattle.words.proofs.Digits.{digit_head}

-- words, with a space before each
abbrev pub spaced : List (List ℕ) → List ℕ
spaced [] = []
spaced (word ∷ words) = 32 ∷ (word ++ spaced words)

-- a text that holds no space
abbrev pub HasNoSpace : List ℕ → Type 0
HasNoSpace [] = Unit {0}
HasNoSpace (b ∷ bytes) = (eqb b 32 ≡ false) × HasNoSpace bytes

-- words that are not empty and hold no space
abbrev pub AreWords : List (List ℕ) → Type 0
AreWords [] = Unit {0}
AreWords (word ∷ words) = (0 < length word) × HasNoSpace word × AreWords words

-- a byte above the space is none
pub is_no_space : (b : ℕ) → 33 ≤ b → eqb b 32 ≡ false
is_no_space b h = search rules

-- two texts without a space, joined
pub HasNoSpace-append : (s t : List ℕ) → HasNoSpace s → HasNoSpace t → HasNoSpace (s ++ t)
HasNoSpace-append [] t p q = q
HasNoSpace-append (b ∷ s) t p q = (p.0, HasNoSpace-append s t p.1 q)

-- digits are no spaces
pub HasNoSpace-digits : (ds : List ℕ) → list_all is_ascii_digit ds ≡ true → HasNoSpace ds
HasNoSpace-digits [] h = tt
HasNoSpace-digits (d ∷ ds) h = let e = digit_head d ds h in (is_no_space d (omega arith), HasNoSpace-digits ds e.2)

-- a text without a space goes to the first part
onto_part : (s t : List ℕ) (parts : List (List ℕ)) → HasNoSpace s → slice_split (λ b. eqb b 32) t ≡ [] ∷ parts → slice_split (λ b. eqb b 32) (s ++ t) ≡ s ∷ parts
onto_part [] t parts h e = e
onto_part (b ∷ s) t parts h e = rw h.0 (ap (onto_first b) (onto_part s t parts h.1 e))

-- the parts between the spaces
parts_again : (words : List (List ℕ)) → AreWords words → slice_split (λ b. eqb b 32) (spaced words) ≡ [] ∷ words
parts_again [] h = refl
parts_again (word ∷ words) h = ap (λ (parts : List (List ℕ)). [] ∷ parts) (onto_part word (spaced words) words h.1 (parts_again words h.2))

-- none of them is empty
none_empty : (words : List (List ℕ)) → AreWords words → filter (λ (word : List ℕ). ltb 0 (length word)) words ≡ words
none_empty [] h = refl
none_empty (word ∷ words) h = let e : ltb 0 (length word) ≡ true = search (rules, h.0) in rw e (ap (λ (ws : List (List ℕ)). word ∷ ws) (none_empty words h.2))

-- the words again
pub words_again : (words : List (List ℕ)) → AreWords words → words_of (spaced words) ≡ words
words_again words h = ap (filter (λ (word : List ℕ). ltb 0 (length word))) (parts_again words h) ∙ none_empty words h

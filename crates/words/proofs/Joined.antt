-- Words joined by single spaces, and cut again.
use Rattle.std.proofs.Common.{◌≡◌, ℕ, List, [], ◌∷◌, ◌++◌, length, Bool, true, false, refl, ap, sym, ◌∙◌}
use Rattle.std.specs.Prelude.{filter, nat_lt, ◌==◌, not}
use Rattle.std.specs.List.{list_all, slice_split, All}
use Rattle.std.proofs.lemmas.List.{append-nil}
use Rattle.std.proofs.lemmas.List.Elements.{All-nil, All-cons}
use Rattle.std.proofs.lemmas.List.Splits.{slice_split_at, slice_split_none}
use Rattle.words.specs.Words.{words_of, is_word, spaced}
use Rattle.words.proofs.Bools.{and-split, and-join}

-- what is not true
not-false : (b : Bool) → not b ≡ true → b ≡ false
not-false true h = sym h
not-false false h = refl

-- a test of each byte, as a fact of each
no_space : (w : List ℕ) → list_all (λ b. not (b == 32)) w ≡ true → All (λ b. (b == 32) ≡ false) w
no_space [] h = All-nil (λ b. (b == 32) ≡ false)
no_space (b ∷ w) h =
    let both = and-split (not (b == 32)) (list_all (λ b. not (b == 32)) w) h in
    All-cons (λ b. (b == 32) ≡ false) b w (not-false (b == 32) both.0) (no_space w both.1)

-- a word has a byte, and no space
word_parts : (w : List ℕ) → is_word w ≡ true → (nat_lt 0 (length w) ≡ true) × All (λ b. (b == 32) ≡ false) w
word_parts w h =
    let both = and-split (nat_lt 0 (length w)) (list_all (λ b. not (b == 32)) w) h in
    (both.0, no_space w both.1)

-- a line of words, cut at its spaces
cut_words : (w : List ℕ) (ws : List (List ℕ)) → is_word w ≡ true → list_all is_word ws ≡ true → slice_split (λ b. b == 32) (w ++ spaced ws) ≡ w ∷ ws
cut_words w [] h all = ap (slice_split (λ b. b == 32)) (append-nil w) ∙ slice_split_none (λ b. b == 32) w (word_parts w h).1
cut_words w (v ∷ vs) h all =
    let both = and-split (is_word v) (list_all is_word vs) all in
    slice_split_at (λ b. b == 32) w 32 (v ++ spaced vs) (word_parts w h).1 refl ∙ ap (λ parts. w ∷ parts) (cut_words v vs both.0 both.1)

-- no word is left out
all_kept : (ws : List (List ℕ)) → list_all is_word ws ≡ true → filter (λ word. nat_lt 0 (length word)) ws ≡ ws
all_kept [] all = refl
all_kept (w ∷ ws) all =
    let both = and-split (is_word w) (list_all is_word ws) all in
    let some : nat_lt 0 (length w) ≡ true = (word_parts w both.0).0 in
    rw some (ap (λ words. w ∷ words) (all_kept ws both.1))

-- words joined by single spaces are the words of that line
pub words_of-spaced : (w : List ℕ) (ws : List (List ℕ)) → is_word w ≡ true → list_all is_word ws ≡ true → words_of (w ++ spaced ws) ≡ w ∷ ws
words_of-spaced w ws h all =
    ap (filter (λ word. nat_lt 0 (length word))) (cut_words w ws h all) ∙ all_kept (w ∷ ws) (and-join (is_word w) (list_all is_word ws) h all)

-- To be believed: `run`'s output, a volume's steps or its attach are said in these words.
-- The words of a line. This form is the project's own.
use Rattle.std.specs.Prelude.{ℕ, Bool, ◌&&◌, not, List, ◌∷◌, filter, length, nat_lt, ◌==◌}
use Rattle.std.specs.List.{slice_split, list_all, flat_map}

-- what stands between spaces
abbrev pub words_of : List ℕ → List (List ℕ)
words_of line = filter (λ word. nat_lt 0 (length word)) (slice_split (λ byte. byte == 32) line)

-- at least one byte, and no space
abbrev pub is_word : List ℕ → Bool
is_word word = nat_lt 0 (length word) && list_all (λ byte. not (byte == 32)) word

-- each word after a space
abbrev pub spaced : List (List ℕ) → List ℕ
spaced words = flat_map (λ word. 32 ∷ word) words

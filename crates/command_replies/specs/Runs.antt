-- To be believed: `run`'s output, a volume's steps or its attach are said in these words.
-- Data as longest runs of equal bytes, `COUNT*HH` each. The form is this project's own choice.
use Rattle.std.specs.Prelude.{◌≢◌, ℕ, ◌+◌, ◌/◌, ◌%◌, ◌<◌, List, [], ◌∷◌, ◌++◌, nat_lt, ◌==◌, if◌then◌else◌, decimal, codes}
use Rattle.std.specs.List.{flat_map}

-- a byte in front: it lengthens the first run, or is one of its own
abbrev pub onto_run : ℕ → List (ℕ × ℕ) → List (ℕ × ℕ)
onto_run b [] = (1, b) ∷ []
onto_run b (run ∷ runs) = if b == run.1 then (run.0 + 1, b) ∷ runs else (1, b) ∷ run ∷ runs

-- how often which byte, as long as it stays the same
abbrev pub runs_of : List ℕ → List (ℕ × ℕ)
runs_of [] = []
runs_of (b ∷ bytes) = onto_run b (runs_of bytes)

-- a run is not followed by this byte
abbrev pub EndsBefore : ℕ → List (ℕ × ℕ) → Type 0
EndsBefore b [] = Unit {0}
EndsBefore b (run ∷ runs) = b ≢ run.1

-- Runs that are as long as they can be: none is empty, and none goes on with the byte of the one before.
abbrev pub AreLongest : List (ℕ × ℕ) → Type 0
AreLongest [] = Unit {0}
AreLongest (run ∷ runs) = (0 < run.0) × EndsBefore run.1 runs × AreLongest runs

-- a lower-case hexadecimal digit
abbrev pub hex_char : ℕ → ℕ
hex_char d = if nat_lt d 10 then 48 + d else 87 + d

-- a space, and COUNT*HH
abbrev pub run_word : ℕ × ℕ → List ℕ
run_word run = codes " " ++ decimal run.0 ++ codes "*" ++ (hex_char (run.1 / 16) ∷ hex_char (run.1 % 16) ∷ [])

-- data, as it is printed after `ok`
abbrev pub data_words : List ℕ → List ℕ
data_words bytes = flat_map run_word (runs_of bytes)

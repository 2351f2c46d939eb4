-- To be believed: what `lochknife image` writes is said in these words.
-- The bytes that `dmrig` answers to `save`, from the lines of its answers. An answer without data, as `disk` and `load` have,
-- tells none. That any other line is refused, and one that has no end, is this project's own choice.
use Rattle.std.specs.Prelude.{◌≢◌, ◌==◌, ◌&&◌, ℕ, ◌+◌, List, [], ◌∷◌, ◌++◌, length, nat_lt, codes, if◌then◌else◌, Option, Some, None, Result, Ok, Err}
use Rattle.std.specs.List.{slice_split}
use Rattle.std.specs.Str.{bytes_eq}
use Rattle.words.specs.Words.{words_of}
use Rattle.command.specs.DataWords.{are_runs, data_of}

-- the data of an answer, by its words: `ok`, and what follows it
abbrev pub data_after : List (List ℕ) → Option (List ℕ)
data_after [] = None
data_after (word ∷ words) = if bytes_eq word (codes "ok") && are_runs words then Some (data_of words) else None

-- the data of an answer, by its line without the end
abbrev pub answer_of : List ℕ → Option (List ℕ)
answer_of line = data_after (words_of line)

-- what a line and those behind it tell; else the number of the first that tells nothing
abbrev pub told_with : ℕ → Option (List ℕ) → Result (List ℕ) ℕ → Result (List ℕ) ℕ
told_with number None rest = Err number
told_with number (Some bytes) (Ok more) = Ok (bytes ++ more)
told_with number (Some bytes) (Err later) = Err later

-- What lines tell, the first of which has this number. The last part is what stands behind the last line's end: nothing.
abbrev pub told_from : ℕ → List (List ℕ) → Result (List ℕ) ℕ
told_from number [] = Ok []
told_from number (line ∷ []) = if nat_lt 0 (length line) then Err number else Ok []
told_from number (line ∷ next ∷ lines) = told_with number (answer_of line) (told_from (number + 1) (next ∷ lines))

-- the bytes that a text of answers tells, or the number of its first line that is none, counted from 1
abbrev pub told : List ℕ → Result (List ℕ) ℕ
told text = told_from 1 (slice_split (λ byte. byte == 10) text)

-- the last byte is no line end
abbrev pub HasNoEnd : List ℕ → Type 0
HasNoEnd line = (body : List ℕ) → line ≢ body ++ 10 ∷ []

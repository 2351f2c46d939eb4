-- The line that opens a block: `par`, or `par hold K`. It is this project's own.
use Rattle.std.specs.Prelude.{ℕ, Bool, ◌&&◌, List, [], ◌∷◌, length, nat_le, if◌then◌else◌, Some, None, Result, Ok, Err, codes}
use Rattle.std.specs.Str.{bytes_eq}
use Rattle.sector.specs.declared.refusal.Refusal.{Refusal}
use Rattle.sector.specs.declared.refusal.Refusal.TheVariants.{BadTable}
use Rattle.words.specs.Given.{◌>>=◌}
use Rattle.words.specs.Numbers.{numeral_of}
use Rattle.words.specs.Words.{words_of}
use Rattle.command.specs.declared.opening.Opening.{Opening}
use Rattle.words.specs.Word.{after_word, first_word}

-- `hold K`
abbrev pub held_of : List ℕ → List ℕ → Result Opening Refusal
held_of hold ticket =
    if bytes_eq hold (codes "hold") then (numeral_of ticket >>= λ ticket. Ok (record { hold = Some ticket })) else Err BadTable

-- what the words after `par` say
abbrev pub opening_in : List (List ℕ) → Result Opening Refusal
opening_in [] = Ok (record { hold = None })
opening_in (hold ∷ ticket ∷ []) = held_of hold ticket
opening_in words = Err BadTable

abbrev pub has_par : List ℕ → Bool
has_par line = bytes_eq (first_word line) (codes "par")

-- a line of at most max bytes that begins with the word `par`: no other opens a block
abbrev pub is_par : ℕ → List ℕ → Bool
is_par max line = nat_le (length line) max && has_par line

-- the block that such a line opens
unfoldable pub opening_of : List ℕ → Result Opening Refusal
opening_of line = opening_in (words_of (after_word line))

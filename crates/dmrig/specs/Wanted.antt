-- What the words of a command line ask for that are a file's name, alone or with the number of workers behind it. It is this
-- project's own.
use Rattle.std.specs.Prelude.{ℕ, Bool, false, not, ◌==◌, List, [], ◌∷◌, Option, Some, None, codes, if◌then◌else◌, option_map}
use Rattle.std.specs.Str.{bytes_eq}
use Rattle.std.specs.Borrow.{Bor}
use Rattle.dmrig.specs.declared.asking.Asked.{Asked}

-- what is asked for, by the bytes of the file's name
pub record Wanted : Type 0 where
  pub file : Option (List ℕ)
  pub workers : ℕ
  pub numbers : Bool
  pub trace : Bool
  pub explain : Bool
  pub checkpoint : Bool

abbrev pub text_of : Bor (List ℕ) → List ℕ
text_of text = text.now

abbrev pub wanted_of : Asked → Wanted
wanted_of a = record { file = option_map text_of a.file; workers = a.workers; numbers = a.numbers; trace = a.trace; explain = a.explain; checkpoint = a.checkpoint }

-- the number of workers that a word says
abbrev pub workers_by : List ℕ → Option ℕ
workers_by word =
    if bytes_eq word (codes "1") then Some 1
    else (if bytes_eq word (codes "2") then Some 2
    else (if bytes_eq word (codes "3") then Some 3
    else (if bytes_eq word (codes "4") then Some 4 else None)))

-- a word that does not begin with `-`, byte 45, as options do and as standard input is named
abbrev pub is_name : List ℕ → Bool
is_name [] = false
is_name (byte ∷ bytes) = not (byte == 45)

-- a file, and so many workers
abbrev pub file_with : List ℕ → Option ℕ → Option Wanted
file_with file None = None
file_with file (Some workers) = if is_name file then Some (record { file = Some file; workers = workers; numbers = false; trace = false; explain = false; checkpoint = false }) else None

-- what words ask for, the first of which is the program's own name
abbrev pub file_wanted : List (List ℕ) → Option Wanted
file_wanted (program ∷ file ∷ []) = file_with file (Some 1)
file_wanted (program ∷ file ∷ workers ∷ []) = file_with file (workers_by workers)
file_wanted words = None

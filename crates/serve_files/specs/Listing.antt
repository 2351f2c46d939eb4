-- The list beside an origin of the snapshots that it has, which stands in a file of the origin's name with `.snapshots` behind it. This
-- project's own: a snapshot that is left out while the origin is written would no longer show what it showed.
use Rattle.std.specs.Prelude.{◌≡◌, ◌⊎◌, ℕ, ◌-◌, ◌==◌, ◌||◌, ◌&&◌, Bool, true, false, List, [], ◌∷◌, ◌++◌, length, slice_get, codes, Option, Some, None, if◌then◌else◌}
use Rattle.std.specs.List.{flat_map}
use Rattle.std.specs.Str.{bytes_eq}
use Rattle.file_calls.specs.Calls.{Call, Len, Read, Write, Sync}
use Rattle.serve_options.specs.Exports.{has_export, last_part}

-- the first line says what it is
abbrev pub head : List ℕ
head = codes "# lochknife: the file beside this one has these snapshots, and must be served with them\n"

-- the line of a store: the last part of its file's name
abbrev pub line_of : List ℕ → List ℕ
line_of cow = last_part [] cow ++ 10 ∷ []

-- and one more of a store whose merge is begun, with a `/` before it, which no such part has
abbrev pub merge_line : Option (List ℕ) → List ℕ
merge_line None = []
merge_line (Some cow) = 47 ∷ line_of cow

-- a list of stores, of which one may be merged
abbrev pub list_of : Option (List ℕ) → List (List ℕ) → List ℕ
list_of merge cows = head ++ (merge_line merge ++ flat_map line_of cows)

-- where none is there, none is made for an origin without stores
abbrev pub listed_as : Option (List ℕ) → List (List ℕ) → List ℕ → List ℕ
listed_as merge cows old = if (length cows == 0) && (length old == 0) then [] else list_of merge cows

-- a list with the line of a store behind those that it has, where it is there
abbrev pub is_end : Option ℕ → Bool
is_end None = false
is_end (Some letter) = letter == 10

abbrev pub ended : List ℕ → List ℕ
ended text = if is_end (slice_get text (length text - 1)) then text else text ++ 10 ∷ []

abbrev pub added : List ℕ → List ℕ → List ℕ
added cow old = if length old == 0 then list_of None (cow ∷ []) else ended old ++ line_of cow

-- what stands behind the first line of a list; nothing where it is not there
abbrev pub IsBehindHead : List ℕ → List ℕ → Type 0
IsBehindHead lines text = ((text ≡ []) × (lines ≡ [])) ⊎ (text ≡ head ++ lines)

-- What a command serves: the store that it merges, all its stores, and whether others may be in the list.
pub record Given : Type 0 where
  pub merge : Option (List ℕ)
  pub cows : List (List ℕ)
  pub others : Bool

abbrev pub is_merged : Option (List ℕ) → List ℕ → Bool
is_merged None name = false
is_merged (Some cow) name = bytes_eq (last_part [] cow) name

-- whether a command serves what a line says
abbrev pub is_given : Given → List ℕ → Bool
is_given given [] = true
is_given given (letter ∷ name) = if letter == 47 then is_merged given.merge name else (given.others || has_export given.cows (letter ∷ name))

-- the first line that a command leaves out, of a text whose present line begins so
abbrev pub unless_given : Given → List ℕ → Option (List ℕ) → Option (List ℕ)
unless_given given line rest = if is_given given line then rest else Some line

abbrev pub left_out : Given → List ℕ → List ℕ → Option (List ℕ)
left_out given line [] = unless_given given line None
left_out given line (letter ∷ letters) = if letter == 10 then unless_given given line (left_out given [] letters) else left_out given (line ++ letter ∷ []) letters

-- all bytes of a list were read
abbrev pub IsReadWhole : List ℕ → List Call → List Call → Type 0
IsReadWhole text old new = new ≡ Read 0 (length text) (Some text) ∷ Len (Some (length text)) ∷ old

-- A list was written to a new file, and then synced.
abbrev pub IsWritten : List ℕ → List Call → List Call → Type 0
IsWritten text old new = new ≡ Sync true false ∷ Write 0 text true ∷ old

-- One of both was not answered, and nothing was asked after it.
abbrev pub IsUnwritten : List ℕ → List Call → List Call → Type 0
IsUnwritten text old new = (new ≡ Write 0 text false ∷ old) ⊎ (new ≡ Sync false false ∷ Write 0 text true ∷ old)

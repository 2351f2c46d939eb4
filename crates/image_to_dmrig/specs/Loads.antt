-- To be believed: what `lochknife words` prints is said in these words.
-- The lines of commands that give a disk of `dmrig` the bytes of an image. A new disk is zeros, so pieces of zeros have no line.
-- That a line has 16 sectors is this project's own choice: of any bytes it is shorter than `dmrig` takes.
use Rattle.std.specs.Prelude.{◌≡◌, ◌==◌, ℕ, zero, suc, ◌+◌, ◌-◌, ◌*◌, ◌/◌, List, [], ◌++◌, length, take, drop, min, codes, decimal, if◌then◌else◌}
use Rattle.std.specs.List.{list_all}
use Rattle.command_replies.specs.Runs.{data_words}

-- `disk NAME N`
abbrev pub disk_line : List ℕ → ℕ → List ℕ
disk_line name sectors = codes "disk " ++ (name ++ (codes " " ++ (decimal sectors ++ codes "\n")))

-- `load NAME S DATA`
abbrev pub load_line : List ℕ → ℕ → List ℕ → List ℕ
load_line name first bytes = codes "load " ++ (name ++ (codes " " ++ (decimal first ++ (data_words bytes ++ codes "\n"))))

-- sixteen sectors of an image, or as many as there are
abbrev pub piece : List ℕ → ℕ → List ℕ
piece bytes number = take 8192 (drop (8192 * number) bytes)

-- from a piece on there are so many bytes, or more than it has
abbrev pub IsRest : List ℕ → ℕ → ℕ → Type 0
IsRest bytes number count = count ≡ min (length bytes - 8192 * number) 8192

-- the line of a piece, if it is not all zeros
abbrev pub load_if : List ℕ → ℕ → List ℕ → List ℕ
load_if name number bytes = if list_all (λ byte. byte == 0) bytes then [] else load_line name (16 * number) bytes

-- the lines of so many pieces
abbrev pub loads_below : List ℕ → List ℕ → ℕ → List ℕ
loads_below name bytes zero = []
loads_below name bytes (suc number) = loads_below name bytes number ++ load_if name number (piece bytes number)

-- how many pieces so many sectors are
abbrev pub pieces : ℕ → ℕ
pieces sectors = (sectors + 15) / 16

-- the lines of an image of so many sectors
abbrev pub words_text : List ℕ → List ℕ → ℕ → List ℕ
words_text name bytes sectors = disk_line name sectors ++ loads_below name bytes (pieces sectors)

-- the front of a text
abbrev pub IsFrontOf : List ℕ → List ℕ → Type 0
IsFrontOf front whole = (rest : List ℕ) × (front ++ rest ≡ whole)

-- To be believed: `run`'s output, a volume's steps or its attach are said in these words.
-- The lines of a text, and what a read of one line does to the bytes that a reader has left.
-- A line ends with a line feed, as in any Unix text. That a long line is cut is this project's own choice.
use Rattle.std.specs.Prelude.{◌≡◌, ℕ, Bool, List, [], ◌∷◌, ◌++◌, length, ◌<◌, ◌≤◌, ◌==◌, if◌then◌else◌, ⊤, Option, Some, None, MatchBool}

-- a byte in front of the first line
abbrev pub begin_with : ℕ → List (List ℕ) → List (List ℕ)
begin_with b [] = (b ∷ []) ∷ []
begin_with b (line ∷ lines) = (b ∷ line) ∷ lines

-- The lines, each without its end. A last line without its end is a line.
abbrev pub lines_of : List ℕ → List (List ℕ)
lines_of [] = []
lines_of (b ∷ bytes) = if b == 10 then [] ∷ lines_of bytes else begin_with b (lines_of bytes)

-- What is kept of a line: all of one that has at most max bytes, and of a longer one more than max bytes.
abbrev pub IsKept : ℕ → List ℕ → List ℕ → Type 0
IsKept max line kept = (length line ≤ max → kept ≡ line) × (max < length line → max < length kept)

-- From old to new the first line was read and kept, or there was none. A reader whose bytes are not known
-- promises nothing.
abbrev pub ReadsLine : ℕ → Option (List ℕ) → Option (List ℕ) → Bool → List ℕ → Type 0
ReadsLine max (Some old) (Some new) more kept =
    MatchBool more ((line : List ℕ) × (lines_of old ≡ line ∷ lines_of new) × IsKept max line kept) (lines_of old ≡ [])
ReadsLine max (Some old) None more kept = ⊥
ReadsLine max None new more kept = ⊤

-- a line feed
abbrev pub is_end : ℕ → Bool
is_end byte = byte == 10

-- What is left of a text: what was read ahead, and what the reader still has.
abbrev pub left : List ℕ → Option (List ℕ) → Option (List ℕ)
left ahead None = None
left ahead (Some rest) = Some (ahead ++ rest)

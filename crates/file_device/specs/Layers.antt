-- The layers of a file. This project's own.
use Rattle.std.specs.Prelude.{ℕ, ◌*◌, Bool, true, false, List, [], ◌∷◌, map}
use Rattle.device.specs.Layers.{Layer, Broken, ReadAhead}
use Rattle.file_calls.specs.Calls.{Call, Len, Read, Write, SetLen, Sync}
use Rattle.file_calls.specs.Kept.{with_len, is_kept}
use Rattle.file_device.specs.declared.pieces.Pieces.{Pieces}
use Rattle.file_device.specs.Pieces.{range_of, pieces_in}

-- what a file held at first: so many sectors of it, with zeros behind its end
abbrev pub at_first : List ℕ → ℕ → List ℕ
at_first bytes sectors = with_len bytes (512 * sectors)

-- Whether the answers were those of a file that keeps what is written, as it was found by the last call that was done ahead. What a
-- write and a sync within an operation say of it is found by the next one: no operation changes whether a layer is loud.
abbrev pub is_found_kept : List ℕ → List Call → Bool
is_found_kept start [] = true
is_found_kept start (Len answer ∷ calls) = is_found_kept start calls
is_found_kept start (Read at count bytes ∷ calls) = is_kept start (Read at count bytes ∷ calls)
is_found_kept start (Write at bytes done ∷ calls) = is_found_kept start calls
is_found_kept start (SetLen n done ∷ calls) = is_found_kept start calls
is_found_kept start (Sync done true ∷ calls) = is_found_kept start calls
is_found_kept start (Sync done false ∷ calls) = is_kept start (Sync done false ∷ calls)

-- the layers: of a file that is given up, every operation fails
abbrev pub file_layers : Bool → Pieces → Bool → List Layer
file_layers true pieces kept = Broken ∷ ReadAhead (map range_of (pieces_in pieces)) kept ∷ []
file_layers false pieces kept = ReadAhead (map range_of (pieces_in pieces)) kept ∷ []

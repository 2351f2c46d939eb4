-- What was read ahead. This project's own.
use Rattle.std.specs.Prelude.{◌≡◌, ℕ, ◌+◌, ◌*◌, ◌<◌, ◌≤◌, ◌&&◌, ◌==◌, nat_lt, Bool, List, ◌∷◌, take, if◌then◌else◌}
use Rattle.sector.specs.Bytes.{sectors_at}
use Rattle.device.specs.Layers.{is_within}
use Rattle.file_device.specs.declared.piece.Piece.{Piece}
use Rattle.file_device.specs.declared.pieces.Pieces.{Pieces}

-- its range, as a layer has it
abbrev pub range_of : Piece → ℕ × ℕ
range_of p = (p.first, p.count)

-- whether it has all these sectors
abbrev pub has_all : ℕ → ℕ → Piece → Bool
has_all first count p = is_within first count (range_of p)

-- whether it has one of them
abbrev pub meets : ℕ → ℕ → Piece → Bool
meets first count p = nat_lt p.first (first + count) && nat_lt first (p.first + p.count)

-- those that there are
abbrev pub pieces_in : Pieces → List Piece
pieces_in ps = if ps.near.count == 0 then ps.more.items else ps.near ∷ ps.more.items

-- It has the bytes of its sectors, of a device with so many.
pub record IsPieceOf (bytes : List ℕ) (sectors : ℕ) (p : Piece) : Type 0 where
  pub some : 0 < p.count
  pub inside : p.first + p.count ≤ sectors
  pub same : take (512 * p.count) p.bytes.items ≡ sectors_at bytes p.first p.count

-- Requests of a volume between two moments, none of them a write of one snapshot: a merge of that snapshot undoes the writes
-- of the origin among them.
use Rattle.std.specs.Prelude.{◌≡◌, ◌==◌, ℕ, ◌+◌, ◌*◌, ◌/◌, ◌<◌, ◌≤◌, true, false, List, [], ◌∷◌, length}
use Rattle.std.specs.List.{All}
use Rattle.chunk.specs.Sizes.{is_chunk}
use Rattle.chunk.specs.Pieces.{Span}
use Rattle.plain_machine.specs.declared.request.Dev.{Dev}
use Rattle.plain_machine.specs.declared.request.Dev.TheVariants.{Origin, Snap as ToSnap}
use Rattle.plain_machine.specs.declared.request.Op.{Op}
use Rattle.plain_machine.specs.declared.request.Op.TheVariants.{Read, Write, Flush}
use Rattle.whole_commands.specs.Snaps.{Volume}
use Rattle.whole_commands.specs.Requests.{answered_by, FitsRange}
use Rattle.whole_commands.specs.MergeShown.{IsWell}

-- a volume of so many sectors, whose snapshots have chunks of sizes that are allowed, none of them less than this one
pub record IsVolume (sectors chunk : ℕ) (v : Volume) : Type 0 where
  pub whole : length v.origin.bytes ≡ 512 * sectors
  pub snaps : All (IsWell sectors) v.snaps
  pub allowed : is_chunk chunk ≡ true
  pub chunks : All (λ s. (is_chunk s.chunk ≡ true) × (chunk ≤ s.chunk)) v.snaps

-- a request of one piece
pub record Asked : Type 0 where
  pub dev : Dev
  pub op : Op
  pub piece : Span

-- these requests, one after the other
abbrev pub asked : List Asked → Volume → Volume
asked [] v = v
asked (a ∷ more) v = asked more (answered_by a.dev a.op a.piece v).state

-- it has a sector, lies inside the origin and its own device, and inside one chunk
pub record IsAsked (sectors chunk : ℕ) (a : Asked) : Type 0 where
  pub some : 0 < a.piece.count
  pub inside : a.piece.first + a.piece.count ≤ sectors
  pub sized : a.piece.first + a.piece.count ≤ a.piece.size
  pub bytes : FitsRange a.op a.piece.count
  pub one : a.piece.first + a.piece.count ≤ chunk * (a.piece.first / chunk) + chunk

-- it is no write of the snapshot of this number
abbrev pub Spares : ℕ → Dev → Op → Type 0
Spares number Origin op = Unit {0}
Spares number (ToSnap n) Read = Unit {0}
Spares number (ToSnap n) (Write bytes) = (n == number) ≡ false
Spares number (ToSnap n) Flush = Unit {0}

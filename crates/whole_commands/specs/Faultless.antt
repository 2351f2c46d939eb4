-- The settled machine of one volume whose devices never fail: each command in one big step, over plain arrays and the disks' raw bytes side by side.
-- It is this project's own; the kernel's admin-guide page on snapshots says in words what the arrays do.
use Rattle.std.specs.Prelude.{ℕ, ◌*◌, ◌/◌, List, [], ◌∷◌, take, drop, min, map, if◌then◌else◌}
use Rattle.sector.specs.Bytes.{with_sectors}
use Rattle.plain_machine.specs.Plain.{Saved, Live, Invalid}
use Rattle.chunk.specs.Pieces.{Span, pieces_of}
use Rattle.whole_commands.specs.Saves.{Saving, saved}

-- a snapshot: the sectors of its chunks, what it shows, and its store's raw bytes
pub record Snap : Type 0 where
  pub chunk : ℕ
  pub saved : Saved
  pub store : List ℕ

-- a volume: the origin's array, the origin disk's raw bytes, and its snapshots in order of attaching
pub record Settled : Type 0 where
  pub array : List ℕ
  pub disk : List ℕ
  pub snaps : List Snap

-- a live snapshot after one of the origin's chunks was saved for it
abbrev pub after_saving : ℕ → List ℕ → Saving → Snap
after_saving chunk array saving =
    record { chunk = chunk; saved = if saving.live then Live array else Invalid; store = saving.store }

abbrev pub save_for : List ℕ → ℕ → ℕ → List ℕ → Saved → Snap
save_for disk first chunk store (Live array) = after_saving chunk array (saved chunk disk store (first / chunk))
save_for disk first chunk store Invalid = record { chunk = chunk; saved = Invalid; store = store }

-- the chunk of a sector of the origin is saved in a snapshot, where that is live
abbrev pub save_in : List ℕ → ℕ → Snap → Snap
save_in disk first snap = save_for disk first snap.chunk snap.store snap.saved

-- A piece of an origin write: its chunk is saved in each live snapshot, and then its sectors are written to the origin
-- disk. Of the arrays that of the origin alone changes.
abbrev pub write_piece : ℕ → List ℕ → Settled → Settled
write_piece first bytes v = record {
  array = with_sectors v.array first bytes;
  disk = with_sectors v.disk first bytes;
  snaps = map (save_in v.disk first) v.snaps;
}

-- the pieces one after the other, each with its part of the bytes
abbrev pub write_pieces : List Span → List ℕ → Settled → Settled
write_pieces [] bytes v = v
write_pieces (piece ∷ pieces) bytes v =
    write_pieces pieces (drop (512 * piece.count) bytes) (write_piece piece.first (take (512 * piece.count) bytes) v)

-- requests go by the least chunk size of the attached snapshots, 1024 without one
abbrev pub piece_of : List Snap → ℕ
piece_of [] = 1024
piece_of (snap ∷ snaps) = min snap.chunk (piece_of snaps)

-- a settled write of the origin
unfoldable pub written : Span → List ℕ → Settled → Settled
written span bytes v = write_pieces (pieces_of (piece_of v.snaps) span) bytes v

-- To be believed: `run`'s output, a volume's steps or its attach are said in these words.
-- A merge that may be begun, and what the other snapshots keep back for it, as plain records. This project's own.
use Rattle.std.specs.Prelude.{◌&&◌, ℕ, Bool, List, Option, Some, None}
use Rattle.device.specs.Layers.{Layer, is_loud}
use Rattle.volume_laws.specs.Books.{MergeBooks}
use Rattle.volume_laws.specs.MergeRooms.{RoomSnap}
use Rattle.snapshot.specs.Kept.{Kept, books_of as snap_books}
use Rattle.merge.specs.Merging.{Merging, books_of as merging_books}

-- The books of a merge. loud: whether writes to the origin disk that answer Ok are done.
abbrev pub merge_books : {B : Type 0} → (B → List ℕ) → (B → List Layer) → Bool → Option (Merging B) → Option MergeBooks
merge_books contents layers loud None = None
merge_books contents layers loud (Some m) = Some (merging_books contents (loud && is_loud (layers m.device)) m)

-- a snapshot, with what it keeps back
abbrev pub room_of : {B : Type 0} → (B → List ℕ) → (B → List Layer) → Kept B → RoomSnap
room_of contents layers s = record { books = snap_books contents layers s; kept_back = s.kept_back; spare = s.spare; merging = s.merging }

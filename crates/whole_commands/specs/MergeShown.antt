-- What a volume with a merge shows: its origin is the picture of the origin disk and the merging store, from the merge's
-- beginning on; its snapshots show what they do without a merge.
use Rattle.std.specs.Prelude.{◌≡◌, ℕ, ◌+◌, ◌*◌, ◌<◌, ◌≤◌, true, List, length, Option, Some, None}
use Rattle.chunk.specs.Sizes.{is_chunk}
use Rattle.cow_format.specs.Pairs.{AreWellFormed}
use Rattle.cow_format.specs.Picture.{picture}
use Rattle.whole_commands.specs.Order.{IsInOrder}
use Rattle.whole_commands.specs.Snaps.{Snap}
use Rattle.std.specs.List.{All}
use Rattle.whole_commands.specs.Shown.{ShowTheSame}
use Rattle.whole_commands.specs.Merges.{Merge, Merged, Merging, pairs_in}

-- the origin's array, over an origin disk with these bytes
abbrev pub origin_through : List ℕ → Merge → List ℕ
origin_through origin g = picture g.chunk origin g.store.bytes

abbrev pub array_of : List ℕ → Option Merge → List ℕ
array_of origin None = origin
array_of origin (Some g) = origin_through origin g

abbrev pub origin_shown : Merged → List ℕ
origin_shown m = array_of m.volume.origin.bytes m.merge

-- the origin's array while a merge is begun
abbrev pub shown_through : Merging → List ℕ
shown_through m = origin_through m.volume.origin.bytes m.merge

-- A snapshot of an origin of so many sectors: while it is live its store is in order.
abbrev pub IsWell : ℕ → Snap → Type 0
IsWell sectors s = s.live ≡ true → (size : ℕ) × IsInOrder s.chunk sectors size s.store.bytes

-- A merge into an origin of so many sectors: the store's pairs are well formed, and the last of them stand in the area that
-- they are taken from.
pub record IsUnderWay (sectors : ℕ) (g : Merge) : Type 0 where
  pub some : 0 < g.chunk
  pub size : ℕ
  pub whole : length g.store.bytes ≡ 512 * size
  pub pairs : AreWellFormed g.chunk sectors size (pairs_in g)
  pub low : g.current * (32 * g.chunk) ≤ length (pairs_in g)
  pub high : length (pairs_in g) ≤ g.current * (32 * g.chunk) + 32 * g.chunk

-- a volume of so many sectors with a merge, and with chunks of sizes that are allowed
pub record IsMerging (sectors : ℕ) (m : Merging) : Type 0 where
  pub whole : length m.volume.origin.bytes ≡ 512 * sectors
  pub merge : IsUnderWay sectors m.merge
  pub snaps : All (IsWell sectors) m.volume.snaps
  pub allowed : is_chunk m.merge.chunk ≡ true
  pub chunks : All (λ s. is_chunk s.chunk ≡ true) m.volume.snaps

-- what the merge does is not seen: the origin shows what it showed, and so does each snapshot that is still live
pub record IsUnseen (sectors : ℕ) (m after : Merging) : Type 0 where
  pub holds : IsMerging sectors after
  pub chunk : after.merge.chunk ≡ m.merge.chunk
  pub origin : shown_through after ≡ shown_through m
  pub snaps : ShowTheSame m.volume.origin.bytes after.volume.origin.bytes m.volume.snaps after.volume.snaps

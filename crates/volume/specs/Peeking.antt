-- What a look past the layers gives, by the pairs that are in memory; and of which devices the bytes say what callers see,
-- whatever the others drop. This project's own.
use Rattle.std.specs.Prelude.{◌≡◌, ℕ, Bool, true, List, length, Option, Some, None, map, slice_get, slice_index_or}
use Rattle.std.specs.List.{range_with_len}
use Rattle.sector.specs.Bytes.{sectors_at}
use Rattle.sector.specs.declared.pair.Pair.{Pair}
use Rattle.cow_format.specs.Picture.{picture_at}
use Rattle.device.specs.Layers.{Layer, is_loud}
use Rattle.plain_machine.specs.declared.request.Dev.{Dev}
use Rattle.plain_machine.specs.declared.request.Dev.TheVariants.{Origin, Snap}
use Rattle.snapshot.specs.Kept.{Kept}
use Rattle.snapshot_list.specs.Finding.{place_of_snap}
use Rattle.merge.specs.Merging.{Merging}
use Rattle.volume.specs.Volumed.{Volumed}

-- no layer drops the writes of the store of the snapshot at a place
abbrev pub is_loud_at : {B : Type 0} → (B → List Layer) → List (Kept B) → Option ℕ → Bool
is_loud_at layers snaps None = true
is_loud_at layers snaps (Some k) = slice_index_or (map (λ s. is_loud (layers s.device)) snaps) k true

-- nor those of the merging store, if there is one
abbrev pub is_loud_merging : {B : Type 0} → (B → List Layer) → Option (Merging B) → Bool
is_loud_merging layers None = true
is_loud_merging layers (Some m) = is_loud (layers m.device)

-- The origin's own bytes are what it shows, beside a merge with those of the merging store where no layer drops writes of
-- that; those of a snapshot are, with its store's, where no layer drops writes of that.
abbrev pub is_loud_under : {B : Type 0} → (B → List Layer) → Dev → Option (Merging B) → List (Kept B) → Bool
is_loud_under layers Origin merge snaps = is_loud_merging layers merge
is_loud_under layers (Snap number) merge snaps = is_loud_at layers snaps (place_of_snap number snaps)

-- what these pairs say that a store over an origin disk shows, whatever pairs its own bytes have
abbrev pub picture_by : ℕ → List ℕ → List ℕ → List Pair → List ℕ
picture_by chunk origin store pairs = map (picture_at chunk origin store pairs) (range_with_len 0 (length origin))

-- the origin, and a snapshot, by the pairs that are in memory
abbrev pub listed_origin : {B : Type 0} → (B → List ℕ) → B → Option (Merging B) → List ℕ
listed_origin contents origin None = contents origin
listed_origin contents origin (Some m) = picture_by m.state.chunk (contents origin) (contents m.device) m.pairs

abbrev pub listed_snap : {B : Type 0} → (B → List ℕ) → List ℕ → Kept B → List ℕ
listed_snap contents origin s = picture_by s.state.chunk origin (contents s.device) s.pairs

-- a buffer has these sectors of what a device shows by the pairs that are in memory: of the first snapshot with its number
abbrev pub IsListed : {B : Type 0} → (B → List ℕ) → Dev → ℕ → ℕ → Volumed B → List ℕ → Type 0
IsListed contents Origin first count v out = out ≡ sectors_at (listed_origin contents v.origin v.merge) first count
IsListed contents (Snap number) first count v out =
    (k : ℕ) × (place_of_snap number v.snaps ≡ Some k) × ((s : Kept _) × (slice_get v.snaps k ≡ Some s) × (out ≡ sectors_at (listed_snap contents (contents v.origin) s) first count))

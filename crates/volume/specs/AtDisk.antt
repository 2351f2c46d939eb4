-- Which requests wait for nothing and go to the origin disk or to a snapshot's store, where no merge is begun.
use Rattle.std.specs.Prelude.{◌≡◌, ◌⊎◌, ◌/◌, ℕ, true, List, None, Option, Some, map, slice_index_or}
use Rattle.device.specs.Layers.{Layer}
use Rattle.cow_format.specs.Picture.{place_of}
use Rattle.plain_machine.specs.declared.request.Request.{Request}
use Rattle.in_flight.specs.Kinds.{kind_of}
use Rattle.in_flight.specs.declared.flights.Kind.TheVariants.{OriginRead, OriginWrite, SnapRead}
use Rattle.volume_laws.specs.Published.{is_clear}
use Rattle.snapshot.specs.Kept.{Kept, books_of as snap_books}
use Rattle.snapshot_list.specs.Finding.{place_of_snap}

-- a read of the snapshot at place k of the list, whose chunk's committed copy stands at a place of its store, or nowhere
pub record IsReadOf {B : Type 0} (request : Request) (k : ℕ) (place : Option ℕ) (snaps : List (Kept B)) : Type 0 where
  pub id : ℕ
  pub kind : kind_of request ≡ SnapRead id
  pub found : place_of_snap id snaps ≡ Some k
  pub stands : (s : Kept B) → s ≡ slice_index_or snaps k s → place_of s.pairs (request.range.first / s.state.chunk) ≡ place

-- a read of the origin, a write of it whose chunk each live snapshot has published, or a read of a snapshot whose chunk has no copy
abbrev pub GoesToDisk : {B : Type 0} → (B → List ℕ) → (B → List Layer) → Request → List (Kept B) → Type 0
GoesToDisk contents layers request snaps =
    (kind_of request ≡ OriginRead) ⊎ ((kind_of request ≡ OriginWrite) × (is_clear (map (snap_books contents layers) snaps) request.range.first ≡ true)) ⊎ ((k : ℕ) × IsReadOf request k None snaps)

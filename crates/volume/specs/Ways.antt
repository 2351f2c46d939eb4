-- What is known of a request by the way it goes.
use Rattle.std.specs.Prelude.{◌≡◌, ℕ, true, false, List, None, Some, map}
use Rattle.device.specs.Layers.{Layer}
use Rattle.plain_machine.specs.declared.request.Request.{Request}
use Rattle.in_flight.specs.Kinds.{kind_of}
use Rattle.in_flight.specs.declared.flights.Kind.TheVariants.{OriginWrite}
use Rattle.volume_laws.specs.Published.{is_clear}
use Rattle.snapshot.specs.Kept.{books_of as snap_books}
use Rattle.volume.specs.AtDisk.{GoesToDisk, IsReadOf}
use Rattle.volume.specs.Leaving.{is_quiet_of}
use Rattle.volume.specs.Volumed.{Volumed}
use Rattle.volume.specs.declared.ways.Way.{Way}
use Rattle.volume.specs.declared.ways.Way.TheVariants.{Copies, Disk, Other, Store}

-- where no merge is begun, a request of a quiet volume that goes to the origin disk or to a snapshot's store at once, or a write of
-- the origin that waits; of any other nothing is known
abbrev pub IsWayOf : {B : Type 0} → (B → List ℕ) → (B → List Layer) → Request → Way → Volumed B → Type 0
IsWayOf contents layers request Disk v = (is_quiet_of v ≡ true) × (v.merge ≡ None) × GoesToDisk contents layers request v.snaps
IsWayOf contents layers request (Store k at) v = (is_quiet_of v ≡ true) × (v.merge ≡ None) × IsReadOf request k (Some at) v.snaps
IsWayOf contents layers request Copies v = (v.merge ≡ None) × (kind_of request ≡ OriginWrite) × (is_clear (map (snap_books contents layers) v.snaps) request.range.first ≡ false)
IsWayOf contents layers request Other v = Unit {0}

-- What ends serving, and what makes a reply an error that the volume took for done. This project's own: a snapshot whose store can't be
-- marked would be loaded again as a good one, so nothing may be written over what it shows. A store that is being merged holds what the
-- origin shows, so its file counts as the origin's does.
use Rattle.std.specs.Prelude.{◌==◌, ◌&&◌, ◌||◌, ℕ, Bool, false, List, Option, Some, None, if◌then◌else◌}
use Rattle.std.specs.List.{list_any}
use Rattle.plain_machine.specs.declared.request.Dev.{Dev}
use Rattle.plain_machine.specs.declared.request.Dev.TheVariants.{Origin as OfOrigin, Snap}
use Rattle.merge.specs.Merging.{Merging}
use Rattle.snapshot.specs.Kept.{Kept}
use Rattle.volume.specs.Volumed.{Volumed}
use Rattle.volume_nbd.specs.Served.{Served}
use Rattle.volume_nbd.specs.declared.faults.Fault.{Fault}
use Rattle.volume_nbd.specs.declared.faults.Fault.TheVariants.{Origin, Merging as OfMerging, Unmarked, NoMemory}

-- whether the file of a snapshot's store left a write or a sync unanswered
abbrev pub is_store_failed : {B : Type 0} → (B → Bool) → ℕ → List (Kept B) → Bool
is_store_failed failed number snaps = list_any (λ s. (s.number == number) && failed s.device) snaps

-- whether the file of a store that is being merged did
abbrev pub is_merging_failed : {B : Type 0} → (B → Bool) → Option (Merging B) → Bool
is_merging_failed failed None = false
is_merging_failed failed (Some m) = failed m.device

-- whether a file did that holds what the origin shows: its own, or that of a store that is being merged
abbrev pub is_origin_failed : {B : Type 0} → (B → Bool) → Volumed B → Bool
is_origin_failed failed v = failed v.origin || is_merging_failed failed v.merge

-- whether a file did on which the replies of a device rest: those of the origin, or also the store's of a snapshot
abbrev pub is_failed_at : {B : Type 0} → (B → Bool) → Dev → Volumed B → Bool
is_failed_at failed OfOrigin v = is_origin_failed failed v
is_failed_at failed (Snap number) v = is_origin_failed failed v || is_store_failed failed number v.snaps

-- whether nothing is done any more: such a file of the origin failed, or a store can't be marked as invalid
abbrev pub is_stopped : {B : Type 0} → (B → Bool) → Volumed B → Bool
is_stopped failed v = is_origin_failed failed v || list_any (λ s. s.stale) v.snaps

-- why nothing is done any more, the first of the reasons
abbrev pub fault_of : {B : Type 0} → (B → Bool) → Served B → Option Fault
fault_of failed a =
    if failed a.volume.origin then Some Origin
    else if is_merging_failed failed a.volume.merge then Some OfMerging
    else if list_any (λ s. s.stale) a.volume.snaps then Some Unmarked
    else if a.starved then Some NoMemory else None

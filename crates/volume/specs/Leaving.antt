-- To be believed: `run`'s output, a volume's steps or its attach are said in these words.
-- When a volume is closed, a snapshot leaves it, and what callers may ask of one. That a volume has to be quiet is this
-- project's own rule; the numbers are those of the kernel's status lines.
use Rattle.std.specs.Prelude.{◌≡◌, ◌==◌, ◌&&◌, not, ℕ, ◌+◌, ◌*◌, ◌≤◌, Bool, true, false, List, length, Option, Some, None, if◌then◌else◌, slice_index_or}
use Rattle.std.specs.List.{list_all, remove}
use Rattle.std.specs.Option.{is_some}
use Rattle.device.specs.Layers.{Layer, is_loud}
use Rattle.sector.specs.declared.refusal.Refusal.{Refusal}
use Rattle.sector.specs.declared.refusal.Refusal.TheVariants.{NoSuchDevice, Busy, NotQuiet, MergeInProgress}
use Rattle.chunk_alloc.specs.declared.usage.Usage.{Usage}
use Rattle.snapshot.specs.declared.opening.StoreDev.{StoreDev}
use Rattle.snapshot.specs.Kept.{Kept}
use Rattle.snapshot.specs.Rest.{IsStill}
use Rattle.snapshot_list.specs.Finding.{place_of_snap}
use Rattle.merge.specs.Due.{has_group_of}
use Rattle.merge.specs.Merging.{Merging}
use Rattle.volume.specs.Volumed.{Volumed}
use Rattle.volume.specs.Submitting.{is_merging}

-- no copy of a snapshot is pending, and its mark is not wanted or was tried
abbrev pub is_done_of : {B : Type 0} → Kept B → Bool
is_done_of s = (length s.copies == 0) && (length s.marks == 0) && not s.untried

-- whether a merge is begun, and a group of it is formed
abbrev pub has_group_in : {B : Type 0} → Option (Merging B) → Bool
has_group_in None = false
has_group_in (Some m) = has_group_of m.group

-- no request is in flight, no group is formed, and each snapshot is done
abbrev pub is_quiet_of : {B : Type 0} → Volumed B → Bool
is_quiet_of v = (length v.flights == 0) && (not (has_group_in v.merge) && list_all is_done_of v.snaps)

-- Where a snapshot is live and no layer drops its store's writes, what it knows stands in the store's bytes. An origin has
-- 2_147_483_648 sectors at most.
abbrev pub IsStillOn : {B : Type 0} → (B → List ℕ) → (B → List Layer) → Kept B → Type 0
IsStillOn contents layers s = s.live ≡ true → is_loud (layers s.device) ≡ true → s.state.origin ≤ 2_147_483_648 → IsStill contents s

-- why a volume is not closed
abbrev pub close_refusal : {B : Type 0} → Volumed B → Option Refusal
close_refusal v = if (length v.snaps == 0) && not (is_some v.merge) then (if length v.flights == 0 then None else Some NotQuiet) else Some Busy

-- why a snapshot that is not being merged may not leave: by its place, and by whether the volume is quiet
abbrev pub leaving_refusal : Option ℕ → Bool → Option Refusal
leaving_refusal None quiet = Some NoSuchDevice
leaving_refusal (Some k) quiet = if quiet then None else Some NotQuiet

abbrev pub detach_refusal : {B : Type 0} → ℕ → Volumed B → Option Refusal
detach_refusal number v = if is_merging number v.merge then Some MergeInProgress else leaving_refusal (place_of_snap number v.snaps) (is_quiet_of v)

-- the snapshot with a number left, with its store
pub record IsWithout {B : Type 0} (number : ℕ) (old new : Volumed B) (store : StoreDev B) : Type 0 where
  pub place : ℕ
  pub found : place_of_snap number old.snaps ≡ Some place
  pub device : (d : Kept B) → store.device ≡ (slice_index_or old.snaps place d).device
  pub stale : (d : Kept B) → store.stale ≡ (slice_index_or old.snaps place d).stale
  pub becomes : new ≡ record old { snaps = remove old.snaps place }

-- the numbers of a snapshot's status line, in sectors; none of a spoiled one
abbrev pub usage_of : {B : Type 0} → Kept B → Option Usage
usage_of s = if s.live then Some (record { allocated = s.next * s.state.chunk; total = s.state.size; metadata = (s.state.current + 2) * s.state.chunk }) else None

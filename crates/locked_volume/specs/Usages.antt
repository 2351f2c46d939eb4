-- To be believed: the usage of each place of a volume, which its boards say.
-- The numbers are those of the kernel's status lines; that a place counts snapshots in order of attaching is this project's own.
use Rattle.std.specs.Prelude.{◌&&◌, nat_lt, ℕ, ◌-◌, ◌^◌, Bool, List, Option, Some, None, map, min, count_by, slice_index_or, if◌then◌else◌}
use Rattle.std.specs.List.{insert}
use Rattle.thread_channels.specs.Words.{no_usage}
use Rattle.thread_channels.specs.declared.usage.PlaceState.TheVariants.{Good, Invalid, MergeFailed, Overflow}
use Rattle.thread_channels.specs.declared.usage.PlaceUsage.{PlaceUsage}
use Rattle.chunk_alloc.specs.declared.usage.Usage.{Usage as Sectors}
use Rattle.merge.specs.Merging.{Merging}
use Rattle.plain_machine.specs.Plain.{did_overflow}
use Rattle.snapshot.specs.Kept.{Kept}
use Rattle.volume.specs.Asking.{merging_usage}
use Rattle.volume.specs.Leaving.{usage_of}
use Rattle.volume.specs.Volumed.{Volumed}

-- A number of sectors as a board's word has it. Those of a store in memory are below 2 ^ 25; one that had no room in the word would be
-- the largest that has.
abbrev pub fitted : ℕ → ℕ
fitted n = min n (2 ^ 28 - 1)

-- a store in use
abbrev pub used : Sectors → PlaceUsage
used s = record { state = Good; allocated = fitted s.allocated; metadata = fitted s.metadata }

abbrev pub spoiled : PlaceUsage
spoiled = record { state = Invalid; allocated = 0; metadata = 0 }

abbrev pub failed : PlaceUsage
failed = record { state = MergeFailed; allocated = 0; metadata = 0 }

-- of a snapshot, which may be spoiled
abbrev pub used_or_spoiled : Option Sectors → PlaceUsage
used_or_spoiled None = spoiled
used_or_spoiled (Some s) = used s

-- one whose store overflowed
abbrev pub overflown : PlaceUsage
overflown = record { state = Overflow; allocated = 0; metadata = 0 }

abbrev pub shown_of : {B : Type 0} → Kept B → PlaceUsage
shown_of s = if s.live && did_overflow s.overflow then overflown else used_or_spoiled (usage_of s)

-- of the one that is being merged
abbrev pub shown_merge : {B : Type 0} → Merging B → PlaceUsage
shown_merge m = if m.failed then failed else used (merging_usage m)

-- whether a snapshot was attached before the one with this number
abbrev pub is_before : {B : Type 0} → ℕ → Kept B → Bool
is_before number s = nat_lt s.number number

-- The usages of a volume's snapshots in order of attaching, the one that is being merged in its place among them.
abbrev pub usages_with : {B : Type 0} → Option (Merging B) → List (Kept B) → List PlaceUsage
usages_with None snaps = map shown_of snaps
usages_with (Some m) snaps = insert (map shown_of snaps) (count_by (is_before m.number) snaps) (shown_merge m)

-- the usage of a place, which is empty past the last snapshot
abbrev pub usage_at : {B : Type 0} → ℕ → Volumed B → PlaceUsage
usage_at place v = slice_index_or (usages_with v.merge v.snaps) place no_usage

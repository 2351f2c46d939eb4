-- A usage as one word. The states are those of the kernel's status line of a snapshot, as its admin-guide page on
-- snapshots has them, and that of a place with no snapshot. Their numbers and the layout are this project's own.
use Rattle.std.specs.Prelude.{ℕ, ◌+◌, ◌*◌, ◌<◌, ◌^◌}
use Rattle.thread_channels.specs.declared.usage.PlaceState.{PlaceState}
use Rattle.thread_channels.specs.declared.usage.PlaceState.TheVariants.{Good, Invalid, MergeFailed, Overflow, Empty}
use Rattle.thread_channels.specs.declared.usage.PlaceUsage.{PlaceUsage}

abbrev pub state_code : PlaceState → ℕ
state_code Good = 0
state_code Invalid = 1
state_code MergeFailed = 2
state_code Overflow = 3
state_code Empty = 4

-- the state in front, then 28 bits for what is allocated and 28 for what is metadata
abbrev pub usage_word : PlaceUsage → ℕ
usage_word u = (state_code u.state * 2 ^ 28 + u.allocated) * 2 ^ 28 + u.metadata

-- each number has room in its bits. Those of a store in memory are below 2 ^ 25
abbrev pub IsNarrow : PlaceUsage → Type 0
IsNarrow u = (u.allocated < 2 ^ 28) × (u.metadata < 2 ^ 28)

-- the place has no snapshot
abbrev pub no_usage : PlaceUsage
no_usage = record { state = Empty; allocated = 0; metadata = 0 }

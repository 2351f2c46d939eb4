-- To be believed: `run`'s output, a volume's steps or its attach are said in these words.
-- Which events of a merge may be due. A merge that failed has no group, and none of them is. What requests in flight and
-- other snapshots have to say is their volume's to test.
use Rattle.std.specs.Prelude.{◌==◌, ◌&&◌, not, ℕ, ◌+◌, ◌*◌, ◌-◌, nat_le, nat_lt, Bool, true, false, length, Option, Some, None, if◌then◌else◌}
use Rattle.sector.specs.declared.pair.Pair.{Pair}
use Rattle.store.specs.Grouping.{shifted}
use Rattle.merge.specs.declared.group.Group.{Group}
use Rattle.merge.specs.declared.group.Progress.{Progress}
use Rattle.merge.specs.declared.group.Progress.TheVariants.{Open, Full, Flushed, Committed}
use Rattle.merge.specs.Merging.{Merging}

abbrev pub has_group_of : Option Group → Bool
has_group_of None = false
has_group_of (Some g) = true

-- no pair is left, and no group
abbrev pub is_finished_of : {B : Type 0} → Merging B → Bool
is_finished_of m = (length m.pairs == 0) && not (has_group_of m.group)

-- the next group may be formed: none is there, and the current area has slots in use
abbrev pub can_group_of : {B : Type 0} → Merging B → Bool
can_group_of m = not m.failed && (not (has_group_of m.group) && nat_lt 0 m.state.filled)

-- the area before the current one may be read: that is empty, and not the first
abbrev pub can_read_area_of : {B : Type 0} → Merging B → Bool
can_read_area_of m = not m.failed && (not (has_group_of m.group) && ((m.state.filled == 0) && nat_lt 0 m.state.current))

-- the last pair that waits, which is copied next
abbrev pub last_in : Group → Option Pair
last_in g = if nat_lt 0 g.waiting then Some (shifted g.first (g.waiting - 1)) else None

abbrev pub next_of : Option Group → Option Pair
next_of None = None
next_of (Some g) = last_in g

-- the pair whose chunk may be read: the buffer is free
abbrev pub read_at_progress : Progress → Group → Option Pair
read_at_progress Open g = last_in g
read_at_progress Full g = None
read_at_progress Flushed g = None
read_at_progress Committed g = None

abbrev pub next_read_of : Option Group → Option Pair
next_read_of None = None
next_read_of (Some g) = read_at_progress g.progress g

-- the pair whose chunk is in the buffer
abbrev pub full_at : Progress → Group → Option Pair
full_at Open g = None
full_at Full g = Some (shifted g.first g.waiting)
full_at Flushed g = None
full_at Committed g = None

abbrev pub full_of : Option Group → Option Pair
full_of None = None
full_of (Some g) = full_at g.progress g

-- all chunks are copied, and the origin is to be flushed
abbrev pub flush_at : Progress → Group → Bool
flush_at Open g = g.waiting == 0
flush_at Full g = false
flush_at Flushed g = false
flush_at Committed g = false

abbrev pub can_flush_of : Option Group → Bool
can_flush_of None = false
can_flush_of (Some g) = flush_at g.progress g

-- the origin is flushed, and the area is to be written
abbrev pub commit_at : Progress → Bool
commit_at Open = false
commit_at Full = false
commit_at Flushed = true
commit_at Committed = false

abbrev pub can_commit_of : Option Group → Bool
can_commit_of None = false
can_commit_of (Some g) = commit_at g.progress

-- the area is written, and the group may end
abbrev pub release_at : Progress → Bool
release_at Open = false
release_at Full = false
release_at Flushed = false
release_at Committed = true

abbrev pub can_release_of : Option Group → Bool
can_release_of None = false
can_release_of (Some g) = release_at g.progress

-- The chunks of a group that wait may be copied back at once: at least two do, none is in the buffer, and each lies whole on an origin of
-- so many sectors.
abbrev pub copy_at : Progress → Group → ℕ → ℕ → Bool
copy_at Open g chunk sectors = nat_lt 1 g.waiting && nat_le (chunk * (g.first.old + g.waiting)) sectors
copy_at Full g chunk sectors = false
copy_at Flushed g chunk sectors = false
copy_at Committed g chunk sectors = false

abbrev pub can_copy_of : Option Group → ℕ → ℕ → Bool
can_copy_of None chunk sectors = false
can_copy_of (Some g) chunk sectors = copy_at g.progress g chunk sectors

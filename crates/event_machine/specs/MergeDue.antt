-- Which event of a merge is due, and which event of the whole volume, as `volume_laws` has it: what ends a group comes first,
-- and all of it after the events of snapshots and requests.
use Rattle.std.specs.Prelude.{◌==◌, ◌&&◌, not, ℕ, ◌*◌, nat_lt, Bool, false, List, [], ◌∷◌, length, drop, Option, Some, None}
use Rattle.std.specs.List.{list_any}
use Rattle.sector.specs.declared.pair.Pair.{Pair}
use Rattle.plain_machine.specs.declared.event.Event.{Event}
use Rattle.plain_machine.specs.declared.event.Event.TheVariants.{MergeGroup, MergeAreaRead, MergeRead, MergeWrite, MergeFlush, MergeCommit, MergeRelease}
use Rattle.in_flight.specs.Copies.{count_of}
use Rattle.in_flight.specs.Kinds.{kind_of}
use Rattle.volume_laws.specs.MergeDue.{is_none, last_of, next_pair, goes_to, writes_to, one_of, due_or}
use Rattle.whole_commands.specs.Devices.{sectors_of}
use Rattle.event_machine.specs.Held.{SnapHeld, Going, MergeHeld, Moving, group_in}
use Rattle.event_machine.specs.Again.{is_clear_over}
use Rattle.event_machine.specs.Due.{due}

-- the pairs that stand in the area they are taken from
abbrev pub in_area : MergeHeld → List Pair
in_area m = drop (m.merge.current * (32 * m.merge.chunk)) m.pairs

-- the merge runs, and no group is formed
abbrev pub is_free : MergeHeld → Bool
is_free m = not m.merge.failed && is_none (group_in m)

-- MergeGroup, MergeAreaRead: the area has pairs, or it has none and is not the first
abbrev pub can_group : MergeHeld → Bool
can_group m = is_free m && nat_lt 0 (length (in_area m))

abbrev pub can_read_area : MergeHeld → Bool
can_read_area m = is_free m && ((length (in_area m) == 0) && nat_lt 0 m.merge.current)

-- whether a request writes at a place of the merging store, or goes to the place of one of these pairs
abbrev pub is_writing : ℕ → Going → Bool
is_writing place r = writes_to place (kind_of r.request) r.route

abbrev pub is_using : List Pair → Going → Bool
is_using pairs r = list_any (λ q. goes_to q.new (kind_of r.request) r.route) pairs

-- MergeRead: a pair waits, no chunk is in the buffer, and no write in flight goes to the last waiting pair's place
abbrev pub is_readable : List Going → Option Pair → Bool
is_readable rs None = false
is_readable rs (Some q) = not (list_any (is_writing q.new) rs)

abbrev pub can_read : List Going → MergeHeld → Bool
can_read rs m = is_none m.reading && is_readable rs (last_of m.waiting)

-- the pair whose chunk is copied next: the one in the buffer, or the last that waits
abbrev pub next_of : MergeHeld → Option Pair
next_of m = next_pair m.reading m.waiting

-- MergeWrite: a chunk is in the buffer, each live snapshot has published all chunks that it touches, on an origin of so many
-- sectors, and no invalid mark is untried
abbrev pub is_writable : List SnapHeld → ℕ → ℕ → List Pair → Bool
is_writable snaps chunk sectors [] = false
is_writable snaps chunk sectors (q ∷ pairs) = is_clear_over snaps (chunk * q.old) (count_of chunk sectors q.old)

abbrev pub can_write : ℕ → List SnapHeld → MergeHeld → Bool
can_write sectors snaps m = is_writable snaps m.merge.chunk sectors m.reading

-- MergeFlush: all chunks are copied, and the origin was not flushed since. MergeCommit: it was.
abbrev pub is_copied : MergeHeld → Bool
is_copied m = is_none m.waiting && (is_none m.reading && not (is_none m.copied))

abbrev pub can_flush : MergeHeld → Bool
can_flush m = is_copied m && not m.flushed

abbrev pub can_commit_group : MergeHeld → Bool
can_commit_group m = is_copied m && m.flushed

-- MergeRelease: the group is committed, and no origin request in flight goes to a place of it
abbrev pub can_release : List Going → MergeHeld → Bool
can_release rs m = not (is_none m.released) && not (list_any (is_using m.released) rs)

-- the event of a merge that is due first, on an origin of so many sectors
abbrev pub merge_due : ℕ → List SnapHeld → List Going → Option MergeHeld → Option Event
merge_due sectors snaps rs None = None
merge_due sectors snaps rs (Some m) =
    one_of (can_release rs m) MergeRelease
    (one_of (can_commit_group m) MergeCommit
    (one_of (can_flush m) MergeFlush
    (one_of (can_write sectors snaps m) MergeWrite
    (one_of (can_read rs m) MergeRead
    (one_of (can_read_area m) MergeAreaRead
    (one_of (can_group m) MergeGroup None))))))

-- of the whole volume
abbrev pub due_all : Moving → Option Event
due_all v = due_or (due v) (merge_due (sectors_of v.origin) v.snaps v.requests v.merge)

-- no pair is left, and no group is formed
abbrev pub is_finished : MergeHeld → Bool
is_finished m = is_none m.pairs && is_none (group_in m)

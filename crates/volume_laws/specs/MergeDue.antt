-- To be believed: `run`'s output, a volume's steps or its attach are said in these words.
-- Which event of a merge is due, and a whole number that each of them lowers. The order is this project's own: events of
-- snapshots and requests come before those of a merge, and of these what ends a group comes first.
use Rattle.std.specs.Prelude.{◌==◌, ◌&&◌, ◌||◌, not, ℕ, ◌+◌, ◌*◌, ◌-◌, Bool, true, false, List, [], ◌∷◌, length, map, nat_lt, Option, Some, None, count_by, sum_by, if◌then◌else◌}
use Rattle.std.specs.List.{list_any}
use Rattle.sector.specs.declared.pair.Pair.{Pair}
use Rattle.plain_machine.specs.declared.event.Event.{Event}
use Rattle.plain_machine.specs.declared.event.Event.TheVariants.{MergeGroup, MergeAreaRead, MergeRead, MergeWrite, MergeFlush, MergeCommit, MergeRelease}
use Rattle.in_flight.specs.Copies.{count_of}
use Rattle.in_flight.specs.Kinds.{kind_of}
use Rattle.in_flight.specs.declared.flights.Flight.{Flight}
use Rattle.in_flight.specs.declared.flights.Kind.{Kind}
use Rattle.in_flight.specs.declared.flights.Kind.TheVariants.{OriginRead, OriginWrite, OriginFlush, SnapRead, SnapWrite, SnapFlush}
use Rattle.in_flight.specs.declared.flights.Route.{Route}
use Rattle.in_flight.specs.declared.flights.Route.TheVariants.{Held, Origin, Store, Whole, Refused}
use Rattle.in_flight.specs.declared.copies.Stage.TheVariants.{Waiting}
use Rattle.volume_laws.specs.Books.{SnapBooks, MergeBooks, group_of}
use Rattle.volume_laws.specs.Published.{is_clear_over}
use Rattle.volume_laws.specs.Touched.{lacks_chunk, touched_by}
use Rattle.volume_laws.specs.Due.{DueSnap, books_of, due_of, is_due, steps_at, left_of}

-- A merge. failed: one of its own operations was answered by a fault, and it was not resumed. flushed: all chunks of the
-- group are copied, and the origin was flushed since. filled: the slots in use of the current area; current: its number.
pub record DueMerge : Type 0 where
  pub books : MergeBooks
  pub failed : Bool
  pub flushed : Bool
  pub filled : ℕ
  pub current : ℕ

abbrev pub is_none : {A : Type 0} → List A → Bool
is_none [] = true
is_none (x ∷ xs) = false

-- a group is formed
abbrev pub has_group : MergeBooks → Bool
has_group m = not (is_none (group_of m))

-- no pair is left, and no group
abbrev pub is_finished : MergeBooks → Bool
is_finished m = is_none m.pairs && not (has_group m)

-- the last of some pairs
abbrev pub last_of : List Pair → Option Pair
last_of [] = None
last_of (q ∷ []) = Some q
last_of (q ∷ p ∷ pairs) = last_of (p ∷ pairs)

-- the pair whose chunk is copied next: the one in the buffer, or the last that waits
abbrev pub next_pair : List Pair → List Pair → Option Pair
next_pair [] waiting = last_of waiting
next_pair (q ∷ reading) waiting = Some q

-- whether an origin request goes to a place on the store, and whether it is a write
abbrev pub goes_to : ℕ → Kind → Route → Bool
goes_to place OriginRead Held = false
goes_to place OriginRead Origin = false
goes_to place OriginRead (Store n) = n == place
goes_to place OriginRead Whole = false
goes_to place OriginRead Refused = false
goes_to place OriginWrite Held = false
goes_to place OriginWrite Origin = false
goes_to place OriginWrite (Store n) = n == place
goes_to place OriginWrite Whole = false
goes_to place OriginWrite Refused = false
goes_to place OriginFlush route = false
goes_to place (SnapRead snap) route = false
goes_to place (SnapWrite snap) route = false
goes_to place (SnapFlush snap) route = false

abbrev pub writes_to : ℕ → Kind → Route → Bool
writes_to place OriginRead route = false
writes_to place OriginWrite route = goes_to place OriginWrite route
writes_to place OriginFlush route = false
writes_to place (SnapRead snap) route = false
writes_to place (SnapWrite snap) route = false
writes_to place (SnapFlush snap) route = false

abbrev pub is_writing : ℕ → Flight → Bool
is_writing place f = writes_to place (kind_of f.request) f.route

abbrev pub is_using : List Pair → Flight → Bool
is_using pairs f = list_any (λ q. goes_to q.new (kind_of f.request) f.route) pairs

-- MergeGroup, MergeAreaRead: no group is formed; the area has pairs, or it has none and is not the first
abbrev pub can_group : DueMerge → Bool
can_group d = not d.failed && not (has_group d.books) && nat_lt 0 d.filled

abbrev pub can_read_area : DueMerge → Bool
can_read_area d = not d.failed && not (has_group d.books) && (d.filled == 0) && nat_lt 0 d.current

-- MergeRead: a pair waits, no chunk is in the buffer, and no write in flight goes to the last waiting pair's place
abbrev pub is_readable : List Flight → Option Pair → Bool
is_readable rs None = false
is_readable rs (Some q) = not (list_any (is_writing q.new) rs)

abbrev pub can_read : List Flight → MergeBooks → Bool
can_read rs m = is_none m.reading && is_readable rs (last_of m.waiting)

-- MergeWrite: a chunk is in the buffer, each live snapshot has published all chunks that it touches, on an origin of so many
-- sectors, and no invalid mark is untried
abbrev pub is_writable : List SnapBooks → ℕ → ℕ → List Pair → Bool
is_writable snaps chunk sectors [] = false
is_writable snaps chunk sectors (q ∷ pairs) = is_clear_over snaps (chunk * q.old) (count_of chunk sectors q.old)

abbrev pub can_write : List SnapBooks → MergeBooks → Bool
can_write snaps m = is_writable snaps m.chunk m.sectors m.reading

-- MergeFlush: all chunks are copied, and the origin was not flushed since. MergeCommit: it was.
abbrev pub is_copied : MergeBooks → Bool
is_copied m = is_none m.waiting && is_none m.reading && not (is_none m.copied)

abbrev pub can_flush : DueMerge → Bool
can_flush d = is_copied d.books && not d.flushed

abbrev pub can_commit_group : DueMerge → Bool
can_commit_group d = is_copied d.books && d.flushed

-- MergeRelease: the group is committed, and no origin request in flight goes to a place of it
abbrev pub can_release : List Flight → MergeBooks → Bool
can_release rs m = not (is_none m.released) && not (list_any (is_using m.released) rs)

-- the event of a merge that is due first
abbrev pub one_of : Bool → Event → Option Event → Option Event
one_of here event rest = if here then Some event else rest

abbrev pub merge_due : List SnapBooks → List Flight → DueMerge → Option Event
merge_due snaps rs d =
    one_of (can_release rs d.books) MergeRelease
    (one_of (can_commit_group d) MergeCommit
    (one_of (can_flush d) MergeFlush
    (one_of (can_write snaps d.books) MergeWrite
    (one_of (can_read rs d.books) MergeRead
    (one_of (can_read_area d) MergeAreaRead
    (one_of (can_group d) MergeGroup None))))))

-- an event of a merge is due
abbrev pub is_merge_due : List SnapBooks → List Flight → DueMerge → Event → Bool
is_merge_due snaps rs d MergeRelease = can_release rs d.books
is_merge_due snaps rs d MergeCommit = can_commit_group d
is_merge_due snaps rs d MergeFlush = can_flush d
is_merge_due snaps rs d MergeWrite = can_write snaps d.books
is_merge_due snaps rs d MergeRead = can_read rs d.books
is_merge_due snaps rs d MergeAreaRead = can_read_area d
is_merge_due snaps rs d MergeGroup = can_group d
is_merge_due snaps rs d event = false

-- how many events a copy that is started needs
abbrev pub per_copy : ℕ
per_copy = steps_at Waiting

-- a whole number that every event of a merge lowers, but for what the copies need that it starts
abbrev pub kept_count : MergeBooks → ℕ
kept_count m = length m.pairs - (length m.waiting + length m.reading + length m.copied)

abbrev pub weight_of : MergeBooks → ℕ
weight_of m = 10 * kept_count m + 8 * length m.waiting + 6 * length m.reading + 4 * length m.copied + 2 * length m.released

abbrev pub left_in_merge : DueMerge → ℕ
left_in_merge d = if d.failed then 0 else weight_of d.books + (if d.flushed then 0 else 1) + 2 * d.current

-- How many chunks a live snapshot lacks of those that the pairs of a merge touch: what the copies need that the merge is to
-- start is left as well. So the start of one leaves no more than before.
abbrev pub lacking_of : ℕ → ℕ → List Pair → SnapBooks → ℕ
lacking_of chunk sectors pairs s = if s.live then count_by (λ c. lacks_chunk c s) (touched_by s.chunk chunk sectors pairs) else 0

abbrev pub lacking_in : MergeBooks → SnapBooks → ℕ
lacking_in m s = lacking_of m.chunk m.sectors m.pairs s

abbrev pub left_beside : List SnapBooks → DueMerge → ℕ
left_beside snaps d = if d.failed then 0 else per_copy * sum_by (lacking_in d.books) snaps

-- Of a whole volume: what is due of its snapshots and requests, and then of its merge.
abbrev pub due_or : Option Event → Option Event → Option Event
due_or None rest = rest
due_or (Some event) rest = Some event

abbrev pub due_with : List DueSnap → List Flight → DueMerge → Option Event
due_with snaps rs d = due_or (due_of snaps rs) (merge_due (map books_of snaps) rs d)

abbrev pub is_due_with : List DueSnap → List Flight → DueMerge → Event → Bool
is_due_with snaps rs d event = is_due snaps rs event || is_merge_due (map books_of snaps) rs d event

abbrev pub left_with : List DueSnap → List Flight → DueMerge → ℕ
left_with snaps rs d = left_of snaps rs + left_in_merge d + left_beside (map books_of snaps) d

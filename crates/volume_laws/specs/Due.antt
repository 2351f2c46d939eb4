-- To be believed: `run`'s output, a volume's steps or its attach are said in these words.
-- Which event is due first, and a whole number that every event lowers. The order is this project's own: spoiled
-- snapshots' marks first, then the flushes that something waits for, then what frees held writes, then the copies' own steps,
-- and requests last; in each kind the least number.
use Rattle.std.specs.Prelude.{◌==◌, ◌&&◌, ◌||◌, not, ℕ, ◌+◌, Bool, false, List, [], ◌∷◌, Option, Some, None, if◌then◌else◌, sum_by}
use Rattle.std.specs.List.{list_any}
use Rattle.plain_machine.specs.declared.event.Event.{Event}
use Rattle.plain_machine.specs.declared.event.Event.TheVariants.{Issue, CopyRead, CopyWrite, ZeroNext, WriteArea, Publish, WriteInvalid, FlushStore, MergeGroup, MergeAreaRead, MergeRead, MergeWrite, MergeFlush, MergeCommit, MergeRelease}
use Rattle.in_flight.specs.declared.copies.Stage.{Stage}
use Rattle.in_flight.specs.declared.copies.Stage.TheVariants.{Waiting, Read, Written, Flushed}
use Rattle.in_flight.specs.declared.copies.ChunkCopy.{ChunkCopy}
use Rattle.in_flight.specs.declared.copies.Mark.{Mark}
use Rattle.in_flight.specs.Kinds.{kind_of}
use Rattle.in_flight.specs.declared.flights.Flight.{Flight}
use Rattle.in_flight.specs.declared.flights.Kind.{Kind}
use Rattle.in_flight.specs.declared.flights.Kind.TheVariants.{OriginRead, OriginWrite, OriginFlush, SnapRead, SnapWrite, SnapFlush}
use Rattle.in_flight.specs.declared.flights.Route.{Route}
use Rattle.in_flight.specs.declared.flights.Route.TheVariants.{Held, Origin, Store, Whole, Refused}
use Rattle.in_flight.specs.Due.{first_by, least, is_copy_at, number_of_copy, number_of_mark, number_of_flight, front_ready, front_unflushed, is_publishable, is_issuable}
use Rattle.volume_laws.specs.Books.{SnapBooks}

-- A snapshot. needs: the pairs that are committed next fill their area, and the next area is not zeroed yet. waits: they fill
-- it, and the next area is not firm yet. zeroed: the area after the current one is zeroed. firm: and the store was flushed
-- since.
pub record DueSnap : Type 0 where
  pub books : SnapBooks
  pub needs : Bool
  pub waits : Bool
  pub zeroed : Bool
  pub firm : Bool

abbrev pub books_of : DueSnap → SnapBooks
books_of s = s.books

abbrev pub snap_number : DueSnap → ℕ
snap_number s = s.books.number

abbrev pub is_untried : DueSnap → Bool
is_untried s = s.books.untried

-- a spoiled snapshot's mark is to be written
abbrev pub can_mark : DueSnap → Bool
can_mark s = s.books.untried && not s.books.marked

-- the first copy may be committed, and its area can be written; or the next area has to be zeroed first
abbrev pub can_commit : DueSnap → Bool
can_commit s = front_ready s.books.copies && not s.waits

abbrev pub can_zero : DueSnap → Bool
can_zero s = front_ready s.books.copies && s.needs

-- a mark that no flush of the store followed
abbrev pub is_unsafe : Mark → Bool
is_unsafe m = not m.safe

-- Something waits for a flush of the store: the mark of a spoiled snapshot, the first copy, the area that is zeroed for the
-- first copies, or a publication.
abbrev pub can_flush_store : DueSnap → Bool
can_flush_store s =
    (s.books.untried && s.books.marked) || front_unflushed s.books.copies || (front_ready s.books.copies && (s.waits && not s.needs)) || list_any is_unsafe s.books.marks

abbrev pub copy_of : Stage → DueSnap → Option ℕ
copy_of stage s = first_by (is_copy_at stage) number_of_copy s.books.copies

abbrev pub publishable_of : List Flight → DueSnap → Option ℕ
publishable_of rs s = first_by (is_publishable s.books.number s.books.chunk rs) number_of_mark s.books.marks

-- the least of what each snapshot has
abbrev pub least_of : (DueSnap → Option ℕ) → List DueSnap → Option ℕ
least_of f [] = None
least_of f (s ∷ snaps) = least (f s) (least_of f snaps)

-- the event of a number, if there is one, or another
abbrev pub event_or : Option ℕ → (ℕ → Event) → Option Event → Option Event
event_or None event rest = rest
event_or (Some n) event rest = Some (event n)

abbrev pub due_of : List DueSnap → List Flight → Option Event
due_of snaps rs =
    event_or (first_by can_mark snap_number snaps) WriteInvalid
    (event_or (first_by can_flush_store snap_number snaps) FlushStore
    (event_or (least_of (publishable_of rs) snaps) Publish
    (event_or (first_by can_commit snap_number snaps) WriteArea
    (event_or (first_by can_zero snap_number snaps) ZeroNext
    (event_or (least_of (copy_of Read) snaps) CopyWrite
    (event_or (least_of (copy_of Waiting) snaps) CopyRead
    (event_or (first_by is_issuable number_of_flight rs) Issue None)))))))

-- the first request with a number goes somewhere
abbrev pub is_issued : ℕ → List Flight → Bool
is_issued number [] = false
is_issued number (f ∷ fs) = if f.number == number then is_issuable f else is_issued number fs

-- whether an event is due
abbrev pub is_due : List DueSnap → List Flight → Event → Bool
is_due snaps rs (WriteInvalid n) = list_any (λ s. (s.books.number == n) && can_mark s) snaps
is_due snaps rs (FlushStore n) = list_any (λ s. (s.books.number == n) && can_flush_store s) snaps
is_due snaps rs (Publish n) = list_any (λ s. list_any (λ m. (m.number == n) && is_publishable s.books.number s.books.chunk rs m) s.books.marks) snaps
is_due snaps rs (WriteArea n) = list_any (λ s. (s.books.number == n) && can_commit s) snaps
is_due snaps rs (ZeroNext n) = list_any (λ s. (s.books.number == n) && can_zero s) snaps
is_due snaps rs (CopyWrite n) = list_any (λ s. list_any (λ c. (c.number == n) && is_copy_at Read c) s.books.copies) snaps
is_due snaps rs (CopyRead n) = list_any (λ s. list_any (λ c. (c.number == n) && is_copy_at Waiting c) s.books.copies) snaps
is_due snaps rs (Issue n) = is_issued n rs
is_due snaps rs MergeGroup = false
is_due snaps rs MergeAreaRead = false
is_due snaps rs MergeRead = false
is_due snaps rs MergeWrite = false
is_due snaps rs MergeFlush = false
is_due snaps rs MergeCommit = false
is_due snaps rs MergeRelease = false

-- How much a copy still needs: its own read and write and a flush of the store, then a commit with an area that is zeroed
-- and flushed, another flush, and a publication. The numbers leave room for what a commit may leave of the next area.
abbrev pub steps_at : Stage → ℕ
steps_at Waiting = 11
steps_at Read = 10
steps_at Written = 9
steps_at Flushed = 8

abbrev pub steps_of : ChunkCopy → ℕ
steps_of c = steps_at c.stage

-- a mark: a flush of the store, and its publication
abbrev pub steps_of_mark : Mark → ℕ
steps_of_mark m = if m.safe then 1 else 3

-- an invalid mark: its write, and the flush of the store
abbrev pub steps_of_invalid : SnapBooks → ℕ
steps_of_invalid s = if s.untried then (if s.marked then 1 else 2) else 0

-- the area after the current one: that it is zeroed, and then flushed
abbrev pub steps_of_area : DueSnap → ℕ
steps_of_area s = (if s.books.live && not s.zeroed then 1 else 0) + (if s.books.live && not s.firm then 3 else 0)

abbrev pub left_in : DueSnap → ℕ
left_in s = steps_of_invalid s.books + sum_by steps_of s.books.copies + sum_by steps_of_mark s.books.marks + steps_of_area s

-- a request: an Issue, and one more of a flush of the origin that still goes to the store that is being merged
abbrev pub weight_at : Kind → Route → ℕ
weight_at OriginRead route = 1
weight_at OriginWrite route = 1
weight_at OriginFlush Held = 1
weight_at OriginFlush Origin = 1
weight_at OriginFlush (Store place) = 1
weight_at OriginFlush Whole = 2
weight_at OriginFlush Refused = 1
weight_at (SnapRead snap) route = 1
weight_at (SnapWrite snap) route = 1
weight_at (SnapFlush snap) route = 1

abbrev pub weight_of : Flight → ℕ
weight_of f = weight_at (kind_of f.request) f.route

-- a whole number that every event of a volume lowers
abbrev pub left_of : List DueSnap → List Flight → ℕ
left_of snaps rs = sum_by left_in snaps + sum_by weight_of rs

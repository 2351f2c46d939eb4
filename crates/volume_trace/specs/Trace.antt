-- What a trace says of a volume: what is in flight in it, which of its snapshots are lost, how far its merge is, and which events are
-- due. The form is this project's own; the words of events are those of `step`.
use Rattle.std.specs.Prelude.{◌≡◌, ℕ, ◌+◌, ◌*◌, Bool, nat_lt, if◌then◌else◌, List, [], ◌∷◌, ◌++◌, Option, Some, None, codes, decimal, slice_get}
use Rattle.std.specs.List.{flat_map}
use Rattle.words.specs.Words.{spaced}
use Rattle.layers.specs.declared.stack.Stack.{Stack}
use Rattle.plain_machine.specs.declared.event.Event.{Event}
use Rattle.plain_machine.specs.declared.event.Event.TheVariants.{Issue, CopyRead, CopyWrite, ZeroNext, WriteArea, Publish, WriteInvalid, FlushStore, MergeGroup, MergeAreaRead, MergeRead, MergeWrite, MergeFlush, MergeCommit, MergeRelease}
use Rattle.plain_machine.specs.declared.request.Dev.{Dev}
use Rattle.plain_machine.specs.declared.request.Dev.TheVariants as devs
use Rattle.plain_machine.specs.declared.request.Op.{Op}
use Rattle.plain_machine.specs.declared.request.Op.TheVariants as ops
use Rattle.in_flight.specs.declared.copies.ChunkCopy.{ChunkCopy}
use Rattle.in_flight.specs.declared.copies.Mark.{Mark}
use Rattle.in_flight.specs.declared.copies.Stage.{Stage}
use Rattle.in_flight.specs.declared.copies.Stage.TheVariants as stages
use Rattle.in_flight.specs.declared.flights.Flight.{Flight}
use Rattle.in_flight.specs.declared.flights.Route.{Route}
use Rattle.in_flight.specs.declared.flights.Route.TheVariants as routes
use Rattle.snapshot.specs.Kept.{Kept}
use Rattle.snapshot_list.specs.Finding.{place_of_snap}
use Rattle.command_semantics.specs.State.{Names}

-- an item: a semicolon, and each word after a space
abbrev pub item_of : List (List ℕ) → List ℕ
item_of words = codes ";" ++ spaced words

-- the name of the snapshot with a number
abbrev pub snapshot_or : Option Names → List ℕ
snapshot_or None = codes "?"
snapshot_or (Some n) = n.snapshot

abbrev pub name_at : List Names → Option ℕ → List ℕ
name_at names None = codes "?"
name_at names (Some k) = snapshot_or (slice_get names k)

abbrev pub name_of : List Names → List (Kept Stack) → ℕ → List ℕ
name_of names snaps number = name_at names (place_of_snap number snaps)

-- a copy, by its number, the name of its snapshot, the chunk and how far it is: those that are committed first, in the order in
-- which they began
abbrev pub stage_word : Stage → List ℕ
stage_word stages.Waiting = codes "waiting"
stage_word stages.Read = codes "read"
stage_word stages.Written = codes "written"
stage_word stages.Flushed = codes "flushed"

abbrev pub copy_text : List ℕ → ChunkCopy → List ℕ
copy_text name c = item_of (codes "copy" ∷ decimal c.number ∷ name ∷ decimal c.pair.old ∷ stage_word c.stage ∷ [])

abbrev pub mark_text : List ℕ → Mark → List ℕ
mark_text name m = item_of (codes "copy" ∷ decimal m.number ∷ name ∷ decimal m.chunk ∷ codes "committed" ∷ [])

abbrev pub marks_text : List ℕ → List Mark → List ℕ
marks_text name marks = flat_map (mark_text name) marks

abbrev pub copies_text : List ℕ → List ChunkCopy → List ℕ
copies_text name copies = flat_map (copy_text name) copies

-- A snapshot that is lost, whether its store was full or a device failed. Where it is `full`, its store has no room for one
-- chunk more.
abbrev pub is_full : Kept Stack → Bool
is_full s = nat_lt s.state.size (s.state.chunk * (s.next + 1))

abbrev pub lost_words : Bool → List (List ℕ)
lost_words full = if full then codes "full" ∷ [] else []

abbrev pub lost_text : List ℕ → Kept Stack → List ℕ
lost_text name s = if s.live then [] else item_of (codes "lost" ∷ name ∷ lost_words (is_full s))

abbrev pub snap_text : List ℕ → Kept Stack → List ℕ
snap_text name s = lost_text name s ++ marks_text name s.marks ++ copies_text name s.copies

-- the copies of a snapshot under its name, and of some of the snapshots that have these names
unfoldable pub told_text : List Names → List (Kept Stack) → Kept Stack → List ℕ
told_text names snaps s = snap_text (name_of names snaps s.number) s

abbrev pub copied_text : List Names → List (Kept Stack) → List (Kept Stack) → List ℕ
copied_text names snaps some = flat_map (told_text names snaps) some

-- a request, by its number, what it does, its device, its sectors, and whether it waits
abbrev pub route_word : Route → List ℕ
route_word routes.Held = codes "held"
route_word routes.Origin = codes "ready"
route_word (routes.Store place) = codes "ready"
route_word routes.Whole = codes "ready"
route_word routes.Refused = codes "ready"

abbrev pub op_word : Op → List ℕ
op_word ops.Read = codes "read"
op_word (ops.Write bytes) = codes "write"
op_word ops.Flush = codes "flush"

abbrev pub flight_text : List ℕ → Flight → List ℕ
flight_text dev f =
    item_of (codes "request" ∷ decimal f.number ∷ op_word f.request.op ∷ dev ∷ decimal f.request.range.first ∷ decimal f.request.range.count ∷ route_word f.route ∷ [])

abbrev pub named_dev : List ℕ → List Names → List (Kept Stack) → Dev → List ℕ
named_dev origin names snaps devs.Origin = origin
named_dev origin names snaps (devs.Snap number) = name_of names snaps number

abbrev pub flights_text : List ℕ → List Names → List (Kept Stack) → List Flight → List ℕ
flights_text origin names snaps flights = flat_map (λ f. flight_text (named_dev origin names snaps f.request.dev) f) flights

-- an event that is due, in the words of `step`
abbrev pub due_text : List Names → List (Kept Stack) → Event → List ℕ
due_text names snaps (Issue n) = item_of (codes "due" ∷ codes "issue" ∷ decimal n ∷ [])
due_text names snaps (CopyRead n) = item_of (codes "due" ∷ codes "copy-read" ∷ decimal n ∷ [])
due_text names snaps (CopyWrite n) = item_of (codes "due" ∷ codes "copy-write" ∷ decimal n ∷ [])
due_text names snaps (Publish n) = item_of (codes "due" ∷ codes "publish" ∷ decimal n ∷ [])
due_text names snaps (ZeroNext n) = item_of (codes "due" ∷ codes "zero-next" ∷ name_of names snaps n ∷ [])
due_text names snaps (WriteArea n) = item_of (codes "due" ∷ codes "write-area" ∷ name_of names snaps n ∷ [])
due_text names snaps (WriteInvalid n) = item_of (codes "due" ∷ codes "write-invalid" ∷ name_of names snaps n ∷ [])
due_text names snaps (FlushStore n) = item_of (codes "due" ∷ codes "flush-store" ∷ name_of names snaps n ∷ [])
due_text names snaps MergeGroup = item_of (codes "due" ∷ codes "merge-group" ∷ [])
due_text names snaps MergeAreaRead = item_of (codes "due" ∷ codes "merge-area-read" ∷ [])
due_text names snaps MergeRead = item_of (codes "due" ∷ codes "merge-read" ∷ [])
due_text names snaps MergeWrite = item_of (codes "due" ∷ codes "merge-write" ∷ [])
due_text names snaps MergeFlush = item_of (codes "due" ∷ codes "merge-flush" ∷ [])
due_text names snaps MergeCommit = item_of (codes "due" ∷ codes "merge-commit" ∷ [])
due_text names snaps MergeRelease = item_of (codes "due" ∷ codes "merge-release" ∷ [])

abbrev pub dues_text : List Names → List (Kept Stack) → List Event → List ℕ
dues_text names snaps events = flat_map (due_text names snaps) events

-- the line of a device with items, none where there are none
abbrev pub line_of : List ℕ → List ℕ → List ℕ
line_of name [] = []
line_of name (b ∷ items) = name ++ (b ∷ items) ++ codes "\n"

-- the requests, the losses and the copies, the merge and the events of a volume
abbrev pub items_of : List ℕ → List Names → List (Kept Stack) → List Flight → List ℕ → List Event → List ℕ
items_of origin names snaps flights merge events =
    flights_text origin names snaps flights ++ (copied_text names snaps snaps ++ (merge ++ dues_text names snaps events))

-- the line of a volume, with the item of its merge, if one is begun
abbrev pub trace_of : List ℕ → List Names → List (Kept Stack) → List Flight → List ℕ → List Event → List ℕ
trace_of origin names snaps flights merge events = line_of origin (items_of origin names snaps flights merge events)

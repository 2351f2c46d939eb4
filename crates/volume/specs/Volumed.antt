-- To be believed: `run`'s output, a volume's steps or its attach are said in these words.
-- What callers see of a volume, what that is as plain records, and what is due of it. This project's own.
use Rattle.std.specs.Prelude.{◌&&◌, ℕ, ◌+◌, Bool, true, List, [], ◌∷◌, Option, Some, None, map, min}
use Rattle.std.specs.List.{list_all}
use Rattle.device.specs.Layers.{Layer, is_loud}
use Rattle.plain_machine.specs.Plain.{Plain}
use Rattle.plain_machine.specs.declared.event.Event.{Event}
use Rattle.in_flight.specs.Kinds.{in_flight}
use Rattle.in_flight.specs.declared.flights.Flight.{Flight}
use Rattle.volume_laws.specs.Books.{Books}
use Rattle.volume_laws.specs.Due.{DueSnap, books_of as due_books, due_of, is_due, left_of}
use Rattle.volume_laws.specs.MergeDue.{DueMerge, due_with, is_due_with, left_in_merge, left_beside}
use Rattle.snapshot.specs.Kept.{Kept, books_of as snap_books, due_of_kept}
use Rattle.merge.specs.Merging.{Merging, due_of as merging_due}
use Rattle.snapshot_list.specs.Rooms.{merge_books}
use Rattle.volume.specs.Shown.{shown_begun, shown_entry, shown_origin}

-- A volume, with its devices. requests, copies, attached: how many numbers of each kind were given.
pub record Volumed (B : Type 0) : Type 0 where
  pub origin : B
  -- in order of attaching
  pub snaps : List (Kept B)
  -- the snapshot that is being merged, which is none of these
  pub merge : Option (Merging B)
  -- the requests in flight, in order of acceptance
  pub flights : List Flight
  pub requests : ℕ
  pub copies : ℕ
  pub attached : ℕ

-- its books, over what a device's bytes, layers and sectors are
abbrev pub books_of : {B : Type 0} → (B → List ℕ) → (B → List Layer) → (B → ℕ) → Volumed B → Books
books_of contents layers size v = record {
  origin = contents v.origin;
  sectors = size v.origin;
  loud = is_loud (layers v.origin);
  snaps = map (snap_books contents layers) v.snaps;
  merge = merge_books contents layers (is_loud (layers v.origin)) v.merge;
  requests = v.flights;
}

-- what says which events of its snapshots are due
abbrev pub dues_of : {B : Type 0} → (B → List ℕ) → (B → List Layer) → Volumed B → List DueSnap
dues_of contents layers v = map (due_of_kept contents layers) v.snaps

-- and which of its merge; whether writes are done decides none
abbrev pub merge_due : {B : Type 0} → (B → List ℕ) → Option (Merging B) → Option DueMerge
merge_due contents None = None
merge_due contents (Some m) = Some (merging_due contents true m)

-- whether a write that is answered by some devices, and by the merging store, is done
abbrev pub is_loud_with : {B : Type 0} → (B → List Layer) → Option (Merging B) → Bool → Bool
is_loud_with layers None others = others
is_loud_with layers (Some m) others = others && is_loud (layers m.device)

-- whether a write that is answered by one of its devices is done
abbrev pub is_loud_in_all : {B : Type 0} → (B → List Layer) → Volumed B → Bool
is_loud_in_all layers v = is_loud_with layers v.merge (is_loud (layers v.origin) && list_all (λ s. is_loud (layers s.device)) v.snaps)

-- of snapshots and requests, and of a merge where there is one: which event is due first, whether one is due, and how much
-- is left of the merge and of the copies that it waits for
abbrev pub due_by : List DueSnap → List Flight → Option DueMerge → Option Event
due_by snaps rs None = due_of snaps rs
due_by snaps rs (Some d) = due_with snaps rs d

abbrev pub is_due_by : List DueSnap → List Flight → Option DueMerge → Event → Bool
is_due_by snaps rs None event = is_due snaps rs event
is_due_by snaps rs (Some d) event = is_due_with snaps rs d event

abbrev pub left_by : List DueSnap → Option DueMerge → ℕ
left_by snaps None = 0
left_by snaps (Some d) = left_in_merge d + left_beside (map due_books snaps) d

-- the event that is due first
abbrev pub next_of : {B : Type 0} → (B → List ℕ) → (B → List Layer) → Volumed B → Option Event
next_of contents layers v = due_by (dues_of contents layers v) v.flights (merge_due contents v.merge)

-- whether an event is due
abbrev pub is_due_of : {B : Type 0} → (B → List ℕ) → (B → List Layer) → Volumed B → Event → Bool
is_due_of contents layers v event = is_due_by (dues_of contents layers v) v.flights (merge_due contents v.merge) event

-- a whole number that every event lowers
abbrev pub left_in_all : {B : Type 0} → (B → List ℕ) → (B → List Layer) → Volumed B → ℕ
left_in_all contents layers v = left_of (dues_of contents layers v) v.flights + left_by (dues_of contents layers v) (merge_due contents v.merge)

-- the plain machine that its devices' own bytes stand for
abbrev pub plain_of : {B : Type 0} → (B → List ℕ) → (B → List Layer) → Volumed B → Plain
plain_of contents layers v = record {
  origin = shown_origin contents v.origin v.merge;
  begun = shown_begun v.merge;
  saved = map (shown_entry contents (contents v.origin)) v.snaps;
  requests = map in_flight v.flights;
}

-- the sectors of the least chunk of some snapshots, and of the largest chunk where there is none
abbrev pub piece_of : {B : Type 0} → List (Kept B) → ℕ
piece_of [] = 1024
piece_of (s ∷ snaps) = min s.state.chunk (piece_of snaps)

-- and with that of the one that is being merged
abbrev pub piece_with : {B : Type 0} → Option (Merging B) → List (Kept B) → ℕ
piece_with None snaps = piece_of snaps
piece_with (Some m) snaps = min m.state.chunk (piece_of snaps)

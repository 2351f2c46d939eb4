-- Every event that is due, as a list. This project's own.
use Rattle.std.specs.Prelude.{◌≡◌, ℕ, true, List, [], ◌∷◌, ◌++◌, map, Contains, filter}
use Rattle.std.specs.List.{flat_map}
use Rattle.device.specs.Layers.{Layer}
use Rattle.plain_machine.specs.declared.event.Event.{Event}
use Rattle.plain_machine.specs.declared.event.Event.TheVariants.{Issue, CopyRead, CopyWrite, ZeroNext, WriteArea, Publish, WriteInvalid, FlushStore, MergeGroup, MergeAreaRead, MergeRead, MergeWrite, MergeFlush, MergeCommit, MergeRelease}
use Rattle.in_flight.specs.declared.copies.ChunkCopy.{ChunkCopy}
use Rattle.in_flight.specs.declared.copies.Mark.{Mark}
use Rattle.in_flight.specs.declared.flights.Flight.{Flight}
use Rattle.snapshot.specs.Kept.{Kept}
use Rattle.volume.specs.Volumed.{Volumed, is_due_of}

-- the events that there are of a volume: of copies, of those that are committed, of a snapshot, of requests and of a merge
abbrev pub events_of_copy : ChunkCopy → List Event
events_of_copy c = CopyWrite c.number ∷ CopyRead c.number ∷ []

abbrev pub events_of_copies : List ChunkCopy → List Event
events_of_copies copies = flat_map events_of_copy copies

abbrev pub events_of_marks : List Mark → List Event
events_of_marks marks = map (λ m. Publish m.number) marks

abbrev pub events_of_snap : {B : Type 0} → Kept B → List Event
events_of_snap s =
    WriteInvalid s.number ∷ FlushStore s.number ∷ (events_of_marks s.marks ++ (WriteArea s.number ∷ ZeroNext s.number ∷ events_of_copies s.copies))

abbrev pub events_of_flights : List Flight → List Event
events_of_flights flights = map (λ f. Issue f.number) flights

abbrev pub events_of_merge : List Event
events_of_merge = MergeRelease ∷ MergeCommit ∷ MergeFlush ∷ MergeWrite ∷ MergeRead ∷ MergeAreaRead ∷ MergeGroup ∷ []

abbrev pub candidates_of : {B : Type 0} → Volumed B → List Event
candidates_of v = flat_map events_of_snap v.snaps ++ (events_of_flights v.flights ++ events_of_merge)

-- those of them that are due
abbrev pub due_among : {B : Type 0} → (B → List ℕ) → (B → List Layer) → Volumed B → List Event
due_among contents layers v = filter (is_due_of contents layers v) (candidates_of v)

-- an event stands in a list where it is due, and nowhere else
pub record IsAllDue {B : Type 0} (contents : B → List ℕ) (layers : B → List Layer) (v : Volumed B) (events : List Event) : Type 0 where
  pub due : (event : Event) → Contains events event → is_due_of contents layers v event ≡ true
  pub all : (event : Event) → is_due_of contents layers v event ≡ true → Contains events event

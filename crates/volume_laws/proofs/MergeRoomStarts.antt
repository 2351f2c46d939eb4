-- A merge starts its next copies, in one snapshot after another: in between each that lacks the chunk has what its copy needs.
use Rattle.std.proofs.Common.{Bool, ◌≡◌, ℕ, ◌*◌, ◌<◌, true, List, Some, length, get_or, set, map, sym, ◌∙◌, ap, subst}
use Rattle.std.specs.List.{All}
use Rattle.std.proofs.lemmas.List.{get_or-map, length-map, map-set}
use Rattle.sector.specs.declared.pair.Pair.{Pair}
use Rattle.in_flight.specs.Copies.{count_of}
use Rattle.in_flight.specs.declared.copies.ChunkCopy.{ChunkCopy}
use Rattle.in_flight.specs.declared.flights.Flight.{Flight}
use Rattle.volume_laws.specs.Published.{next_over}
use Rattle.volume_laws.specs.Touched.{lacks_chunk}
use Rattle.volume_laws.specs.Held.{SnapHolds}
use Rattle.volume_laws.specs.Merging.{MergeHolds}
use Rattle.volume_laws.specs.Steps.{SpoilsSnap}
use Rattle.volume_laws.specs.MergeDue.{DueMerge, next_pair}
use Rattle.volume_laws.specs.MergeWaits.{MergeSteady}
use Rattle.volume_laws.specs.MergeRooms.{RoomSnap, room_books, KeepBack, ComesNext, CanMerge, StartsMerging}
use Rattle.volume_laws.proofs.MergeSaved.{KeepsSaved, start_saved, spoil_saved}
use Rattle.volume_laws.proofs.MergeRoomEvents.{rooms_changed, spoil_room}
use Rattle.volume_laws.proofs.MergeRoomSteps.{steady_next, next_changed, next_can, next_started}

-- what is kept back, and the pair that comes next
pub record HaveRoom (chunk sectors : ℕ) (pairs : List Pair) (q : Pair) (snaps : List RoomSnap) : Type 0 where
  pub kept : KeepBack chunk sectors pairs snaps
  pub next : ComesNext chunk sectors pairs (map room_books snaps) q

-- of the pair that a steady merge copies next: after MergeGroup, MergeWrite and Publish, before their copies are started
pub room_next : (o : List ℕ) (rs : List Flight) (snaps : List RoomSnap) (d : DueMerge) → MergeHolds o rs d.books → MergeSteady (map room_books snaps) d → KeepBack d.books.chunk d.books.sectors d.books.pairs snaps
    → (q : Pair) → next_pair d.books.reading d.books.waiting ≡ Some q → HaveRoom d.books.chunk d.books.sectors d.books.pairs q snaps
room_next o rs snaps d merge steady h q e = record { kept = h; next = steady_next o rs (map room_books snaps) d merge steady q e }

-- snapshot k of a volume
module _ (chunk sectors : ℕ) (pairs : List Pair) (q : Pair) (snaps : List RoomSnap) (h : HaveRoom chunk sectors pairs q snaps) (k : ℕ) (s : RoomSnap) (within : k < length snaps) (was : s ≡ get_or snaps k s) where
  next_set : (s' : RoomSnap) → KeepsSaved s.books s'.books → ComesNext chunk sectors pairs (map room_books (set snaps k s')) q
  next_set s' keeps = subst (λ x. ComesNext chunk sectors pairs x q) (sym (map-set room_books snaps k s'))
      (next_changed chunk sectors pairs (map room_books snaps) q k s.books s'.books (subst (λ n. k < n) (sym (length-map snaps room_books)) within) (ap room_books was ∙ sym (get_or-map room_books snaps k s s.books within)) keeps h.next)

  -- it lacks the chunk that is wanted of it: its copy needs no memory, and after it there is room for the others
  module _ {l : Bool} (o : List ℕ) (rs : List Flight) (holds : All (SnapHolds l o rs) (map room_books snaps)) (live : s.books.live ≡ true) (lacks : lacks_chunk (next_over (chunk * q.old) (count_of chunk sectors q.old) s.books) s.books ≡ true) where
    pub has_room : CanMerge s
    has_room = next_can o rs chunk sectors pairs snaps q holds h.kept h.next k s within was live lacks

    pub room_after : (p : ChunkCopy) (s' : RoomSnap) → StartsMerging p s s' → p.pair.old ≡ next_over (chunk * q.old) (count_of chunk sectors q.old) s.books → HaveRoom chunk sectors pairs q (set snaps k s')
    room_after p s' e old = record { kept = next_started o rs chunk sectors pairs snaps q holds h.kept h.next k s within was live lacks p s' e old; next = next_set s' (start_saved p s.books s'.books e.start) }

  -- it is full, and is spoiled
  pub room_without : (s' : RoomSnap) → SpoilsSnap s.books s'.books → HaveRoom chunk sectors pairs q (set snaps k s')
  room_without s' e = record { kept = rooms_changed chunk sectors pairs snaps k s s' within was (spoil_room s s' e).space h.kept; next = next_set s' (spoil_saved s.books s'.books e) }

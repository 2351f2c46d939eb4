-- Where requests go beside a merge: in the words of callers, of the laws and of the event machine.
use Rattle.std.proofs.Common.{◌≡◌, ◌≢◌, ℕ, Bool, true, false, List, Option, Some, None, map, refl, sym, ◌∙◌, ap, subst}
use Rattle.std.specs.Prelude.{◌&&◌, ◌||◌, is_some, if◌then◌else◌}
use Rattle.std.specs.List.{All}
use Rattle.std.proofs.lemmas.Bool.{true≢false}
use Rattle.std.proofs.lemmas.List.Elements.{All-map}
use Rattle.device.specs.Layers.{Layer, is_loud}
use Rattle.sector.specs.declared.range.Range.{Range}
use Rattle.sector.specs.declared.refusal.Refusal.{Refusal}
use Rattle.sector.specs.declared.refusal.Refusal.TheVariants.{MergingSnapshot}
use Rattle.in_flight.specs.Routes.{write_route_of}
use Rattle.in_flight.specs.declared.flights.Flight.{Flight}
use Rattle.volume_laws.specs.Accepting.{IsNumberedApart}
use Rattle.volume_laws.specs.Again.{merged_place, new_route}
use Rattle.volume_laws.specs.Books.{SnapBooks, MergeBooks}
use Rattle.volume_laws.specs.Published.{IsPiece}
use Rattle.volume_laws.specs.Waits.{is_grouped}
use Rattle.event_machine.specs.Again.{is_grouped as is_grouped_held, merged_place as place_held}
use Rattle.event_machine.specs.MergeSeen.{held_in}
use Rattle.merge.specs.Merging.{Merging, books_of as merging_books}
use Rattle.snapshot_list.specs.Rooms.{merge_books}
use Rattle.snapshot_list.specs.Routing.{is_grouped_at, place_at, is_merged_at}
use Rattle.snapshot.specs.Kept.{books_of as snap_books}
use Rattle.volume.specs.Volumed.{Volumed}
use Rattle.volume.specs.Moved.{merge_seen}
use Rattle.volume.specs.Whole.{GoesOn}

-- one of two tests that failed both
neither : (a b : Bool) → (a || b) ≡ false → (a ≡ false) × (b ≡ false)
neither false b e = (refl, e)
neither true b e = absurd (true≢false e)

nowhere : (place : Option ℕ) → is_some place ≡ false → place ≡ None
nowhere None e = refl
nowhere (Some p) e = absurd (true≢false e)

-- of a write that is the merge's, it doesn't matter what the other snapshots have
whichever : (grouped : Bool) (place : Option ℕ) (a b : Bool) → (grouped || is_some place) ≡ true → write_route_of grouped place a ≡ write_route_of grouped place b
whichever true place a b e = refl
whichever false (Some p) a b e = refl
whichever false None a b e = absurd (true≢false (sym e))

module _ {B : Type 0} (contents : B → List ℕ) (layers : B → List Layer) where
  -- as the laws have it
  pub grouped_is : (loud : Bool) (merge : Option (Merging B)) (f : Flight) → is_grouped (merge_books contents layers loud merge) f ≡ is_grouped_at f.request.range.first merge
  grouped_is loud None f = refl
  grouped_is loud (Some m) f = refl

  pub place_is : (loud : Bool) (merge : Option (Merging B)) (f : Flight) → merged_place (merge_books contents layers loud merge) f ≡ place_at f.request.range.first merge
  place_is loud None f = refl
  place_is loud (Some m) f = refl

  pub route_is : (loud : Bool) (merge : Option (Merging B)) (clear : ℕ → Bool) (f : Flight)
      → new_route (merge_books contents layers loud merge) clear f ≡ write_route_of (is_grouped_at f.request.range.first merge) (place_at f.request.range.first merge) (clear f.request.range.first)
  route_is loud None clear f = refl
  route_is loud (Some m) clear f = refl

  -- as the event machine has it
  pub grouped_held : (merge : Option (Merging B)) (first : ℕ) → is_grouped_held (held_in (merge_seen contents layers merge)) first ≡ is_grouped_at first merge
  grouped_held None first = refl
  grouped_held (Some m) first = refl

  pub place_held_is : (merge : Option (Merging B)) (first : ℕ) → place_held (held_in (merge_seen contents layers merge)) first ≡ place_at first merge
  place_held_is None first = refl
  place_held_is (Some m) first = refl

  -- a request lies inside one chunk of the merge
  pub piece_beside_is : (loud : Bool) (merge : Option (Merging B)) (range : Range) → ((x : Merging B) → merge ≡ Some x → IsPiece x.state.chunk range) → (m : MergeBooks) → merge_books contents layers loud merge ≡ Some m → IsPiece m.chunk range
  piece_beside_is loud None range piece m is = absurd (cc)
  piece_beside_is loud (Some x) range piece m is =
      let same : merging_books contents (loud && is_loud (layers x.device)) x ≡ m = cc in
      subst (λ (b : MergeBooks). IsPiece b.chunk range) same (piece x refl)

  -- the merged snapshot's number is none of the others'
  pub numbered_apart : (size : B → ℕ) (loud : Bool) (merge : Option (Merging B)) (v : Volumed B) → GoesOn contents layers size merge v → IsNumberedApart (merge_books contents layers loud merge) (map (snap_books contents layers) v.snaps)
  numbered_apart size loud None v h m is = absurd (cc)
  numbered_apart size loud (Some x) v h m is =
      let same : merging_books contents (loud && is_loud (layers x.device)) x ≡ m = cc in
      subst (λ (b : MergeBooks). All (λ (s : SnapBooks). s.number ≢ b.number) (map (snap_books contents layers) v.snaps)) same
      (All-map (λ (s : SnapBooks). s.number ≢ x.number) (snap_books contents layers) v.snaps h.apart)

-- a write that is not the merge's
module _ {B : Type 0} (first : ℕ) (merge : Option (Merging B)) (e : is_merged_at first merge ≡ false) where
  pub ungrouped : is_grouped_at first merge ≡ false
  ungrouped = (neither (is_grouped_at first merge) (is_some (place_at first merge)) e).0

  pub unplaced : place_at first merge ≡ None
  unplaced = nowhere (place_at first merge) (neither (is_grouped_at first merge) (is_some (place_at first merge)) e).1

  pub unmerged_route : (clear : Bool) → write_route_of (is_grouped_at first merge) (place_at first merge) clear ≡ write_route_of false None clear
  unmerged_route clear = ap (λ b. write_route_of b (place_at first merge) clear) ungrouped ∙ ap (λ p. write_route_of false p clear) unplaced

-- one that is, is held for the group, or has a place
pub merged_route_is : {B : Type 0} (first : ℕ) (merge : Option (Merging B)) → is_merged_at first merge ≡ true → (a b : Bool) → write_route_of (is_grouped_at first merge) (place_at first merge) a ≡ write_route_of (is_grouped_at first merge) (place_at first merge) b
merged_route_is first merge e a b = whichever (is_grouped_at first merge) (place_at first merge) a b e

pub merged_apart : {B : Type 0} (first : ℕ) (merge : Option (Merging B)) → is_merged_at first merge ≡ true → is_grouped_at first merge ≡ false → place_at first merge ≡ None → ⊥
merged_apart first merge e ungrouped unplaced =
    true≢false (sym e ∙ ap (λ b. b || is_some (place_at first merge)) ungrouped ∙ ap is_some unplaced)

-- a device that the merge doesn't refuse
pub not_merging : (merging : Bool) (other wanted : Option Refusal) → wanted ≢ Some MergingSnapshot → (if merging then Some MergingSnapshot else other) ≡ wanted → other ≡ wanted
not_merging true other wanted not e = absurd (not (sym e))
not_merging false other wanted not e = e

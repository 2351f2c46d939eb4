-- Publish is the event machine's: a mark is taken away, and the copies are started that a merge waits for then.
use Rattle.std.proofs.Common.{◌≡◌, ℕ, ◌<◌, true, List, Option, None, Some, length, get_or, set, map, refl, sym, ◌∙◌, ap, subst}
use Rattle.std.specs.List.{All, position, remove}
use Rattle.std.proofs.lemmas.List.Elements.{All-set}
use Rattle.device.specs.Layers.{Layer}
use Rattle.plain_machine.specs.declared.event.Event.TheVariants.{Publish}
use Rattle.plain_machine.specs.declared.event.Outcome.TheVariants.{Done}
use Rattle.plain_machine.specs.declared.request.Reply.{Reply}
use Rattle.in_flight.specs.declared.copies.Mark.{Mark}
use Rattle.in_flight.specs.declared.flights.Flight.{Flight}
use Rattle.volume_laws.specs.Again.{again_of, placed_of}
use Rattle.volume_laws.specs.Published.{is_clear}
use Rattle.event_machine.specs.Held.{SnapHeld, MergeHeld, Moving}
use Rattle.event_machine.specs.MergeDue.{next_of}
use Rattle.event_machine.specs.MergeSeen.{held_in}
use Rattle.event_machine.specs.MergeStepping.{start_next, start_waiting}
use Rattle.event_machine.specs.Stepping.{for_some, stepped}
use Rattle.snapshot.specs.Kept.{Kept, books_of as snap_books, unpublished}
use Rattle.snapshot_list.specs.Finding.{is_mark_of}
use Rattle.merge.specs.Lists.{next_of_group}
use Rattle.merge.specs.Merging.{Merging}
use Rattle.snapshot_list.specs.Rooms.{merge_books}
use Rattle.snapshot_list.specs.MergeStarting.{IsNextSavedBeside}
use Rattle.volume.specs.Exact.{IsExact}
use Rattle.volume.specs.Moved.{merge_seen, moving_of}
use Rattle.volume.specs.Volumed.{Volumed}
use Rattle.volume.specs.Whole.{IsWhole}
use Rattle.volume.proofs.Changing.{changed}
use Rattle.volume.proofs.Exactly.{publish_found, publish_stepped}
use Rattle.volume.proofs.MergeOperations.{holds_merge}
use Rattle.volume.proofs.MovedGroups.{next_moved, stores_sized}
use Rattle.volume.proofs.MovedSubmits.{IsSized}
use Rattle.volume.proofs.NextPublished.{pair_by}

module _ {B : Type 0} (contents : B → List ℕ) (layers : B → List Layer) (size : B → ℕ) (v : Volumed B) (h : IsWhole contents layers size v) (n k : ℕ) (s : Kept B) (within : k < length v.snaps) (is : s ≡ get_or v.snaps k s)
    (s' : Kept B) (j : ℕ) (m : Mark) (flights : List Flight) (found : position (is_mark_of s v.flights n) s.marks ≡ Some j) (at : m ≡ get_or s.marks j m) (fields : s' ≡ record s { marks = remove s.marks j; merging = unpublished m.number s.merging })
    (routed : flights ≡ map (again_of (merge_books contents layers true v.merge) (is_clear (map (snap_books contents layers) (set v.snaps k s')))) (map (placed_of (snap_books contents layers s')) v.flights)) where
  abbrev u : Volumed B
  u = changed v v.origin k s' flights

  -- every live snapshot's store is as long as it is told
  sized : All (IsSized contents) (set v.snaps k s')
  sized =
      let all = stores_sized contents layers size v h in
      let old : IsSized contents s = subst (IsSized contents) (sym is) (all k s within) in
      All-set (IsSized contents) v.snaps k s' (subst (IsSized contents) (sym fields) (record { sized = old.sized })) all

  module _ (ts : List (Kept B)) (c : ℕ) (gs : List Flight) (replied : Option Reply) where
    -- what the machine starts beside a merge
    abbrev beside : Option (Merging B) → Moving
    beside x = for_some (held_in (merge_seen contents layers x)) (λ (g : MergeHeld). start_next g.merge.chunk (next_of g) (moving_of contents layers replied u)) (moving_of contents layers replied u)

    waits_moved : (merge : Option (Merging B)) → v.merge ≡ merge → IsNextSavedBeside contents layers merge (set v.snaps k s') ts v.copies c flights gs
        → start_waiting (moving_of contents layers replied u) ≡ moving_of contents layers replied (record u { snaps = ts; copies = c; flights = gs })
    waits_moved None alone (same, count, requests) =
        ap beside alone
        ∙ sym (ap (λ (x : List (Kept B)). moving_of contents layers replied (record u { snaps = x; copies = c; flights = gs })) same
        ∙ ap (λ (x : ℕ). moving_of contents layers replied (record u { copies = x; flights = gs })) count
        ∙ ap (λ (x : List Flight). moving_of contents layers replied (record u { flights = x })) requests)
    waits_moved (Some g) was saved =
        ap beside was
        ∙ ap (λ o. start_next g.state.chunk o (moving_of contents layers replied u)) (sym (pair_by g.group))
        ∙ next_moved contents layers replied u g.state.chunk g.state.origin (next_of_group g.group) (holds_merge contents layers size (λ x. 0) (λ x. 0) v h g was).fits sized ts c gs saved

  pub published_exact : (ts : List (Kept B)) (c : ℕ) (gs : List Flight) → IsNextSavedBeside contents layers v.merge (set v.snaps k s') ts v.copies c flights gs
      → IsExact contents layers (Publish n) Done v (record u { snaps = ts; copies = c; flights = gs })
  published_exact ts c gs saved = record {
    step = λ loud replied.
        ap (λ (x : Option SnapHeld). for_some x (λ (y : SnapHeld). start_waiting (stepped (Publish n) (moving_of contents layers replied v))) (moving_of contents layers replied v)) (publish_found contents layers size v h n k s within is j replied found)
        ∙ ap start_waiting (publish_stepped contents layers size v h n k s within is s' j m flights found at fields routed replied)
        ∙ waits_moved ts c gs replied v.merge refl saved;
  }

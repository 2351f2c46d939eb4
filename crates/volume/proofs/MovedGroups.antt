-- The events of a merge that start copies are the event machine's.
use Rattle.std.proofs.Common.{◌≡◌, ◌⊎◌, inl, inr, ℕ, ◌+◌, ◌-◌, ◌*◌, Bool, true, false, List, Option, Some, None, length, get_or, map, drop, refl, sym, ◌∙◌, ap, subst, arith, nat_lt}
use Rattle.std.specs.Prelude.{◌&&◌, not}
use Rattle.std.specs.List.{All}
use Rattle.std.proofs.lemmas.Bool.{cond-true, false≢true}
use Rattle.std.proofs.lemmas.List.{get_or-map, length-map}
use Rattle.sector.specs.declared.pair.Pair.{Pair}
use Rattle.device.specs.Layers.{Layer, is_loud}
use Rattle.plain_machine.specs.declared.event.Event.{Event}
use Rattle.plain_machine.specs.declared.event.Event.TheVariants.{MergeGroup}
use Rattle.plain_machine.specs.declared.request.Reply.{Reply}
use Rattle.in_flight.specs.Copies.{count_of}
use Rattle.in_flight.specs.declared.flights.Flight.{Flight}
use Rattle.store.specs.Grouping.{IsGroup, run_at}
use Rattle.volume_laws.specs.Held.{SnapHolds}
use Rattle.volume_laws.specs.MergeDue.{can_group, last_of}
use Rattle.volume_laws.specs.MergeSteps.{FormsGroup}
use Rattle.whole_commands.specs.Merges.{last_run}
use Rattle.event_machine.specs.Held.{SnapHeld, Going, MergeHeld, Moving}
use Rattle.event_machine.specs.MergeDue.{in_area}
use Rattle.event_machine.specs.Seen.{going_of}
use Rattle.event_machine.specs.MergeSeen.{MergeSeen, merge_held_of}
use Rattle.event_machine.specs.MergeStepping.{stepped_all, start_next}
use Rattle.event_machine.specs.Again.{next_over as next_held}
use Rattle.event_machine.specs.Submitting.{start_copies, started_by, refused_by}
use Rattle.event_machine.proofs.Grouped.{group_is}
use Rattle.event_machine.proofs.MergeMoves.{formed_is}
use Rattle.event_machine.proofs.MergeTied.{group_same}
use Rattle.snapshot.specs.Kept.{Kept, books_of as snap_books}
use Rattle.merge.specs.Due.{has_group_of, can_group_of}
use Rattle.merge.specs.Lists.{formed}
use Rattle.merge.specs.Merging.{Merging, due_of as merging_due, flushed_of}
use Rattle.merge.specs.declared.group.Group.{Group}
use Rattle.snapshot_list.specs.MergeStarting.{IsNextSaved, next_for}
use Rattle.volume.specs.Volumed.{Volumed}
use Rattle.volume.specs.Whole.{IsWhole}
use Rattle.volume.specs.Moved.{held_of, moving_of}
use Rattle.volume.proofs.MergeChanging.{merged_to}
use Rattle.volume.proofs.MergeSaves.{regrouped}
use Rattle.volume.proofs.MovedCopies.{sectors_is}
use Rattle.volume.proofs.MovedSubmits.{IsSized, AreAll, all_are}
use Rattle.volume.proofs.NextSaved.{as_saved}

-- a merge that may form a group has none
pub group_free : {B : Type 0} (m : Merging B) → can_group_of m ≡ true → flushed_of m.group ≡ false
group_free m e = at m.failed m.group (nat_lt 0 m.state.filled) e
  where
    at : (failed : Bool) (g : Option Group) (some : Bool) → (not failed && (not (has_group_of g) && some)) ≡ true → flushed_of g ≡ false
    at true g some f = absurd (false≢true f)
    at false None some f = refl
    at false (Some g) some f = absurd (false≢true f)

-- every live snapshot's store is as long as it is told
pub stores_sized : {B : Type 0} (contents : B → List ℕ) (layers : B → List Layer) (size : B → ℕ) (v : Volumed B) → IsWhole contents layers size v → All (IsSized contents) v.snaps
stores_sized contents layers size v h k d lt = record {
  sized = λ live.
      (let at = get_or-map (snap_books contents layers) v.snaps k d (snap_books contents layers d) lt in
      let one = subst (SnapHolds (is_loud (layers v.origin)) (contents v.origin) v.flights) at (h.holds.snaps k (snap_books contents layers d) (omega (arith, lt, length-map v.snaps (snap_books contents layers)))) in
      (one.alive live).text.whole);
}

module _ {B : Type 0} (contents : B → List ℕ) (layers : B → List Layer) (replied : Option Reply) where
  -- the copies that the next pair waits for are started, on an origin disk of so many sectors
  pub next_moved : (u : Volumed B) (chunk sectors : ℕ) (o : Option Pair) → length (contents u.origin) ≡ 512 * sectors → All (IsSized contents) u.snaps → (ts : List (Kept B)) (n : ℕ) (gs : List Flight) → IsNextSaved contents layers chunk sectors o u.snaps ts u.copies n u.flights gs
      → start_next chunk o (moving_of contents layers replied u) ≡ moving_of contents layers replied (record u { snaps = ts; copies = n; flights = gs })
  next_moved u chunk sectors None disk sized ts n gs (same, count, requests) =
      sym (ap (λ (x : List (Kept B)). moving_of contents layers replied (record u { snaps = x; copies = n; flights = gs })) same
      ∙ ap (λ (x : ℕ). moving_of contents layers replied (record u { copies = x; flights = gs })) count
      ∙ ap (λ (x : List Flight). moving_of contents layers replied (record u { flights = x })) requests)
  next_moved u chunk sectors (Some q) disk sized ts n gs saved =
      let at : Kept B → ℕ = next_for chunk sectors q in
      let here : ℕ → SnapHeld → ℕ = λ (k : ℕ). next_held (chunk * q.old) (count_of chunk k q.old) in
      let (us, h) = as_saved contents layers (next_for chunk sectors q) u.snaps ts u.copies n u.flights gs saved in
      let all : AreAll contents layers (here sectors) u.snaps us u.copies n u.flights gs = all_are contents layers (next_for chunk sectors q) (here sectors) (λ s. refl) u.snaps us u.copies n u.flights gs sized h.saved in
      let hs : List SnapHeld = map (held_of contents layers) u.snaps in
      let rs : List Going = map going_of u.flights in
      let machine : Moving = moving_of contents layers replied u in
      ap (λ (k : ℕ). start_copies (here k) machine) (sectors_is (contents u.origin) sectors disk)
      ∙ ap (λ (x : List SnapHeld). record machine { snaps = x; requests = refused_by (here sectors) hs rs; started = started_by (here sectors) u.copies hs }) (all.seen ∙ h.held)
      ∙ ap (λ (x : List Going). record machine { snaps = map (held_of contents layers) ts; requests = x; started = started_by (here sectors) u.copies hs }) all.requests
      ∙ ap (λ (x : ℕ). record machine { snaps = map (held_of contents layers) ts; requests = map going_of gs; started = x }) all.count

  module _ (v : Volumed B) (m : Merging B) (was : v.merge ≡ Some m) where
    abbrev seen : Merging B → MergeSeen
    seen x = record { due = merging_due contents true x; layers = layers x.device; next = x.next }

    abbrev held : MergeHeld
    held = merge_held_of (seen m)

    abbrev machine : Moving
    machine = moving_of contents layers replied (record v { merge = Some m })

    machine_is : (event : Event) → stepped_all event (moving_of contents layers replied v) ≡ stepped_all event machine
    machine_is event = ap (λ (x : Option (Merging B)). stepped_all event (moving_of contents layers replied (record v { merge = x }))) was

    -- the group is the longest run at the end of the area
    runs : (first : Pair) (count : ℕ) → IsGroup m.state.filled m.pairs first count → length m.pairs ≡ m.state.current * (32 * m.state.chunk) + m.state.filled → run_at first 0 count ≡ last_run (in_area held)
    runs first count i filled =
        let at : m.state.current * (32 * m.state.chunk) ≡ length m.pairs - m.state.filled = omega (arith, filled) in
        let most : (count ≡ m.state.filled) ⊎ ((d : Pair) → first.old ≡ (get_or m.pairs (length m.pairs - (count + 1)) d).old + 1 → first.new ≡ (get_or m.pairs (length m.pairs - (count + 1)) d).new + 1 → ⊥) =
        elim i.most [
          | inl all ↦ inl all
          | inr alone ↦ inr (λ d old new. alone d (record { old = old; new = new }))
        ] in
        sym (ap (λ k. last_run (drop k m.pairs)) at ∙ group_is run_at (λ p k. refl) (λ p k n. refl) m.state.filled count m.pairs first i.some i.fits (omega (arith, filled)) i.ends.run most)

    -- MergeGroup
    pub group_moved : (first : Pair) (count : ℕ) → IsGroup m.state.filled m.pairs first count → can_group_of m ≡ true → can_group (merging_due contents true m) ≡ true → length m.pairs ≡ m.state.current * (32 * m.state.chunk) + m.state.filled
        → (kept : List Pair) → FormsGroup kept (run_at first 0 count) (merging_due contents true m) (merging_due contents true (regrouped m (Some (formed first count))))
        → length (contents v.origin) ≡ 512 * m.state.origin → All (IsSized contents) v.snaps → (ts : List (Kept B)) (n : ℕ) (gs : List Flight) → IsNextSaved contents layers m.state.chunk m.state.origin (last_of (run_at first 0 count)) v.snaps ts v.copies n v.flights gs
        → stepped_all MergeGroup (moving_of contents layers replied v) ≡ moving_of contents layers replied (record (merged_to v v.origin (regrouped m (Some (formed first count))) v.flights) { snaps = ts; copies = n; flights = gs })
    group_moved first count i free due filled kept step disk sized ts n gs saved =
        let m' : Merging B = regrouped m (Some (formed first count)) in
        machine_is MergeGroup
        ∙ cond-true _ _ _ (group_same (seen m) filled ∙ due)
        ∙ formed_is (seen m) (seen m') machine kept (run_at first 0 count) step (runs first count i filled) (group_free m free) refl refl
        ∙ next_moved (merged_to v v.origin m' v.flights) m.state.chunk m.state.origin (last_of (run_at first 0 count)) disk sized ts n gs saved

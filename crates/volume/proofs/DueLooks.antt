-- What a look says of an event is whether it is due.
use Rattle.std.proofs.Common.{◌≡◌, ℕ, zero, suc, ◌<◌, Bool, true, false, List, [], ◌∷◌, Option, Some, None, length, get_or, map, refl, sym, ◌∙◌, ap, arith}
use Rattle.std.specs.Prelude.{◌||◌, ◌&&◌, ◌==◌, IfNone, IfSome, is_some}
use Rattle.std.specs.List.{list_any, position}
use Rattle.device.specs.Layers.{Layer}
use Rattle.plain_machine.specs.declared.event.Event.{Event}
use Rattle.in_flight.specs.Due.{is_copy_at, is_publishable}
use Rattle.in_flight.specs.declared.copies.Stage.{Stage}
use Rattle.in_flight.specs.declared.flights.Flight.{Flight}
use Rattle.volume_laws.specs.Due.{DueSnap, is_due}
use Rattle.volume_laws.specs.MergeDue.{is_merge_due}
use Rattle.snapshot.specs.Kept.{Kept, due_of_kept, books_of as snap_books}
use Rattle.snapshot_list.specs.Finding.{has_copy_at, has_mark_at, is_copy_of, is_mark_of}
use Rattle.snapshot_list.proofs.Finds.{any_passes, position_any}
use Rattle.merge.specs.Merging.{Merging, due_of as merging_due}
use Rattle.volume.specs.Volumed.{Volumed, dues_of, is_due_of}
use Rattle.volume.proofs.DueEvents.{due_by}
use Rattle.volume.proofs.MergeDues.{due_beside}
use Rattle.volume.proofs.Shown.{due_books}

-- there is an element at each place inside
element : {X : Type 0} (xs : List X) (k : ℕ) → k < length xs → (x : X) × (x ≡ get_or xs k x)
element [] k lt = absurd (omega (arith, lt))
element (x ∷ xs) zero lt = (x, refl)
element (x ∷ xs) (suc k) lt = element xs k (omega (arith, lt))

module _ {B : Type 0} (contents : B → List ℕ) (layers : B → List Layer) where
  -- a snapshot is sought by a test
  pub snap_look : (test : DueSnap → Bool) (found : Kept B → Bool) (snaps seen : List (Kept B)) (r : Option ℕ) (b : Bool) → seen ≡ snaps → ((s : Kept B) → test (due_of_kept contents layers s) ≡ found s) → b ≡ is_some r
      → IfSome r (λ k. (k < length seen) × ((s : Kept B) → found (get_or seen k s) ≡ true)) → IfNone r (list_any found seen ≡ false) → b ≡ list_any test (map (due_of_kept contents layers) snaps)
  snap_look test found snaps seen None b same tests is some none = is ∙ sym (due_by contents layers test found snaps seen false same tests none)
  snap_look test found snaps seen (Some k) b same tests is some none =
      let e = element seen k some.0 in
      is ∙ sym (due_by contents layers test found snaps seen true same tests (any_passes found seen k e.0 some.0 e.1 (ap found e.1 ∙ some.1 e.0)))

  -- a copy at a stage
  pub copy_look : (stage : Stage) (number : ℕ) (snaps seen : List (Kept B)) (r : Option (ℕ × ℕ)) (b : Bool) → seen ≡ snaps → b ≡ is_some r
      → IfSome r (λ p. (p.0 < length seen) × ((s : Kept B) → position (is_copy_of stage number) (get_or seen p.0 s).copies ≡ Some p.1)) → IfNone r (list_any (has_copy_at stage number) seen ≡ false)
      → b ≡ list_any (λ (s : DueSnap). list_any (λ c. (c.number == number) && is_copy_at stage c) s.books.copies) (map (due_of_kept contents layers) snaps)
  copy_look stage number snaps seen None b same is some none = is ∙ sym (due_by contents layers _ (has_copy_at stage number) snaps seen false same (λ s. refl) none)
  copy_look stage number snaps seen (Some p) b same is some none =
      let e = element seen p.0 some.0 in
      is
      ∙ sym (due_by contents layers _ (has_copy_at stage number) snaps seen true same (λ s. refl)
      (any_passes (has_copy_at stage number) seen p.0 e.0 some.0 e.1 (position_any (is_copy_of stage number) e.0.copies p.1 (ap (λ (x : Kept B). position (is_copy_of stage number) x.copies) e.1 ∙ some.1 e.0))))

  -- a mark that may be published
  pub mark_look : (number : ℕ) (snaps seen : List (Kept B)) (flights met : List Flight) (r : Option (ℕ × ℕ)) (b : Bool) → seen ≡ snaps → met ≡ flights → b ≡ is_some r
      → IfSome r (λ p. (p.0 < length seen) × ((s : Kept B) → position (is_mark_of (get_or seen p.0 s) met number) (get_or seen p.0 s).marks ≡ Some p.1)) → IfNone r (list_any (has_mark_at met number) seen ≡ false)
      → b ≡ list_any (λ (s : DueSnap). list_any (λ m. (m.number == number) && is_publishable s.books.number s.books.chunk flights m) s.books.marks) (map (due_of_kept contents layers) snaps)
  mark_look number snaps seen flights met None b same flown is some none =
      is ∙ sym (due_by contents layers _ (has_mark_at flights number) snaps seen false same (λ s. refl) (ap (λ fs. list_any (has_mark_at fs number) seen) (sym flown) ∙ none))
  mark_look number snaps seen flights met (Some p) b same flown is some none =
      let e = element seen p.0 some.0 in
      is
      ∙ sym (due_by contents layers _ (has_mark_at flights number) snaps seen true same (λ s. refl)
      (any_passes (has_mark_at flights number) seen p.0 e.0 some.0 e.1
      (position_any (is_mark_of e.0 flights number) e.0.marks p.1 (ap (λ fs. position (is_mark_of e.0 fs number) e.0.marks) (sym flown) ∙ ap (λ (x : Kept B). position (is_mark_of x met number) x.marks) e.1 ∙ some.1 e.0))))

  -- beside a merge, one that is due without it, or one of the merge
  pub beside_look : (v : Volumed B) (m : Merging B) → v.merge ≡ Some m → (event : Event) (own merges : Bool) → own ≡ is_due (dues_of contents layers v) v.flights event
      → merges ≡ is_merge_due (map (snap_books contents layers) v.snaps) v.flights (merging_due contents true m) event → (own || merges) ≡ is_due_of contents layers v event
  beside_look v m was event own merges first second =
      ap (λ b. b || merges) first ∙ ap (λ b. is_due (dues_of contents layers v) v.flights event || b) (second ∙ ap (λ xs. is_merge_due xs v.flights (merging_due contents true m) event) (sym (due_books contents layers v.snaps)))
      ∙ sym (due_beside contents layers v m was event)

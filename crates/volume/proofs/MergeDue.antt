-- What is due of a volume with a merge: of its snapshots and requests first, and then of the merge.
use Rattle.std.proofs.Common.{◌≡◌, ◌⊎◌, inl, inr, ℕ, ◌*◌, ◌/◌, ◌^◌, ◌<◌, ◌≤◌, Bool, true, List, [], ◌∷◌, ◌++◌, Option, Some, None, length, map, refl, sym, ap, ◌∙◌, subst, arith}
use Rattle.std.specs.Prelude.{◌&&◌, not}
use Rattle.std.specs.List.{All}
use Rattle.std.proofs.lemmas.List.Elements.{All-head}
use Rattle.device.specs.Layers.{Layer, is_loud}
use Rattle.sector.specs.declared.pair.Pair.{Pair}
use Rattle.cow_format.specs.Pairs.{IsInside}
use Rattle.plain_machine.specs.declared.event.Event.{Event}
use Rattle.plain_machine.specs.declared.request.Reply.{Reply}
use Rattle.in_flight.specs.declared.flights.Flight.{Flight}
use Rattle.volume_laws.specs.Books.{MergeBooks}
use Rattle.volume_laws.specs.Due.{DueSnap, due_of, books_of as books_due}
use Rattle.volume_laws.specs.MergeDue.{DueMerge, is_none, is_finished, due_or, merge_due as due_of_merge}
use Rattle.volume_laws.specs.MergeWaits.{MergeGoes}
use Rattle.volume_laws.specs.Merging.{MergeHolds}
use Rattle.volume_laws.specs.Waits.{IsQuiet}
use Rattle.volume_laws.specs.Whole.{OriginHolds}
use Rattle.volume_laws.proofs.Lists.{All-front, All-back}
use Rattle.volume_laws.proofs.Quiet.{quiet}
use Rattle.volume_laws.proofs.MergeQuiet.{quiet_with}
use Rattle.event_machine.specs.MergeDue.{due_all, merge_due as due_in_machine}
use Rattle.event_machine.specs.Seen.{Seen, going_of, held_of as held_seen}
use Rattle.event_machine.specs.MergeSeen.{MergeSeen, held_in}
use Rattle.event_machine.proofs.MergeTied.{merge_due_tied}
use Rattle.snapshot.specs.Kept.{Kept, books_of as snap_books, due_of_kept}
use Rattle.merge.specs.Due.{full_of, is_finished_of}
use Rattle.merge.specs.Looks.{LooksAgree, option_pairs}
use Rattle.merge.specs.Merging.{Merging, books_of as merging_books, due_of as merging_due}
use Rattle.merge.proofs.Looks.{full_is}
use Rattle.volume.specs.Volumed.{Volumed, books_of, dues_of, due_by, merge_due, next_of}
use Rattle.volume.specs.Whole.{IsWhole, IsMerged, GoesOn}
use Rattle.volume.specs.Asking.{IsMergeStill}
use Rattle.volume.specs.Moved.{held_of, moving_of, seen_of, merge_seen}
use Rattle.volume.proofs.Alone.{alone_books}
use Rattle.volume.proofs.MovedCopies.{sectors_is}
use Rattle.volume.proofs.MovedDue.{due_is}
use Rattle.volume.proofs.Quieted.{no_group}
use Rattle.volume.proofs.Shown.{due_books}

or_none : (first : Option Event) → due_or first None ≡ first
or_none None = refl
or_none (Some e) = refl

module _ {B : Type 0} (contents : B → List ℕ) (layers : B → List Layer) where
  -- an event of the snapshots and requests comes first, whatever the merge has
  by_first : (dues : List DueSnap) (rs : List Flight) (d : Option DueMerge) (event : Event) → due_of dues rs ≡ Some event → due_by dues rs d ≡ Some event
  by_first dues rs None event e = e
  by_first dues rs (Some d) event e = ap (λ o. due_or o (due_of_merge (map books_due dues) rs d)) e

  pub next_first : (v : Volumed B) (event : Event) → due_of (dues_of contents layers v) v.flights ≡ Some event → next_of contents layers v ≡ Some event
  next_first v event e = by_first (dues_of contents layers v) v.flights (merge_due contents v.merge) event e

  -- and else one of the merge
  pub next_merge : (v : Volumed B) (m : Merging B) → v.merge ≡ Some m → due_of (dues_of contents layers v) v.flights ≡ None → next_of contents layers v ≡ due_of_merge (map (snap_books contents layers) v.snaps) v.flights (merging_due contents true m)
  next_merge v m is e =
      ap (λ (x : Option (Merging B)). due_by (dues_of contents layers v) v.flights (merge_due contents x)) is
      ∙ ap (λ o. due_or o (due_of_merge (map books_due (dues_of contents layers v)) v.flights (merging_due contents true m))) e
      ∙ ap (λ bs. due_of_merge bs v.flights (merging_due contents true m)) (due_books contents layers v.snaps)

  pub next_none : (v : Volumed B) → v.merge ≡ None → due_of (dues_of contents layers v) v.flights ≡ None → next_of contents layers v ≡ None
  next_none v is e = ap (λ (x : Option (Merging B)). due_by (dues_of contents layers v) v.flights (merge_due contents x)) is ∙ e

  -- the snapshots as the machine and as the books have them
  helds : (snaps : List (Kept B)) → map held_seen (map (seen_of contents layers) snaps) ≡ map (held_of contents layers) snaps
  helds [] = refl
  helds (s ∷ ss) = ap (λ xs. held_of contents layers s ∷ xs) (helds ss)

  books_seen : (snaps : List (Kept B)) → map (λ (x : Seen). x.due.books) (map (seen_of contents layers) snaps) ≡ map books_due (map (due_of_kept contents layers) snaps)
  books_seen [] = refl
  books_seen (s ∷ ss) = ap (λ xs. snap_books contents layers s ∷ xs) (books_seen ss)

  merging_tied : (sectors : ℕ) (snaps : List (Kept B)) (rs : List Flight) (m : Merging B) → sectors ≡ m.state.origin → MergeGoes (map (snap_books contents layers) snaps) (merging_due contents true m)
      → due_in_machine sectors (map (held_of contents layers) snaps) (map going_of rs) (held_in (merge_seen contents layers (Some m))) ≡ due_of_merge (map books_due (map (due_of_kept contents layers) snaps)) rs (merging_due contents true m)
  merging_tied sectors snaps rs m same goes =
      let s : MergeSeen = record { due = merging_due contents true m; layers = layers m.device; next = m.next } in
      ap (λ n. due_in_machine n (map (held_of contents layers) snaps) (map going_of rs) (held_in (Some s))) same
      ∙ ap (λ hs. due_in_machine m.state.origin hs (map going_of rs) (held_in (Some s))) (sym (helds snaps))
      ∙ merge_due_tied s (map (seen_of contents layers) snaps) rs goes.area
      ∙ ap (λ bs. due_of_merge bs rs (merging_due contents true m)) (books_seen snaps)

  module _ (size : B → ℕ) (v : Volumed B) (h : IsWhole contents layers size v) where
    -- the event that is due first is the machine's
    tied_by : (merge : Option (Merging B)) → GoesOn contents layers size merge v →
        due_or (due_of (dues_of contents layers v) v.flights) (due_in_machine (length (contents v.origin) / 512) (map (held_of contents layers) v.snaps) (map going_of v.flights) (held_in (merge_seen contents layers merge))) ≡ due_by (dues_of contents layers v) v.flights (merge_due contents merge)
    tied_by None goes = or_none (due_of (dues_of contents layers v) v.flights)
    tied_by (Some m) goes = ap (due_or (due_of (dues_of contents layers v) v.flights)) (merging_tied (length (contents v.origin) / 512) v.snaps v.flights m (sectors_is (contents v.origin) m.state.origin (h.holds.whole ∙ ap (λ n. 512 * n) (sym goes.origin))) (goes.goes true))

    pub due_all_is : (replied : Option Reply) → due_all (moving_of contents layers replied v) ≡ next_of contents layers v
    due_all_is replied =
        ap (λ o. due_or o (due_in_machine (length (contents v.origin) / 512) (map (held_of contents layers) v.snaps) (map going_of v.flights) (held_in (merge_seen contents layers v.merge)))) (due_is contents layers replied v h.counted)
        ∙ tied_by v.merge h.merge

    pub merged : (m : Merging B) → v.merge ≡ Some m → IsMerged contents layers size m v
    merged m is = subst (λ (x : Option (Merging B)). GoesOn contents layers size x v) is h.merge

    -- the books of its merge hold
    pub merge_holds : (m : Merging B) → v.merge ≡ Some m → MergeHolds (contents v.origin) v.flights (merging_books contents (is_loud (layers v.origin) && is_loud (layers m.device)) m)
    merge_holds m is = subst (λ (x : Option MergeBooks). OriginHolds (contents v.origin) v.flights x) (ap (λ (x : Option (Merging B)). (books_of contents layers size (record v { merge = x })).merge) is) h.holds.merge

    -- the pair whose chunk is in the buffer lies inside
    pub full_inside : (m : Merging B) (q : Pair) → v.merge ≡ Some m → full_of m.group ≡ Some q → IsInside m.state.chunk m.state.origin m.state.size q
    full_inside m q is full =
        let holds = merge_holds m is in
        let ending = holds.ending in
        let b : MergeBooks = merging_books contents (is_loud (layers v.origin) && is_loud (layers m.device)) m in
        let P : Pair → Type 0 = IsInside m.state.chunk m.state.origin m.state.size in
        let pairs : All P m.pairs = All-front P m.pairs b.released holds.text.inside in
        let last : All P (b.reading ++ b.copied) = All-back P b.waiting (b.reading ++ b.copied) (All-back P ending.0 (b.waiting ++ (b.reading ++ b.copied)) (subst (All P) ending.1 pairs)) in
        All-head P q [] (subst (All P) (full_is m.group ∙ ap option_pairs full) (All-front P b.reading b.copied last))

    -- its chunk begins inside the origin
    pub full_starts : (m : Merging B) (q : Pair) → v.merge ≡ Some m → full_of m.group ≡ Some q → m.state.chunk * q.old < m.state.origin
    full_starts m q is full = (full_inside m q is full).old

    -- its first sector is counted in 64 bits
    pub full_begins : size v.origin ≤ 2_147_483_648 → (m : Merging B) (q : Pair) → v.merge ≡ Some m → full_of m.group ≡ Some q → m.state.chunk * q.old < 2 ^ 64
    full_begins small m q is full =
        let inside = (full_inside m q is full).old in
        let origin = (merged m is).origin in
        omega (arith, inside, origin, small)

    -- where none is due, the volume is quiet, and its merge still
    pub quiet_alone : v.merge ≡ None → next_of contents layers v ≡ None → IsQuiet (books_of contents layers size v) × IsMergeStill v.merge
    quiet_alone alone none = (
      quiet (books_of contents layers size v) (dues_of contents layers v) h.waits (alone_books contents layers (is_loud (layers v.origin)) v.merge alone) (due_books contents layers v.snaps)
          (sym (ap (λ (x : Option (Merging B)). due_by (dues_of contents layers v) v.flights (merge_due contents x)) alone) ∙ none),
      subst IsMergeStill (sym alone) tt,
    )

    pub quiet_merging : (m : Merging B) → v.merge ≡ Some m → LooksAgree contents true m → next_of contents layers v ≡ None → IsQuiet (books_of contents layers size v) × IsMergeStill v.merge
    quiet_merging m is looks none =
        let loud : Bool = is_loud (layers v.origin) && is_loud (layers m.device) in
        let d : DueMerge = merging_due contents loud m in
        let is_books : (books_of contents layers size v).merge ≡ Some d.books = ap (λ (x : Option (Merging B)). (books_of contents layers size (record v { merge = x })).merge) is in
        let e = quiet_with (books_of contents layers size v) (dues_of contents layers v) d h.waits is_books (due_books contents layers v.snaps) ((merged m is).goes loud)
        (sym (ap (λ (x : Option (Merging B)). due_by (dues_of contents layers v) v.flights (merge_due contents x)) is) ∙ none) in
        let free : m.group ≡ None = no_group m.group (looks.present ∙ ap (λ (qs : List Pair). not (is_none qs)) e.0.group) in
        (e.0.volume, subst IsMergeStill (sym is) (free, ended looks.finished e.1))
      where
        ended : is_finished_of m ≡ is_finished (merging_books contents true m) → (m.failed ≡ true) ⊎ (is_finished (merging_books contents true m) ≡ true) → (m.failed ≡ true) ⊎ (is_finished_of m ≡ true)
        ended same (inl failed) = inl failed
        ended same (inr over) = inr (same ∙ over)

-- What is due of snapshots and requests is no event of a merge; and where nothing of theirs is due and no group of a merge
-- is formed, the volume is quiet.
use Rattle.std.proofs.Common.{◌≡◌, ℕ, Bool, true, false, List, [], ◌∷◌, Option, Some, None, length, map, refl, sym, ◌∙◌, ap, subst, nat_eq}
use Rattle.std.specs.Prelude.{◌&&◌, not}
use Rattle.std.specs.List.{All, list_all}
use Rattle.std.proofs.lemmas.Bool.{false≢true}
use Rattle.std.proofs.lemmas.List.Elements.{All-head, All-tail, All-map}
use Rattle.device.specs.Layers.{Layer, is_loud}
use Rattle.sector.specs.declared.pair.Pair.{Pair}
use Rattle.plain_machine.specs.declared.event.Event.{Event}
use Rattle.plain_machine.specs.declared.event.Event.TheVariants.{Issue, CopyRead, CopyWrite, ZeroNext, WriteArea, Publish, WriteInvalid, FlushStore}
use Rattle.in_flight.specs.declared.copies.ChunkCopy.{ChunkCopy}
use Rattle.in_flight.specs.declared.copies.Mark.{Mark}
use Rattle.in_flight.specs.declared.copies.Stage.TheVariants.{Waiting, Read}
use Rattle.in_flight.specs.declared.flights.Flight.{Flight}
use Rattle.in_flight.specs.Due.{first_by, number_of_flight, is_issuable}
use Rattle.volume_laws.specs.Again.{has_chunk}
use Rattle.volume_laws.specs.Books.{MergeBooks, group_of}
use Rattle.volume_laws.specs.Due.{DueSnap, books_of as books_due, snap_number, can_mark, can_flush_store, can_commit, can_zero, copy_of, publishable_of, least_of, event_or, due_of}
use Rattle.volume_laws.specs.MergeDue.{is_none}
use Rattle.volume_laws.specs.Published.{chunk_of}
use Rattle.volume_laws.specs.Waits.{IsDone, is_grouped}
use Rattle.volume_laws.proofs.Due.{nothing_due}
use Rattle.volume_laws.proofs.Quiet.{all_done, none_left}
use Rattle.snapshot.specs.Kept.{Kept, books_of as snap_books}
use Rattle.merge.specs.Looks.{LooksAgree}
use Rattle.merge.specs.Merging.{Merging, books_of as merging_books}
use Rattle.volume.specs.EventKinds.{is_of_merge}
use Rattle.volume.specs.Leaving.{has_group_in, is_done_of, is_quiet_of}
use Rattle.volume.specs.Volumed.{Volumed, books_of, dues_of}
use Rattle.volume.specs.Whole.{IsWhole}
use Rattle.volume.proofs.Shown.{due_books}

abbrev IsOwn : Option Event → Type 0
IsOwn found = (e : Event) → found ≡ Some e → is_of_merge e ≡ false

or_own : (n : Option ℕ) (make : ℕ → Event) (rest : Option Event) → ((k : ℕ) → is_of_merge (make k) ≡ false) → IsOwn rest → IsOwn (event_or n make rest)
or_own None make rest one own = own
or_own (Some k) make rest one own = λ e is. (let same : make k ≡ e = cc in subst (λ x. is_of_merge x ≡ false) same (one k))

none_own : IsOwn None
none_own = λ e is. absurd (cc)

-- an event of snapshots and requests is none of a merge
pub due_own : (snaps : List DueSnap) (rs : List Flight) (event : Event) → due_of snaps rs ≡ Some event → is_of_merge event ≡ false
due_own snaps rs =
    or_own (first_by can_mark snap_number snaps) WriteInvalid _ (λ k. refl)
    (or_own (first_by can_flush_store snap_number snaps) FlushStore _ (λ k. refl)
    (or_own (least_of (publishable_of rs) snaps) Publish _ (λ k. refl)
    (or_own (first_by can_commit snap_number snaps) WriteArea _ (λ k. refl)
    (or_own (first_by can_zero snap_number snaps) ZeroNext _ (λ k. refl)
    (or_own (least_of (copy_of Read) snaps) CopyWrite _ (λ k. refl)
    (or_own (least_of (copy_of Waiting) snaps) CopyRead _ (λ k. refl)
    (or_own (first_by is_issuable number_of_flight rs) Issue None (λ k. refl) none_own)))))))

no_pairs : (pairs : List Pair) (found : Bool) → found ≡ not (is_none pairs) → found ≡ false → pairs ≡ []
no_pairs [] found same none = refl
no_pairs (q ∷ qs) found same none = absurd (false≢true (sym none ∙ same))

module _ {B : Type 0} (contents : B → List ℕ) (layers : B → List Layer) where
  done_by : (copies : List ChunkCopy) (marks : List Mark) (untried : Bool) → copies ≡ [] → marks ≡ [] → untried ≡ false → (nat_eq (length copies) 0 && nat_eq (length marks) 0 && not untried) ≡ true
  done_by copies marks untried a b c =
      ap (λ (xs : List ChunkCopy). nat_eq (length xs) 0 && nat_eq (length marks) 0 && not untried) a
      ∙ ap (λ (xs : List Mark). nat_eq (length xs) 0 && not untried) b ∙ ap not c

  all_done_of : (ss : List (Kept B)) → All IsDone (map (snap_books contents layers) ss) → list_all is_done_of ss ≡ true
  all_done_of [] all = refl
  all_done_of (s ∷ ss) all =
      let one : IsDone (snap_books contents layers s) = All-head IsDone (snap_books contents layers s) (map (snap_books contents layers) ss) all in
      ap (λ b. b && list_all is_done_of ss) (done_by s.copies s.marks s.untried one.copies one.marks one.tried)
      ∙ all_done_of ss (All-tail IsDone (snap_books contents layers s) (map (snap_books contents layers) ss) all)

  quiet_by : (flights : List Flight) (group all : Bool) → flights ≡ [] → group ≡ false → all ≡ true → (nat_eq (length flights) 0 && (not group && all)) ≡ true
  quiet_by flights group all a b c =
      ap (λ (xs : List Flight). nat_eq (length xs) 0 && (not group && all)) a ∙ ap (λ g. not g && all) b ∙ c

  -- nothing of snapshots and requests is due, and no group of the merge is formed
  module _ (size : B → ℕ) (v : Volumed B) (whole : IsWhole contents layers size v) (m : Merging B) (is : v.merge ≡ Some m) (looks : LooksAgree contents true m) (free : has_group_in v.merge ≡ false) (none : due_of (dues_of contents layers v) v.flights ≡ None) where
    ungrouped : (f : Flight) → is_grouped (books_of contents layers size v).merge f ≡ false
    ungrouped f =
        let books : MergeBooks = merging_books contents (is_loud (layers v.origin) && is_loud (layers m.device)) m in
        let group : group_of books ≡ [] = no_pairs (group_of books) (has_group_in (Some m)) looks.present (ap has_group_in (sym is) ∙ free) in
        ap (λ (x : Option (Merging B)). is_grouped (books_of contents layers size (record v { merge = x })).merge f) is
        ∙ ap (λ (qs : List Pair). has_chunk qs (chunk_of m.state.chunk f)) group

    pub quiet_unmerged : is_quiet_of v ≡ true
    quiet_unmerged =
        let idle = nothing_due (dues_of contents layers v) v.flights none in
        let done : All IsDone (map (snap_books contents layers) v.snaps) = subst (All IsDone) (due_books contents layers v.snaps) (All-map IsDone books_due (dues_of contents layers v) (all_done (dues_of contents layers v) v.flights idle)) in
        let empty : v.flights ≡ [] = none_left (books_of contents layers size v) v.flights idle.issued whole.waits.held done ungrouped in
        quiet_by v.flights (has_group_in v.merge) (list_all is_done_of v.snaps) empty free (all_done_of v.snaps done)

-- A merge that came to its end is taken out of a quiet volume.
use Rattle.std.proofs.Common.{◌≡◌, ℕ, Bool, true, false, List, [], Option, Some, None, length, map, refl, sym, ◌∙◌, ap, subst, nat_eq, if◌then◌else◌}
use Rattle.std.specs.Prelude.{◌&&◌, not}
use Rattle.std.specs.List.{All}
use Rattle.std.proofs.lemmas.Bool.{eqb-true, false≢true}
use Rattle.std.proofs.lemmas.List.{nil_from_length}
use Rattle.std.proofs.lemmas.List.Elements.{All-nil}
use Rattle.device.specs.Layers.{Layer, is_loud}
use Rattle.sector.specs.declared.refusal.Refusal.TheVariants.{NotFinished, NotQuiet}
use Rattle.plain_machine.specs.Plain.{Plain}
use Rattle.plain_machine.specs.Legal.{IsFinished}
use Rattle.plain_machine.specs.declared.request.Reply.{Reply}
use Rattle.in_flight.specs.declared.flights.Flight.{Flight}
use Rattle.volume_laws.specs.Books.{MergeBooks}
use Rattle.volume_laws.specs.MergeDue.{is_none}
use Rattle.volume_laws.specs.Whole.{Holds, UnmergedHolds, plain_of as plain_books}
use Rattle.volume_laws.proofs.Same.{books}
use Rattle.volume_laws.proofs.Waiting.{waits_none}
use Rattle.volume_laws.proofs.WholeMerge.{finish_event}
use Rattle.event_machine.specs.Held.{MergeHeld, Moving}
use Rattle.event_machine.specs.MergeDue.{is_finished}
use Rattle.event_machine.specs.MergeSeen.{held_in, merge_held_of}
use Rattle.event_machine.specs.Merging.{finished}
use Rattle.event_machine.specs.Stepping.{for_some}
use Rattle.snapshot.specs.Kept.{books_of as snap_books}
use Rattle.merge.specs.declared.group.Group.{Group}
use Rattle.merge.specs.Due.{has_group_of, is_finished_of}
use Rattle.merge.specs.Lists.{group_pairs}
use Rattle.merge.specs.Merging.{Merging, books_of as merging_books, due_of as merging_due}
use Rattle.snapshot_list.specs.Keeping.{unkept}
use Rattle.snapshot_list.specs.Rooms.{merge_books}
use Rattle.volume.specs.Finishing.{finish_refusal, finish_with}
use Rattle.volume.specs.Leaving.{is_quiet_of}
use Rattle.volume.specs.Volumed.{Volumed, books_of, is_loud_in_all, plain_of}
use Rattle.volume.specs.Whole.{IsWhole}
use Rattle.volume.specs.Moved.{merge_seen, moving_of}
use Rattle.volume.proofs.Beginnings.{twice_unkept}
use Rattle.volume.proofs.KeptBack.{whole_kept, plain_kept, moving_kept, loud_kept}
use Rattle.volume.proofs.MovedLists.{if_true}
use Rattle.volume.proofs.Quieted.{quiet_flights, quiet_done, no_group}
use Rattle.volume.proofs.Shown.{and_left, and_right, loud_books, shown}

-- what is known where a merge may be taken out
admitted_with : {B : Type 0} (m : Merging B) (quiet : Bool) → finish_with (Some m) quiet ≡ None → (is_finished_of m ≡ true) × (quiet ≡ true)
admitted_with m quiet e = by_test (is_finished_of m) quiet e
  where
    by_test : (done calm : Bool) → (if done then (if calm then None else Some NotQuiet) else Some NotFinished) ≡ None → (done ≡ true) × (calm ≡ true)
    by_test true true h = (refl, refl)
    by_test true false h = (let none : Some NotQuiet ≡ None = h in absurd (cc))
    by_test false calm h = (let none : Some NotFinished ≡ None = h in absurd (cc))

not_true : (a : Bool) → not a ≡ true → a ≡ false
not_true true e = absurd (false≢true e)
not_true false e = refl

module _ {B : Type 0} (v : Volumed B) (m : Merging B) (is : v.merge ≡ Some m) (admitted : finish_refusal v ≡ None) where
  both : (is_finished_of m ≡ true) × (is_quiet_of v ≡ true)
  both = admitted_with m (is_quiet_of v) (ap (λ (o : Option (Merging B)). finish_with o (is_quiet_of v)) (sym is) ∙ admitted)

  calm : is_quiet_of v ≡ true
  calm = both.1

  pub no_pairs : m.pairs ≡ []
  no_pairs = nil_from_length m.pairs (eqb-true (length m.pairs) 0 (and_left (nat_eq (length m.pairs) 0) (not (has_group_of m.group)) both.0))

  free : m.group ≡ None
  free = no_group m.group (not_true (has_group_of m.group) (and_right (nat_eq (length m.pairs) 0) (not (has_group_of m.group)) both.0))

  none : v.flights ≡ []
  none = quiet_flights v calm

  abbrev pub out : Volumed B
  out = record v { merge = None }

  abbrev pub taken_out : Volumed B
  taken_out = record v { snaps = map unkept v.snaps; merge = None }

  module _ (contents : B → List ℕ) (layers : B → List Layer) (size : B → ℕ) (h : IsWhole contents layers size v) where
    abbrev l : Bool
    l = is_loud (layers v.origin)

    out_holds : Holds (books_of contents layers size out)
    out_holds = record {
      whole = h.holds.whole;
      merge = subst (λ (rs : List Flight). All UnmergedHolds rs) (sym none) (All-nil UnmergedHolds);
      snaps = h.holds.snaps;
      requests = h.holds.requests;
      numbers = h.holds.numbers;
    }

    out_whole : IsWhole contents layers size out
    out_whole = record {
      holds = out_holds;
      waits = waits_none (books_of contents layers size out) none;
      merge = tt;
      snaps = h.snaps;
      counted = h.counted;
      apart = h.apart;
      numbers = h.numbers;
      requests = h.requests;
      few = h.few;
      few_copies = h.few_copies;
      few_requests = h.few_requests;
      numbers_left = h.numbers_left;
    }

    pub whole_finished : IsWhole contents layers size (record v { snaps = map unkept v.snaps; merge = None })
    whole_finished = whole_kept contents layers size out (map unkept v.snaps) (twice_unkept v.snaps) refl (quiet_done v calm) out_whole

    -- where no device drops writes, the plain machine's merge is finished, and the disk has the origin's array
    module _ (loud : is_loud_in_all layers v ≡ true) where
      abbrev mb : MergeBooks
      mb = merging_books contents (l && is_loud (layers m.device)) m

      with_merge : Holds (books (contents v.origin) (size v.origin) l (map (snap_books contents layers) v.snaps) (Some mb) [])
      with_merge =
          subst (λ (rs : List Flight). Holds (books (contents v.origin) (size v.origin) l (map (snap_books contents layers) v.snaps) (Some mb) rs)) none
          (subst (λ (o : Option (Merging B)). Holds (books (contents v.origin) (size v.origin) l (map (snap_books contents layers) v.snaps) (merge_books contents layers l o) v.flights)) is h.holds)

      mb_loud : mb.loud ≡ true
      mb_loud = (loud_books contents layers size v loud).merge mb (ap (merge_books contents layers l) is)

      event : Holds (books (contents v.origin) (size v.origin) l (map (snap_books contents layers) v.snaps) None []) × IsFinished (plain_books (books (contents v.origin) (size v.origin) l (map (snap_books contents layers) v.snaps) (Some mb) [])) (plain_books (books (contents v.origin) (size v.origin) l (map (snap_books contents layers) v.snaps) None [])) × (contents v.origin ≡ (plain_books (books (contents v.origin) (size v.origin) l (map (snap_books contents layers) v.snaps) (Some mb) [])).origin)
      event = finish_event (contents v.origin) (size v.origin) l (map (snap_books contents layers) v.snaps) mb with_merge mb_loud no_pairs

      before : plain_books (books (contents v.origin) (size v.origin) l (map (snap_books contents layers) v.snaps) (Some mb) []) ≡ plain_of contents layers v
      before =
          ap (λ (rs : List Flight). plain_books (books (contents v.origin) (size v.origin) l (map (snap_books contents layers) v.snaps) (Some mb) rs)) (sym none)
          ∙ ap (λ (o : Option (Merging B)). plain_books (books (contents v.origin) (size v.origin) l (map (snap_books contents layers) v.snaps) (merge_books contents layers l o) v.flights)) (sym is)
          ∙ sym (shown contents layers size v)

      after : plain_books (books (contents v.origin) (size v.origin) l (map (snap_books contents layers) v.snaps) None []) ≡ plain_of contents layers taken_out
      after =
          ap (λ (rs : List Flight). plain_books (books (contents v.origin) (size v.origin) l (map (snap_books contents layers) v.snaps) None rs)) (sym none)
          ∙ sym (shown contents layers size out)
          ∙ sym (plain_kept contents layers size out (map unkept v.snaps) (twice_unkept v.snaps))

      pub plain_finished : IsFinished (plain_of contents layers v) (plain_of contents layers (record v { snaps = map unkept v.snaps; merge = None }))
      plain_finished =
          subst (λ (p : Plain). IsFinished p (plain_of contents layers taken_out)) before
          (subst (IsFinished (plain_books (books (contents v.origin) (size v.origin) l (map (snap_books contents layers) v.snaps) (Some mb) []))) after event.1)

      pub disk_finished : (plain_of contents layers v).origin ≡ contents v.origin
      disk_finished = sym (event.2 ∙ ap (λ (p : Plain). p.origin) before)

    -- it is taken out of the machine
    pub exact_finished : (replied : Option Reply) → finished (moving_of contents layers replied v) ≡ moving_of contents layers replied (record v { snaps = map unkept v.snaps; merge = None })
    exact_finished replied =
        let machine : Moving = moving_of contents layers replied v in
        let gone : Moving = record machine { merge = None } in
        let held : MergeHeld = merge_held_of (record { due = merging_due contents true m; layers = layers m.device; next = m.next }) in
        let done : is_finished held ≡ true = ap (λ ps. is_none ps && is_none (group_pairs m.group)) no_pairs ∙ ap (λ (g : Option Group). is_none (group_pairs g)) free in
        ap (λ (o : Option (Merging B)). for_some (held_in (merge_seen contents layers o)) (λ (k : MergeHeld). if is_finished k then gone else machine) machine) is
        ∙ if_true (is_finished held) gone machine done
        ∙ sym (moving_kept contents layers size out (map unkept v.snaps) (twice_unkept v.snaps) replied)

    pub loud_finished : is_loud_in_all layers v ≡ (is_loud_in_all layers (record v { snaps = map unkept v.snaps; merge = None }) && is_loud (layers m.device))
    loud_finished =
        ap (λ (o : Option (Merging B)). is_loud_in_all layers (record v { merge = o })) is
        ∙ ap (λ b. b && is_loud (layers m.device)) (sym (loud_kept contents layers size out (map unkept v.snaps) (twice_unkept v.snaps)))

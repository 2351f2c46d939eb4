-- A merge in words of arrays.
use Rattle.std.proofs.Common.{◌≡◌, ℕ, List, [], ◌∷◌, map, Option, Some, None, refl, sym, ◌∙◌, ap, inl, inr}
use Rattle.std.specs.Prelude.{◌==◌}
use Rattle.std.proofs.lemmas.Bool.{cases_Bool, cond-true, cond-false}
use Rattle.device.specs.Layers.{Layer}
use Rattle.cow_format.specs.Picture.{picture}
use Rattle.plain_machine.specs.Plain.{Live, Entry, Shown, without_saved}
use Rattle.whole_commands.specs.Merges.{Merge, Merged, resumed, resumed_by}
use Rattle.whole_commands.specs.Snaps.{shown}
use Rattle.snapshot.specs.declared.opening.StoreDev.{StoreDev}
use Rattle.volume.specs.Shown.{shown_origin, shown_begun}
use Rattle.volume_commands.specs.Rested.{Attached, Rested, merged_of, snap_at, snap_of, without}
use Rattle.volume_commands.specs.Merging.{IsBegunAs, IsTakenOutAs}
use Rattle.volume_commands.specs.Showing.{arrays_in, entry_of, saved_at, IsRolledBack}
use Rattle.whole_commands.specs.MergeShown.{origin_shown}
use Rattle.volume_commands.proofs.Shown.{arrays_with, seen, shown_by}
use Rattle.merge.specs.Merging.{Merging}

resumed_arrays : (m : Merged) (o : Option Merge) → m.merge ≡ o → arrays_with (resumed_by o m.volume) ≡ arrays_with m
resumed_arrays m None none = ap (λ o. arrays_with (record { volume = m.volume; merge = o })) (sym none)
resumed_arrays m (Some g) some = ap (λ o. arrays_with (record { volume = m.volume; merge = o })) (sym some)

module _ {B : Type 0} (contents : B → List ℕ) (layers : B → List Layer) where
  -- a merge that goes on changes no array
  pub resumed_shows : (old new : Rested B) → resumed (merged_of contents layers old) ≡ merged_of contents layers new → arrays_in contents layers new ≡ arrays_in contents layers old
  resumed_shows old new is = seen contents layers (λ a b. a ≡ b) new old (ap arrays_with (sym is) ∙ resumed_arrays (merged_of contents layers old) (merged_of contents layers old).merge refl)

  entries_of : List ℕ → List (Attached B) → List Entry
  entries_of origin snaps = map (entry_of origin) (map (snap_of contents layers) snaps)

  -- what the snapshot with a number shows, and the others
  shows_at : (number : ℕ) (origin : List ℕ) (snaps : List (Attached B)) (s : Attached B) → snap_at number snaps ≡ Some s
      → saved_at number (map (entry_of origin) (map (snap_of contents layers) snaps)) ≡ shown origin (snap_of contents layers s)
  shows_at number origin [] s is = absurd (cc)
  shows_at number origin (x ∷ snaps) s is = elim (cases_Bool (x.number == number)) [
    | inl this ↦ cond-true _ _ _ this ∙ (let same : x ≡ s = some_same x s (sym (cond-true _ _ _ this) ∙ is) in ap (λ (y : Attached B). shown origin (snap_of contents layers y)) same)
    | inr other ↦ cond-false _ _ _ other ∙ shows_at number origin snaps s (sym (cond-false _ _ _ other) ∙ is)
  ]
    where
      some_same : (a b : Attached B) → Some a ≡ Some b → a ≡ b
      some_same a b e = cc

  shows_others : (number : ℕ) (origin : List ℕ) (snaps : List (Attached B))
      → map (entry_of origin) (map (snap_of contents layers) (without number snaps)) ≡ without_saved number (map (entry_of origin) (map (snap_of contents layers) snaps))
  shows_others number origin [] = refl
  shows_others number origin (x ∷ snaps) = elim (cases_Bool (x.number == number)) [
    | inl this ↦ ap (λ (xs : List (Attached B)). map (entry_of origin) (map (snap_of contents layers) xs)) (cond-true _ _ _ this) ∙ sym (cond-true _ _ _ this)
    | inr other ↦ ap (λ (xs : List (Attached B)). map (entry_of origin) (map (snap_of contents layers) xs)) (cond-false _ _ _ other)
        ∙ ap (λ (es : List Entry). entry_of origin (snap_of contents layers x) ∷ es) (shows_others number origin snaps) ∙ sym (cond-false _ _ _ other)
  ]

  -- the origin shows what the snapshot did
  pub begun_shows : (number : ℕ) (old new : Rested B) → IsBegunAs number old new → IsRolledBack number (arrays_in contents layers old) (arrays_in contents layers new)
  begun_shows number old new is = record {
    alone = ap shown_begun is.alone;
    begun = ap shown_begun is.begun ∙ ap (λ n. Some n) is.number_is;
    origin = ap (λ o. Live (shown_origin contents new.origin o)) is.begun
        ∙ ap (λ c. Live (picture c (contents new.origin) (contents is.merge.device))) is.chunk_is
        ∙ ap (λ d. Live (picture is.snap.chunk (contents new.origin) (contents d))) is.store
        ∙ ap (λ d. Live (picture is.snap.chunk (contents d) (contents is.snap.store))) is.origin
        ∙ sym (cond-true _ _ _ is.live)
        ∙ sym (shows_at number (contents old.origin) old.snaps is.snap is.found);
    saved = ap (λ d. map (entry_of (contents d)) (map (snap_of contents layers) new.snaps)) is.origin
        ∙ ap (λ (xs : List (Attached B)). map (entry_of (contents old.origin)) (map (snap_of contents layers) xs)) is.snaps
        ∙ shows_others number (contents old.origin) old.snaps;
  }

  -- no array changes where a merge is taken out, which is begun no more, and the origin disk is the origin's
  pub finished_shows : (store : StoreDev B) (old new : Rested B) → IsTakenOutAs store old new → origin_shown (merged_of contents layers old) ≡ contents new.origin
      → (arrays_in contents layers new ≡ record (arrays_in contents layers old) { begun = None }) × ((arrays_in contents layers old).origin ≡ contents new.origin)
  finished_shows store old new is disk =
      let mk : List ℕ → List Entry → Shown = λ o s. record { origin = o; begun = None; saved = s } in
      let under : Option (Merging B) → Shown = λ o. record { origin = shown_origin contents new.origin o; begun = shown_begun o; saved = map (entry_of (contents new.origin)) (map (snap_of contents layers) new.snaps) } in
      let entries : B → List (Attached B) → List Entry = λ d xs. map (entry_of (contents d)) (map (snap_of contents layers) xs) in
      let own : (arrays_in contents layers old).origin ≡ contents new.origin = ap (λ (a : Shown). a.origin) (shown_by contents layers old) ∙ disk in (
        ap under is.ended
            ∙ ap (λ o. mk o (entries new.origin new.snaps)) (sym own)
            ∙ ap (λ d. mk (arrays_in contents layers old).origin (entries d new.snaps)) is.origin
            ∙ ap (λ (xs : List (Attached B)). mk (arrays_in contents layers old).origin (entries old.origin xs)) is.snaps,
        own,
      )

-- A snapshot leaves.
use Rattle.std.proofs.Common.{◌≡◌, ◌⊎◌, inl, inr, ℕ, zero, suc, ◌<◌, Bool, true, false, List, [], ◌∷◌, length, get_or, map, Option, Some, None, refl, sym, ◌∙◌, ap, arith}
use Rattle.std.specs.Prelude.{◌==◌, ◌&&◌, not, if◌then◌else◌}
use Rattle.std.specs.List.{list_all, remove}
use Rattle.std.proofs.lemmas.Bool.{cases_Bool, cond-true, cond-false}
use Rattle.std.proofs.lemmas.List.Quantifiers.{position-Some}
use Rattle.device.specs.Layers.{Layer, is_loud}
use Rattle.whole_commands.specs.Snaps.{Snap}
use Rattle.whole_commands.specs.Attaching.{Store, detached, given_back}
use Rattle.snapshot.specs.Kept.{Kept}
use Rattle.snapshot.specs.declared.opening.StoreDev.{StoreDev}
use Rattle.volume.specs.Volumed.{Volumed, is_loud_in_all, is_loud_with}
use Rattle.volume.specs.Moved.{device_of}
use Rattle.snapshot_list.specs.Finding.{place_of_snap}
use Rattle.volume.specs.Leaving.{has_group_in, is_done_of, is_quiet_of, leaving_refusal, detach_refusal, IsWithout}
use Rattle.volume.specs.Submitting.{is_merging}
use Rattle.volume_commands.specs.Rested.{Attached, attached_of, rested_of, snap_of, merged_of, IsSettled, has_dev, snap_at, without}
use Rattle.volume_commands.specs.Leaving.{IsDetachedAs}
use Rattle.volume_commands.proofs.Seen.{loud_same, dev_found, dev_missing}
use Rattle.sector.specs.declared.refusal.Refusal.{Refusal}
use Rattle.sector.specs.declared.refusal.Refusal.TheVariants.{JournalFull, NoSuchDevice, NotQuiet, MergeInProgress}
use Rattle.plain_machine.specs.declared.request.Dev.TheVariants.{Snap as ToSnap}
use Rattle.volume.proofs.Quieted.{quiet_done, quiet_flights, quiet_free}
use Rattle.volume.proofs.Shown.{loud_others}

module _ {B : Type 0} (number : ℕ) (d : Kept B) where
  -- the snapshot at the place that was found
  pub at_place : (xs : List (Kept B)) (k : ℕ) → k < length xs → ((get_or xs k d).number == number) ≡ true → ((j : ℕ) → j < k → ((get_or xs j d).number == number) ≡ false)
      → (snap_at number (map attached_of xs) ≡ Some (attached_of (get_or xs k d))) × (without number (map attached_of xs) ≡ map attached_of (remove xs k))
  at_place [] k lt this before = absurd (omega (arith, lt))
  at_place (x ∷ xs) zero lt this before = (cond-true _ _ _ this, cond-true _ _ _ this)
  at_place (x ∷ xs) (suc k) lt this before =
      let other : (x.number == number) ≡ false = before 0 (omega arith) in
      let rest = at_place xs k (omega (arith, lt)) this (λ j l. before (suc j) (omega (arith, l))) in
      (cond-false _ _ _ other ∙ rest.0, cond-false _ _ _ other ∙ ap (λ (ys : List (Attached B)). attached_of x ∷ ys) rest.1)

module _ {B : Type 0} (contents : B → List ℕ) (layers : B → List Layer) (number : ℕ) where
  left_as : (xs : List (Attached B)) → map (snap_of contents layers) (without number xs) ≡ detached number (map (snap_of contents layers) xs)
  left_as [] = refl
  left_as (x ∷ xs) = elim (cases_Bool (x.number == number)) [
    | inl this ↦ ap (map (snap_of contents layers)) (cond-true _ _ _ this) ∙ sym (cond-true _ _ _ this)
    | inr other ↦ ap (map (snap_of contents layers)) (cond-false _ _ _ other) ∙ ap (λ (ys : List Snap). snap_of contents layers x ∷ ys) (left_as xs) ∙ sym (cond-false _ _ _ other)
  ]

  back_as : (xs : List (Attached B)) (s : Attached B) → snap_at number xs ≡ Some s → given_back number (map (snap_of contents layers) xs) ≡ Some (record { device = device_of contents layers s.store; stale = s.stale })
  back_as [] s e = absurd (cc)
  back_as (x ∷ xs) s e = elim (cases_Bool (x.number == number)) [
    | inl this ↦ (let is : Some x ≡ Some s = sym (cond-true _ _ _ this) ∙ e in
        let same : x ≡ s = cc in
        cond-true _ _ _ this ∙ ap (λ (t : Attached B). Some (let st : Store = record { device = device_of contents layers t.store; stale = t.stale } in st)) same)
    | inr other ↦ cond-false _ _ _ other ∙ back_as xs s (sym (cond-false _ _ _ other) ∙ e)
  ]

  detached_as : (old new : Volumed B) (store : StoreDev B) → IsWithout number old new store → (d : Kept B) → IsDetachedAs contents layers number store (rested_of old) (rested_of new)
  detached_as old new store out d =
      let found = position-Some (λ (s : Kept B). s.number == number) old.snaps out.place d out.found in
      let here = at_place number d old.snaps out.place found.0 found.1 found.2 in
      let dev : store.device ≡ (get_or old.snaps out.place d).device = out.device d in
      let mark : store.stale ≡ (get_or old.snaps out.place d).stale = out.stale d in
      let snaps_are : (rested_of new).snaps ≡ without number (map attached_of old.snaps) = ap (λ (v : Volumed B). (rested_of v).snaps) out.becomes ∙ sym here.1 in
      record {
        snap = attached_of (get_or old.snaps out.place d);
        found = here.0;
        device = dev;
        stale = mark;
        origin = ap (λ (v : Volumed B). v.origin) out.becomes;
        snaps = snaps_are;
        requests = ap (λ (v : Volumed B). v.requests) out.becomes;
        copies = ap (λ (v : Volumed B). v.copies) out.becomes;
        attached = ap (λ (v : Volumed B). v.attached) out.becomes;
        left = ap (map (snap_of contents layers)) snaps_are ∙ left_as (map attached_of old.snaps);
        back = back_as (map attached_of old.snaps) (attached_of (get_or old.snaps out.place d)) here.0
            ∙ ap (λ (b : B). Some (let st : Store = record { device = device_of contents layers b; stale = (get_or old.snaps out.place d).stale } in st)) (sym dev)
            ∙ ap (λ (b : Bool). Some (let st : Store = record { device = device_of contents layers store.device; stale = b } in st)) (sym mark);
        merge = ap (λ (v : Volumed B). (merged_of contents layers (rested_of v)).merge) out.becomes;
      }

-- there is a snapshot where one is found
some_snap : {B : Type 0} (number k : ℕ) (xs : List (Kept B)) → place_of_snap number xs ≡ Some k → Kept B
some_snap number k [] e = absurd (cc)
some_snap number k (x ∷ xs) e = x

pub left_as_detached : {B : Type 0} (contents : B → List ℕ) (layers : B → List Layer) (number : ℕ) (old new : Volumed B) (store : StoreDev B) → IsWithout number old new store → IsDetachedAs contents layers number store (rested_of old) (rested_of new)
left_as_detached contents layers number old new store out = detached_as contents layers number old new store out (some_snap number out.place old.snaps out.found)

and_first : (a b : Bool) → (a && b) ≡ true → a ≡ true
and_first true b e = refl
and_first false b e = e

and_second : (a b : Bool) → (a && b) ≡ true → b ≡ true
and_second true b e = e
and_second false b e = absurd (cc)

pub all_without : {X : Type 0} (test : X → Bool) (xs : List X) (k : ℕ) → list_all test xs ≡ true → list_all test (remove xs k) ≡ true
all_without test [] zero e = refl
all_without test [] (suc k) e = refl
all_without test (x ∷ xs) zero e = and_second (test x) (list_all test xs) e
all_without test (x ∷ xs) (suc k) e = elim (cases_Bool (test x)) [
  | inl passes ↦ ap (λ b. b && list_all test (remove xs k)) passes ∙ all_without test xs k (sym (ap (λ b. b && list_all test xs) passes) ∙ e)
  | inr fails ↦ absurd (let both : false ≡ true = sym (ap (λ b. b && list_all test xs) fails) ∙ e in cc)
]

-- a snapshot leaves a quiet volume alone
quiet_left : (o : Option ℕ) (quiet : Bool) → leaving_refusal o quiet ≡ None → quiet ≡ true
quiet_left None quiet e = absurd (cc)
quiet_left (Some k) true e = refl
quiet_left (Some k) false e = absurd (cc)

leaving_quiet : (mine quiet : Bool) (o : Option ℕ) → (if mine then Some MergeInProgress else leaving_refusal o quiet) ≡ None → quiet ≡ true
leaving_quiet true quiet o e = absurd (cc)
leaving_quiet false quiet o e = quiet_left o quiet e

module _ {B : Type 0} (number : ℕ) (old new : Volumed B) (store : StoreDev B) (out : IsWithout number old new store) where
  -- the volume was quiet, and is
  pub left_quiet : detach_refusal number old ≡ None → (is_quiet_of old ≡ true) × (is_quiet_of new ≡ true)
  left_quiet admitted =
      let was = leaving_quiet (is_merging number old.merge) (is_quiet_of old) (place_of_snap number old.snaps) admitted in
      let others : List (Kept B) = remove old.snaps out.place in (
        was,
        ap (λ (v : Volumed B). is_quiet_of v) out.becomes
            ∙ ap (λ fs. (length fs == 0) && (not (has_group_in old.merge) && list_all is_done_of others)) (quiet_flights old was)
            ∙ ap (λ b. not b && list_all is_done_of others) (quiet_free old was)
            ∙ all_without is_done_of old.snaps out.place (quiet_done old was),
      )

  -- what is left of a settled volume is settled
  pub left_settles : (layers : B → List Layer) → detach_refusal number old ≡ None → IsSettled layers (rested_of old) → IsSettled layers (rested_of new)
  left_settles layers admitted settled =
      let was_loud : is_loud_in_all layers old ≡ true = sym (loud_same (λ b. []) layers old) ∙ settled.loud in
      let all : (is_loud (layers old.origin) && list_all (λ (s : Kept B). is_loud (layers s.device)) old.snaps) ≡ true = loud_others (λ b. []) layers (λ b. 0) old was_loud in
      record {
        loud = loud_same (λ b. []) layers new ∙ ap (λ (v : Volumed B). is_loud_in_all layers v) out.becomes
            ∙ ap (is_loud_with layers old.merge) (ap (λ b. b && list_all (λ (s : Kept B). is_loud (layers s.device)) (remove old.snaps out.place)) (and_first (is_loud (layers old.origin)) (list_all (λ (s : Kept B). is_loud (layers s.device)) old.snaps) all)
            ∙ all_without (λ (s : Kept B). is_loud (layers s.device)) old.snaps out.place (and_second (is_loud (layers old.origin)) (list_all (λ (s : Kept B). is_loud (layers s.device)) old.snaps) all) ∙ sym all)
            ∙ was_loud;
        quiet = (left_quiet admitted).1;
      }

-- why none leaves a volume
abbrev pub WhyNone : {B : Type 0} → ℕ → Volumed B → Bool → Refusal → Type 0
WhyNone number v quiet refusal = ((refusal ≡ NoSuchDevice) × (has_dev (ToSnap number) (rested_of v) ≡ false)) ⊎ ((refusal ≡ MergeInProgress) × (is_merging number v.merge ≡ true)) ⊎ ((refusal ≡ NotQuiet) × (quiet ≡ false)) ⊎ (refusal ≡ JournalFull)

refused_at : {B : Type 0} (number : ℕ) (v : Volumed B) (o : Option ℕ) (quiet mine : Bool) (refusal : Refusal) → place_of_snap number v.snaps ≡ o → is_merging number v.merge ≡ mine → (if mine then Some MergeInProgress else leaving_refusal o quiet) ≡ Some refusal
    → WhyNone number v quiet refusal × (refusal ≡ NotQuiet → has_dev (ToSnap number) (rested_of v) ≡ true)
refused_at number v o quiet true refusal at is e = (let same : refusal ≡ MergeInProgress = cc in (inr (inl (same, is)), λ other. absurd (cc)))
refused_at number v None quiet false refusal none is e = (let same : refusal ≡ NoSuchDevice = cc in (inl (same, dev_missing number v none), λ other. absurd (cc)))
refused_at number v (Some k) true false refusal at is e = absurd (cc)
refused_at number v (Some k) false false refusal at is e = (let same : refusal ≡ NotQuiet = cc in (inr (inr (inl (same, refl))), λ other. dev_found number k v at))

pub not_left : {B : Type 0} (number : ℕ) (v : Volumed B) → (refusal : Refusal) → (detach_refusal number v ≡ Some refusal) ⊎ (refusal ≡ JournalFull) → WhyNone number v (is_quiet_of v) refusal × (refusal ≡ NotQuiet → has_dev (ToSnap number) (rested_of v) ≡ true)
not_left number v refusal (inr full) = (inr (inr (inr full)), λ other. absurd (let differ : NotQuiet ≡ JournalFull = sym other ∙ full in cc))
not_left number v refusal (inl e) = refused_at number v (place_of_snap number v.snaps) (is_quiet_of v) (is_merging number v.merge) refusal refl refl e

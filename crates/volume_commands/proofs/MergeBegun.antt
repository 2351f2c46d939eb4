-- A merge begins, or does not for want of memory.
use Rattle.std.proofs.Common.{◌≡◌, inl, inr, ℕ, Bool, true, false, List, [], ◌∷◌, length, get_or, map, Option, Some, None, refl, sym, ◌∙◌, ap}
use Rattle.std.specs.Prelude.{◌==◌, ◌&&◌, ◌⊎◌, not, if◌then◌else◌}
use Rattle.std.specs.List.{list_all, remove}
use Rattle.std.proofs.lemmas.Bool.{eqb-true}
use Rattle.std.proofs.lemmas.List.{get_or-map}
use Rattle.std.proofs.lemmas.List.Quantifiers.{position-Some}
use Rattle.device.specs.Layers.{Layer}
use Rattle.sector.specs.declared.refusal.Refusal.{Refusal}
use Rattle.sector.specs.declared.refusal.Refusal.TheVariants.{Invalid, JournalFull, NotQuiet}
use Rattle.whole_commands.specs.Merges.{begun as begun_in_big_steps}
use Rattle.event_machine.specs.Merging.{begun as begun_in_events}
use Rattle.event_machine.specs.MergeRest.{merged_of as merged_in_events, IsBetween}
use Rattle.event_machine.proofs.MergeCommands.{begun_is}
use Rattle.snapshot.specs.Kept.{Kept}
use Rattle.snapshot_list.specs.Finding.{place_of_snap}
use Rattle.merge.specs.Merging.{Merging}
use Rattle.snapshot_list.specs.Keeping.{unkept, kept_back, kept_for}
use Rattle.volume.specs.Volumed.{Volumed}
use Rattle.volume.specs.Moved.{moving_of}
use Rattle.volume.specs.Beginning.{begin_refusal, begin_with, merging_from, place_refusal, IsMergeBegun, IsNotBegun as IsNotBegunIn, SameButKept}
use Rattle.volume.specs.Causes.{lives_of}
use Rattle.volume.specs.Leaving.{has_group_in, is_done_of, is_quiet_of}
use Rattle.volume.proofs.Quieted.{quiet_done, quiet_flights}
use Rattle.volume_commands.specs.Rested.{Attached, attached_of, merged_of, rested_of}
use Rattle.volume_commands.specs.Flying.{without_devices}
use Rattle.volume_commands.specs.Merging.{IsAlike, IsBegunAs, IsNotBegun}
use Rattle.volume_commands.proofs.Leaves.{all_without, at_place}
use Rattle.volume_commands.proofs.Seen.{merged_same}

-- no merge was begun, and the snapshot was live and the volume quiet
none_begun : {B : Type 0} (o : Option (Merging B)) (number : ℕ) (v : Volumed B) → begin_with o number v ≡ None → (o ≡ None) × (place_refusal (lives_of v) (is_quiet_of v) (place_of_snap number v.snaps) ≡ None)
none_begun None number v e = (refl, e)
none_begun (Some m) number v e = absurd (cc)

both_true : (live quiet : Bool) → (if live then (if quiet then None else Some NotQuiet) else Some Invalid) ≡ None → (live ≡ true) × (quiet ≡ true)
both_true true true e = (refl, refl)
both_true true false e = absurd (cc)
both_true false quiet e = absurd (cc)

place_admits : (lives : List Bool) (quiet : Bool) (o : Option ℕ) (k : ℕ) → o ≡ Some k → place_refusal lives quiet o ≡ None → (get_or lives k false ≡ true) × (quiet ≡ true)
place_admits lives quiet o k is e = both_true (get_or lives k false) quiet (sym (ap (place_refusal lives quiet) is) ∙ e)

-- what a snapshot keeps back for a merge is not seen, and leaves it done
either_seen : {B : Type 0} (b : Bool) (count : ℕ) (s : Kept B) → attached_of (if b then kept_back count s else s) ≡ attached_of s
either_seen true count s = refl
either_seen false count s = refl

either_done : {B : Type 0} (b : Bool) (count : ℕ) (s : Kept B) → is_done_of (if b then kept_back count s else s) ≡ is_done_of s
either_done true count s = refl
either_done false count s = refl

kept_seen : {B : Type 0} (number count chunk : ℕ) (xs : List (Kept B)) → map attached_of (map (kept_for number count chunk) xs) ≡ map attached_of xs
kept_seen number count chunk [] = refl
kept_seen number count chunk (x ∷ xs) =
    ap (λ (a : Attached _). a ∷ map attached_of (map (kept_for number count chunk) xs)) (either_seen (x.live && not (x.number == number)) _ x) ∙ ap (λ (zs : List (Attached _)). attached_of x ∷ zs) (kept_seen number count chunk xs)

kept_done : {B : Type 0} (number count chunk : ℕ) (xs : List (Kept B)) → list_all is_done_of (map (kept_for number count chunk) xs) ≡ list_all is_done_of xs
kept_done number count chunk [] = refl
kept_done number count chunk (x ∷ xs) =
    ap (λ b. b && list_all is_done_of (map (kept_for number count chunk) xs)) (either_done (x.live && not (x.number == number)) _ x) ∙ ap (λ b. is_done_of x && b) (kept_done number count chunk xs)

pub unkept_seen : {B : Type 0} (xs : List (Kept B)) → map attached_of (map unkept xs) ≡ map attached_of xs
unkept_seen [] = refl
unkept_seen (x ∷ xs) = ap (λ (zs : List (Attached _)). attached_of x ∷ zs) (unkept_seen xs)

pub unkept_done : {B : Type 0} (xs : List (Kept B)) → list_all is_done_of (map unkept xs) ≡ list_all is_done_of xs
unkept_done [] = refl
unkept_done (x ∷ xs) = ap (λ b. is_done_of x && b) (unkept_done xs)

module _ {B : Type 0} (number : ℕ) (old new : Volumed B) (out : IsMergeBegun number old new) (admitted : begin_refusal number old ≡ None) where
  admits : (old.merge ≡ None) × (place_refusal (lives_of old) (is_quiet_of old) (place_of_snap number old.snaps) ≡ None)
  admits = none_begun old.merge number old admitted

  at : (get_or (lives_of old) out.place false ≡ true) × (is_quiet_of old ≡ true)
  at = place_admits (lives_of old) (is_quiet_of old) (place_of_snap number old.snaps) out.place out.found admits.1

  -- the volume was quiet, and is
  pub begun_quiet : (is_quiet_of old ≡ true) × (is_quiet_of new ≡ true)
  begun_quiet =
      let others : List (Kept B) = map (kept_for number (length out.snap.pairs) out.snap.state.chunk) (remove old.snaps out.place) in (
        at.1,
        ap (λ (v : Volumed B). is_quiet_of v) out.becomes
            ∙ ap (λ (fs : List _). (length fs == 0) && list_all is_done_of others) (quiet_flights old at.1)
            ∙ kept_done number (length out.snap.pairs) out.snap.state.chunk (remove old.snaps out.place)
            ∙ all_without is_done_of old.snaps out.place (quiet_done old at.1),
      )

  pub begun_as : IsBegunAs number (rested_of old) (rested_of new)
  begun_as =
      let found = position-Some (λ (s : Kept B). s.number == number) old.snaps out.place out.snap out.found in
      let here = at_place number out.snap old.snaps out.place found.0 found.1 found.2 in
      record {
        snap = attached_of out.snap;
        merge = merging_from out.snap out.buffer;
        found = here.0 ∙ ap (λ (s : Kept B). Some (attached_of s)) (sym out.is);
        live = ap (λ (s : Kept B). s.live) out.is ∙ sym (get_or-map (λ (s : Kept B). s.live) old.snaps out.place out.snap false found.0) ∙ at.0;
        alone = admits.0;
        begun = ap (λ (v : Volumed B). v.merge) out.becomes;
        number_is = ap (λ (s : Kept B). s.number) out.is ∙ eqb-true (get_or old.snaps out.place out.snap).number number found.1;
        chunk_is = refl;
        store = refl;
        origin = ap (λ (v : Volumed B). v.origin) out.becomes;
        snaps = ap (λ (v : Volumed B). map attached_of v.snaps) out.becomes ∙ kept_seen number (length out.snap.pairs) out.snap.state.chunk (remove old.snaps out.place) ∙ sym here.1;
        requests = ap (λ (v : Volumed B). v.requests) out.becomes;
        copies = ap (λ (v : Volumed B). v.copies) out.becomes;
        attached = ap (λ (v : Volumed B). v.attached) out.becomes;
      }

-- in big steps
module _ {B : Type 0} (contents : B → List ℕ) (layers : B → List Layer) (number : ℕ) (old new : Volumed B) where
  pub begun_merged : (sectors : ℕ) → IsBetween sectors (moving_of contents layers None old) → begun_in_events number (moving_of contents layers None old) ≡ moving_of contents layers None new
      → begun_in_big_steps number (merged_of contents layers (rested_of old)) ≡ merged_of contents layers (rested_of new)
  begun_merged sectors between exact =
      ap (begun_in_big_steps number) (merged_same contents layers None old) ∙ sym (begun_is sectors number (moving_of contents layers None old) between).0
      ∙ ap merged_in_events exact ∙ sym (merged_same contents layers None new)

  -- nothing that is seen changed
  module _ (same : SameButKept old new) where
    snaps_same : map attached_of new.snaps ≡ map attached_of old.snaps
    snaps_same = elim same.kept [
      | inl still ↦ ap (map attached_of) still
      | inr free ↦ ap (map attached_of) free ∙ unkept_seen old.snaps
    ]

    done_same : list_all is_done_of new.snaps ≡ list_all is_done_of old.snaps
    done_same = elim same.kept [
      | inl still ↦ ap (list_all is_done_of) still
      | inr free ↦ ap (list_all is_done_of) free ∙ unkept_done old.snaps
    ]

    quiet_same : is_quiet_of new ≡ is_quiet_of old
    quiet_same = ap (λ (v : Volumed B). is_quiet_of v) same.becomes ∙ ap (λ b. (length old.flights == 0) && (not (has_group_in old.merge) && b)) done_same

    alike : moving_of contents layers None new ≡ moving_of contents layers None old → IsAlike contents layers (rested_of old) (rested_of new)
    alike still = record {
      origin = ap (λ (v : Volumed B). v.origin) same.becomes;
      snaps = snaps_same;
      merge = ap (λ (v : Volumed B). v.merge) same.becomes;
      requests = ap (λ (v : Volumed B). v.requests) same.becomes;
      copies = ap (λ (v : Volumed B). v.copies) same.becomes;
      attached = ap (λ (v : Volumed B). v.attached) same.becomes;
      quiet = quiet_same;
      flying = ap without_devices still;
    }

  pub not_begun_as : (refusal : Refusal) → ((refusal ≡ JournalFull) × (new ≡ old)) ⊎ IsNotBegunIn number refusal old new → moving_of contents layers None new ≡ moving_of contents layers None old → IsNotBegun contents layers number refusal (rested_of old) (rested_of new)
  not_begun_as refusal (inl full) still = inr (inr (full.0, ap (λ (v : Volumed B). rested_of v) full.1))
  not_begun_as refusal (inr (inl first)) still = inl (first.0, ap (λ (v : Volumed B). rested_of v) first.1)
  not_begun_as refusal (inr (inr starved)) still = inr (inl (starved.0, starved.1, alike starved.2 still))

  pub not_begun_quiet : (refusal : Refusal) → ((refusal ≡ JournalFull) × (new ≡ old)) ⊎ IsNotBegunIn number refusal old new → is_quiet_of new ≡ is_quiet_of old
  not_begun_quiet refusal (inl full) = ap (λ (v : Volumed B). is_quiet_of v) full.1
  not_begun_quiet refusal (inr (inl first)) = ap (λ (v : Volumed B). is_quiet_of v) first.1
  not_begun_quiet refusal (inr (inr starved)) = quiet_same starved.2

-- What a volume was asked earns each place of its journal.
use Rattle.std.proofs.Common.{◌≡◌, inl, inr, ℕ, ◌+◌, ◌≤◌, Bool, true, false, List, [], ◌∷◌, ◌++◌, length, get_or, map, Option, Some, None, refl, sym, ◌∙◌, ap, arith, length-append}
use Rattle.std.specs.Prelude.{◌⊎◌, ◌==◌, Result, Ok, Err, IfErr, IfOk, OnOk}
use Rattle.std.specs.List.{remove}
use Rattle.std.proofs.lemmas.List.{length-map, length-set}
use Rattle.std.proofs.lemmas.List.Edits.{length-remove}
use Rattle.device.specs.Layers.{Layer}
use Rattle.layers.specs.declared.message.Answer.{Answer}
use Rattle.layers.specs.declared.message.Message.{Message}
use Rattle.merge.specs.Merging.{Merging}
use Rattle.plain_machine.specs.Plain.{Entry as ShownEntry}
use Rattle.plain_machine.specs.declared.request.Dev.{Dev}
use Rattle.plain_machine.specs.declared.request.Dev.TheVariants.{Origin, Snap}
use Rattle.sector.specs.declared.refusal.Refusal.{Refusal}
use Rattle.sector.specs.declared.refusal.Refusal.TheVariants.{NotMerging}
use Rattle.snapshot.specs.declared.opening.StoreDev.{StoreDev}
use Rattle.snapshot_list.proofs.Finds.{position_within}
use Rattle.snapshot_list.specs.Keeping.{kept_for, unkept}
use Rattle.volume.specs.Attached.{IsGained}
use Rattle.volume.specs.Beginning.{IsMergeBegun, IsNotBegun, IsResumed, SameButKept}
use Rattle.volume.specs.Causes.{lives_of}
use Rattle.volume.specs.Finishing.{IsTakenOut}
use Rattle.volume.specs.Layering.{IsMergeLater, IsTicked, Measures}
use Rattle.volume.specs.Leaving.{IsWithout}
use Rattle.volume.specs.Stepping.{KeepsAll, merged_of}
use Rattle.volume.specs.Telling.{IsNotTold, IsRelayeredAt, IsTold, layers_told}
use Rattle.volume.specs.Volumed.{Volumed}
use Rattle.audited_volume.specs.declared.entry.Entry.{Entry}
use Rattle.audited_volume.specs.declared.entry.Entry.TheVariants.{Overflowed, Spoiled}
use Rattle.audited_volume.specs.Earned.{AreEarned, merges_of}
use Rattle.audited_volume.specs.PlacesTaken.{places_for}
use Rattle.audited_volume.specs.Marked.{IsMarkNoted, is_marked}
use Rattle.audited_volume.specs.Noted.{Noted, kept_count, may_count, mays_of}
use Rattle.audited_volume.proofs.Departed.{fewer}
use Rattle.audited_volume.proofs.Gained.{kept_more}
use Rattle.audited_volume.proofs.Lost.{live_few}
use Rattle.audited_volume.proofs.Marks.{first_bit, second_bit}
use Rattle.audited_volume.proofs.Mays.{any_shown, may_few, may_marked, may_removed, noted_may}
use Rattle.audited_volume.proofs.Receipts.{snaps_same}

-- A volume with as many snapshots and merges, that was asked as much.
pub record IsAsMany {B : Type 0} (w w' : Volumed B) : Type 0 where
  pub snaps : length w'.snaps ≡ length w.snaps
  pub merge : merges_of w'.merge ≡ merges_of w.merge
  pub requests : w'.requests ≡ w.requests
  pub attached : w'.attached ≡ w.attached

same_many : {B : Type 0} (w w' : Volumed B) → w' ≡ w → IsAsMany w w'
same_many w w' same = record {
  snaps = ap (λ (x : Volumed _). length x.snaps) same;
  merge = ap (λ (x : Volumed _). merges_of x.merge) same;
  requests = ap (λ (x : Volumed _). x.requests) same;
  attached = ap (λ (x : Volumed _). x.attached) same;
}

pub many_earned : {B : Type 0} (w w' : Volumed B) (places places' : ℕ) → AreEarned places w → IsAsMany w w' → places' ≤ places → AreEarned places' w'
many_earned w w' places places' earned many less = omega (arith, earned, many.snaps, many.merge, many.requests, many.attached, less)

-- one merge is begun at most
pub merges_few : {A : Type 0} (merge : Option A) → merges_of merge ≤ 1
merges_few None = omega arith
merges_few (Some m) = omega arith

merges_same : {B : Type 0} (m m' : Option (Merging B)) → merged_of m' ≡ merged_of m → merges_of m' ≡ merges_of m
merges_same None None e = refl
merges_same None (Some m') e = absurd (cc)
merges_same (Some m) None e = absurd (cc)
merges_same (Some m) (Some m') e = refl

-- a request that is numbered takes one place, and one that is not takes none
pub kept_earned : {B : Type 0} (size : B → ℕ) (w w' : Volumed B) (places places' : ℕ) → AreEarned places w → KeepsAll size w w' → places' + w.requests ≤ places + w'.requests → AreEarned places' w'
kept_earned size w w' places places' earned kept less = omega (arith, earned, less, kept.attached, snaps_same w w' kept.numbers, merges_same w.merge w'.merge kept.merged)

-- spoils that are noted take the places that were kept free for them
pub noted_places : (n : ℕ) (saved : List ShownEntry) (lives lives' may : List Bool) (es es' : List Entry) → Noted n saved lives lives' es es' → length es' + kept_count lives' may ≤ length es + kept_count lives may
noted_places n saved lives lives' may es es' s = omega (arith, ap length s.entries_are, length-append es (map Spoiled s.which), length-map s.which Spoiled, s.room, noted_may n saved lives lives' may es es' any_shown s)

-- and so does a mark
pub marked_places : (dev : Dev) (saved : List ShownEntry) (lives may may' : List Bool) (es es' : List Entry) → IsMarkNoted dev saved lives may may' es es' → length es' + kept_count lives may' ≤ length es + kept_count lives may
marked_places dev saved lives may may' es es' (inl (number, place, placed, is, marked, are)) =
    let live = first_bit (get_or lives place false) (get_or may place false) (get_or (map is_marked saved) place false) is in
    let could = second_bit (get_or lives place false) (get_or may place false) (get_or (map is_marked saved) place false) is in
    omega (arith, ap length are, length-append es (Overflowed number ∷ []), ap (may_count lives) marked, may_marked lives may place live could)
marked_places dev saved lives may may' es es' (inr (none, same, are)) = omega (arith, ap length are, ap (may_count lives) same)

-- an audit that begins, with none taken
pub few_earned : {B : Type 0} (w : Volumed B) → length w.snaps ≤ 8 → AreEarned (0 + kept_count (lives_of w) (mays_of w)) w
few_earned w few = omega (arith, few, live_few (lives_of w), may_few (lives_of w) (mays_of w), length-map w.snaps (λ s. s.live), merges_few w.merge)

module _ {B : Type 0} (w w' : Volumed B) (taken held : ℕ) (es : List Entry) (lives may : List Bool) (earned : AreEarned (taken + length es + held + kept_count lives may) w) where
  -- a snapshot that is attached
  pub attached_earned : (contents : B → List ℕ) (layers : B → List Layer) (size : B → ℕ) (number : ℕ) (wanted : Bool) (store : StoreDev B) → IsGained contents layers size number wanted store w w' → number ≡ w.attached + 1 → length may ≡ length lives → (e : Entry)
      → AreEarned (taken + length (es ++ e ∷ []) + held + kept_count (lives ++ true ∷ []) (may ++ wanted ∷ [])) w'
  attached_earned contents layers size number wanted store g next same e =
      omega (
        arith,
        earned,
        length-append es (e ∷ []),
        kept_more wanted lives may same,
        places_few wanted,
        next,
        ap (λ (x : Volumed B). length x.snaps) g.becomes,
        length-append w.snaps (g.snap ∷ []),
        ap (λ (x : Volumed B). merges_of x.merge) g.becomes,
        ap (λ (x : Volumed B). x.requests) g.becomes,
        ap (λ (x : Volumed B). x.attached) g.becomes,
      )
    where
      places_few : (wanted : Bool) → places_for wanted ≤ 3
      places_few true = omega arith
      places_few false = omega arith

  -- one that leaves
  left_earned : (k : ℕ) (e : Entry) → length w'.snaps + 1 ≡ length w.snaps → merges_of w'.merge ≤ merges_of w.merge + 1 → w'.requests ≡ w.requests → w'.attached ≡ w.attached
      → AreEarned (taken + length (es ++ e ∷ []) + held + kept_count (remove lives k) (remove may k)) w'
  left_earned k e one merge requests attached = omega (arith, earned, length-append es (e ∷ []), fewer lives k, may_removed lives may k, one, merge, requests, attached)

  pub detached_earned : (number k : ℕ) (e : Entry) (store : StoreDev B) → IsWithout number w w' store → AreEarned (taken + length (es ++ e ∷ []) + held + kept_count (remove lives k) (remove may k)) w'
  detached_earned number k e store gone =
      left_earned k e (ap (λ (x : Volumed B). length x.snaps + 1) gone.becomes ∙ length-remove w.snaps gone.place (position_within (λ s. s.number == number) w.snaps gone.place gone.found))
      (omega (arith, ap (λ (x : Volumed B). merges_of x.merge) gone.becomes)) (ap (λ (x : Volumed B). x.requests) gone.becomes) (ap (λ (x : Volumed B). x.attached) gone.becomes)

  -- one that begins to be merged
  pub begun_earned : (number k : ℕ) (e : Entry) → IsMergeBegun number w w' → AreEarned (taken + length (es ++ e ∷ []) + held + kept_count (remove lives k) (remove may k)) w'
  begun_earned number k e begun =
      left_earned k e
      (ap (λ (x : Volumed B). length x.snaps + 1) begun.becomes ∙ ap (λ n. n + 1) (length-map (remove w.snaps begun.place) (kept_for number (length begun.snap.pairs) begun.snap.state.chunk))
      ∙ length-remove w.snaps begun.place (position_within (λ s. s.number == number) w.snaps begun.place begun.found))
      (omega (arith, merges_few w'.merge)) (ap (λ (x : Volumed B). x.requests) begun.becomes) (ap (λ (x : Volumed B). x.attached) begun.becomes)

  -- a merge that is taken out
  pub finished_earned : (e : Entry) (store : StoreDev B) → IsTakenOut w w' store → AreEarned (taken + length (es ++ e ∷ []) + held + kept_count lives may) w'
  finished_earned e store gone =
      omega (
        arith,
        earned,
        length-append es (e ∷ []),
        ap (λ (x : Volumed B). length x.snaps) gone.becomes,
        length-map w.snaps unkept,
        ap (λ m. merges_of m) gone.was,
        ap (λ (x : Volumed B). merges_of x.merge) gone.becomes,
        ap (λ (x : Volumed B). x.requests) gone.becomes,
        ap (λ (x : Volumed B). x.attached) gone.becomes,
      )

-- a merge that goes on
pub resumed_many : {B : Type 0} (result : Result (Unit {0}) Refusal) (w w' : Volumed B) → OnOk result (IsResumed w w') → IfErr result (λ refusal. (refusal ≡ NotMerging) × (w.merge ≡ None) × (w' ≡ w)) → IsAsMany w w'
resumed_many (Ok done) w w' ok err = record {
  snaps = ap (λ (x : Volumed _). length x.snaps) ok.becomes;
  merge = ap (λ (x : Volumed _). merges_of x.merge) ok.becomes ∙ sym (ap (λ m. merges_of m) ok.was);
  requests = ap (λ (x : Volumed _). x.requests) ok.becomes;
  attached = ap (λ (x : Volumed _). x.attached) ok.becomes;
}
resumed_many (Err refusal) w w' ok err = same_many w w' err.2

-- a merge that does not begin
pub unbegun_many : {B : Type 0} (number : ℕ) (refusal : Refusal) (w w' : Volumed B) → IsNotBegun number refusal w w' → IsAsMany w w'
unbegun_many number refusal w w' (inl same) = same_many w w' same.1
unbegun_many number refusal w w' (inr kept) = let k : SameButKept w w' = kept.2 in record {
  snaps = as_long k.kept;
  merge = ap (λ (x : Volumed _). merges_of x.merge) k.becomes;
  requests = ap (λ (x : Volumed _). x.requests) k.becomes;
  attached = ap (λ (x : Volumed _). x.attached) k.becomes;
}
  where
    as_long : (w'.snaps ≡ w.snaps) ⊎ (w'.snaps ≡ map unkept w.snaps) → length w'.snaps ≡ length w.snaps
    as_long (inl same) = ap length same
    as_long (inr less) = ap length less ∙ length-map w.snaps unkept

-- what changes layers
merge_later : {B : Type 0} (m : Measures B) (layers : B → List Layer) (seconds : ℕ) (x y : Option (Merging B)) → IsMergeLater m layers seconds x y → merges_of y ≡ merges_of x
merge_later m layers seconds None None later = refl
merge_later m layers seconds None (Some y) later = absurd later
merge_later m layers seconds (Some x) None later = absurd later
merge_later m layers seconds (Some x) (Some y) later = refl

pub ticked_many : {B : Type 0} (m : Measures B) (layers : B → List Layer) (seconds : ℕ) (w w' : Volumed B) → IsTicked m layers seconds w w' → IsAsMany w w'
ticked_many m layers seconds w w' ticked = record {
  snaps = ticked.count;
  merge = merge_later m layers seconds w.merge w'.merge ticked.merge;
  requests = ap (λ (x : Volumed _). x.requests) ticked.becomes;
  attached = ap (λ (x : Volumed _). x.attached) ticked.becomes;
}

relayered_many : {B : Type 0} (m : Measures B) (layers : B → List Layer) (dev : Dev) (f : List Layer → List Layer) (w w' : Volumed B) → IsRelayeredAt m layers dev f w w' → IsAsMany w w'
relayered_many m layers Origin f w w' is = record {
  snaps = ap (λ (x : Volumed _). length x.snaps) is.becomes;
  merge = ap (λ (x : Volumed _). merges_of x.merge) is.becomes;
  requests = ap (λ (x : Volumed _). x.requests) is.becomes;
  attached = ap (λ (x : Volumed _). x.attached) is.becomes;
}
relayered_many m layers (Snap number) f w w' (inl is) = record {
  snaps = ap (λ (x : Volumed _). length x.snaps) is.becomes ∙ length-set w.snaps is.place _;
  merge = ap (λ (x : Volumed _). merges_of x.merge) is.becomes;
  requests = ap (λ (x : Volumed _). x.requests) is.becomes;
  attached = ap (λ (x : Volumed _). x.attached) is.becomes;
}
relayered_many m layers (Snap number) f w w' (inr is) = record {
  snaps = ap (λ (x : Volumed _). length x.snaps) is.becomes;
  merge = ap (λ (x : Volumed _). merges_of x.merge) is.becomes ∙ sym (ap (λ m. merges_of m) is.is);
  requests = ap (λ (x : Volumed _). x.requests) is.becomes;
  attached = ap (λ (x : Volumed _). x.attached) is.becomes;
}

untold_many : {B : Type 0} (m : Measures B) (layers : B → List Layer) (dev : Dev) (w w' : Volumed B) → (w' ≡ w) ⊎ IsRelayeredAt m layers dev (λ ls. ls) w w' → IsAsMany w w'
untold_many m layers dev w w' (inl same) = same_many w w' same
untold_many m layers dev w w' (inr is) = relayered_many m layers dev (λ ls. ls) w w' is

pub told_many : {B : Type 0} (m : Measures B) (layers : B → List Layer) (dev : Dev) (depth : ℕ) (message : Message) (result : Result Answer Refusal) (w w' : Volumed B)
    → IfOk result (λ answer. IsTold m layers dev depth message answer w w') → IfErr result (λ refusal. IsNotTold m layers dev depth message refusal w w') → IsAsMany w w'
told_many m layers dev depth message (Ok answer) w w' ok err = relayered_many m layers dev (layers_told depth message) w w' ok.device
told_many m layers dev depth message (Err refusal) w w' ok err = untold_many m layers dev w w' err.same

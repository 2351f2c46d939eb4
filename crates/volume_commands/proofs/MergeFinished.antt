-- A merge without pairs is taken out of its volume, or why it is not.
use Rattle.std.proofs.Common.{◌≡◌, inl, inr, ℕ, ◌<◌, Bool, true, false, List, [], ◌∷◌, length, map, Option, Some, None, refl, sym, ◌∙◌, ap, subst, arith}
use Rattle.std.specs.Prelude.{◌==◌, ◌&&◌, not, nat_lt, if◌then◌else◌}
use Rattle.std.specs.List.{list_all}
use Rattle.std.proofs.lemmas.Bool.{cond-true, cond-false, eqb-true}
use Rattle.std.proofs.lemmas.List.{nil_from_length}
use Rattle.sector.specs.declared.pair.Pair.{Pair}
use Rattle.sector.specs.declared.refusal.Refusal.{Refusal}
use Rattle.sector.specs.declared.refusal.Refusal.TheVariants.{NotFinished, NotQuiet}
use Rattle.device.specs.Layers.{Layer, is_loud}
use Rattle.cow_format.specs.Pairs.{pairs_of}
use Rattle.volume_laws.proofs.Attaching.{picture_none}
use Rattle.whole_commands.specs.Snaps.{Volume}
use Rattle.whole_commands.specs.Merges.{Finished, Merge, Merged, finished, finished_by}
use Rattle.whole_commands.specs.MergeShown.{array_of, origin_shown}
use Rattle.event_machine.specs.MergeRest.{merge_in, IsBetween}
use Rattle.event_machine.specs.MergeSeen.{held_in, merge_held_of}
use Rattle.snapshot.specs.declared.opening.StoreDev.{StoreDev}
use Rattle.merge.specs.Due.{has_group_of, is_finished_of}
use Rattle.merge.specs.Merging.{Merging, due_of as merging_due}
use Rattle.snapshot_list.specs.Keeping.{unkept}
use Rattle.volume.specs.Volumed.{Volumed, is_loud_in_all}
use Rattle.volume.specs.Attached.{store_of}
use Rattle.volume.specs.Finishing.{finish_refusal, finish_with, IsTakenOut}
use Rattle.volume.specs.Leaving.{has_group_in, is_done_of, is_quiet_of}
use Rattle.volume.specs.Moved.{device_of, merge_seen, moving_of}
use Rattle.volume.proofs.Quieted.{quiet_done, quiet_flights, quiet_free}
use Rattle.volume_commands.specs.Rested.{Attached, attached_of, merged_of, rested_of, settled_of, snap_of, IsSettled}
use Rattle.volume_commands.specs.Merging.{IsTakenOutAs, IsUnfinished}
use Rattle.volume_commands.proofs.MergeBegun.{unkept_seen, unkept_done}
use Rattle.volume_commands.proofs.Seen.{loud_same}

both_true : (done quiet : Bool) → (if done then (if quiet then None else Some NotQuiet) else Some NotFinished) ≡ None → (done ≡ true) × (quiet ≡ true)
both_true true true e = (refl, refl)
both_true true false e = absurd (cc)
both_true false quiet e = absurd (cc)

and_first : (a b : Bool) → (a && b) ≡ true → a ≡ true
and_first true b e = refl
and_first false b e = e

-- a merge that is not finished, and has no group, has a pair
some_left : (ps : List Pair) (grouped : Bool) → grouped ≡ false → ((length ps == 0) && not grouped) ≡ false → 0 < length ps
some_left [] true free e = absurd (cc)
some_left [] false free e = absurd (cc)
some_left (p ∷ ps) grouped free e = omega arith

-- the merge in big steps
abbrev big_of : {B : Type 0} → (B → List ℕ) → (B → List Layer) → Merging B → Merge
big_of contents layers m = (merge_held_of (record { due = merging_due contents true m; layers = layers m.device; next = m.next })).merge

abbrev big_in : {B : Type 0} → (B → List ℕ) → (B → List Layer) → Option (Merging B) → Option Merge
big_in contents layers o = merge_in (held_in (merge_seen contents layers o))

module _ {B : Type 0} (contents : B → List ℕ) (layers : B → List Layer) (old : Volumed B) (sectors : ℕ) (between : IsBetween sectors (moving_of contents layers None old)) (m : Merging B) (begun : old.merge ≡ Some m) where
  -- its pairs are those of its store's bytes
  pairs_are : pairs_of m.state.chunk (contents m.device) ≡ m.pairs
  pairs_are = (between.merge (merge_held_of (record { due = merging_due contents true m; layers = layers m.device; next = m.next })) (ap (λ o. held_in (merge_seen contents layers o)) begun)).pairs

module _ {B : Type 0} (old new : Volumed B) (store : StoreDev B) (out : IsTakenOut old new store) (admitted : finish_refusal old ≡ None) where
  admits : (is_finished_of out.merge ≡ true) × (is_quiet_of old ≡ true)
  admits = both_true (is_finished_of out.merge) (is_quiet_of old) (sym (ap (λ o. finish_with o (is_quiet_of old)) out.was) ∙ admitted)

  no_pairs : out.merge.pairs ≡ []
  no_pairs = nil_from_length out.merge.pairs (eqb-true (length out.merge.pairs) 0 (and_first (length out.merge.pairs == 0) (not (has_group_of out.merge.group)) admits.0))

  -- the volume was quiet, and is
  pub taken_out_quiet : (is_quiet_of old ≡ true) × (is_quiet_of new ≡ true)
  taken_out_quiet = (
    admits.1,
    ap (λ (v : Volumed B). is_quiet_of v) out.becomes
        ∙ ap (λ (fs : List _). (length fs == 0) && list_all is_done_of (map unkept old.snaps)) (quiet_flights old admits.1)
        ∙ unkept_done old.snaps
        ∙ quiet_done old admits.1,
  )

  pub taken_out_as : IsTakenOutAs store (rested_of old) (rested_of new)
  taken_out_as = record {
    merge = out.merge;
    was = out.was;
    device = out.device;
    stale = out.stale;
    origin = ap (λ (v : Volumed B). v.origin) out.becomes;
    snaps = ap (λ (v : Volumed B). map attached_of v.snaps) out.becomes ∙ unkept_seen old.snaps;
    ended = ap (λ (v : Volumed B). v.merge) out.becomes;
    requests = ap (λ (v : Volumed B). v.requests) out.becomes;
    copies = ap (λ (v : Volumed B). v.copies) out.becomes;
    attached = ap (λ (v : Volumed B). v.attached) out.becomes;
  }

  pub taken_out_settles : (layers : B → List Layer) → is_loud_in_all layers old ≡ (is_loud_in_all layers new && is_loud (layers store.device)) → IsSettled layers (rested_of old) → IsSettled layers (rested_of new)
  taken_out_settles layers both settled = record {
    loud = loud_same (λ b. []) layers new ∙ and_first (is_loud_in_all layers new) (is_loud (layers store.device)) (sym both ∙ sym (loud_same (λ b. []) layers old) ∙ settled.loud);
    quiet = taken_out_quiet.1;
  }

  module _ (contents : B → List ℕ) (layers : B → List Layer) (sectors : ℕ) (between : IsBetween sectors (moving_of contents layers None old)) where
    none_stored : pairs_of out.merge.state.chunk (contents out.merge.device) ≡ []
    none_stored = pairs_are contents layers old sectors between out.merge out.was ∙ no_pairs

    without_merge : merged_of contents layers (rested_of new) ≡ record { volume = settled_of contents layers (rested_of old); merge = None }
    without_merge =
        ap (λ (v : Volumed B). merged_of contents layers (rested_of v)) out.becomes
        ∙ ap (λ (xs : List (Attached B)). (let w : Merged = record { volume = record { origin = device_of contents layers old.origin; snaps = map (snap_of contents layers) xs }; merge = None } in w)) (unkept_seen old.snaps)

    -- in big steps
    pub taken_out_merged : finished (merged_of contents layers (rested_of old)) ≡ record { state = merged_of contents layers (rested_of new); back = Some (store_of contents layers store) }
    taken_out_merged =
        let v : Volume = settled_of contents layers (rested_of old) in
        let mk : Merged → B → Bool → Finished = λ state device stale. record { state = state; back = Some (record { device = device_of contents layers device; stale = stale }) } in
        let left : Merged = record { volume = v; merge = None } in
        ap (λ o. finished_by (big_in contents layers o) v) out.was
        ∙ cond-false _ _ _ (ap (λ (ps : List Pair). nat_lt 0 (length ps)) none_stored)
        ∙ ap (λ d. mk left d false) (sym out.device) ∙ ap (mk left store.device) (sym out.stale)
        ∙ ap (λ state. mk state store.device store.stale) (sym without_merge)

    -- what the origin showed stands on its disk
    pub taken_out_disk : origin_shown (merged_of contents layers (rested_of old)) ≡ contents new.origin
    taken_out_disk =
        ap (λ o. array_of (contents old.origin) (big_in contents layers o)) out.was
        ∙ picture_none out.merge.state.chunk (contents old.origin) (contents out.merge.device) none_stored
        ∙ ap (λ (v : Volumed B). contents v.origin) (sym out.becomes)

-- why it is not
module _ {B : Type 0} (contents : B → List ℕ) (layers : B → List Layer) (v : Volumed B) (sectors : ℕ) (between : IsBetween sectors (moving_of contents layers None v)) (quiet : is_quiet_of v ≡ true) (refusal : Refusal) where
  unfinished_by : (m : Merging B) → v.merge ≡ Some m → (done : Bool) → is_finished_of m ≡ done → (if done then (if is_quiet_of v then None else Some NotQuiet) else Some NotFinished) ≡ Some refusal → IsUnfinished contents layers refusal (rested_of v)
  unfinished_by m begun true is e = absurd (let none : None ≡ Some refusal = sym (cond-true _ _ _ quiet) ∙ e in cc)
  unfinished_by m begun false is e =
      let same : refusal ≡ NotFinished = cc in
      let free : has_group_of m.group ≡ false = ap has_group_in (sym begun) ∙ quiet_free v quiet in
      let some : 0 < length m.pairs = some_left m.pairs (has_group_of m.group) free is in
      (same, inr (big_of contents layers m, ap (big_in contents layers) begun, subst (λ (ps : List Pair). 0 < length ps) (sym (pairs_are contents layers v sectors between m begun)) some))

  unfinished_in : (o : Option (Merging B)) → v.merge ≡ o → finish_with o (is_quiet_of v) ≡ Some refusal → IsUnfinished contents layers refusal (rested_of v)
  unfinished_in None alone e = (let same : refusal ≡ NotFinished = cc in (same, inl alone))
  unfinished_in (Some m) begun e = unfinished_by m begun (is_finished_of m) refl e

  pub unfinished_as : finish_refusal v ≡ Some refusal → IsUnfinished contents layers refusal (rested_of v)
  unfinished_as e = unfinished_in v.merge refl e

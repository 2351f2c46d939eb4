-- A quiet volume with a merge whose devices drop no writes: the merge is under way between two of its groups.
use Rattle.std.proofs.Common.{◌≡◌, ℕ, ◌+◌, ◌*◌, ◌≤◌, Bool, true, List, [], ◌∷◌, Option, Some, None, length, map, refl, sym, ◌∙◌, ap, subst, arith}
use Rattle.std.specs.Prelude.{◌&&◌}
use Rattle.std.specs.List.{All, list_all}
use Rattle.std.proofs.lemmas.List.Elements.{All-cons, All-head, All-tail}
use Rattle.chunk.specs.Sizes.{is_chunk}
use Rattle.device.specs.Layers.{Layer, is_loud}
use Rattle.cow_format.specs.Pairs.{pairs_of, AreWellFormed}
use Rattle.plain_machine.specs.declared.request.Reply.{Reply}
use Rattle.whole_commands.specs.MergeShown.{IsWell, IsUnderWay, IsMerging}
use Rattle.whole_commands.specs.Snaps.{Snap}
use Rattle.event_machine.specs.Held.{SnapHeld, MergeHeld}
use Rattle.event_machine.specs.MergeRest.{IsBetween, in_big_steps}
use Rattle.event_machine.specs.MergeSeen.{held_in, merge_held_of as held_merge}
use Rattle.event_machine.specs.Rest.{IsResting}
use Rattle.snapshot.specs.Kept.{Kept}
use Rattle.merge.specs.InStep.{IsInStep}
use Rattle.merge.specs.Merging.{Merging}
use Rattle.volume.specs.Asking.{IsMergeInStep}
use Rattle.volume.specs.Moved.{held_of, moving_of, merge_seen}
use Rattle.volume.specs.Volumed.{Volumed, is_loud_in_all, is_loud_with}
use Rattle.volume.specs.Whole.{IsAttached, IsWhole}
use Rattle.volume.proofs.AtRest.{merge_seen_of}
use Rattle.volume.proofs.MergeDue.{merged, merge_holds}
use Rattle.volume.proofs.Shown.{and_right}

-- a snapshot of which nothing is under way is well
well_of : (sectors : ℕ) (h : SnapHeld) → IsResting sectors h → IsWell sectors h.snap
well_of sectors h rests = λ live. (rests.live live).order

all_well : (sectors : ℕ) (hs : List SnapHeld) → All (IsResting sectors) hs → All (IsWell sectors) (map (λ (h : SnapHeld). h.snap) hs)
all_well sectors [] all = λ k d below. absurd (omega (arith, below))
all_well sectors (h ∷ hs) all =
    All-cons (IsWell sectors) h.snap (map (λ (x : SnapHeld). x.snap) hs) (well_of sectors h (All-head (IsResting sectors) h hs all)) (all_well sectors hs (All-tail (IsResting sectors) h hs all))

low_of : (current area filled pairs found : ℕ) → pairs ≡ current * area + filled → found ≡ pairs → current * area ≤ found
low_of current area filled pairs found count same = omega (arith, count, same)

high_of : (current area filled pairs found : ℕ) → pairs ≡ current * area + filled → filled ≤ area → found ≡ pairs → found ≤ current * area + area
high_of current area filled pairs found count fits same = omega (arith, count, fits, same)

module _ {B : Type 0} (contents : B → List ℕ) (layers : B → List Layer) (size : B → ℕ) where
  -- the chunks of the others have allowed sizes
  all_chunks : (copies sectors : ℕ) (ss : List (Kept B)) → All (IsAttached copies sectors) ss → All (λ (s : Snap). is_chunk s.chunk ≡ true) (map (λ (h : SnapHeld). h.snap) (map (held_of contents layers) ss))
  all_chunks copies sectors [] all = λ k d below. absurd (omega (arith, below))
  all_chunks copies sectors (s ∷ ss) all =
      All-cons (λ (x : Snap). is_chunk x.chunk ≡ true) (held_of contents layers s).snap (map (λ (h : SnapHeld). h.snap) (map (held_of contents layers) ss)) (All-head (IsAttached copies sectors) s ss all).allowed
      (all_chunks copies sectors ss (All-tail (IsAttached copies sectors) s ss all))

  module _ (v : Volumed B) (whole : IsWhole contents layers size v) (loud : is_loud_in_all layers v ≡ true) (replied : Option Reply) (between : IsBetween (size v.origin) (moving_of contents layers replied v)) where
    store_loud : (m : Merging B) → v.merge ≡ Some m → is_loud (layers m.device) ≡ true
    store_loud m is =
        let others : Bool = is_loud (layers v.origin) && list_all (λ (s : Kept B). is_loud (layers s.device)) v.snaps in
        and_right others (is_loud (layers m.device)) (ap (λ (x : Option (Merging B)). is_loud_with layers x others) (sym is) ∙ loud)

    one_under : (m : Merging B) → v.merge ≡ Some m → IsInStep contents layers size m → IsUnderWay (size v.origin) (held_merge (merge_seen_of contents layers m)).merge
    one_under m is step =
        let found : pairs_of m.state.chunk (contents m.device) ≡ m.pairs = step.pairs (store_loud m is) in
        let text = (merge_holds contents layers size v whole m is).text in
        record {
          some = text.some;
          size = m.state.size;
          whole = text.whole;
          pairs = subst (λ n. AreWellFormed m.state.chunk n m.state.size (pairs_of m.state.chunk (contents m.device))) (merged contents layers size v whole m is).origin
              (subst (AreWellFormed m.state.chunk m.state.origin m.state.size) (sym found) step.formed);
          low = low_of m.state.current (32 * m.state.chunk) m.state.filled (length m.pairs) (length (pairs_of m.state.chunk (contents m.device))) step.count (ap length found);
          high = high_of m.state.current (32 * m.state.chunk) m.state.filled (length m.pairs) (length (pairs_of m.state.chunk (contents m.device))) step.count step.fits (ap length found);
        }

    one_merging : (m : Merging B) → v.merge ≡ Some m → IsInStep contents layers size m → IsMerging (size v.origin) (in_big_steps (held_merge (merge_seen_of contents layers m)) (moving_of contents layers replied v))
    one_merging m is step = record {
      whole = whole.holds.whole;
      merge = one_under m is step;
      snaps = all_well (size v.origin) (map (held_of contents layers) v.snaps) between.snaps;
      chunks = all_chunks v.copies (size v.origin) v.snaps whole.snaps;
      allowed = (merged contents layers size v whole m is).allowed;
    }

    under_by : (merge : Option (Merging B)) → v.merge ≡ merge → IsMergeInStep contents layers size merge → (h : MergeHeld) → held_in (merge_seen contents layers merge) ≡ Some h → IsMerging (size v.origin) (in_big_steps h (moving_of contents layers replied v))
    under_by None is step h held = absurd (cc)
    under_by (Some m) is step h held =
        let same : held_merge (merge_seen_of contents layers m) ≡ h = cc in
        subst (λ (x : MergeHeld). IsMerging (size v.origin) (in_big_steps x (moving_of contents layers replied v))) same (one_merging m is step)

    pub under_way : IsMergeInStep contents layers size v.merge → (h : MergeHeld) → (moving_of contents layers replied v).merge ≡ Some h → IsMerging (size v.origin) (in_big_steps h (moving_of contents layers replied v))
    under_way step h held = under_by v.merge refl step h held

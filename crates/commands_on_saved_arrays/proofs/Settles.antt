-- A merge goes on: nobody sees it.
use Rattle.std.proofs.Common.{◌≡◌, inl, inr, ℕ, List, [], ◌∷◌, refl}
use Rattle.std.specs.Prelude.{Option, Some, None}
use Rattle.std.proofs.lemmas.Bool.{cases_Bool, cond-false}
use Rattle.whole_commands.specs.Snaps.{Snap, Volume as Settled}
use Rattle.whole_commands.specs.Shown.{ShowTheSame}
use Rattle.whole_commands.specs.Merges.{Merge, Merged, Merging, merge_all, merged}
use Rattle.whole_commands.specs.MergeShown.{IsMerging, IsUnseen, array_of}
use Rattle.whole_command_laws.proofs.MergeEnds.{merge_unseen}
use Rattle.command_semantics.specs.State.{Names, Merging as Begun, Volume, merge_in, with_merge}
use Rattle.command_semantics.specs.Events.{merge_done}
use Rattle.commands_on_saved_arrays.specs.Arrays.{Named, Arrays, named_by, arrays_of}
use Rattle.commands_on_saved_arrays.specs.Shown.{AreKept, IsGoneOn}
use Rattle.commands_on_saved_arrays.specs.Well.{IsWell}

pub kept_same : (snaps : List Named) → AreKept snaps snaps
kept_same [] = tt
kept_same (s ∷ snaps) = (refl, inl refl, kept_same snaps)

-- snapshots that show the same where they are live
pub kept_named : (before after : List ℕ) (names : List Names) (ss ts : List Snap) → ShowTheSame before after ss ts → AreKept (named_by before names ss) (named_by after names ts)
kept_named before after [] ss ts same = tt
kept_named before after (n ∷ names) [] [] same = tt
kept_named before after (n ∷ names) [] (t ∷ ts) same = absurd same
kept_named before after (n ∷ names) (s ∷ ss) [] same = absurd same
kept_named before after (n ∷ names) (s ∷ ss) (t ∷ ts) same = (
  refl,
  elim (cases_Bool t.live) [ inl live ↦ inl (same.0 live) | inr out ↦ inr (cond-false _ _ _ out) ],
  kept_named before after names ss ts same.1,
)

-- a volume of these names, with this merge and these devices
abbrev pub arrays_by : List ℕ → List Names → Option Merge → Settled → Arrays
arrays_by name names merge state = record { name = name; array = array_of state.origin.bytes merge; snaps = named_by state.origin.bytes names state.snaps }

module _ (sectors : ℕ) (name : List ℕ) (names : List Names) where
  gone_on : (g : Option Begun) (state : Settled) → ((merge : Merge) → merge_in g ≡ Some merge → (let m : Merging = record { volume = state; merge = merge } in IsMerging sectors m)) →
      (let m : Merged = record { volume = state; merge = merge_in g } in IsGoneOn (arrays_by name names (merge_in g) state) (arrays_by name names (merge_in (with_merge g (merged m).merge)) (merged m).volume))
  gone_on None state well = record { name = refl; array = refl; snaps = kept_same (named_by state.origin.bytes names state.snaps) }
  gone_on (Some g) state well =
      let m : Merging = record { volume = state; merge = g.merge } in
      let unseen : IsUnseen sectors m (merge_all m) = merge_unseen sectors m (well g.merge refl) in
      record { name = refl; array = unseen.origin; snaps = kept_named state.origin.bytes (merge_all m).volume.origin.bytes names state.snaps (merge_all m).volume.snaps unseen.snaps }

pub merge_goes_on : (volume : Volume) → IsWell volume → IsGoneOn (arrays_of volume) (arrays_of (merge_done volume))
merge_goes_on volume well = gone_on well.ordered.sectors volume.origin volume.snaps volume.merging volume.state (λ merge is. (well.ordered.merge merge is).1)

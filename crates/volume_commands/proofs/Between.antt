-- What holds between two commands holds again after a piece, and a settled volume is settled again.
use Rattle.std.proofs.Common.{◌≡◌, ℕ, true, List, Option, None, sym, ◌∙◌, ap, arith}
use Rattle.device.specs.Layers.{Layer}
use Rattle.plain_machine.specs.declared.request.Reply.{Reply}
use Rattle.event_machine.specs.Held.{Moving}
use Rattle.event_machine.specs.MergeRest.{merge_in}
use Rattle.event_machine.specs.Requests.{volume_of}
use Rattle.whole_commands.specs.Merges.{Merged}
use Rattle.volume.specs.Volumed.{Volumed, is_loud_in_all}
use Rattle.volume.specs.Moved.{moving_of}
use Rattle.volume.specs.Leaving.{is_quiet_of}
use Rattle.volume.specs.Submitting.{SameButRoom}
use Rattle.volume_commands.specs.Rested.{rested_of, settled_of, merged_of, IsSettled}
use Rattle.volume_commands.specs.Kept.{KeepsDevices}
use Rattle.volume_commands.specs.Between.{IsBetween}
use Rattle.volume_commands.proofs.Seen.{settled_same, loud_same, length_kept}
use Rattle.counted_volume.proofs.Refusing.{room_quiet}

module _ {B : Type 0} (contents : B → List ℕ) (layers : B → List Layer) where
  -- without the last reply it is the settled machine's volume, with its merge
  pub moving_merged : (replied : Option Reply) (v : Volumed B) → merged_of contents layers (rested_of v) ≡ record { volume = volume_of (moving_of contents layers replied v); merge = merge_in (moving_of contents layers replied v).merge }
  moving_merged replied v = ap (λ x. let m : Merged = record { volume = x; merge = merge_in (moving_of contents layers None v).merge } in m) (settled_same contents layers replied v)

  -- memory was refused
  pub starved_merged : (old new : Volumed B) → moving_of contents layers None new ≡ moving_of contents layers None old → merged_of contents layers (rested_of new) ≡ merged_of contents layers (rested_of old)
  starved_merged old new same =
      moving_merged None new ∙ ap (λ (x : Moving). let m : Merged = record { volume = volume_of x; merge = merge_in x.merge } in m) same ∙ sym (moving_merged None old)

  module _ (size : B → ℕ) where
    pub loud_in_all : (v : Volumed B) → IsSettled layers (rested_of v) → is_loud_in_all layers v ≡ true
    loud_in_all v settled = sym (loud_same contents layers v) ∙ settled.loud

    pub between_after : (old new : Volumed B) → IsBetween old → is_quiet_of new ≡ true → KeepsDevices layers size (rested_of old) (rested_of new) → IsBetween new
    between_after old new between quiet kept = record { quiet = quiet; few = (let few = between.few in let same = length_kept size layers old new kept in omega (arith, few, same)) }

    pub starved_between : (old new : Volumed B) → IsBetween old → SameButRoom old new → KeepsDevices layers size (rested_of old) (rested_of new) → IsBetween new
    starved_between old new between room kept = between_after old new between (room_quiet old new room ∙ between.quiet) kept

    -- a settled volume is settled again
    pub settles_again : (old new : Volumed B) → is_quiet_of new ≡ true → KeepsDevices layers size (rested_of old) (rested_of new) → IsSettled layers (rested_of old) → IsSettled layers (rested_of new)
    settles_again old new quiet kept settled = record { loud = kept.loud ∙ settled.loud; quiet = quiet }

    pub starved_settled : (old new : Volumed B) → moving_of contents layers None new ≡ moving_of contents layers None old → settled_of contents layers (rested_of new) ≡ settled_of contents layers (rested_of old)
    starved_settled old new same = settled_same contents layers None new ∙ ap volume_of same ∙ sym (settled_same contents layers None old)

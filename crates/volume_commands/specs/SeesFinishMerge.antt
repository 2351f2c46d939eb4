-- What callers of a volume by commands see of a call of `finish_merge`, beside what it does to the volume of events that it is
-- (`DoesFinishMerge`).
use Rattle.std.specs.Prelude.{◌≡◌, ℕ, true, false, List, IfErr, IfOk, OnErr, OnOk, Result, Some, None}
use Rattle.sector.specs.declared.refusal.Refusal.{Refusal}
use Rattle.device.specs.Layers.{Layer}
use Rattle.whole_commands.specs.Merges.{finished}
use Rattle.whole_commands.specs.MergeShown.{origin_shown}
use Rattle.whole_commands.specs.Refusals.{is_starved}
use Rattle.snapshot.specs.declared.opening.StoreDev.{StoreDev}
use Rattle.volume.specs.Attached.{store_of}
use Rattle.volume.specs.Leaving.{is_quiet_of}
use Rattle.volume_commands.specs.Merging.{IsTakenOutAs, IsUnfinished}
use Rattle.volume_commands.specs.Rested.{Rested, merged_of, IsSettled}
use Rattle.volume_commands.specs.Showing.{arrays_in}

-- The merge is taken out of a quiet volume, and its store given back: of a settled volume it is the settled machine's finish, no array
-- changes, and the origin disk's own bytes are what the origin shows. Or none is begun, or a pair is left, if the program has room; then
-- nothing changed. A settled volume stays settled.
pub record SeesFinishMerge {B : Type 0} (contents : B → List ℕ) (layers : B → List Layer) (result : Result (StoreDev B) Refusal) (old new : Rested B) : Type 0 where
  pub taken : IfOk result (λ store. IsTakenOutAs store old new)
  pub merged : IfOk result (λ store. IsSettled layers old → finished (merged_of contents layers old) ≡ record { state = merged_of contents layers new; back = Some (store_of contents layers store) })
  pub disk : IfOk result (λ store. IsSettled layers old → origin_shown (merged_of contents layers old) ≡ contents new.origin)
  pub shows : IfOk result (λ store. IsSettled layers old → (arrays_in contents layers new ≡ record (arrays_in contents layers old) { begun = None }) × ((arrays_in contents layers old).origin ≡ contents new.origin))
  pub settled : IsSettled layers old → IsSettled layers new
  pub quiet : OnOk result ((is_quiet_of old.events ≡ true) × (is_quiet_of new.events ≡ true))
  pub unfinished : IfErr result (λ refusal. is_starved refusal ≡ false → IsSettled layers old → IsUnfinished contents layers refusal old)
  pub same : OnErr result (new ≡ old)

-- What callers of a volume by commands see of a call of `begin_merge`, beside what it does to the volume of events that it is
-- (`DoesBeginMerge`).
use Rattle.std.specs.Prelude.{◌≡◌, ℕ, true, List, IfErr, OnOk, Result}
use Rattle.sector.specs.declared.refusal.Refusal.{Refusal}
use Rattle.device.specs.Layers.{Layer}
use Rattle.whole_commands.specs.Merges.{begun as begun_by}
use Rattle.volume.specs.Leaving.{is_quiet_of}
use Rattle.volume_commands.specs.Merging.{IsBegunAs, IsNotBegun}
use Rattle.volume_commands.specs.Rested.{Rested, merged_of, IsSettled}
use Rattle.volume_commands.specs.Showing.{arrays_in, IsRolledBack}

-- A merge of a snapshot begins in a quiet volume: the origin shows what the snapshot showed, and of a settled volume it is the settled
-- machine's begin. Or it does not, and why; then nothing that is seen changed. A settled volume stays settled.
pub record SeesBeginMerge {A B : Type 0} (contents : B → List ℕ) (layers : B → List Layer) (number : ℕ) (result : Result A Refusal) (old new : Rested B) : Type 0 where
  pub begun : OnOk result (IsBegunAs number old new)
  pub shows : OnOk result (IsRolledBack number (arrays_in contents layers old) (arrays_in contents layers new))
  pub merged : OnOk result (IsSettled layers old → begun_by number (merged_of contents layers old) ≡ merged_of contents layers new)
  pub settled : IsSettled layers old → IsSettled layers new
  pub quiet : OnOk result ((is_quiet_of old.events ≡ true) × (is_quiet_of new.events ≡ true))
  pub refused : IfErr result (λ refusal. IsNotBegun contents layers number refusal old new)

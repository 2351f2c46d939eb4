-- What a call of `begin_merge` does to a volume, as one record: a layer that passes it on says the same record of the volume below it.
use Rattle.std.specs.Prelude.{◌≡◌, true, ℕ, List, None, OnErr, OnOk, Option, Result}
use Rattle.sector.specs.declared.refusal.Refusal.{Refusal}
use Rattle.device.specs.Layers.{Layer}
use Rattle.plain_machine.specs.Legal.{IsBegun}
use Rattle.plain_machine.specs.declared.request.Reply.{Reply}
use Rattle.event_machine.specs.Merging.{begun as begun_by}
use Rattle.volume.specs.Beginning.{IsMergeBegun, begin_refusal}
use Rattle.volume.specs.Handing.{HandsOver}
use Rattle.volume.specs.Moved.{moving_of}
use Rattle.volume.specs.Stopping.{StopsAround}
use Rattle.volume.specs.Volumed.{Volumed, is_loud_in_all, plain_of}

-- A merge is begun that there was no reason to refuse: no device is touched, it is the event machine's own, and where no device
-- drops writes it is the one assignment origin := snapshot. A stop leaves of the volume what it might have left before, and no
-- value of the origin may be lost but those that might be of the snapshot. In one that is refused the event machine sees no change.
pub record DoesBeginMerge {A B : Type 0} (holds : B → ℕ → List ℕ → Type 0) (contents : B → List ℕ) (layers : B → List Layer) (size : B → ℕ) (number : ℕ) (result : Result A Refusal) (old new : Volumed B) : Type 0 where
  pub admitted : OnOk result (begin_refusal number old ≡ None)
  pub begun : OnOk result (IsMergeBegun number old new)
  pub legal : OnOk result (is_loud_in_all layers old ≡ true → IsBegun (plain_of contents layers old) number (plain_of contents layers new))
  pub exact : OnOk result ((replied : Option Reply) → begun_by number (moving_of contents layers replied old) ≡ moving_of contents layers replied new)
  pub loud : is_loud_in_all layers new ≡ is_loud_in_all layers old
  pub stops : OnOk result (StopsAround holds layers size old new)
  pub hands : OnOk result (HandsOver holds size number old new)
  pub starved : OnErr result ((replied : Option Reply) → moving_of contents layers replied new ≡ moving_of contents layers replied old)

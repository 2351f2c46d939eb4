-- What callers of a volume by commands see of a call of `attach`, beside what it does to the volume of events that it is (`DoesAttach`).
use Rattle.std.specs.Prelude.{◌≡◌, ◌≢◌, ◌+◌, ℕ, Bool, true, false, List, IfErr, IfOk, None, OnOk, Result}
use Rattle.sector.specs.declared.refusal.Refusal.{Refusal}
use Rattle.sector.specs.declared.refusal.Refusal.TheVariants.{MergeInProgress}
use Rattle.device.specs.Layers.{Layer, is_loud}
use Rattle.plain_machine.specs.Plain.{overflow_of}
use Rattle.whole_commands.specs.Attaching.{attached as attached_by, refused_attach}
use Rattle.whole_commands.specs.Refusals.{is_starved}
use Rattle.snapshot.specs.declared.opening.StoreDev.{StoreDev}
use Rattle.volume.specs.Attached.{store_of}
use Rattle.volume.specs.Leaving.{is_quiet_of}
use Rattle.volume_commands.specs.Rested.{Rested, settled_of, IsSettled}
use Rattle.volume_commands.specs.Taking.{IsRefusedAt, IsTakenAs}

-- A snapshot is taken of a quiet volume with no merge: over a settled volume, and a store that drops no writes, it is the settled
-- machine's attach, and leaves a settled volume. Or the store is given back, by that machine too where the program has room and no merge
-- is begun, and nothing else changed but for a flush of the origin.
pub record SeesAttach {B : Type 0} (contents : B → List ℕ) (layers : B → List Layer) (size : B → ℕ) (store : StoreDev B) (chunk : ℕ) (overflow : Bool) (result : Result ℕ (Refusal × StoreDev B)) (old new : Rested B) : Type 0 where
  pub alone : OnOk result ((old.events.merge ≡ None) × (new.events.merge ≡ None))
  pub quiet : OnOk result ((is_quiet_of old.events ≡ true) × (is_quiet_of new.events ≡ true))
  pub taken : IfOk result (λ number. IsTakenAs contents layers size number overflow store old new)
  pub settled : IfOk result (λ _. IsSettled layers old → is_loud (layers store.device) ≡ true → IsSettled layers new)
  pub exact : IfOk result (λ number. IsSettled layers old → is_loud (layers store.device) ≡ true → attached_by number chunk (overflow_of overflow) (store_of contents layers store) (settled_of contents layers old) ≡ record { volume = settled_of contents layers new; refused = None; back = None })
  pub back : IfErr result (λ e. is_starved e.0 ≡ false → e.0 ≢ MergeInProgress → IsSettled layers old → is_loud (layers store.device) ≡ true → attached_by (old.attached + 1) chunk (overflow_of overflow) (store_of contents layers store) (settled_of contents layers old) ≡ refused_attach e.0 (store_of contents layers e.1) (settled_of contents layers new))
  pub same : IfErr result (λ e. IsRefusedAt contents layers size e.0 old new)

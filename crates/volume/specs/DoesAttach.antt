-- What a call of `attach` does to a volume, as one record: a layer that passes it on says the same record of the volume below it.
use Rattle.std.specs.Prelude.{◌≡◌, ◌&&◌, ◌+◌, ℕ, Bool, true, false, List, length, slice_index_or, IfErr, IfOk, MatchResult, None, OnOk, Result, Some}
use Rattle.sector.specs.declared.refusal.Refusal.{Refusal}
use Rattle.sector.specs.Bytes.{sector_at}
use Rattle.cow_header.specs.HeaderText.{found_in}
use Rattle.device.specs.Layers.{Layer, is_loud}
use Rattle.plain_machine.specs.Legal.{IsTaken}
use Rattle.plain_machine.specs.Plain.{overflow_of}
use Rattle.whole_commands.specs.Attaching.{attached as attached_by, refused_attach}
use Rattle.whole_commands.specs.Refusals.{is_starved}
use Rattle.crash_laws.specs.Firm.{IsFirm}
use Rattle.store.specs.Reading.{AreRead}
use Rattle.snapshot.specs.Kept.{Kept}
use Rattle.snapshot.specs.Opening.{shown_array}
use Rattle.snapshot.specs.StopsOpening.{Leaves, MayOpen}
use Rattle.snapshot.specs.declared.opening.StoreDev.{StoreDev}
use Rattle.volume.specs.Attached.{IsAttachedAs, IsCountedFor, IsGained, IsRefusedOver, store_of, volume_in}
use Rattle.volume.specs.Layering.{Measures}
use Rattle.volume.specs.Leaving.{is_quiet_of}
use Rattle.volume.specs.Stopping.{StopsAround}
use Rattle.volume.specs.Taking.{attach_refusal}
use Rattle.volume.specs.Volumed.{Volumed, is_loud_in_all, plain_of}

-- A snapshot is taken that there was no reason to refuse: where no device drops writes, it is a legal step of the plain machine, with
-- the array that the store shows over the origin's, and the settled machine's own. Or the store is given back, read in part where
-- memory was refused, and the volume is as it was but for a flush of its origin. What a stop may leave of the store might be left
-- before, or is loaded again; of the origin's disk it leaves nothing more; and behind an attach that is done nothing but what is there.
pub record DoesAttach {B : Type 0} (holds : B → ℕ → List ℕ → Type 0) (m : Measures B) (layers : B → List Layer) (store : StoreDev B) (chunk : ℕ) (overflow : Bool) (result : Result ℕ (Refusal × StoreDev B)) (old new : Volumed B) : Type 0 where
  pub number : IfOk result (λ number. number ≡ old.attached + 1)
  pub admitted : IfOk result (λ _. attach_refusal store.stale chunk old ≡ None)
  pub taken : IfOk result (λ number. is_loud_in_all layers old ≡ true → is_loud (layers store.device) ≡ true → IsTaken (plain_of m.contents layers old) number (shown_array (m.contents old.origin) (m.contents store.device)) (overflow_of overflow) (plain_of m.contents layers new))
  pub unread : IfErr result (λ e. attach_refusal store.stale chunk old ≡ Some e.0 → e.1 ≡ store)
  pub gained : IfOk result (λ number. IsGained m.contents layers m.size number overflow store old new)
  pub exact : IfOk result (λ number. is_loud_in_all layers old ≡ true → is_loud (layers store.device) ≡ true → IsAttachedAs m.contents layers number chunk overflow store old new)
  pub back : IfErr result (λ e. is_starved e.0 ≡ false → old.merge ≡ None → is_quiet_of old ≡ true → is_loud_in_all layers old ≡ true → is_loud (layers store.device) ≡ true → attached_by (old.attached + 1) chunk (overflow_of overflow) (store_of m.contents layers store) (volume_in m.contents layers old) ≡ refused_attach e.0 (store_of m.contents layers e.1) (volume_in m.contents layers new))
  pub starved : IfErr result (λ e. is_starved e.0 ≡ true → (m.contents e.1.device ≡ m.contents store.device) × AreRead (layers store.device) (layers e.1.device))
  pub size : IfErr result (λ e. m.size e.1.device ≡ m.size store.device)
  pub loud : MatchResult result (λ _. is_loud_in_all layers new ≡ (is_loud_in_all layers old && is_loud (layers store.device))) (λ e. is_loud (layers e.1.device) ≡ is_loud (layers store.device))
  pub stops : OnOk result (StopsAround holds layers m.size old new)
  pub leaves : IfOk result (λ _. is_loud (layers store.device) ≡ true → (s : Kept B) → s ≡ slice_index_or new.snaps (length old.snaps) s → Leaves (holds store.device) (holds s.device) (m.size store.device) (MayOpen chunk (m.size old.origin) (m.size store.device) (m.contents store.device) (found_in (sector_at (m.contents store.device) 0))))
  pub leaves_back : IfErr result (λ e. is_loud (layers store.device) ≡ true → Leaves (holds store.device) (holds e.1.device) (m.size store.device) (MayOpen chunk (m.size old.origin) (m.size store.device) (m.contents store.device) (found_in (sector_at (m.contents store.device) 0))))
  pub origin_kept : (s : ℕ) (v : List ℕ) → holds new.origin s v → holds old.origin s v
  pub origin_firm : OnOk result (is_loud (layers old.origin) ≡ true → IsFirm (holds new.origin) (m.contents new.origin) (m.size new.origin))
  pub firm : IfOk result (λ _. is_loud (layers store.device) ≡ true → (s : Kept B) → s ≡ slice_index_or new.snaps (length old.snaps) s → IsFirm (holds s.device) (m.contents s.device) (m.size s.device))
  pub same : IfErr result (λ e. IsRefusedOver m.contents layers m.size e.0 old new)
  pub stale : IfErr result (λ e. e.1.stale ≡ store.stale)
  pub faults : IfErr result (λ e. IsCountedFor e.0 (m.faults store.device, m.faults e.1.device) (m.faults old.origin, m.faults new.origin))

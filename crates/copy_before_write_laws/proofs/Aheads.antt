-- What devices do ahead is not seen: an event that comes after it saves first.
use Rattle.std.proofs.Common.{◌≡◌, ℕ, ◌*◌, ◌<◌, true, false, List, length, map, get_or, Some, arith, ap, ◌∙◌, sym, subst}
use Rattle.std.proofs.lemmas.List.{get_or_default}
use Rattle.sector.specs.Bytes.{sector_at}
use Rattle.device.specs.Layers.{Layer}
use Rattle.crash_laws.specs.Stop.{IsTorn}
use Rattle.plain_machine.specs.declared.event.Event.{Event}
use Rattle.in_flight.specs.Kinds.{in_flight}
use Rattle.snapshot.specs.Kept.{Kept}
use Rattle.volume.specs.DoesAhead.{DoesAhead, IsSnapAhead}
use Rattle.volume.specs.Volumed.{Volumed, is_loud_in_all}
use Rattle.volume.specs.Stopping.{given_by}
use Rattle.read_beside_writer.specs.Moments.{Files, IsLive, IsSavedFirst}
use Rattle.copy_before_write_laws.specs.Saves.{IsBetween, IsNotWritten, SavesFirst, files_of}
use Rattle.copy_before_write_laws.proofs.Events.{IsLoudAll, loud_all}

module _ {B : Type 0} (holds : B → ℕ → List ℕ → Type 0) (contents : B → List ℕ) (layers : B → List Layer) (size faults done : B → ℕ) (whole : (d : B) → length (contents d) ≡ 512 * size d) (here : (d : B) (s : ℕ) → s < size d → holds d s (sector_at (contents d) s)) (event : Event) (old between new : Volumed B)
    (ahead : DoesAhead holds contents layers size faults done old between) (loud_is : is_loud_in_all layers new ≡ is_loud_in_all layers between) (saves : SavesFirst contents layers size event between new) where
  flights_are : between.flights ≡ old.flights
  flights_are = ap (λ (x : Volumed B). x.flights) ahead.devices.becomes

  module _ (k : ℕ) (s t : Kept B) (within : k < length old.snaps) (is : s ≡ get_or old.snaps k s) (at : t ≡ get_or new.snaps k t) (loud : is_loud_in_all layers new ≡ true) where
    all : IsLoudAll holds contents layers size whole here between
    all = loud_all holds contents layers size whole here between (sym loud_is ∙ loud)

    abbrev u : Kept B
    u = get_or between.snaps k s

    low : k < length between.snaps
    low = omega (arith, within, ahead.devices.count)

    stands : u ≡ get_or between.snaps k u
    stands = get_or_default between.snaps k s u low

    one : IsSnapAhead holds contents layers size faults done s u
    one = subst (λ x. IsSnapAhead holds contents layers size faults done x u) (sym is) (ahead.devices.snaps k s within)

    same_files : files_of contents between u ≡ files_of contents old s
    same_files =
        let origin : contents between.origin ≡ contents old.origin = ahead.devices.origin.same all.origin in
        let store : contents u.device ≡ contents s.device = one.store.same (all.snaps k s low) in
        cc

    same_number : u.number ≡ s.number
    same_number = ap (λ (x : Kept B). x.number) one.same

    same_chunk : u.state.chunk ≡ s.state.chunk
    same_chunk = ap (λ (x : Kept B). x.state.chunk) one.same

    not_written : IsNotWritten event old s → IsNotWritten event between u
    not_written none live g given named = none (sym (ap (λ (x : Kept B). x.live) one.same) ∙ live) g (ap (λ fs. given_by event (map in_flight fs)) (sym flights_are) ∙ given) (named ∙ ap Some same_number)

    moment : (a b : Files) → IsBetween (size old.origin) (size s.device) a (files_of contents new t) b → IsBetween (size between.origin) (size u.device) a (files_of contents new t) b
    moment a b x = record {
      origin = subst (λ n. IsTorn n a.origin (contents new.origin) b.origin) (sym ahead.devices.origin.sized) x.origin;
      store = subst (λ n. IsTorn n a.store (contents t.device) b.store) (sym one.store.sized) x.store;
    }

    saved : s.stale ≡ false → IsNotWritten event old s → (mid later : Files) → IsBetween (size old.origin) (size s.device) (files_of contents old s) (files_of contents new t) mid → IsBetween (size old.origin) (size s.device) mid (files_of contents new t) later
        → IsLive s.state.chunk later → IsLive s.state.chunk mid × IsSavedFirst s.state.chunk mid later
    saved fresh none mid later first rest live =
        subst (λ c. IsLive c mid × IsSavedFirst c mid later) same_chunk
        (saves.each k u t low stands at loud (ap (λ (x : Kept B). x.stale) one.same ∙ fresh) (not_written none) mid later
        (subst (λ a. IsBetween (size between.origin) (size u.device) a (files_of contents new t) mid) (sym same_files) (moment (files_of contents old s) mid first))
        (moment mid later rest) (subst (λ c. IsLive c later) (sym same_chunk) live))

  -- with what was done ahead
  pub ahead_saves : SavesFirst contents layers size event old new
  ahead_saves = record { each = saved' } where
    saved' : (k : ℕ) (s t : Kept B) → k < length old.snaps → s ≡ get_or old.snaps k s → t ≡ get_or new.snaps k t → is_loud_in_all layers new ≡ true → s.stale ≡ false → IsNotWritten event old s
        → (mid later : Files) → IsBetween (size old.origin) (size s.device) (files_of contents old s) (files_of contents new t) mid → IsBetween (size old.origin) (size s.device) mid (files_of contents new t) later
        → IsLive s.state.chunk later → IsLive s.state.chunk mid × IsSavedFirst s.state.chunk mid later
    saved' k s t within is at loud fresh none mid later first rest live = saved k s t within is at loud fresh none mid later first rest live

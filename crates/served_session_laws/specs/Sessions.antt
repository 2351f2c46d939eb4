-- To be believed: what `serve_commands` says of a stop at any moment of a session is said in these words.
-- A volume over files is served call by call. What a flush makes last is noted, as `volume_lifetime` notes it; and whatever a stop leaves
-- of all files together, at any moment, shows it. holds: what a file may hold in a sector after a stop. This project's own.
use Rattle.std.specs.Prelude.{◌≡◌, ◌⊎◌, ◌++◌, ℕ, Bool, true, false, List, [], ◌∷◌, map, Option, None, Some, Result, Ok}
use Rattle.std.specs.List.{All}
use Rattle.device.specs.Layers.{Layer, is_loud}
use Rattle.crash_laws.specs.Again.{IsRefusedAgain}
use Rattle.crash_laws.specs.Firm.{IsFirm}
use Rattle.crash_laws.specs.Stop.{MayLeave}
use Rattle.plain_machine.specs.Plain.{Plain}
use Rattle.snapshot.specs.Kept.{Kept}
use Rattle.merge.specs.Merging.{Merging}
use Rattle.volume.specs.Causes.{IsAt}
use Rattle.volume.specs.Layering.{Measures}
use Rattle.volume.specs.Volumed.{Volumed, is_loud_in_all, plain_of}
use Rattle.volume_lifetime.specs.declared.deed.Deed.TheVariants.{Submit as Submits, Step as Steps}
use Rattle.volume_lifetime.specs.declared.deed.Done.TheVariants.{Submitted, Stepped}
use Rattle.volume_lifetime.specs.Flushed.{Flushed, History, LosesNothing, noted, with_bytes}
use Rattle.nbd_backend.specs.Calls.{Call, Choose, Submit, Step}
use Rattle.nbd_backend.specs.declared.array.Stepped.{Stepped as Told}
use Rattle.volume_nbd.specs.Calls.{does_by}
use Rattle.volume_nbd.specs.Served.{Served}
use Rattle.volume_nbd.specs.Steps.{DoesEvent, is_back}
use Rattle.volume_nbd.specs.Submits.{IsHandedOn}
use Rattle.served_session_laws.specs.Carrying.{Carries}
use Rattle.served_session_laws.specs.Keeping.{KeepsNow}

-- A step that does an event: just this event is noted with its outcome. A stop may come within it. Reads and syncs ahead of the event
-- leave no more that a stop may show than there was before; then comes the one write, or sync, of the event. Nothing is lost while the
-- files kept all that they answered, and whatever is left is what the next session shows.
pub record DoesNoted {B : Type 0} (holds : B → ℕ → List ℕ → Type 0) (m : Measures B) (layers : B → List Layer) (failed unanswered : B → Bool) (told : Told) (before : History) (old new : Served B) (after : History) : Type 0 where
  pub does : DoesEvent holds m.contents layers m.size m.faults m.done failed unanswered old.chosen told old.volume new.volume
  pub loses : is_loud_in_all layers new.volume ≡ true → LosesNothing holds m.size before.made does.between new.volume
  pub carries : is_loud_in_all layers new.volume ≡ true → Carries holds m.size holds m layers failed before.made does.between new.volume
  pub noted_as : after ≡ noted {B = B} (Steps does.event) (Stepped (Ok does.outcome)) (plain_of m.contents layers new.volume) before

-- What is noted of a call: a piece that is taken in is just the request that was handed on, and a step its event, or none. Only a step asks
-- files for anything.
abbrev pub Notes : {B : Type 0} → (B → ℕ → List ℕ → Type 0) → Measures B → (B → List Layer) → (B → Bool) → (B → Bool) → Call → History → Served B → Served B → History → Type 0
Notes {B} holds m layers failed unanswered (Choose place told) before old new after = after ≡ before
Notes {B} holds m layers failed unanswered (Submit work part told) before old new after =
    ((h : IsHandedOn holds m.contents layers m.size old.chosen work part told old.volume new.volume) × (after ≡ noted {B = B} (Submits h.request) (Submitted h.answer) (plain_of m.contents layers new.volume) before))
    ⊎ ((new.volume ≡ old.volume) × (after ≡ before))
Notes {B} holds m layers failed unanswered (Step told) before old new after =
    DoesNoted holds m layers failed unanswered told before old new after ⊎ ((new.volume ≡ old.volume) × (is_back told ≡ false) × (after ≡ before))

-- Nor is anything by a stop before it, or behind all calls.
abbrev pub LosesNow : {B : Type 0} → (B → ℕ → List ℕ → Type 0) → Measures B → (B → List Layer) → History → Served B → Type 0
LosesNow holds m layers h v = is_loud_in_all layers v.volume ≡ true → LosesNothing holds m.size h.made v.volume v.volume

-- And whatever it leaves is what the next session shows.
abbrev pub CarriesNow : {B : Type 0} → (B → ℕ → List ℕ → Type 0) → Measures B → (B → List Layer) → (B → Bool) → History → Served B → Type 0
CarriesNow holds m layers failed h v = is_loud_in_all layers v.volume ≡ true → Carries holds m.size holds m layers failed h.made v.volume v.volume

-- A lost snapshot whose mark was written is refused by the next load, whatever a stop leaves.
abbrev pub RefusesLost : {B : Type 0} → (B → ℕ → List ℕ → Type 0) → Measures B → (B → List Layer) → Served B → Type 0
RefusesLost holds m layers v =
    is_loud_in_all layers v.volume ≡ true → (place : ℕ) (s : Kept _) → IsAt place s v.volume → s.live ≡ false → s.untried ≡ false → s.stale ≡ false
    → (c : List ℕ) → MayLeave (holds s.device) (m.size s.device) c → IsRefusedAgain c

-- Calls one after another, the last of which stands first: from what is known to last before all of them to what is known behind them.
-- Behind each call nothing is lost, the next session shows it, what the calls so far wrote nothing of is kept, and what is lost is refused.
abbrev pub LosesThrough : {B : Type 0} → (B → ℕ → List ℕ → Type 0) → Measures B → (B → List Layer) → (B → Bool) → (B → Bool) → History → Served B → List Call → Served B → History → Type 0
LosesThrough holds m layers failed unanswered first start [] new after = (new ≡ start) × (after ≡ first) × LosesNow holds m layers after new × CarriesNow holds m layers failed after new × KeepsNow holds m layers failed start [] new × RefusesLost holds m layers new
LosesThrough {B} holds m layers failed unanswered first start (call ∷ calls) new after =
    (old : Served B) × (before : History) × LosesThrough holds m layers failed unanswered first start calls old before × does_by holds m.contents layers m.size m.faults m.done failed unanswered call old new
    × Notes holds m layers failed unanswered call before old new after × LosesNow holds m layers after new × CarriesNow holds m layers failed after new × KeepsNow holds m layers failed start (call ∷ calls) new
    × RefusesLost holds m layers new

-- A volume as it is opened: of each file that kept all that it answered, a stop leaves nothing but what is there.
pub record AreFirm {B : Type 0} (holds : B → ℕ → List ℕ → Type 0) (m : Measures B) (layers : B → List Layer) (v : Volumed B) : Type 0 where
  pub origin : is_loud (layers v.origin) ≡ true → IsFirm (holds v.origin) (m.contents v.origin) (m.size v.origin)
  pub stores : All (λ (s : Kept B). is_loud (layers s.device) ≡ true → IsFirm (holds s.device) (m.contents s.device) (m.size s.device)) v.snaps
  pub merging : (g : Merging B) → v.merge ≡ Some g → is_loud (layers g.device) ≡ true → IsFirm (holds g.device) (m.contents g.device) (m.size g.device)

-- What is known to last then: each array as it is shown, and what is carried over from the sessions before.
abbrev pub as_shown : Plain → Option ℕ → Flushed
as_shown p array = with_bytes p (record { array = array; bytes = []; since = [] })

abbrev pub opened : List Flushed → Plain → History
opened carried p = record { made = (as_shown p None ∷ map (λ e. as_shown p (Some e.number)) p.saved) ++ carried; asked = [] }

-- Nothing is known to last of a volume without a snapshot: its origin was not flushed as it was opened.
abbrev pub known_with : {B : Type 0} → List (Kept B) → Option (Merging B) → History → History
known_with [] None h = record { made = []; asked = [] }
known_with [] (Some merge) h = h
known_with (s ∷ snaps) merge h = h

abbrev pub known_first : {B : Type 0} → Measures B → (B → List Layer) → List Flushed → Volumed B → History
known_first m layers carried v = known_with v.snaps v.merge (opened carried (plain_of m.contents layers v))

-- A volume that is opened: no request is in flight, and of one with a snapshot a stop leaves nothing but what is there.
pub record IsOpened {B : Type 0} (holds : B → ℕ → List ℕ → Type 0) (m : Measures B) (layers : B → List Layer) (v : Volumed B) : Type 0 where
  pub idle : v.flights ≡ []
  pub firm : ((v.snaps ≡ []) × (v.merge ≡ None)) ⊎ AreFirm holds m layers v

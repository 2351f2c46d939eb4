-- A load's answer by cases.
use Rattle.std.specs.Prelude.{◌≡◌, [], MatchResult, Result}
use Rattle.sector.specs.declared.refusal.Refusal.{Refusal}
use Rattle.device.specs.Layers.{is_loud}
use Rattle.device.specs.declared.block.Block as Block
use Rattle.crash_laws.specs.Firm.{AddsNow}
use Rattle.store.specs.Held.{pending, reserved}
use Rattle.store.specs.Opening.{faults_after}
use Rattle.store.specs.declared.store.Store.{Store}
use Rattle.store.specs.declared.opening.Loaded.{Loaded}
use Rattle.store.specs.declared.opening.Loaded.TheVariants.{Fresh, Written}

-- one fact of a store that was fresh, and another of one that was written
abbrev pub MatchLoaded : Loaded → Type 0 → Type 0 → Type 0
MatchLoaded Fresh fresh written = fresh
MatchLoaded Written fresh written = written

-- a store that was opened has no copies under way, and no room for any to start
abbrev pub HasNoCopies : {B : Type 0} {b : Block.Ghosts B} → Store B b → Type 0
HasNoCopies store = pending store.exceptions ≡ []

abbrev pub HasNoRoom : {B : Type 0} {b : Block.Ghosts B} → Store B b → Type 0
HasNoRoom store = reserved store.exceptions ≡ 0

-- this of the device is as it was, in the store that was opened or beside the refusal
abbrev pub EitherKeeps : {B C : Type 0} {b : Block.Ghosts B} → (B → C) → B → Result (Store B b) (Refusal × B) → Type 0
EitherKeeps of device result = MatchResult result (λ store. of store.device ≡ of device) (λ refused. of refused.1 ≡ of device)

-- either way its layers do all that they answer where they did so before, it may hold nothing but what it might before or what is
-- there now, and a fault is counted only where that is why the load is refused
abbrev pub EitherAsLoud : {B : Type 0} {b : Block.Ghosts B} → B → Result (Store B b) (Refusal × B) → Type 0
EitherAsLoud {B} {b} device result = MatchResult result (λ store. is_loud (b.layers store.device) ≡ is_loud (b.layers device)) (λ refused. is_loud (b.layers refused.1) ≡ is_loud (b.layers device))

abbrev pub EitherAddsNow : {B : Type 0} {b : Block.Ghosts B} → B → Result (Store B b) (Refusal × B) → Type 0
EitherAddsNow {B} {b} device result = MatchResult result (λ store. AddsNow (b.may_hold device) (b.may_hold store.device) (b.contents store.device)) (λ refused. AddsNow (b.may_hold device) (b.may_hold refused.1) (b.contents refused.1))

abbrev pub EitherCounts : {B : Type 0} {b : Block.Ghosts B} → B → Result (Store B b) (Refusal × B) → Type 0
EitherCounts {B} {b} device result = MatchResult result (λ store. b.fault_count store.device ≡ b.fault_count device) (λ refused. b.fault_count refused.1 ≡ faults_after refused.0 (b.fault_count device))

-- What operations leave of a device, in phrases. This project's own.
use Rattle.std.specs.Prelude.{◌≡◌, IsTrue, List}
use Rattle.device.specs.Layers.{Layer, is_loud}
use Rattle.device.specs.declared.block.Block as Block
use Rattle.crash_laws.specs.Firm.{AddsNow}

-- this of a device is as it was
abbrev pub Keeps : {B C : Type 0} → (B → C) → B → B → Type 0
Keeps of old new = of new ≡ of old

-- its layers do all that they answer where they did so before, and only there
abbrev pub IsAsLoud : {B : Type 0} → (B → List Layer) → B → B → Type 0
IsAsLoud layers old new = is_loud (layers new) ≡ is_loud (layers old)

-- it may hold what it might before, or what is there now
abbrev pub AddsOnlyNow : {B : Type 0} → Block.Ghosts B → B → B → Type 0
AddsOnlyNow b old new = AddsNow (b.may_hold old) (b.may_hold new) (b.contents new)

-- so it is where its layers did all that they answer
abbrev pub AddsNowIfLoud : {B : Type 0} → Block.Ghosts B → B → B → Type 0
AddsNowIfLoud b old new = IsTrue (is_loud (b.layers old)) → AddsNow (b.may_hold old) (b.may_hold new) (b.contents new)

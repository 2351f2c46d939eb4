-- That a mark which an event will try has not failed, as what is told ahead of it needs it. This project's own.
use Rattle.std.specs.Prelude.{◌≡◌, ℕ, true, false}
use Rattle.plain_machine.specs.declared.event.Event.{Event}
use Rattle.plain_machine.specs.declared.event.Event.TheVariants.{WriteInvalid, FlushStore}
use Rattle.snapshot.specs.Kept.{Kept}
use Rattle.volume.specs.Causes.{IsAt}
use Rattle.volume.specs.Volumed.{Volumed}

-- the store of the snapshot of a number is not stale while its mark is untried
abbrev pub IsFresh : {B : Type 0} → ℕ → Volumed B → Type 0
IsFresh {B} n v = (k : ℕ) (s : Kept B) → IsAt k s v → s.number ≡ n → s.untried ≡ true → s.stale ≡ false

-- and that of the one that an event marks, or flushes
abbrev pub FreshFor : {B : Type 0} → Event → Volumed B → Type 0
FreshFor (WriteInvalid n) v = IsFresh n v
FreshFor (FlushStore n) v = IsFresh n v
FreshFor event v = Unit {0}

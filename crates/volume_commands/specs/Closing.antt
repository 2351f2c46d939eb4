-- That an array is closed, on disks with caches. This project's own.
use Rattle.std.specs.Prelude.{◌≡◌, ℕ, List, Option}
use Rattle.volume.specs.AddedUp.{IsOpenIn}
use Rattle.volume.specs.Volumed.{Volumed}

-- In no sector of the array may a stop leave two values: the origin's (None), over the merging store where a merge is begun, or that of
-- the live snapshots of a number. What is there it may leave, so it leaves that.
abbrev pub IsClosed : {B : Type 0} → (B → ℕ → List ℕ → Type 0) → (B → ℕ) → Volumed B → Option ℕ → Type 0
IsClosed holds size v array = (s : ℕ) (x y : List ℕ) → IsOpenIn holds size v array s x → IsOpenIn holds size v array s y → x ≡ y

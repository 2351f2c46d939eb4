-- What a call may leave where the machine stops before, after or within it, over the devices of a volume. holds: what a
-- device may hold in a sector after a stop; without caches that is what is there (`HoldsNow`). This project's own.
use Rattle.std.specs.Prelude.{◌≡◌, ◌⊎◌, ℕ, ◌+◌, ◌-◌, ◌≤◌, ◌<◌, Bool, true, false, List, Option, Some, None}
use Rattle.sector.specs.Bytes.{sector_at}
use Rattle.sector.specs.declared.pair.Pair.{Pair}
use Rattle.cow_format.specs.Picture.{picture}
use Rattle.crash_laws.specs.Stop.{MayLeave, Within}
use Rattle.crash_laws.specs.Again.{LoadsAgain, IsRefusedAgain, IsOpen}

-- a snapshot, as far as stops speak of it
pub record Held (B : Type 0) : Type 0 where
  pub number : ℕ
  pub live : Bool
  pub untried : Bool
  pub stale : Bool
  pub device : B
  pub chunk : ℕ
  pub pairs : List Pair

-- the write that an Issue does: the array (none: the origin's), the first sector, how many, and the bytes
pub record Given : Type 0 where
  pub array : Option ℕ
  pub first : ℕ
  pub count : ℕ
  pub bytes : List ℕ

-- a value that it gives to a sector of an array
abbrev pub Gives : Option Given → Option ℕ → ℕ → List ℕ → Type 0
Gives None array s v = ⊥
Gives (Some g) array s v = (g.array ≡ array) × (g.first ≤ s) × (s < g.first + g.count) × (v ≡ sector_at g.bytes (s - g.first))

-- no value of the array over an origin disk and a store but those that were open before, and those that the call gives
abbrev pub OpensNone : {B : Type 0} → (B → ℕ → List ℕ → Type 0) → (B → ℕ) → Option Given → Option ℕ → ℕ → B → B → List ℕ → List ℕ → Type 0
OpensNone holds size given array chunk origin store o c =
    (s : ℕ) → s < size origin → IsOpen chunk (holds origin) (holds store) (size origin) (size store) s (sector_at (picture chunk o c) s) ⊎ Gives given array s (sector_at (picture chunk o c) s)

-- A live snapshot's store is loaded again, and so is a spoiled one's whose mark is untried, unless it
-- is refused as invalid; the array is as it was, up to the call's own write. A store whose mark was tried is refused.
abbrev pub StopsSnap : {B : Type 0} → (B → ℕ → List ℕ → Type 0) → (B → ℕ) → Option Given → B → B → Held B → Held B → Type 0
StopsSnap holds size given origin origin' s t =
    (o c : List ℕ) → MayLeave (Within (holds origin) (holds origin')) (size origin) o → MayLeave (Within (holds s.device) (holds t.device)) (size s.device) c →
    (s.live ≡ true → LoadsAgain s.chunk (size origin) (size s.device) c × OpensNone holds size given (Some s.number) s.chunk origin s.device o c)
    × (s.untried ≡ true → IsRefusedAgain c ⊎ (LoadsAgain s.chunk (size origin) (size s.device) c × OpensNone holds size given (Some s.number) s.chunk origin s.device o c))
    × (s.live ≡ false → s.untried ≡ false → s.stale ≡ false → IsRefusedAgain c)

-- Where a merge is begun, its store is loaded again with the origin's array.
abbrev pub StopsMerge : {B : Type 0} → (B → ℕ → List ℕ → Type 0) → (B → ℕ) → Option Given → ℕ → B → B → B → B → Type 0
StopsMerge holds size given chunk origin origin' store store' =
    (o c : List ℕ) → MayLeave (Within (holds origin) (holds origin')) (size origin) o → MayLeave (Within (holds store) (holds store')) (size store) c →
    LoadsAgain chunk (size origin) (size store) c × OpensNone holds size given None chunk origin store o c

-- and where none is: the origin disk itself
abbrev pub StopsDisk : {B : Type 0} → (B → ℕ → List ℕ → Type 0) → (B → ℕ) → Option Given → B → B → Type 0
StopsDisk holds size given origin origin' =
    (o : List ℕ) → MayLeave (Within (holds origin) (holds origin')) (size origin) o → (s : ℕ) → s < size origin → holds origin s (sector_at o s) ⊎ Gives given None s (sector_at o s)

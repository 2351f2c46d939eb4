-- What a flush of one of two devices closes: the sectors of the array that every content takes from it.
use Rattle.std.specs.Prelude.{◌≡◌, ◌≢◌, ℕ, ◌/◌, ◌<◌, Bool, true, false, List, None}
use Rattle.sector.specs.Bytes.{sector_at}
use Rattle.cow_format.specs.Pairs.{pairs_of}
use Rattle.cow_format.specs.Picture.{place_of, picture}
use Rattle.crash_laws.specs.Stop.{MayLeave}
use Rattle.crash_laws.specs.Again.{IsOpen}

-- every content that may be left takes this sector from the store, or every one from the origin disk
abbrev pub IsTaken : Bool → ℕ → (ℕ → List ℕ → Type 0) → (ℕ → List ℕ → Type 0) → ℕ → ℕ → ℕ → Type 0
IsTaken true chunk origin_holds store_holds sectors size s = (o c : List ℕ) → MayLeave origin_holds sectors o → MayLeave store_holds size c → place_of (pairs_of chunk c) (s / chunk) ≢ None
IsTaken false chunk origin_holds store_holds sectors size s = (o c : List ℕ) → MayLeave origin_holds sectors o → MayLeave store_holds size c → place_of (pairs_of chunk c) (s / chunk) ≡ None

-- in such sectors no value is open but the present one
abbrev pub Closes : Bool → ℕ → (ℕ → List ℕ → Type 0) → (ℕ → List ℕ → Type 0) → ℕ → ℕ → List ℕ → List ℕ → Type 0
Closes from chunk origin_holds store_holds sectors size o c =
    (s : ℕ) (v : List ℕ) → s < sectors → IsTaken from chunk origin_holds store_holds sectors size s → IsOpen chunk origin_holds store_holds sectors size s v → v ≡ sector_at (picture chunk o c) s

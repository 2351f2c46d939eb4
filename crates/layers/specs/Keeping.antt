-- What a call keeps of a device, in phrases. This project's own.
use Rattle.std.specs.Prelude.{◌≡◌, ℕ, List}

-- this of it is as it was
abbrev pub Keeps : {B C : Type 0} → (B → C) → B → B → Type 0
Keeps of old new = of new ≡ of old

-- it may hold nothing but what it might before
abbrev pub HoldsNoMore : {B : Type 0} → (B → ℕ → List ℕ → Type 0) → B → B → Type 0
HoldsNoMore holds old new = (s : ℕ) (v : List ℕ) → holds new s v → holds old s v

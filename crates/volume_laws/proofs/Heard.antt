-- Both stacks are loud where the origin's and the store's are. heard: the origin's is; loud: the store's is.
use Rattle.std.proofs.Common.{◌≡◌, Bool, true, false, refl}
use Rattle.std.specs.Prelude.{◌&&◌}

pub store_loud : (heard loud : Bool) → (heard && loud) ≡ true → loud ≡ true
store_loud true loud both = both
store_loud false loud both = absurd (let no : ⊥ = cc in no)

pub both_loud : (heard loud : Bool) → heard ≡ true → loud ≡ true → (heard && loud) ≡ true
both_loud true loud heard is = is
both_loud false loud heard is = absurd (let no : ⊥ = cc in no)

pub heard_first : (heard loud : Bool) → (heard && loud) ≡ true → heard ≡ true
heard_first true loud both = refl
heard_first false loud both = absurd (let no : ⊥ = cc in no)

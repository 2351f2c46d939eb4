-- What reads of an image may do.
use Rattle.std.specs.Prelude.{ℕ}

-- of no read may be so what could not be before
abbrev pub MayNoMore : {S : Type 0} → (S → ℕ → ℕ → Type 0) → S → S → Type 0
MayNoMore may old new = (k n : ℕ) → may new k n → may old k n

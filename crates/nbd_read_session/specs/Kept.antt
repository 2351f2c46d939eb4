-- What a call leaves of the arrays that a client reads.
use Rattle.std.specs.Prelude.{◌≡◌, ℕ, Option}
use Rattle.nbd_read_session.specs.Blocks.{Array}

-- each shows what it showed
abbrev pub ShowsSame : {S : Type 0} → (S → ℕ → Option Array) → S → S → Type 0
ShowsSame shows old new = (k : ℕ) → shows new k ≡ shows old k

-- no read may fail that could not fail before
abbrev pub StaysCalm : {S : Type 0} → (S → ℕ → ℕ → ℕ → Type 0) → S → S → Type 0
StaysCalm may_fail old new = (k : ℕ) (from : ℕ) (count : ℕ) → may_fail new k from count → may_fail old k from count

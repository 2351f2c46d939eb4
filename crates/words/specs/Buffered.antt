-- What contracts see of a line's buffer.
use Rattle.std.specs.Prelude.{ℕ, Bool, List}

-- what was read ahead: what of it was lent last, and what is not yet taken
pub record ReadAhead : Type 0 where
  pub lent : List ℕ
  pub rest : List ℕ

-- a line, whether it is lent from what was read ahead, what else was read ahead, and how many bytes there is room for where it is not
pub record Buffered : Type 0 where
  pub line : List ℕ
  pub is_lent : Bool
  pub ahead : List ℕ
  pub room : ℕ

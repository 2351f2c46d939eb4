-- Two who are told behind each line. This project's own.
use Rattle.std.specs.Prelude.{ℕ}
use Rattle.script_runner.specs.Sessions.{Sitting}
use Rattle.script_runner.specs.declared.tracer.Both.{Both}

-- each of them says what it says alone
abbrev pub TellsBoth : {X Y : Type 0} → (X → ℕ → Sitting → X → Type 0) → (Y → ℕ → Sitting → Y → Type 0) → Both X Y → ℕ → Sitting → Both X Y → Type 0
TellsBoth first second before number sitting after = first before.first number sitting after.first × second before.second number sitting after.second

-- The exit status of the program once its words were understood. It is this project's own.
use Rattle.std.specs.Prelude.{ℕ, Result, Ok, Err}
use Rattle.script_runner.specs.declared.error.RunError.{RunError}
use Rattle.script_runner.specs.declared.summary.Summary.{Summary}
use Rattle.script_runner.specs.Exit.{status_of}

-- that of the run, or 2 where output failed
abbrev pub ended : {E : Type 0} → Result (Result Summary RunError) E → ℕ
ended (Ok ran) = status_of ran
ended (Err error) = 2

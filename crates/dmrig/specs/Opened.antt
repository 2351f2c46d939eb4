-- Where lines come from, and what is done with them. It is this project's own.
use Rattle.std.specs.Prelude.{◌≡◌, ℕ, Bool, List, codes, if◌then◌else◌, Option, Some, None, Result, Ok, Err}
use Rattle.std.specs.Str.{bytes_eq}
use Rattle.std.specs.Io.KnownBytes.{Keeps}
use Rattle.script_runner.specs.Sessions.{Sitting}
use Rattle.script_runner.specs.declared.error.RunError.{RunError}
use Rattle.script_runner.specs.declared.summary.Summary.{Summary}
use Rattle.dmrig.specs.declared.source.Source.{Source}
use Rattle.dmrig.specs.declared.source.Source.TheVariants.{Input, File}
use Rattle.dmrig.specs.Ended.{ended}
use Rattle.dmrig.specs.Left.{left_in}
use Rattle.dmrig.specs.Shown.{IsRun}

-- the file that a word names; `-` names none
abbrev pub file_named : Option (List ℕ) → Option (List ℕ)
file_named None = None
file_named (Some name) = if bytes_eq name (codes "-") then None else Some name

-- standard input where no file is named, and else what opening that file gave: `opens` is what a call with its name may give
abbrev pub IsOpened : {I F E : Type 0} → (List ℕ → Result F E → Type 0) → Option (List ℕ) → I → Result (Source I F) E → Type 0
IsOpened opens None input source = source ≡ Ok (Input input)
IsOpened {I} {F} opens (Some name) input (Ok source) = (file : F) × opens name (Ok file) × (source ≡ File file)
IsOpened opens (Some name) input (Err error) = opens name (Err error)

-- What was opened was run, and this is the exit status of that; where nothing was, nothing is printed or told, and the status is 2.
abbrev pub IsDone : {I F X E : Type 0} → (I → Option (List ℕ)) → (F → Option (List ℕ)) → (X → ℕ → Sitting → X → Type 0)
    → Bool → Option (List ℕ) → Option (List ℕ) → X → X → ℕ → Result (Source I F) E → Type 0
IsDone {I} {F} {X} {E} inputs files tells numbers before now first last status (Ok source) = (left : Option (List ℕ)) × (ran : Result (Result Summary RunError) E)
    × IsRun tells numbers (left_in inputs files source) left before now first last ran × (status ≡ ended ran)
IsDone inputs files tells numbers before now first last status (Err error) = Keeps before now × (last ≡ first) × (status ≡ 2)

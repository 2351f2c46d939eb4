-- What a trace says of a merge: how far it is, in the numbers of its status line, or that it failed. The form is this project's own.
use Rattle.std.specs.Prelude.{ℕ, List, [], ◌∷◌, ◌++◌, codes}
use Rattle.table.specs.declared.status.StatusState.{StatusState}
use Rattle.table.specs.declared.status.StatusState.TheVariants.{Failed}
use Rattle.table.specs.Lines.{state_text}
use Rattle.volume_trace.specs.Trace.{item_of}

abbrev pub state_words : StatusState → List ℕ
state_words Failed = codes "failed"
state_words state = state_text state

-- a merge by the name of the snapshot that is merged
abbrev pub merge_item : List ℕ → StatusState → List ℕ
merge_item name state = item_of (codes "merge" ∷ name ∷ []) ++ codes " " ++ state_words state

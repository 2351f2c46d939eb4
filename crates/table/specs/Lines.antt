-- To be believed: `run`'s output, a volume's steps or its attach are said in these words.
-- Status lines: `0 <sectors> <target> <state>`, as the kernel's admin-guide page on snapshots has them. That they end
-- without a line end is this project's own.
use Rattle.std.specs.Prelude.{ℕ, List, ◌++◌, codes, decimal}
use Rattle.table.specs.declared.status.StatusState.{StatusState}
use Rattle.table.specs.declared.status.StatusState.TheVariants.{Invalid, Failed, Overflow, Used}

-- `<allocated>/<total> <metadata>` in sectors, or that the snapshot is spoiled, that its merge failed, or that its store
-- overflowed
abbrev pub state_text : StatusState → List ℕ
state_text Invalid = codes "Invalid"
state_text Failed = codes "Merge failed"
state_text Overflow = codes "Overflow"
state_text (Used allocated total metadata) = decimal allocated ++ codes "/" ++ decimal total ++ codes " " ++ decimal metadata

-- of an origin of so many sectors
abbrev pub origin_text : ℕ → List ℕ
origin_text sectors = codes "0 " ++ decimal sectors ++ codes " snapshot-origin"

-- of a device of so many sectors whose target has a state
abbrev pub stated_text : ℕ → List ℕ → StatusState → List ℕ
stated_text sectors target state = codes "0 " ++ decimal sectors ++ target ++ state_text state

-- of a snapshot of so many sectors
abbrev pub snapshot_text : ℕ → StatusState → List ℕ
snapshot_text sectors state = stated_text sectors (codes " snapshot ") state

-- of an origin of so many sectors that a snapshot is merged into
abbrev pub merge_text : ℕ → StatusState → List ℕ
merge_text sectors state = stated_text sectors (codes " snapshot-merge ") state

-- The exit status of a command, by how it ended.
use Rattle.std.specs.Prelude.{ℕ, Bool, true, false, Result, Ok, Err, if◌then◌else◌}
use Rattle.serve_files.specs.declared.trouble.Trouble.{Trouble}
use Rattle.serve_files.specs.declared.trouble.Why.{Why}
use Rattle.serve_files.specs.declared.trouble.Why.TheVariants.{Store, LeftOut, MergeLeft}

-- whether a store was refused, or a snapshot or a merge left out
abbrev pub is_of_store : Why → Bool
is_of_store (Store fault) = true
is_of_store (LeftOut cow) = true
is_of_store (MergeLeft cow) = true
is_of_store _ = false

-- 0 done, 1 a store is refused or something left out, 2 it could not run
abbrev pub status_by : {T : Type 0} → Result T Trouble → ℕ
status_by (Ok done) = 0
status_by (Err trouble) = if is_of_store trouble.why then 1 else 2

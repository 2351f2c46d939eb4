-- What is told of a merge. This project's own.
use Rattle.std.specs.Prelude.{ℕ, ◌-◌, ◌/◌, List, Option, Some, None, min}
use Rattle.chunk_alloc.specs.declared.usage.Usage.{Usage}
use Rattle.merge.specs.Merging.{Merging}

-- the name of what the merge is of, by its device
abbrev pub merging_name : {B : Type 0} → (B → List ℕ) → Option (Merging B) → Option (List ℕ)
merging_name name None = None
merging_name name (Some m) = Some (name m.device)

-- How many chunks are left, of so many at first: those that the status line counts beside the metadata. A merge sets these to what they
-- would be had all pairs been committed in order (persistent_commit_merge in dm-snap-persistent.c); before it they may be more.
abbrev pub left_by : ℕ → ℕ → Usage → ℕ
left_by pairs chunk usage = min pairs ((usage.allocated - usage.metadata) / chunk)

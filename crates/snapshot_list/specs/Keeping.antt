-- What the snapshots keep back for a merge that begins. This project's own.
use Rattle.std.specs.Prelude.{◌==◌, ◌&&◌, not, ℕ, ◌*◌, ◌/◌, max, true, false, None, if◌then◌else◌}
use Rattle.snapshot.specs.Kept.{Kept}

-- a snapshot that keeps nothing back for a merge
abbrev pub unkept : {B : Type 0} → Kept B → Kept B
unkept s = record s { kept_back = 0; spare = false; merging = None }

-- a snapshot that keeps back room for so many copies, and the buffer for the first of them
abbrev pub kept_back : {B : Type 0} → ℕ → Kept B → Kept B
kept_back count s = record s { kept_back = count; spare = true; merging = None }

-- And where the snapshot of a number is merged, so many pairs, in chunks of so many sectors: each other live one does, and the
-- rest are as they were. A merged chunk touches one chunk of a snapshot whose chunks are as large or larger, and else so many
-- as fit into it.
abbrev pub kept_for : {B : Type 0} → ℕ → ℕ → ℕ → Kept B → Kept B
kept_for number count chunk s = if s.live && not (s.number == number) then kept_back (count * max 1 (chunk / s.state.chunk)) s else s

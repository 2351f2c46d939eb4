-- Attaching a snapshot, where no device fails. How many snapshots an origin has at most is this project's limit.
use Rattle.std.specs.Prelude.{ℕ, nat_lt, List, [], ◌∷◌, ◌++◌, length, Result, Ok, Err, if◌then◌else◌}
use Rattle.sector.specs.declared.refusal.Refusal.{Refusal}
use Rattle.sector.specs.declared.refusal.Refusal.TheVariants.{TooMany, BadChunk}
use Rattle.chunk.specs.Sizes.{is_chunk}
use Rattle.whole_commands.specs.Loads.{taken}
use Rattle.whole_commands.specs.Faultless.{Snap, Settled}

-- the volume with one snapshot more
abbrev pub with_taken : Settled → Result Snap Refusal → Result Settled Refusal
with_taken v (Err refusal) = Err refusal
with_taken v (Ok snap) = Ok (record { array = v.array; disk = v.disk; snaps = v.snaps ++ snap ∷ [] })

-- a settled attach of a store with these raw bytes, by a table line with this chunk size
unfoldable pub attached : ℕ → List ℕ → Settled → Result Settled Refusal
attached chunk store v =
    if nat_lt (length v.snaps) 8 then (if is_chunk chunk then with_taken v (taken chunk v.array store) else Err BadChunk)
    else Err TooMany

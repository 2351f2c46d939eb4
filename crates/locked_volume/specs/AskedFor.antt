-- To be believed: a block's clause is said in these words.
-- Which entries may come of what a rig's seats ask of a volume. This project's own.
use Rattle.std.specs.Prelude.{◌≡◌, ◌<◌, ℕ, Bool, true, List, ◌++◌}
use Rattle.std.specs.List.{All}
use Rattle.audited_volume.specs.declared.entry.Entry.{Entry}
use Rattle.audited_volume.specs.declared.entry.Entry.TheVariants.{Answered, Spoiled, Overflowed, Attached, Detached, Begun, Finished}

-- The reply to a request of a seat, which have the numbers 1 to 8; or the begin of a merge that may be asked for; or what the volume
-- notes itself: that a snapshot is lost, or that its store overflowed.
abbrev pub IsAskedFor : (ℕ → Bool) → Entry → Type 0
IsAskedFor merges (Answered a) = (0 < a.seat) × (a.seat < 9)
IsAskedFor merges (Spoiled number) = Unit {0}
IsAskedFor merges (Overflowed number) = Unit {0}
IsAskedFor merges (Attached number array overflow fresh) = ⊥
IsAskedFor merges (Detached number) = ⊥
IsAskedFor merges (Begun number) = merges number ≡ true
IsAskedFor merges Finished = ⊥

-- so is each entry that is behind those of the start
abbrev pub AddsAskedFor : (ℕ → Bool) → List Entry → List Entry → Type 0
AddsAskedFor merges start entries = (more : List Entry) → entries ≡ start ++ more → All (IsAskedFor merges) more

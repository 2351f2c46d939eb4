-- Places of a journal are taken by requests, and by snapshots as they come, go and are merged: so there are never more than
-- these, and a few. This project's own.
use Rattle.std.specs.Prelude.{ℕ, ◌+◌, ◌*◌, ◌≤◌, length, Option, Some, None}
use Rattle.volume.specs.Volumed.{Volumed}

-- how many merges are begun, which is one at most
abbrev pub merges_of : {A : Type 0} → Option A → ℕ
merges_of None = 0
merges_of (Some m) = 1

-- Each request that was numbered takes one place, each snapshot that was attached five at most, of which two are left for its own
-- leaving while it is there, and one of these while it is merged.
abbrev pub AreEarned : {B : Type 0} → ℕ → Volumed B → Type 0
AreEarned places v = places + 2 * length v.snaps + merges_of v.merge ≤ v.requests + 5 * v.attached + 40

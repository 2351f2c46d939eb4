-- To be believed: a merge's clauses are said in these words.
-- What a stop may leave of files that are written together. A page cache may write a sector at any time, each by itself; a
-- sync that succeeds has written all of a file (fsync of POSIX). This project's own words.
use Rattle.std.specs.Prelude.{◌≡◌, ◌⊎◌, ℕ, ◌*◌, ◌<◌, ◌≤◌, List, length, Result, IsErr}
use Rattle.sector.specs.Bytes.{sector_at}

-- Bytes of all files that a stop may leave now: each file is as long as it is, and each sector holds a value that it may
-- hold, each by itself.
pub record AreLeft (bytes : ℕ → List ℕ) (may_hold : ℕ → ℕ → List ℕ → Type 0) (left : ℕ → List ℕ) : Type 0 where
  pub whole : (file : ℕ) → length (left file) ≡ length (bytes file)
  pub each : (file s : ℕ) → 512 * s < length (bytes file) → may_hold file s (sector_at (left file) s)

-- Time goes on: a stop since t might have left what it might have left before, or what it may leave now.
pub record Elapses (before now : ℕ) (past since : ℕ → (ℕ → List ℕ) → Type 0) (bytes : ℕ → List ℕ) (may_hold : ℕ → ℕ → List ℕ → Type 0) : Type 0 where
  pub later : before ≤ now
  pub nothing_else : (t : ℕ) (left : ℕ → List ℕ) → t ≤ before → since t left → past t left ⊎ AreLeft bytes may_hold left
  pub keeps : (t : ℕ) (left : ℕ → List ℕ) → t ≤ before → past t left → since t left

-- A call fails only where a read, a write or a sync of a file has failed since, if what it asks for is there, and memory too.
pub record HasCause {T E : Type 0} (there : Type 0) (before now : ℕ) (result : Result T E) : Type 0 where
  pub later : before ≤ now
  pub failed : IsErr result → there → before < now

-- A call leaves the bytes of each file; or how many they are.
abbrev pub HoldSame : {S : Type 0} → (S → ℕ → List ℕ) → S → S → Type 0
HoldSame bytes old new = (f : ℕ) → bytes new f ≡ bytes old f

abbrev pub HoldAsMany : {S : Type 0} → (S → ℕ → List ℕ) → S → S → Type 0
HoldAsMany bytes old new = (f : ℕ) → length (bytes new f) ≡ length (bytes old f)

-- after it a stop leaves nothing that it could not leave before
abbrev pub LeavesNoMore : {S : Type 0} → (S → ℕ → ℕ → List ℕ → Type 0) → S → S → Type 0
LeavesNoMore may_hold old new = (f s : ℕ) (v : List ℕ) → may_hold new f s v → may_hold old f s v

-- and a sync makes last what it would have made last before
abbrev pub LastsStill : {S : Type 0} → (S → ℕ → ℕ → Type 0) → S → S → Type 0
LastsStill will_last old new = (f s : ℕ) → will_last old f s → will_last new f s

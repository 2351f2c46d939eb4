-- The boards of one volume's places, and the passes to them. This project's own.
use Rattle.std.specs.Prelude.{◌≡◌, ◌⊎◌, ◌<◌, ◌++◌, ◌∷◌, [], ℕ, true, List, length, slice_index_or}
use Rattle.thread_channels.specs.Growth.{EndsIn, StartsWith}
use Rattle.thread_channels.specs.BoardPasses.{BoardId, Seen}
use Rattle.thread_channels.specs.Words.{no_usage}
use Rattle.thread_channels.specs.declared.usage.PlaceUsage.{PlaceUsage}
use Rattle.volume.specs.Volumed.{Volumed}
use Rattle.locked_volume.specs.Usages.{usage_at}

-- a pass that publishes on a board
pub record Publishes (board : BoardId) (p : Seen) : Type 0 where
  pub of_board : p.board ≡ board
  pub may : p.publishes ≡ true

-- eight boards, and the publisher of each
pub record ArePublishers (boards : List BoardId) (ps : List Seen) : Type 0 where
  pub boards_many : length boards ≡ 8
  pub many : length ps ≡ 8
  pub each : (k : ℕ) (b : BoardId) (d : Seen) → k < 8 → Publishes (slice_index_or boards k b) (slice_index_or ps k d)

-- At each place its usage was published last.
pub record AreShown {B : Type 0} (boards : List BoardId) (v : Volumed B) (ps : List Seen) : Type 0 where
  pub publish : ArePublishers boards ps
  pub last : (k : ℕ) (d : Seen) → k < 8 → EndsIn (slice_index_or ps k d).seen (usage_at k v)

-- one publication more
abbrev pub IsPublished : PlaceUsage → Seen → Seen → Type 0
IsPublished usage old new = new.seen ≡ old.seen ++ usage ∷ []

-- none where this was published last, and else one more
abbrev pub IsKeptUp : PlaceUsage → Seen → Seen → Type 0
IsKeptUp usage old new = (EndsIn old.seen usage × (new.seen ≡ old.seen)) ⊎ ((EndsIn old.seen usage → ⊥) × IsPublished usage old new)

-- the usage of each place was published where another was published last, once, and nothing else
abbrev pub AreKeptUp : {B : Type 0} → Volumed B → List Seen → List Seen → Type 0
AreKeptUp v old new = (k : ℕ) (d : Seen) → k < 8 → IsKeptUp (usage_at k v) (slice_index_or old k d) (slice_index_or new k d)

-- nothing was published on new boards but that their places are empty
abbrev pub AreUnused : List Seen → Type 0
AreUnused ps = (k : ℕ) (d : Seen) → k < 8 → (slice_index_or ps k d).seen ≡ no_usage ∷ []

-- and then the usage of each place, once
abbrev pub AreFirstTold : {B : Type 0} → Volumed B → List Seen → Type 0
AreFirstTold v ps = (k : ℕ) (d : Seen) → k < 8 → (slice_index_or ps k d).seen ≡ no_usage ∷ usage_at k v ∷ []

-- eight boards, and a pass to each
pub record AreReaders (boards : List BoardId) (ps : List Seen) : Type 0 where
  pub boards_many : length boards ≡ 8
  pub many : length ps ≡ 8
  pub each : (k : ℕ) (b : BoardId) (d : Seen) → k < 8 → (slice_index_or ps k d).board ≡ slice_index_or boards k b

-- A read at a place: what its pass had seen begins what it has seen now, which ends with what was read. The other passes
-- are as they were.
pub record HasRead (place : ℕ) (usage : PlaceUsage) (old new : List Seen) : Type 0 where
  pub later : (d : Seen) → StartsWith (slice_index_or new place d).seen (slice_index_or old place d).seen
  pub last : (d : Seen) → EndsIn (slice_index_or new place d).seen usage
  pub others : (k : ℕ) (d : Seen) → (k ≡ place → ⊥) → slice_index_or new k d ≡ slice_index_or old k d

-- What a seat sees of the boards. This project's own.
use Rattle.std.specs.Prelude.{◌≡◌, ◌<◌, ℕ, List, [], length, slice_index_or}
use Rattle.thread_channels.specs.BoardPasses.{BoardId, Seen}
use Rattle.thread_channels.specs.declared.usage.PlaceUsage.{PlaceUsage}
use Rattle.locked_volume.specs.Boards.{AreReaders, HasRead}
use Rattle.volume_threads.specs.Rigs.{SeatShape}

-- passes to the boards of each volume
pub record AreWatching (boards : ℕ → List BoardId) (volumes : ℕ) (watches : List (List Seen)) : Type 0 where
  pub many : length watches ≡ volumes
  pub each : (k : ℕ) (d : List Seen) → k < volumes → AreReaders (boards k) (slice_index_or watches k d)

-- the passes to the boards of one volume
abbrev pub watch_at : SeatShape → ℕ → List Seen
watch_at s k = slice_index_or s.watches k []

-- The seat read at a place of a volume. Nothing else changed.
pub record HasLooked (volume place : ℕ) (usage : PlaceUsage) (old new : SeatShape) : Type 0 where
  pub here : HasRead place usage (watch_at old volume) (watch_at new volume)
  pub others : (k : ℕ) → (k ≡ volume → ⊥) → watch_at new k ≡ watch_at old k
  pub becomes : new ≡ record old { watches = new.watches }

-- A snapshot as the clauses of a stop have it, with what is kept of its store besides.
use Rattle.std.specs.Prelude.{ℕ, Bool}
use Rattle.crash_laws.specs.Clauses.{Held}
use Rattle.cache_loss_laws.specs.Kept.{Kept}

abbrev pub kept_of : {B : Type 0} → (B → ℕ) → B → Held B → ℕ → Bool → Bool → Bool → ℕ → Kept
kept_of size origin s current zeroed firm marked sure = record {
  chunk = s.chunk;
  sectors = size origin;
  size = size s.device;
  current = current;
  zeroed = zeroed;
  firm = firm;
  marked = marked;
  pairs = s.pairs;
  sure = sure;
}

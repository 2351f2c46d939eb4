-- What holds of a live snapshot's store between two commands.
use Rattle.std.specs.Prelude.{◌≡◌, ℕ, ◌*◌, ◌/◌, ◌%◌, ◌<◌, ◌≤◌, List, length}
use Rattle.cow_format.specs.Slots.{pair_in}
use Rattle.cow_format.specs.Places.{chunk_at, area_place}
use Rattle.cow_format.specs.Pairs.{pairs_of, AreWellFormed}

-- the slots of area a from slot j on are empty
pub record AreEmptyFrom (chunk a j : ℕ) (store : List ℕ) : Type 0 where
  pub each : (i : ℕ) → j ≤ i → i < 32 * chunk → (pair_in (chunk_at chunk store (area_place chunk a)) i).new ≡ 0

-- A store of so many sectors, for an origin of so many: its pairs are well formed, and where they end the rest of the
-- area is empty, so that no old pair comes to life with the next one.
pub record IsInOrder (chunk origin size : ℕ) (store : List ℕ) : Type 0 where
  pub some : 0 < chunk
  pub small : size ≤ 2_147_483_648
  pub origin_small : origin ≤ 2_147_483_648
  pub whole : length store ≡ 512 * size
  pub pairs : AreWellFormed chunk origin size (pairs_of chunk store)
  pub tail : AreEmptyFrom chunk (length (pairs_of chunk store) / (32 * chunk)) (length (pairs_of chunk store) % (32 * chunk)) store

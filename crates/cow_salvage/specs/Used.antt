-- The slots of a store that are not empty, of all areas that lie wholly inside it.
use Rattle.std.specs.Prelude.{◌≡◌, ◌==◌, ℕ, zero, suc, ◌+◌, ◌*◌, ◌<◌, ◌≤◌, List, [], ◌∷◌, ◌++◌, if◌then◌else◌}
use Rattle.sector.specs.declared.pair.Pair.{Pair}
use Rattle.cow_format.specs.Places.{area_place, slot}
use Rattle.cow_salvage.specs.declared.using.Slot.{Slot}

-- a slot with this pair, where it is not empty
abbrev pub used_if : ℕ → Pair → List Slot
used_if number pair = if pair.new == 0 then [] else (record { number = number; pair = pair } ∷ [])

-- the slots below a number that are not empty, in their order
abbrev pub used_below : (ℕ → Pair) → ℕ → List Slot
used_below slot_at zero = []
used_below slot_at (suc n) = used_below slot_at n ++ used_if n (slot_at n)

-- So many areas lie wholly inside a store of so many sectors, and the next one does not.
pub record AreWhole (chunk size areas : ℕ) : Type 0 where
  pub inside : (a : ℕ) → a < areas → chunk * (area_place chunk a + 1) ≤ size
  pub past : size < chunk * (area_place chunk areas + 1)

-- All slots of a store's bytes that are not empty: also those behind the first that is.
pub record AreUsedIn (chunk size : ℕ) (bytes : List ℕ) (areas : ℕ) (used : List Slot) : Type 0 where
  pub whole : AreWhole chunk size areas
  pub all : used ≡ used_below (slot chunk bytes) (areas * (32 * chunk))

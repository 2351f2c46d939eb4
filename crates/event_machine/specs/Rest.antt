-- A volume between two requests.
use Rattle.std.specs.Prelude.{◌≡◌, ℕ, ◌*◌, true, false, [], length, None}
use Rattle.std.specs.List.{All}
use Rattle.cow_format.specs.Pairs.{pairs_of}
use Rattle.whole_commands.specs.Saves.{next_of}
use Rattle.whole_commands.specs.Order.{IsInOrder}
use Rattle.event_machine.specs.Held.{SnapHeld, Moving}

-- A live snapshot of an origin of so many sectors: its store is in order, its pairs and its next place are those of the
-- store's bytes, no area is zeroed ahead, and no mark was written.
pub record IsKept (sectors : ℕ) (h : SnapHeld) : Type 0 where
  pub order : (size : ℕ) × IsInOrder h.snap.chunk sectors size h.snap.store.bytes
  pub pairs : pairs_of h.snap.chunk h.snap.store.bytes ≡ h.pairs
  pub next : h.next ≡ next_of h.snap.chunk h.pairs
  pub zeroed : h.zeroed ≡ false
  pub firm : h.firm ≡ false
  pub unmarked : h.marked ≡ false

-- a snapshot of which nothing is under way
pub record IsResting (sectors : ℕ) (h : SnapHeld) : Type 0 where
  pub tried : h.untried ≡ false
  pub copies : h.copies ≡ []
  pub marks : h.marks ≡ []
  pub live : h.snap.live ≡ true → IsKept sectors h

-- a volume of so many sectors with no request in flight, and no merge
pub record IsAtRest (sectors : ℕ) (v : Moving) : Type 0 where
  pub whole : length v.origin.bytes ≡ 512 * sectors
  pub snaps : All (IsResting sectors) v.snaps
  pub requests : v.requests ≡ []
  pub alone : v.merge ≡ None

-- What lasts of a snapshot while not all of its store is flushed, in the words of what a volume keeps of it.
use Rattle.std.specs.Prelude.{◌≡◌, ◌⊎◌, ℕ, ◌+◌, ◌-◌, ◌*◌, ◌/◌, ◌<◌, ◌≤◌, Bool, true, false, List, take, drop, None, Ok, Err}
use Rattle.std.specs.List.{All}
use Rattle.sector.specs.declared.pair.Pair.{Pair}
use Rattle.sector.specs.declared.refusal.Refusal.TheVariants.{Invalid}
use Rattle.cow_header.specs.HeaderText.{found_in}
use Rattle.cow_header.specs.declared.found.Found.TheVariants.{Header}
use Rattle.cow_format.specs.Places.{slot}
use Rattle.cow_format.specs.Pairs.{pairs_of, AreWellFormed, IsInside}
use Rattle.cow_format.specs.Picture.{place_of}
use Rattle.crash_laws.specs.Stop.{MayLeave}
use Rattle.crash_laws.specs.Firm.{IsFirmAt}
use Rattle.crash_laws.specs.May.{sector_of, MayList}
use Rattle.cache_loss_laws.specs.Lasting.{IsCopyFirm}

-- What is kept of a snapshot: the sectors of its chunk, of the origin and of its store; the area that the next pair goes to, and
-- whether the one after it is zeroed, and flushed since; whether its header was marked invalid; its committed pairs, and how many
-- of them were flushed.
pub record Kept : Type 0 where
  pub chunk : ℕ
  pub sectors : ℕ
  pub size : ℕ
  pub current : ℕ
  pub zeroed : Bool
  pub firm : Bool
  pub marked : Bool
  pub pairs : List Pair
  pub sure : ℕ

-- the slots up to here are known: those of the current area, and of the next one where that is firm
abbrev pub last_slot : ℕ → ℕ → Bool → ℕ
last_slot chunk current true = (current + 2) * (32 * chunk) - 1
last_slot chunk current false = (current + 1) * (32 * chunk) - 1

abbrev pub last_of : Kept → ℕ
last_of v = last_slot v.chunk v.current v.firm

-- What a volume's own facts say of it, over what is there. ready: the pairs of its copies that were written and flushed, and are
-- not committed.
pub record IsThere (oh sh : ℕ → List ℕ → Type 0) (origin store : List ℕ) (ready : Pair → Type 0) (v : Kept) : Type 0 where
  pub some : 0 < v.chunk
  pub disk_now : MayLeave oh v.sectors origin
  pub store_now : MayLeave sh v.size store
  pub listed : pairs_of v.chunk store ≡ v.pairs
  pub formed : AreWellFormed v.chunk v.sectors v.size v.pairs
  pub unlisted : (q : Pair) → ready q → place_of v.pairs q.old ≡ None
  pub lies : (q : Pair) → ready q → IsInside v.chunk v.sectors v.size q

-- The invariant of a snapshot that is live, or spoiled with its mark untried. oh, sh: what the origin disk and its store may hold.
-- The header is good, or invalid where it was marked. The pairs are listed, the first of them surely. The next area is zero where
-- it is said to be. A sector of the origin disk whose chunk is not surely in the list may be left with nothing but what is there,
-- and so may the places of the pairs that are only perhaps in it and of the copies that were flushed, which have the origin's
-- bytes.
pub record SnapLasts (oh sh : ℕ → List ℕ → Type 0) (origin store : List ℕ) (ready : Pair → Type 0) (v : Kept) : Type 0 where
  pub header : (w : List ℕ) → sh 0 w → (found_in w ≡ Ok (Header v.chunk)) ⊎ ((v.marked ≡ true) × (found_in w ≡ Err Invalid))
  pub list : MayList v.chunk v.sure (last_of v) v.pairs sh
  pub inside : (k : ℕ) → k ≤ last_of v → sector_of v.chunk k < v.size
  pub ahead : v.zeroed ≡ true → (k : ℕ) → (v.current + 1) * (32 * v.chunk) ≤ k → k < (v.current + 2) * (32 * v.chunk) → ((slot v.chunk store k).new ≡ 0) × (sector_of v.chunk k < v.size)
  pub disk : (s : ℕ) → s < v.sectors → place_of (take v.sure v.pairs) (s / v.chunk) ≡ None → IsFirmAt oh origin s
  pub placed : All (IsCopyFirm v.chunk v.sectors sh origin store) (drop v.sure v.pairs)
  pub copies : (q : Pair) → ready q → IsCopyFirm v.chunk v.sectors sh origin store q

-- one whose mark was tried and is not stale
pub record SnapRefused (sh : ℕ → List ℕ → Type 0) : Type 0 where
  pub header : (w : List ℕ) → sh 0 w → found_in w ≡ Err Invalid

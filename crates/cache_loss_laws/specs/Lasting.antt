-- A snapshot's store of which not all is flushed: what holds so that whatever a stop leaves shows the same array.
use Rattle.std.specs.Prelude.{◌≡◌, ◌⊎◌, ℕ, ◌+◌, ◌*◌, ◌/◌, ◌%◌, ◌<◌, ◌≤◌, List, ◌++◌, length, take, drop, None}
use Rattle.sector.specs.Bytes.{sector_at}
use Rattle.cow_format.specs.Places.{slot}
use Rattle.std.specs.List.{All}
use Rattle.sector.specs.declared.pair.Pair.{Pair}
use Rattle.cow_format.specs.Pairs.{pairs_of, AreWellFormed}
use Rattle.cow_format.specs.Picture.{place_of, IsCopied}
use Rattle.crash_laws.specs.Stop.{MayLeave}
use Rattle.crash_laws.specs.Firm.{IsFirmAt}
use Rattle.crash_laws.specs.May.{sector_of, MayList}

-- a pair's place has the sectors of its chunk of the origin, as many as there are, and may be left with nothing else
pub record IsCopyFirm (chunk sectors : ℕ) (holds : ℕ → List ℕ → Type 0) (origin store : List ℕ) (q : Pair) : Type 0 where
  pub same : IsCopied chunk origin store q
  pub firm : (s : ℕ) → s < sectors → s / chunk ≡ q.old → IsFirmAt holds store (chunk * q.new + s % chunk)

-- The first pairs, `sure` many, are in the list of each content that may be left, the others in some. The slots up to `last` are
-- known. A sector of the origin disk whose chunk is not surely in the list may be left with nothing but what is there.
pub record Lasts (chunk sectors size sure last : ℕ) (ps : List Pair) (oh sh : ℕ → List ℕ → Type 0) (origin store : List ℕ) : Type 0 where
  pub some : 0 < chunk
  pub disk_now : MayLeave oh sectors origin
  pub store_now : MayLeave sh size store
  pub listed : pairs_of chunk store ≡ ps
  pub formed : AreWellFormed chunk sectors size ps
  pub list : MayList chunk sure last ps sh
  pub inside : (k : ℕ) → k ≤ last → sector_of chunk k < size
  pub disk : (s : ℕ) → s < sectors → place_of (take sure ps) (s / chunk) ≡ None → IsFirmAt oh origin s
  pub placed : All (IsCopyFirm chunk sectors sh origin store) (drop sure ps)

-- The store of a merge: the pairs that are left are sure; those that are gone since it was last flushed may come back, in their
-- order. The slots behind those that are left are cleared up to `last`.
pub record LastsMerging (chunk sectors size last : ℕ) (ps gone : List Pair) (oh sh : ℕ → List ℕ → Type 0) (origin store : List ℕ) : Type 0 where
  pub some : 0 < chunk
  pub disk_now : MayLeave oh sectors origin
  pub store_now : MayLeave sh size store
  pub listed : pairs_of chunk store ≡ ps
  pub formed : AreWellFormed chunk sectors size (ps ++ gone)
  pub list : MayList chunk (length ps) last (ps ++ gone) sh
  pub inside : (k : ℕ) → k ≤ last → sector_of chunk k < size
  pub cleared : (k : ℕ) → length ps ≤ k → k ≤ last → (slot chunk store k).new ≡ 0

-- a pair whose chunk is copied back, and flushed: the origin disk has the copy's sectors there, and may be left with nothing else
pub record IsBackFirm (chunk sectors : ℕ) (holds : ℕ → List ℕ → Type 0) (origin store : List ℕ) (q : Pair) : Type 0 where
  pub same : IsCopied chunk origin store q
  pub firm : (s : ℕ) → s < sectors → s / chunk ≡ q.old → IsFirmAt holds origin s

-- Sectors of a store after a merge's commit: each is as it was, or has a slot of the group.
abbrev pub ClearsSlots : ℕ → ℕ → ℕ → ℕ → List ℕ → List ℕ → Type 0
ClearsSlots chunk size from to old new = (x : ℕ) → x < size → (sector_at new x ≡ sector_at old x) ⊎ ((k : ℕ) × (from ≤ k) × (k < to) × (sector_of chunk k ≡ x))

-- What lasts of a merge while not all of its store is flushed, in the words of what a volume keeps of it.
use Rattle.std.specs.Prelude.{◌≡◌, ◌⊎◌, ℕ, ◌/◌, ◌<◌, ◌≤◌, Bool, true, List, ◌++◌, length, Ok}
use Rattle.std.specs.List.{All}
use Rattle.sector.specs.Bytes.{sector_at}
use Rattle.sector.specs.declared.pair.Pair.{Pair}
use Rattle.cow_header.specs.HeaderText.{found_in}
use Rattle.cow_header.specs.declared.found.Found.TheVariants.{Header}
use Rattle.cow_format.specs.Places.{slot}
use Rattle.cow_format.specs.Pairs.{pairs_of, AreWellFormed}
use Rattle.crash_laws.specs.Stop.{MayLeave, Within}
use Rattle.crash_laws.specs.Again.{IsOpen}
use Rattle.crash_laws.specs.Firm.{IsFirmAt}
use Rattle.crash_laws.specs.May.{sector_of, MayList}
use Rattle.cache_loss_laws.specs.Calm.{ShowsAgain}

-- What is kept of a merge: the sectors of its chunk, of the origin and of its store; the pairs that are left; those of the present
-- group whose chunks are copied back; and whether the origin disk was flushed since.
pub record Merging : Type 0 where
  pub chunk : ℕ
  pub sectors : ℕ
  pub size : ℕ
  pub pairs : List Pair
  pub copied : List Pair
  pub flushed : Bool

-- what a volume's own facts say of it, over what is there
pub record IsMergeThere (oh sh : ℕ → List ℕ → Type 0) (origin store : List ℕ) (m : Merging) : Type 0 where
  pub some : 0 < m.chunk
  pub disk_now : MayLeave oh m.sectors origin
  pub store_now : MayLeave sh m.size store
  pub listed : pairs_of m.chunk store ≡ m.pairs

-- The invariant of a merge. gone: the pairs that were taken away since its store was last flushed, which may come back in their
-- order; last: the slots up to here are known. Once the origin was flushed, its disk may be left with nothing but what is there
-- where chunks were copied back.
pub record MergeLasts (oh sh : ℕ → List ℕ → Type 0) (origin store : List ℕ) (m : Merging) : Type 0 where
  pub gone : List Pair
  pub last : ℕ
  pub header : (w : List ℕ) → sh 0 w → found_in w ≡ Ok (Header m.chunk)
  pub list : MayList m.chunk (length m.pairs) last (m.pairs ++ gone) sh
  pub inside : (k : ℕ) → k ≤ last → sector_of m.chunk k < m.size
  pub cleared : (k : ℕ) → length m.pairs ≤ k → k ≤ last → (slot m.chunk store k).new ≡ 0
  pub formed : AreWellFormed m.chunk m.sectors m.size (m.pairs ++ gone)
  pub back : m.flushed ≡ true → All (λ q. (s : ℕ) → s < m.sectors → s / m.chunk ≡ q.old → IsFirmAt oh origin s) m.copied

-- whatever a stop before, within or after a call leaves of it is loaded again with the origin's array, up to what the call gives
abbrev pub StopsMergeLost : (ℕ → List ℕ → Type 0) → (ℕ → List ℕ → Type 0) → (ℕ → List ℕ → Type 0) → (ℕ → List ℕ → Type 0) → (ℕ → List ℕ → Type 0) → Merging → Type 0
StopsMergeLost oh sh oh' sh' given m =
    (b d : List ℕ) → MayLeave (Within oh oh') m.sectors b → MayLeave (Within sh sh') m.size d → ShowsAgain m.chunk m.sectors m.size oh sh given b d

-- The origin disk is as it was where chunks are said to be copied back and flushed: none more than were.
abbrev pub KeepsBack : List ℕ → List ℕ → List Pair → Bool → Merging → Type 0
KeepsBack origin origin' copied flushed m =
    flushed ≡ true → (m.flushed ≡ true) × (copied ≡ m.copied) × All (λ q. (s : ℕ) → s < m.sectors → s / m.chunk ≡ q.old → sector_at origin' s ≡ sector_at origin s) m.copied

-- Once a merge is finished the origin disk alone is left with values that were open for the origin, or that are given.
abbrev pub OpensFinished : (ℕ → List ℕ → Type 0) → (ℕ → List ℕ → Type 0) → (ℕ → List ℕ → Type 0) → (ℕ → List ℕ → Type 0) → Merging → Type 0
OpensFinished oh sh ho given m =
    (b : List ℕ) → MayLeave ho m.sectors b → (s : ℕ) → s < m.sectors → IsOpen m.chunk oh sh m.sectors m.size s (sector_at b s) ⊎ given s (sector_at b s)

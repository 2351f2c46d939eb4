-- A call of one operation that leaves what a snapshot's list and its copies hold, up to values that it gives.
use Rattle.std.specs.Prelude.{◌≡◌, ◌⊎◌, ℕ, ◌+◌, ◌*◌, ◌/◌, ◌%◌, ◌<◌, ◌≤◌, Bool, true, List, take, Some, None, Err}
use Rattle.sector.specs.Bytes.{sector_at}
use Rattle.sector.specs.declared.pair.Pair.{Pair}
use Rattle.sector.specs.declared.refusal.Refusal.TheVariants.{Invalid}
use Rattle.cow_header.specs.HeaderText.{found_in}
use Rattle.cow_format.specs.Places.{slot}
use Rattle.cow_format.specs.Picture.{place_of, picture}
use Rattle.crash_laws.specs.Stop.{MayLeave, Within}
use Rattle.crash_laws.specs.Again.{IsOpen, LoadsAgain, IsRefusedAgain}
use Rattle.crash_laws.specs.May.{sector_of}
use Rattle.cache_loss_laws.specs.Kept.{Kept, last_of}

-- The sectors with the list are as they were, and those at places of pairs; where a pair is surely there they may also have a
-- value that is given. The origin disk is as it was where no pair surely is.
pub record IsCalm (chunk sectors sure last : ℕ) (ps : List Pair) (o o' c c' : List ℕ) (given : ℕ → List ℕ → Type 0) : Type 0 where
  pub lists : (k : ℕ) → k ≤ last → sector_at c' (sector_of chunk k) ≡ sector_at c (sector_of chunk k)
  pub surely : (s n : ℕ) → s < sectors → place_of (take sure ps) (s / chunk) ≡ Some n → (sector_at c' (chunk * n + s % chunk) ≡ sector_at c (chunk * n + s % chunk)) ⊎ given s (sector_at c' (chunk * n + s % chunk))
  pub perhaps : (s n : ℕ) → s < sectors → place_of (take sure ps) (s / chunk) ≡ None → place_of ps (s / chunk) ≡ Some n → sector_at c' (chunk * n + s % chunk) ≡ sector_at c (chunk * n + s % chunk)
  pub disk : (s : ℕ) → s < sectors → place_of (take sure ps) (s / chunk) ≡ None → sector_at o' s ≡ sector_at o s

-- Of a snapshot: its first sector is as it was too, or marked invalid; its copies' places are as they were, and so is the zeroed
-- area, or it is zeroed now.
pub record IsCalmSnap (o o' c c' : List ℕ) (ready ready' : Pair → Type 0) (zeroed marked : Bool) (given : ℕ → List ℕ → Type 0) (v : Kept) : Type 0 where
  pub calm : IsCalm v.chunk v.sectors v.sure (last_of v) v.pairs o o' c c' given
  pub first : (sector_at c' 0 ≡ sector_at c 0) ⊎ ((marked ≡ true) × (found_in (sector_at c' 0) ≡ Err Invalid))
  pub keeps : v.marked ≡ true → marked ≡ true
  pub ahead : zeroed ≡ true → (k : ℕ) → (v.current + 1) * (32 * v.chunk) ≤ k → k < (v.current + 2) * (32 * v.chunk) → ((slot v.chunk c' k).new ≡ 0) × (sector_of v.chunk k < v.size)
  pub copies : (q : Pair) → ready' q → ready q × ((s : ℕ) → s < v.sectors → s / v.chunk ≡ q.old → sector_at c' (v.chunk * q.new + s % v.chunk) ≡ sector_at c (v.chunk * q.new + s % v.chunk))

-- Contents that are loaded again with well-formed pairs, and show in each sector a value that was open before, or that the call
-- gives.
abbrev pub ShowsAgain : ℕ → ℕ → ℕ → (ℕ → List ℕ → Type 0) → (ℕ → List ℕ → Type 0) → (ℕ → List ℕ → Type 0) → List ℕ → List ℕ → Type 0
ShowsAgain chunk sectors size oh sh given b d =
    LoadsAgain chunk sectors size d × ((s : ℕ) → s < sectors → IsOpen chunk oh sh sectors size s (sector_at (picture chunk b d) s) ⊎ given s (sector_at (picture chunk b d) s))

-- Whatever a stop before, within or after a call leaves of a snapshot: it shows its array again, or is refused where it was marked.
abbrev pub StopsSnapLost : (ℕ → List ℕ → Type 0) → (ℕ → List ℕ → Type 0) → (ℕ → List ℕ → Type 0) → (ℕ → List ℕ → Type 0) → Bool → (ℕ → List ℕ → Type 0) → Kept → Type 0
StopsSnapLost oh sh oh' sh' marked given v =
    (b d : List ℕ) → MayLeave (Within oh oh') v.sectors b → MayLeave (Within sh sh') v.size d → ShowsAgain v.chunk v.sectors v.size oh sh given b d ⊎ ((marked ≡ true) × IsRefusedAgain d)

-- Which snapshots were found spoiled after a call.
use Rattle.std.specs.Prelude.{◌≡◌, ◌≢◌, ℕ, ◌+◌, ◌<◌, ◌&&◌, AllPairs, Bool, true, false, List, [], ◌∷◌, ◌++◌, length, map, slice_index_or, suc, if◌then◌else◌}
use Rattle.std.specs.List.{All}
use Rattle.plain_machine.specs.Plain.{Entry as ShownEntry, Saved, Live, Invalid, is_in, may_overflow}
use Rattle.volume.specs.Volumed.{Volumed}
use Rattle.audited_volume.specs.declared.entry.Entry.{Entry}
use Rattle.audited_volume.specs.declared.entry.Entry.TheVariants.{Spoiled}

abbrev pub is_live_state : Saved → Bool
is_live_state (Live array) = true
is_live_state Invalid = false

abbrev pub is_live : ShownEntry → Bool
is_live e = is_live_state e.saved

-- how many are live
abbrev pub live_count : List Bool → ℕ
live_count [] = 0
live_count (b ∷ bs) = if b then suc (live_count bs) else live_count bs

-- whether its store may still overflow
abbrev pub is_open : ShownEntry → Bool
is_open e = may_overflow e.overflow

-- the same of a volume's snapshots, in order of attaching
abbrev pub mays_of : {B : Type 0} → Volumed B → List Bool
mays_of v = map (λ s. may_overflow s.overflow) v.snaps

-- how many of those that are live may still overflow
abbrev pub may_count : List Bool → List Bool → ℕ
may_count [] may = 0
may_count (b ∷ bs) [] = 0
may_count (b ∷ bs) (m ∷ ms) = if b && m then suc (may_count bs ms) else may_count bs ms

-- The places that are kept free for snapshots: one for each that is live, which may be spoiled, or leave, and one more for each
-- of these that may still overflow.
abbrev pub kept_count : List Bool → List Bool → ℕ
kept_count lives may = live_count lives + may_count lives may

-- a snapshot that was live and is spoiled now, among the first n
pub record IsLost (saved : List ShownEntry) (lives : List Bool) (n number : ℕ) : Type 0 where
  pub place : ℕ
  pub within : place < n
  pub was : slice_index_or lives place false ≡ true
  pub is : (d : ShownEntry) → is_live (slice_index_or saved place d) ≡ false
  pub mine : (d : ShownEntry) → (slice_index_or saved place d).number ≡ number

-- the first n snapshots were looked at: those that were lost are noted, each once
pub record Noted (n : ℕ) (saved : List ShownEntry) (lives lives' : List Bool) (entries entries' : List Entry) : Type 0 where
  pub which : List ℕ
  pub entries_are : entries' ≡ entries ++ map Spoiled which
  pub same_length : length lives' ≡ length lives
  pub looked : (k : ℕ) (d : ShownEntry) → k < n → slice_index_or lives' k false ≡ (slice_index_or lives k false && is_live (slice_index_or saved k d))
  pub ahead : (k : ℕ) → n < k + 1 → slice_index_or lives' k false ≡ slice_index_or lives k false
  pub sound : All (IsLost saved lives n) which
  pub apart : AllPairs (λ a b. a ≢ b) which
  pub complete : (k : ℕ) (d : ShownEntry) → k < n → slice_index_or lives k false ≡ true → is_live (slice_index_or saved k d) ≡ false → is_in which (slice_index_or saved k d).number ≡ true
  pub room : length which + live_count lives' ≡ live_count lives

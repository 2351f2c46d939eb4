-- The places that a volume takes in its journal, and when a call finds none. This project's own.
use Rattle.std.specs.Prelude.{◌≡◌, ◌≢◌, ◌⊎◌, nat_lt, ℕ, ◌+◌, ◌≤◌, Bool, true, false, length, Result, Ok, Err}
use Rattle.sector.specs.declared.refusal.Refusal.{Refusal}
use Rattle.sector.specs.declared.refusal.Refusal.TheVariants.{JournalFull}
use Rattle.volume.specs.Causes.{lives_of}
use Rattle.volume.specs.Volumed.{Volumed}
use Rattle.audited_volume.specs.Earned.{AreEarned}
use Rattle.audited_volume.specs.Noted.{kept_count, live_count, may_count, mays_of}

-- a volume, and how many places of its journal are taken
pub record Counted (B : Type 0) : Type 0 where
  pub volume : Volumed B
  pub taken : ℕ

-- those that are kept free for what is to come: an entry of each request in flight, and one of each live snapshot, which may
-- be spoiled, or leave
abbrev pub kept_free : {B : Type 0} → Volumed B → ℕ
kept_free v = length v.flights + live_count (lives_of v)

-- and one more of each live snapshot whose store may still overflow
abbrev pub kept_for_marks : {B : Type 0} → Volumed B → ℕ
kept_for_marks v = may_count (lives_of v) (mays_of v)

-- and both for snapshots: one of each that is live, and that for its mark
abbrev pub kept_for_snaps : {B : Type 0} → Volumed B → ℕ
kept_for_snaps v = kept_count (lives_of v) (mays_of v)

-- So many are taken, with those that are kept free but without those for marks. With these too there are no more than a journal has,
-- and no more than the volume's requests and snapshots earned.
pub record HasPlaces {B : Type 0} (v : Volumed B) (places : ℕ) : Type 0 where
  pub enough : kept_free v ≤ places
  pub few : places + kept_for_marks v ≤ 65_536
  pub earned : AreEarned (places + kept_for_marks v) v

abbrev pub counted_with : {B : Type 0} → Volumed B → ℕ → Counted B
counted_with v places = record { volume = v; taken = places + kept_for_marks v }

-- whether so many more may be too many
abbrev pub is_full_for : ℕ → ℕ → Bool
is_full_for more taken = nat_lt 65_536 (taken + more)

-- A call that takes places is refused with JournalFull where the journal may not have them, and there alone: so that comes before all
-- other reasons.
abbrev pub IsFullFirst : {A : Type 0} → Bool → Result A Refusal → Type 0
IsFullFirst full (Ok done) = full ≡ false
IsFullFirst full (Err refusal) = ((full ≡ true) × (refusal ≡ JournalFull)) ⊎ ((full ≡ false) × (refusal ≢ JournalFull))

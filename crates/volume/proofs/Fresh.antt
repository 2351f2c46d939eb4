-- A snapshot over a fresh store shows the origin.
use Rattle.std.proofs.Common.{◌≡◌, ℕ, List, [], ◌∷◌, length, true, refl, arith}
use Rattle.std.specs.Prelude.{Result, Ok, Err}
use Rattle.std.proofs.lemmas.Bool.{false≢true}
use Rattle.sector.specs.Bytes.{sector_at}
use Rattle.sector.specs.declared.refusal.Refusal.{Refusal}
use Rattle.cow_header.specs.HeaderText.{found_in}
use Rattle.cow_header.specs.declared.found.Found.{Found}
use Rattle.cow_header.specs.declared.found.Found.TheVariants.{Fresh, Header}
use Rattle.snapshot.specs.Opening.{shown_array, shown_as}
use Rattle.volume.specs.Fresh.{is_fresh, is_fresh_as}

shown_by : (origin bytes : List ℕ) (found : Result Found Refusal) → is_fresh_as found ≡ true → shown_as origin bytes found ≡ origin
shown_by origin bytes (Ok Fresh) fresh = refl
shown_by origin bytes (Ok (Header chunk)) fresh = absurd (false≢true fresh)
shown_by origin bytes (Err refusal) fresh = refl

pub fresh_shown : (origin bytes : List ℕ) → is_fresh bytes ≡ true → shown_array origin bytes ≡ origin
fresh_shown origin bytes fresh = shown_by origin bytes (found_in (sector_at bytes 0)) fresh

-- a device without sectors has no magic number
pub empty_fresh : (bytes : List ℕ) → length bytes ≡ 0 → is_fresh bytes ≡ true
empty_fresh [] none = refl
empty_fresh (b ∷ bytes) none = absurd (omega (arith, none))

-- A store that is loaded again, and one that is refused as invalid.
use Rattle.std.specs.Prelude.{◌≡◌, ℕ, List, Ok, Err}
use Rattle.sector.specs.Bytes.{sector_at}
use Rattle.sector.specs.declared.refusal.Refusal.TheVariants.{Invalid}
use Rattle.cow_format.specs.Pairs.{pairs_of, AreWellFormed}
use Rattle.cow_format.specs.Picture.{picture}
use Rattle.cow_header.specs.HeaderText.{found_in}
use Rattle.cow_header.specs.declared.found.Found.TheVariants.{Header}
use Rattle.crash_laws.specs.Stop.{MayLeave}

-- its header is good, and its pairs are well formed, for an origin and a store of so many sectors
pub record LoadsAgain (chunk origin size : ℕ) (store : List ℕ) : Type 0 where
  pub header : found_in (sector_at store 0) ≡ Ok (Header chunk)
  pub formed : AreWellFormed chunk origin size (pairs_of chunk store)

-- its header is marked invalid
abbrev pub IsRefusedAgain : List ℕ → Type 0
IsRefusedAgain store = found_in (sector_at store 0) ≡ Err Invalid

-- a value is open for a sector of the array that an origin disk and a store stand for: some content that may be left gives it
-- there
pub record IsOpen (chunk : ℕ) (origin_holds store_holds : ℕ → List ℕ → Type 0) (sectors size s : ℕ) (v : List ℕ) : Type 0 where
  pub origin : List ℕ
  pub store : List ℕ
  pub origin_left : MayLeave origin_holds sectors origin
  pub store_left : MayLeave store_holds size store
  pub is : v ≡ sector_at (picture chunk origin store) s

-- Why no snapshot is taken over a store. The order of the refusals is this project's own.
use Rattle.std.specs.Prelude.{◌≡◌, ◌⊎◌, ℕ, ◌*◌, ◌<◌, false, List, Ok, Err}
use Rattle.sector.specs.Bytes.{sector_at}
use Rattle.sector.specs.declared.refusal.Refusal.{Refusal}
use Rattle.sector.specs.declared.refusal.Refusal.TheVariants.{StoreTooSmall, BadChunk}
use Rattle.chunk.specs.Sizes.{is_chunk}
use Rattle.cow_header.specs.HeaderText.{found_in}
use Rattle.cow_header.specs.declared.found.Found.TheVariants.{Header}
use Rattle.volume_opening.specs.declared.not_opened.NotOpened.{NotOpened}
use Rattle.volume_opening.specs.declared.not_opened.NotOpened.TheVariants.{NoMemory, Written, Fresh, Refused, OriginFailed, StoreFailed}

-- why a store of so many sectors, with these bytes, takes no snapshot with chunks of so many: these are named in this order
abbrev pub IsNotReady : ℕ → ℕ → List ℕ → NotOpened → Type 0
IsNotReady chunk size bytes NoMemory = Unit {0}
IsNotReady chunk size bytes OriginFailed = Unit {0}
IsNotReady chunk size bytes StoreFailed = Unit {0}
IsNotReady chunk size bytes Fresh = ⊥
IsNotReady chunk size bytes Written = (own : ℕ) × (found_in (sector_at bytes 0) ≡ Ok (Header own))
IsNotReady chunk size bytes (Refused refusal) =
    ((refusal ≡ BadChunk) × (is_chunk chunk ≡ false))
    ⊎ ((refusal ≡ StoreTooSmall) × (size < 2 * chunk))
    ⊎ (found_in (sector_at bytes 0) ≡ Err refusal)

-- a store could not be read, or memory is refused for that
abbrev pub IsReadFailure : NotOpened → Type 0
IsReadFailure e = (e ≡ StoreFailed) ⊎ (e ≡ NoMemory)

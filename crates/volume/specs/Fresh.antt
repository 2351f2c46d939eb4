-- To be believed: a new snapshot's array is said in these words.
-- Whether a store is fresh, by its first sector. This project's own word for it.
use Rattle.std.specs.Prelude.{ℕ, List, Bool, true, false, Result, Ok, Err}
use Rattle.sector.specs.Bytes.{sector_at}
use Rattle.sector.specs.declared.refusal.Refusal.{Refusal}
use Rattle.cow_header.specs.HeaderText.{found_in}
use Rattle.cow_header.specs.declared.found.Found.{Found}
use Rattle.cow_header.specs.declared.found.Found.TheVariants.{Fresh, Header}

abbrev pub is_fresh_as : Result Found Refusal → Bool
is_fresh_as (Ok Fresh) = true
is_fresh_as (Ok (Header chunk)) = false
is_fresh_as (Err refusal) = false

abbrev pub is_fresh : List ℕ → Bool
is_fresh bytes = is_fresh_as (found_in (sector_at bytes 0))

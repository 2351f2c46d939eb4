-- What the first sector of an open store says. The texts are those of dm-snap-persistent.c; that an invalid header is refused
-- is this project's own rule.
use Rattle.std.specs.Prelude.{ℕ, Bool, Result, Ok, Err, if◌then◌else◌}
use Rattle.sector.specs.declared.refusal.Refusal.{Refusal}
use Rattle.sector.specs.declared.refusal.Refusal.TheVariants.{Invalid}
use Rattle.cow_header.specs.declared.found.Found.{Found}
use Rattle.cow_header.specs.declared.found.Found.TheVariants.{Fresh, Header}
use Rattle.store.specs.declared.state.Left.{Left}
use Rattle.store.specs.declared.state.Left.TheVariants.{FirstArea, HeaderChunk, Tail, Nothing}

-- the header with this chunk size, or the mark that the store is invalid
abbrev pub marked_as : Bool → ℕ → Result Found Refusal
marked_as valid chunk = if valid then Ok (Header chunk) else Err Invalid

-- a store is fresh until its header is written, and has that header until it is marked invalid
abbrev pub head_of : Left → Bool → ℕ → Result Found Refusal
head_of FirstArea valid chunk = Ok Fresh
head_of HeaderChunk valid chunk = Ok Fresh
head_of Tail valid chunk = marked_as valid chunk
head_of Nothing valid chunk = marked_as valid chunk

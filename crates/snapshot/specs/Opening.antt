-- To be believed: `run`'s output, a volume's steps or its attach are said in these words.
-- What opening a store for a snapshot leaves on the store, and what the snapshot shows. The bytes are those of
-- dm-snap-persistent.c.
use Rattle.std.specs.Prelude.{◌≡◌, ◌≢◌, ◌⊎◌, ℕ, List, length, Result, Ok, Err}
use Rattle.sector.specs.Bytes.{sector_at}
use Rattle.sector.specs.declared.pair.Pair.{Pair}
use Rattle.sector.specs.declared.refusal.Refusal.{Refusal}
use Rattle.cow_format.specs.Places.{chunk_at, area_place}
use Rattle.cow_format.specs.Picture.{picture}
use Rattle.cow_header.specs.HeaderText.{found_in}
use Rattle.cow_header.specs.declared.found.Found.{Found}
use Rattle.cow_header.specs.declared.found.Found.TheVariants.{Fresh, Header}
use Rattle.store.specs.declared.state.Left.{Left}
use Rattle.store.specs.declared.state.Left.TheVariants.{FirstArea, HeaderChunk, Tail, Nothing}
use Rattle.store.specs.declared.state.State.{State}
use Rattle.store.specs.Loading.{with_left}
use Rattle.store.specs.Opening.{IsOpenedFresh, IsOpenedWritten}

-- a store that was opened, before the writes of its load
abbrev pub IsOpenedAs : ℕ → ℕ → ℕ → List ℕ → State → List Pair → Type 0
IsOpenedAs line origin size bytes s pairs = IsOpenedFresh line origin size bytes s pairs ⊎ IsOpenedWritten origin size bytes s pairs

-- the store's bytes once no write of its load is left
abbrev pub prepared : Left → State → List ℕ → List ℕ
prepared FirstArea s bytes = with_left HeaderChunk s (with_left FirstArea s bytes)
prepared HeaderChunk s bytes = with_left HeaderChunk s bytes
prepared Tail s bytes = with_left Tail s bytes
prepared Nothing s bytes = bytes

-- no chunk but the header and one area is written
pub record ChangesFront (chunk a : ℕ) (old new : List ℕ) : Type 0 where
  pub len : length new ≡ length old
  pub rest : (n : ℕ) → n ≢ 0 → n ≢ area_place chunk a → chunk_at chunk new n ≡ chunk_at chunk old n

-- what a snapshot shows that is taken over a store with these bytes: the origin over a fresh one, and over a written one
-- the chunks that it has in place of the origin's
abbrev pub shown_as : List ℕ → List ℕ → Result Found Refusal → List ℕ
shown_as origin bytes (Ok Fresh) = origin
shown_as origin bytes (Ok (Header chunk)) = picture chunk origin bytes
shown_as origin bytes (Err refusal) = origin

abbrev pub shown_array : List ℕ → List ℕ → List ℕ
shown_array origin bytes = shown_as origin bytes (found_in (sector_at bytes 0))

-- To be believed: `run`'s output, a volume's steps or its attach are said in these words.
-- Which chunks of another snapshot the pairs of a merge touch: those the merge waits for. This project's own.
use Rattle.std.specs.Prelude.{◌==◌, ◌&&◌, not, ℕ, ◌*◌, Bool, List, reverse}
use Rattle.std.specs.List.{list_any, flat_map}
use Rattle.std.specs.Option.{is_some}
use Rattle.sector.specs.declared.pair.Pair.{Pair}
use Rattle.chunk.specs.Pieces.{chunks_over}
use Rattle.cow_format.specs.Picture.{place_of}
use Rattle.in_flight.specs.Copies.{count_of}
use Rattle.volume_laws.specs.Books.{SnapBooks}

-- it has neither the chunk nor a copy of it under way
abbrev pub lacks_chunk : ℕ → SnapBooks → Bool
lacks_chunk c s = not (is_some (place_of s.pairs c)) && not (list_any (λ p. p.pair.old == c) s.copies)

-- The chunks of `own` sectors that the pairs of a merge touch, whose chunks have so many, on an origin of so many sectors:
-- those of the last pair stand last, and of each pair the lowest last, since a merge takes them from the back. One that two
-- pairs touch stands there twice.
abbrev pub touched_by : ℕ → ℕ → ℕ → List Pair → List ℕ
touched_by own chunk sectors pairs = flat_map (λ q. reverse (chunks_over own (chunk * q.old) (count_of chunk sectors q.old))) pairs

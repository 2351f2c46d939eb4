-- To be believed: `run`'s output, a volume's steps or its attach are said in these words.
-- A range cut at the borders of chunks, as device-mapper cuts a request.
use Rattle.std.specs.Prelude.{◌≡◌, ℕ, ◌+◌, ◌-◌, ◌*◌, ◌/◌, ◌<◌, ◌==◌, min, max, List, [], ◌∷◌, length, map, All, if◌then◌else◌}
use Rattle.std.specs.List.{range_with_len}
use Rattle.sector.specs.declared.range.Range.{Range}

-- a run of sectors of a device of so many sectors: what a range says
pub record Span : Type 0 where
  pub first : ℕ
  pub count : ℕ
  pub size : ℕ

abbrev pub span_of : Range → Span
span_of range = record { first = range.first; count = range.count; size = range.size }

-- the sectors of a span that lie in chunk c
abbrev pub part_in : ℕ → Span → ℕ → Span
part_in chunk span c =
    let from = max span.first (chunk * c) in
    record { first = from; count = min (span.first + span.count) (chunk * (c + 1)) - from; size = span.size }

-- how many chunks a span touches
abbrev pub touched : ℕ → Span → ℕ
touched chunk span = if span.count == 0 then 0 else (span.first + span.count - 1) / chunk - span.first / chunk + 1

-- the chunks of this size that so many sectors touch from this one on, in order
abbrev pub chunks_over : ℕ → ℕ → ℕ → List ℕ
chunks_over chunk first count = range_with_len (first / chunk) (touched chunk (record { first = first; count = count; size = first + count }))

-- one piece for each chunk that the span touches, in order
unfoldable pub pieces_of : ℕ → Span → List Span
pieces_of chunk span = map (part_in chunk span) (range_with_len (span.first / chunk) (touched chunk span))

-- one after the other without a gap, from sector a to sector b
abbrev pub Join : ℕ → ℕ → List Span → Type 0
Join a b [] = a ≡ b
Join a b (piece ∷ pieces) = (piece.first ≡ a) × Join (a + piece.count) b pieces

-- all its sectors lie in one chunk, and there is one at least
pub record IsInOneChunk (chunk : ℕ) (piece : Span) : Type 0 where
  pub some : 0 < piece.count
  pub one : (piece.first + piece.count - 1) / chunk ≡ piece.first / chunk

-- A span is cut into these pieces: they join to it, each lies in one chunk, and each but the first in the chunk
-- after that of the one before it.
pub record AreCutFrom (chunk : ℕ) (span : Span) (pieces : List Span) : Type 0 where
  pub join : Join span.first (span.first + span.count) pieces
  pub inside : All (IsInOneChunk chunk) pieces
  pub in_turn : map (λ piece. piece.first / chunk) pieces ≡ range_with_len (span.first / chunk) (length pieces)
  pub sizes : All (λ piece. piece.size ≡ span.size) pieces

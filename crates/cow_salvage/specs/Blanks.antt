-- To be believed: what a salvage writes is said in these words.
-- Bytes of which some sectors are not known, and count as zeros.
use Rattle.std.specs.Prelude.{ℕ, ◌/◌, List, length, map, if◌then◌else◌, slice_index, Option, Some, None}
use Rattle.std.specs.List.{range_with_len}
use Rattle.cow_salvage.specs.declared.span.Span.{Span}
use Rattle.cow_salvage.specs.Spans.{is_in}

-- byte i, or 0 where its sector is blank
abbrev pub byte_or_blank : List Span → List ℕ → ℕ → ℕ
byte_or_blank spans bytes i = if is_in spans (i / 512) then 0 else slice_index bytes i

-- the bytes with zeros in the sectors of these spans
unfoldable pub blanked : List Span → List ℕ → List ℕ
blanked spans bytes = map (byte_or_blank spans bytes) (range_with_len 0 (length bytes))

-- where they are known
abbrev pub known_blanked : List Span → Option (List ℕ) → Option (List ℕ)
known_blanked spans None = None
known_blanked spans (Some bytes) = Some (blanked spans bytes)

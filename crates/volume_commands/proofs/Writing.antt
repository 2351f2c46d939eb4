-- A write between two of its pieces, and where it ends.
use Rattle.std.proofs.Common.{◌≡◌, inl, inr, ℕ, ◌+◌, ◌-◌, ◌*◌, ◌<◌, ◌≤◌, true, List, [], ◌∷◌, Option, Some, None, refl, length, take, drop, sym, ◌∙◌, ap, subst, arith, length-take, length-drop, drop-drop}
use Rattle.sector.specs.declared.range.Range.{Range}
use Rattle.sector.specs.declared.refusal.Refusal.{Refusal}
use Rattle.device.specs.Layers.{Layer}
use Rattle.chunk.specs.Pieces.{Span, span_of, pieces_of}
use Rattle.plain_machine.specs.declared.request.Dev.{Dev}
use Rattle.plain_machine.specs.declared.request.Reply.TheVariants.{Written}
use Rattle.whole_commands.specs.Snaps.{Volume}
use Rattle.whole_commands.specs.Commands.{write_pieces, written}
use Rattle.whole_commands.specs.Merges.{Merge, Merged, write_parts, written_through}
use Rattle.whole_commands.specs.Beside.{served_by, chunk_by, chunk_beside, written_beside, written_first_beside}
use Rattle.volume.specs.Volumed.{Volumed}
use Rattle.volume_commands.specs.Rested.{rested_of, merged_of, IsSettled, has_dev}
use Rattle.volume_commands.specs.Commands.{IsDoneBy, IsWriteRefused}
use Rattle.volume_commands.specs.Serving.{part_written, IsPieceDone, IsPieceRefused}
use Rattle.volume_commands.proofs.WriteRuns.{answer, parts_written, served_parts, WritesTo, writes_more, writes_all, writes_failed, writes_first, writes_fewer}

-- the bytes of one piece
pub part_is : (from count : ℕ) (bytes : List ℕ) → take (from + count * 512 - from) (drop from bytes) ≡ take (512 * count) (drop from bytes)
part_is from count bytes = ap (λ n. take n (drop from bytes)) (omega arith)

pub part_fits : (from count total : ℕ) (bytes : List ℕ) → length bytes ≡ 512 * total → from + count * 512 ≤ 512 * total → length (take (from + count * 512 - from) (drop from bytes)) ≡ 512 * count
part_fits from count total bytes len le = simp (length-take, length-drop) (omega (arith, len, le))

-- where what is left of the bytes is what is behind those that were written: a part that is not empty lies in it, and is the
-- same, and so it stays behind the part
pub left_inside : (from to : ℕ) (left bytes : List ℕ) → drop from left ≡ drop from bytes → from < to → to ≤ length bytes → to ≤ length left
left_inside from to left bytes same less within =
    let len : length left - from ≡ length bytes - from = sym (length-drop from left) ∙ ap length same ∙ length-drop from bytes in
    omega (arith, len, less, within)

pub left_part : (from to : ℕ) (left bytes : List ℕ) → drop from left ≡ drop from bytes → take (to - from) (drop from left) ≡ take (to - from) (drop from bytes)
left_part from to left bytes same = ap (λ (rest : List ℕ). take (to - from) rest) same

pub left_behind : (from more : ℕ) (left bytes after : List ℕ) → drop from left ≡ drop from bytes → drop (from + more) after ≡ drop (from + more) left → drop (from + more) after ≡ drop (from + more) bytes
left_behind from more left bytes after same stays =
    stays ∙ sym (drop-drop more from left) ∙ ap (λ (rest : List ℕ). drop more rest) same ∙ drop-drop more from bytes

-- a write, and its first pieces, by all their parts
whole_by : (dev : Dev) (span : Span) (bytes : List ℕ) (o : Option Merge) (v : Volume)
    → served_by (written dev span bytes) (written_through dev span bytes) o v ≡ served_by (write_pieces dev (pieces_of (chunk_by o v) span) bytes) (write_parts dev (pieces_of (chunk_by o v) span) bytes) o v
unfolding written written_through
whole_by dev span bytes None v = refl
whole_by dev span bytes (Some g) v = refl

pub write_whole : (dev : Dev) (span : Span) (bytes : List ℕ) (m : Merged) → written_beside dev span bytes m ≡ parts_written dev (pieces_of (chunk_beside m) span) bytes m
unfolding written_beside
write_whole dev span bytes m = whole_by dev span bytes m.merge m.volume ∙ served_parts dev (pieces_of (chunk_beside m) span) bytes m

first_by : (count : ℕ) (dev : Dev) (span : Span) (bytes : List ℕ) (o : Option Merge) (v : Volume)
    → written_first_beside count dev span bytes (record { volume = v; merge = o }) ≡ served_by (write_pieces dev (take count (pieces_of (chunk_by o v) span)) bytes) (write_parts dev (take count (pieces_of (chunk_by o v) span)) bytes) o v
first_by count dev span bytes None v = refl
first_by count dev span bytes (Some g) v = refl

pub write_first : (count : ℕ) (dev : Dev) (span : Span) (bytes : List ℕ) (m : Merged) → written_first_beside count dev span bytes m ≡ parts_written dev (take count (pieces_of (chunk_beside m) span)) bytes m
write_first count dev span bytes m = first_by count dev span bytes m.merge m.volume ∙ served_parts dev (take count (pieces_of (chunk_beside m) span)) bytes m

module _ {B : Type 0} (contents : B → List ℕ) (layers : B → List Layer) (size : B → ℕ) (dev : Dev) (range : Range) (chunk : ℕ) (bytes : List ℕ) (from : ℕ) (rest rest' : List Span) (piece : Range) (old v new : Volumed B) where
  abbrev Before : Type 0
  Before = IsSettled layers (rested_of old)

  abbrev pub WrittenSo : ℕ → List Span → Volumed B → Type 0
  WrittenSo at pieces w = WritesTo dev (IsSettled layers (rested_of old)) (pieces_of chunk (span_of range)) bytes at pieces (merged_of contents layers (rested_of old)) (merged_of contents layers (rested_of w))

  module _ (so : WrittenSo from rest v) (e : rest ≡ span_of piece ∷ rest') (stays : IsSettled layers (rested_of old) → IsSettled layers (rested_of v)) where
    -- one piece more
    pub wrote_more : (part : List ℕ) → part ≡ take (512 * piece.count) (drop from bytes) → IsPieceDone contents layers (part_written dev (span_of piece) part) (rested_of v) (rested_of new) → WrittenSo (from + piece.count * 512) rest' new
    wrote_more part is done =
        writes_more dev Before (pieces_of chunk (span_of range)) rest rest' bytes from (span_of piece) (merged_of contents layers (rested_of old)) (merged_of contents layers (rested_of v)) (merged_of contents layers (rested_of new)) done.0 so e done.1
        (λ settled. ap (λ bs. part_written dev (span_of piece) bs (merged_of contents layers (rested_of v))) (sym is) ∙ done.2 (stays settled))

    -- one that is not done
    pub wrote_refused : (part : List ℕ) (refusal : Refusal) → part ≡ take (512 * piece.count) (drop from bytes) → has_dev dev (rested_of old) ≡ true → chunk_beside (merged_of contents layers (rested_of old)) ≡ chunk
        → IsPieceRefused contents layers (part_written dev (span_of piece) part) refusal (rested_of v) (rested_of new) → IsWriteRefused contents layers dev (span_of range) bytes refusal (rested_of old) (rested_of new)
    wrote_refused part refusal is there least refused = elim refused [
      | inl failed ↦ inr (inl (
        there,
        (
          failed.0,
          failed.1,
          λ settled. write_whole dev (span_of range) bytes (merged_of contents layers (rested_of old)) ∙ ap (λ n. parts_written dev (pieces_of n (span_of range)) bytes (merged_of contents layers (rested_of old))) least
              ∙ writes_failed dev Before (pieces_of chunk (span_of range)) rest rest' bytes from (span_of piece) (merged_of contents layers (rested_of old)) (merged_of contents layers (rested_of v)) (merged_of contents layers (rested_of new)) failed.0 so e
              (λ l. ap (λ bs. part_written dev (span_of piece) bs (merged_of contents layers (rested_of v))) (sym is) ∙ failed.2 (stays l)) settled,
        ),
      ))
      | inr starved ↦ inr (inr (
        there,
        starved.0,
        (
          length so.passed,
          subst (λ (n : ℕ). length so.passed < length (pieces_of n (span_of range))) (sym least) (writes_fewer dev Before (pieces_of chunk (span_of range)) rest rest' bytes from (span_of piece) (merged_of contents layers (rested_of old)) (merged_of contents layers (rested_of v)) so e),
          λ settled. write_first (length so.passed) dev (span_of range) bytes (merged_of contents layers (rested_of old)) ∙ ap (λ n. parts_written dev (take (length so.passed) (pieces_of n (span_of range))) bytes (merged_of contents layers (rested_of old))) least
              ∙ writes_first dev Before (pieces_of chunk (span_of range)) rest bytes from (merged_of contents layers (rested_of old)) (merged_of contents layers (rested_of v)) so settled
              ∙ ap (λ (w : Merged). answer w Written) (sym starved.1),
        ),
      ))
    ]

  -- all of it
  pub wrote_all : WrittenSo from rest v → rest ≡ [] → chunk_beside (merged_of contents layers (rested_of old)) ≡ chunk → IsDoneBy contents layers (written_beside dev (span_of range) bytes) Written (rested_of old) (rested_of v)
  wrote_all so none least = λ settled.
      write_whole dev (span_of range) bytes (merged_of contents layers (rested_of old)) ∙ ap (λ n. parts_written dev (pieces_of n (span_of range)) bytes (merged_of contents layers (rested_of old))) least
      ∙ writes_all dev Before (pieces_of chunk (span_of range)) rest bytes from (merged_of contents layers (rested_of old)) (merged_of contents layers (rested_of v)) so none settled

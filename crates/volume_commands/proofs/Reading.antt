-- A read between two of its pieces, and where it ends.
use Rattle.std.proofs.Common.{◌≡◌, inl, inr, ℕ, ◌+◌, ◌*◌, ◌<◌, ◌≤◌, Bool, true, false, List, [], ◌∷◌, length, take, Option, Some, None, refl, sym, ◌∙◌, ap, subst, arith, length-take, if◌then◌else◌}
use Rattle.std.specs.Prelude.{◌==◌, ◌/◌, ◌-◌, min}
use Rattle.std.proofs.lemmas.List.{take_all, length-map}
use Rattle.std.proofs.lemmas.List.FromFn.{length-range_with_len}
use Rattle.std.specs.List.{range_with_len}
use Rattle.std.proofs.lemmas.Bool.{cases_Bool, cond-true, cond-false}
use Rattle.sector.specs.Bytes.{sectors_at}
use Rattle.sector.specs.declared.range.Range.{Range}
use Rattle.sector.specs.declared.refusal.Refusal.{Refusal}
use Rattle.sector.specs.declared.refusal.Refusal.TheVariants.{NoMemory}
use Rattle.device.specs.Layers.{Layer}
use Rattle.device.specs.declared.operation.Operation.TheVariants.{Reads}
use Rattle.chunk.specs.Pieces.{Span, span_of, pieces_of, part_in, touched}
use Rattle.cow_format.specs.Pairs.{pairs_of}
use Rattle.cow_format.specs.Picture.{place_of}
use Rattle.plain_machine.specs.declared.request.Dev.{Dev}
use Rattle.plain_machine.specs.declared.request.Dev.TheVariants.{Origin, Snap as ToSnap}
use Rattle.plain_machine.specs.declared.request.Reply.{Reply}
use Rattle.plain_machine.specs.declared.request.Reply.TheVariants.{Data}
use Rattle.whole_commands.specs.Devices.{Device, answers, read_reply}
use Rattle.whole_commands.specs.Snaps.{Snap, Volume}
use Rattle.whole_commands.specs.Pieces.{read_place, read_snap, in_snap, Answered}
use Rattle.whole_commands.specs.Commands.{bytes_in, read_piece, read_pieces, read}
use Rattle.whole_commands.specs.Merges.{Merge, Merged, Merging, place_in, read_at, read_parts, read_through}
use Rattle.whole_commands.specs.Beside.{served_by, chunk_by, chunk_beside, read_beside, read_first_beside}
use Rattle.chunk.proofs.Runs.{StandsAt}
use Rattle.volume.specs.Volumed.{Volumed}
use Rattle.volume_commands.specs.Rested.{rested_of, merged_of, IsSettled, has_dev}
use Rattle.volume_commands.specs.Commands.{IsDoneBy, IsReadRefused}
use Rattle.volume_commands.specs.Serving.{CanAsk, part_read, IsPieceRead, IsPieceRefused}
use Rattle.volume_commands.proofs.WriteRuns.{answer}
use Rattle.volume_commands.proofs.Going.{GoesSo}
use Rattle.volume_commands.proofs.ReadRuns.{parts_read, served_parts, ReadsTo, reads_more, reads_all, reads_failed, reads_first, reads_fewer}
use Rattle.whole_commands.specs.Saving.{Saving}

-- a reply has at most so many bytes
abbrev HasAtMost : ℕ → Reply → Type 0
HasAtMost count reply = length (bytes_in reply) ≤ 512 * count

reply_short : (device : Device) (first count : ℕ) → HasAtMost count (read_reply device first count)
reply_short device first count = elim (cases_Bool (answers device (Reads first count))) [
  | inl ok ↦ rw ok (short device.bytes)
  | inr failed ↦ rw failed (omega arith)
]
  where
    short : (bytes : List ℕ) → length (sectors_at bytes first count) ≤ 512 * count
    short bytes = simp length-take (omega arith)

place_short : (piece : Span) (origin : Device) (s : Snap) (o : Option ℕ) → HasAtMost piece.count (read_place piece origin s o).reply
place_short piece origin s None = reply_short origin piece.first piece.count
place_short piece origin s (Some n) = reply_short s.store _ piece.count

snap_short : (piece : Span) (origin : Device) (s : Snap) → HasAtMost piece.count (read_snap piece origin s).reply
snap_short piece origin s = elim (cases_Bool s.live) [
  | inl live ↦ subst (λ (a : Answered Saving). HasAtMost piece.count a.reply) (sym (cond-true _ _ _ live)) (place_short piece origin s (place_of (pairs_of s.chunk s.store.bytes) (piece.first / s.chunk)))
  | inr dead ↦ subst (λ (a : Answered Saving). HasAtMost piece.count a.reply) (sym (cond-false _ _ _ dead)) (omega arith)
]

in_short : (number : ℕ) (piece : Span) (origin : Device) (snaps : List Snap) → HasAtMost piece.count (in_snap number (read_snap piece) origin snaps).reply
in_short number piece origin [] = omega arith
in_short number piece origin (s ∷ snaps) = elim (cases_Bool (s.number == number)) [
  | inl this ↦ rw this (snap_short piece origin s)
  | inr other ↦ rw other (in_short number piece origin snaps)
]

-- a piece that is read has no more bytes than its sectors
pub piece_short : (dev : Dev) (piece : Span) (v : Volume) → HasAtMost piece.count (read_piece dev piece v).reply
piece_short Origin piece v = reply_short v.origin piece.first piece.count
piece_short (ToSnap number) piece v = in_short number piece v.origin v.snaps

-- nor one that is read beside a merge
merging_short : (piece : Span) (m : Merging) (o : Option ℕ) → HasAtMost piece.count (read_at o piece m).reply
merging_short piece m None = reply_short m.volume.origin piece.first piece.count
merging_short piece m (Some n) = reply_short m.merge.store _ piece.count

part_short : (dev : Dev) (piece : Span) (o : Option Merge) (v : Volume) → HasAtMost piece.count (part_read dev piece (record { volume = v; merge = o })).reply
part_short dev piece None v = piece_short dev piece v
part_short Origin piece (Some g) v = merging_short piece (record { volume = v; merge = g }) (place_in piece.first g)
part_short (ToSnap number) piece (Some g) v = piece_short (ToSnap number) piece v

-- all that was read
pub all_taken : (dev : Dev) (piece : Span) (v w : Merged) (bytes : List ℕ) → part_read dev piece v ≡ answer w (Data bytes) → length bytes ≤ 512 * piece.count
all_taken dev piece v w bytes e = subst (λ (a : Answered Merged). HasAtMost piece.count a.reply) e (part_short dev piece v.merge v.volume)

-- a read, and its first pieces, by all their parts
whole_by : (dev : Dev) (span : Span) (o : Option Merge) (v : Volume)
    → served_by (read dev span) (read_through dev span) o v ≡ served_by (read_pieces dev (pieces_of (chunk_by o v) span) []) (read_parts dev (pieces_of (chunk_by o v) span) []) o v
unfolding read read_through
whole_by dev span None v = refl
whole_by dev span (Some g) v = refl

pub read_whole : (dev : Dev) (span : Span) (m : Merged) → read_beside dev span m ≡ parts_read dev (pieces_of (chunk_beside m) span) [] m
unfolding read_beside
read_whole dev span m = whole_by dev span m.merge m.volume ∙ served_parts dev (pieces_of (chunk_beside m) span) [] m

first_by : (count : ℕ) (dev : Dev) (span : Span) (o : Option Merge) (v : Volume)
    → read_first_beside count dev span (record { volume = v; merge = o }) ≡ served_by (read_pieces dev (take count (pieces_of (chunk_by o v) span)) []) (read_parts dev (take count (pieces_of (chunk_by o v) span)) []) o v
first_by count dev span None v = refl
first_by count dev span (Some g) v = refl

pub read_first_parts : (count : ℕ) (dev : Dev) (span : Span) (m : Merged) → read_first_beside count dev span m ≡ parts_read dev (take count (pieces_of (chunk_beside m) span)) [] m
read_first_parts count dev span m = first_by count dev span m.merge m.volume ∙ served_parts dev (take count (pieces_of (chunk_beside m) span)) [] m

module _ {B : Type 0} (contents : B → List ℕ) (layers : B → List Layer) (size : B → ℕ) (dev : Dev) (range : Range) (chunk : ℕ) (out out' : List ℕ) (rest rest' : List Span) (piece : Range) (old v new : Volumed B) where
  abbrev Before : Type 0
  Before = IsSettled layers (rested_of old)

  abbrev pub ReadSo : List Span → List ℕ → Volumed B → Type 0
  ReadSo pieces bytes w = ReadsTo dev (IsSettled layers (rested_of old)) (pieces_of chunk (span_of range)) pieces bytes (merged_of contents layers (rested_of old)) (merged_of contents layers (rested_of w))

  module _ (so : ReadSo rest out v) (e : rest ≡ span_of piece ∷ rest') (stays : IsSettled layers (rested_of old) → IsSettled layers (rested_of v)) where
    -- one piece more
    pub got_more : IsPieceRead contents layers (part_read dev (span_of piece)) out out' (rested_of v) (rested_of new) → ReadSo rest' out' new
    got_more done =
        reads_more dev Before (pieces_of chunk (span_of range)) rest rest' out out' (span_of piece) (merged_of contents layers (rested_of old)) (merged_of contents layers (rested_of v)) (merged_of contents layers (rested_of new)) done.0 so e done.1
        (λ settled. done.2 (stays settled)) (λ settled. done.3 (stays settled))

    -- one that is not done
    pub got_refused : (refusal : Refusal) → has_dev dev (rested_of old) ≡ true → chunk_beside (merged_of contents layers (rested_of old)) ≡ chunk
        → IsPieceRefused contents layers (part_read dev (span_of piece)) refusal (rested_of v) (rested_of new) → IsReadRefused contents layers dev (span_of range) refusal (rested_of old) (rested_of new)
    got_refused refusal there least refused = elim refused [
      | inl failed ↦ inr (inl (
        there,
        (
          failed.0,
          failed.1,
          λ settled. read_whole dev (span_of range) (merged_of contents layers (rested_of old)) ∙ ap (λ n. parts_read dev (pieces_of n (span_of range)) [] (merged_of contents layers (rested_of old))) least
              ∙ reads_failed dev Before (pieces_of chunk (span_of range)) rest rest' out (span_of piece) (merged_of contents layers (rested_of old)) (merged_of contents layers (rested_of v)) (merged_of contents layers (rested_of new)) failed.0 so e
              (λ l. failed.2 (stays l)) settled,
        ),
      ))
      | inr starved ↦ inr (inr (
        there,
        starved.0,
        (
          length so.passed,
          out,
          subst (λ (n : ℕ). length so.passed < length (pieces_of n (span_of range))) (sym least) (reads_fewer dev Before (pieces_of chunk (span_of range)) rest rest' out (span_of piece) (merged_of contents layers (rested_of old)) (merged_of contents layers (rested_of v)) so e),
          λ settled. read_first_parts (length so.passed) dev (span_of range) (merged_of contents layers (rested_of old)) ∙ ap (λ n. parts_read dev (take (length so.passed) (pieces_of n (span_of range))) [] (merged_of contents layers (rested_of old))) least
              ∙ reads_first dev Before (pieces_of chunk (span_of range)) rest out (merged_of contents layers (rested_of old)) (merged_of contents layers (rested_of v)) so settled
              ∙ ap (λ (w : Merged). answer w (Data out)) (sym starved.1),
        ),
      ))
    ]

  -- all of it
  pub got_all : ReadSo rest out v → rest ≡ [] → chunk_beside (merged_of contents layers (rested_of old)) ≡ chunk → IsDoneBy contents layers (read_beside dev (span_of range)) (Data out) (rested_of old) (rested_of v)
  got_all so none least = λ settled.
      read_whole dev (span_of range) (merged_of contents layers (rested_of old)) ∙ ap (λ n. parts_read dev (pieces_of n (span_of range)) [] (merged_of contents layers (rested_of old))) least
      ∙ reads_all dev Before (pieces_of chunk (span_of range)) rest out (merged_of contents layers (rested_of old)) (merged_of contents layers (rested_of v)) so none settled

-- what is taken of a piece's bytes is all of them
pub whole_taken : (dev : Dev) (piece : Span) (v w : Merged) (bytes slice : List ℕ) (len n : ℕ) → slice ≡ bytes → len ≡ length bytes → n ≡ min len (piece.count * 512) → part_read dev piece v ≡ answer w (Data bytes) → take n slice ≡ bytes
whole_taken dev piece v w bytes slice len n same long is e =
    let le = all_taken dev piece v w bytes e in
    let count : n ≡ length bytes = omega (arith, is, le, long) in
    ap (λ (bs : List ℕ). take n bs) same ∙ take_all n bytes (omega (arith, count))

-- So far: where the pieces stand, from which byte of the command on, and how many bytes were taken.
pub record IsUnderWay {B : Type 0} (contents : B → List ℕ) (layers : B → List Layer) (size : B → ℕ) (chunk : ℕ) (range : Range) (pieces : List Span) (taken room : ℕ) (old v : Volumed B) : Type 0 where
  pub from : ℕ
  pub stands : StandsAt chunk range.first (range.first + range.count) from pieces
  pub so : GoesSo contents layers size from old v
  pub few : taken ≤ from
  pub enough : 512 * range.count ≤ room

pos_pieces : (chunk : ℕ) (span : Span) → 0 < span.count → 0 < length (pieces_of chunk span)
unfolding pieces_of
pos_pieces chunk span some =
    let n : ℕ = touched chunk span in
    let none : (span.count == 0) ≡ false = search (arith) in
    let many : 0 < n = subst (λ (b : Bool). 0 < (if b then 0 else (span.first + span.count - 1) / chunk - span.first / chunk + 1)) (sym none) (omega arith) in
    omega (arith, many, length-map (range_with_len (span.first / chunk) n) (part_in chunk span), length-range_with_len (span.first / chunk) n)

-- memory was refused at once
pub refused_first : {B : Type 0} (contents : B → List ℕ) (layers : B → List Layer) (size : B → ℕ) (dev : Dev) (range : Range) (v : Volumed B) → CanAsk size dev range v → IsReadRefused contents layers dev (span_of range) NoMemory (rested_of v) (rested_of v)
refused_first contents layers size dev range v can =
    inr (inr (can.there, refl, (0, [], pos_pieces (chunk_beside (merged_of contents layers (rested_of v))) (span_of range) can.some, λ settled. read_first_parts 0 dev (span_of range) (merged_of contents layers (rested_of v)))))

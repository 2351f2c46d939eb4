-- A range that lies in one chunk is one piece, and what its read answers is that piece's.
use Rattle.std.proofs.Common.{◌≡◌, ℕ, ◌+◌, ◌-◌, ◌%◌, ◌<◌, ◌≤◌, true, List, [], ◌∷◌, refl, sym, ◌∙◌, ap, arith}
use Rattle.std.specs.Prelude.{IfErr, IfOk, Result, Ok, Err}
use Rattle.std.specs.List.{All}
use Rattle.sector.specs.declared.range.Range.{Range}
use Rattle.sector.specs.declared.refusal.Refusal.{Refusal}
use Rattle.device.specs.Layers.{Layer}
use Rattle.chunk.specs.Sizes.{is_chunk}
use Rattle.chunk.specs.Pieces.{Span, span_of, pieces_of}
use Rattle.chunk.proofs.Cuts.{pieces_first, pieces_none}
use Rattle.chunk.proofs.Whole.{cut_pieces}
use Rattle.chunk.proofs.Runs.{IsFirstPiece, first_piece, stands_first}
use Rattle.plain_machine.specs.declared.request.Dev.{Dev}
use Rattle.plain_machine.specs.declared.request.Op.TheVariants.{Read}
use Rattle.plain_machine.specs.declared.request.Reply.TheVariants.{Data}
use Rattle.whole_commands.specs.Beside.{read_beside}
use Rattle.volume.specs.Volumed.{Volumed, piece_with}
use Rattle.volume_commands.specs.Rested.{rested_of, merged_of, IsSettled}
use Rattle.volume_commands.specs.Between.{IsBetween}
use Rattle.volume_commands.specs.Commands.{IsDoneBy, IsReadRefused}
use Rattle.volume_commands.specs.Serving.{CanAsk, CanServe, IsAsLarge, part_read, IsPieceRead, IsPieceRefused}
use Rattle.volume_commands.proofs.Going.{chunk_least, goes_can, goes_none}
use Rattle.volume_commands.proofs.ReadRuns.{reads_none}
use Rattle.volume_commands.proofs.Reading.{got_more, got_refused, got_all}

pub one_piece : (chunk : ℕ) (s : Span) → 0 < chunk → 0 < s.count → s.first % chunk + s.count ≤ chunk → pieces_of chunk s ≡ s ∷ []
one_piece chunk s some full fits =
    let rest : Span = record { first = s.first + s.count; count = s.count - s.count; size = s.size } in
    pieces_first chunk s s.count some full (omega (arith, fits)) ∙ ap (λ (ps : List Span). s ∷ ps) (pieces_none chunk rest (omega arith))

alone_first : (chunk : ℕ) (range : Range) → 0 < chunk → pieces_of chunk (span_of range) ≡ span_of range ∷ [] → IsFirstPiece chunk range.first (range.first + range.count) 0 (span_of range)
alone_first chunk range some one =
    let s : Span = span_of range in
    first_piece chunk s.first (s.first + s.count) 0 (pieces_of chunk s) [] s (stands_first chunk s (pieces_of chunk s) (pieces_of chunk s) (cut_pieces chunk s (pieces_of chunk s) refl some) refl) one

module _ {B : Type 0} (contents : B → List ℕ) (layers : B → List Layer) (size : B → ℕ) (dev : Dev) (range : Range) (old : Volumed B) (one : pieces_of (piece_with old.merge old.snaps) (span_of range) ≡ span_of range ∷ []) where
  -- it can be served
  pub alone_can : CanAsk size dev range old → IsBetween old → 0 < piece_with old.merge old.snaps → All (IsAsLarge (piece_with old.merge old.snaps)) old.snaps → is_chunk (piece_with old.merge old.snaps) ≡ true → CanServe size dev Read range old
  alone_can can between some large chunk = goes_can contents layers size dev Read range range 0 old old can (goes_none contents layers size old between) chunk large (alone_first (piece_with old.merge old.snaps) range some one) tt

  module _ (new : Volumed B) where
    -- its bytes are what the range reads
    pub alone_read : (bytes : List ℕ) → IsPieceRead contents layers (part_read dev (span_of range)) [] bytes (rested_of old) (rested_of new) → IsDoneBy contents layers (read_beside dev (span_of range)) (Data bytes) (rested_of old) (rested_of new)
    alone_read bytes got =
        let chunk : ℕ = piece_with old.merge old.snaps in
        let rest : List Span = span_of range ∷ [] in
        let begun = reads_none dev (IsSettled layers (rested_of old)) (pieces_of chunk (span_of range)) rest (merged_of contents layers (rested_of old)) (sym one) in
        got_all contents layers size dev range chunk bytes bytes [] [] range old new new
        (got_more contents layers size dev range chunk [] bytes rest [] range old old new begun refl (λ s. s) got) refl (chunk_least contents layers old)

    -- and why it is not done, why the range is not
    pub alone_refused : CanAsk size dev range old → (refusal : Refusal) → IsPieceRefused contents layers (part_read dev (span_of range)) refusal (rested_of old) (rested_of new) → IsReadRefused contents layers dev (span_of range) refusal (rested_of old) (rested_of new)
    alone_refused can refusal refused =
        let chunk : ℕ = piece_with old.merge old.snaps in
        let rest : List Span = span_of range ∷ [] in
        let begun = reads_none dev (IsSettled layers (rested_of old)) (pieces_of chunk (span_of range)) rest (merged_of contents layers (rested_of old)) (sym one) in
        got_refused contents layers size dev range chunk [] [] rest [] range old old new begun refl (λ s. s) refusal can.there (chunk_least contents layers old) refused

-- what follows of an answer's value
pub ok_so : {A E : Type 0} (P Q : A → Type 0) (r : Result A E) → ((x : A) → P x → Q x) → IfOk r P → IfOk r Q
ok_so P Q (Ok x) f h = f x h
ok_so P Q (Err e) f h = tt

-- and of its refusal
pub err_so : {A E : Type 0} (P Q : E → Type 0) (r : Result A E) → ((e : E) → P e → Q e) → IfErr r P → IfErr r Q
err_so P Q (Ok x) f h = tt
err_so P Q (Err e) f h = f e h

-- A whole command, piece by piece, leaves what the settled machine says.
use Rattle.std.proofs.Common.{◌≡◌, ℕ, ◌+◌, ◌*◌, ◌≤◌, true, List, [], ◌∷◌, ◌++◌, length, take, drop, map, Some, arith, ap, ◌∙◌, sym, subst, length-take, length-drop}
use Rattle.sector.specs.declared.range.Range.{Range}
use Rattle.chunk.specs.Pieces.{Span, span_of, Join, IsInOneChunk, AreCutFrom, pieces_of}
use Rattle.plain_machine.specs.declared.request.Request.{Request}
use Rattle.plain_machine.specs.declared.request.Dev.{Dev}
use Rattle.plain_machine.specs.declared.request.Op.{Op}
use Rattle.plain_machine.specs.declared.request.Op.TheVariants.{Read, Write}
use Rattle.plain_machine.specs.declared.request.Reply.{Reply}
use Rattle.plain_machine.specs.declared.request.Reply.TheVariants.{Data, Written, Flushed, Refused}
use Rattle.chunk.specs.Sizes.{is_chunk}
use Rattle.chunk.proofs.Limits.{is_chunk-some}
use Rattle.chunk.proofs.Wider.{wider}
use Rattle.chunk.proofs.PiecePlaces.{join_le, piece_high}
use Rattle.whole_commands.specs.Snaps.{Snap, Volume}
use Rattle.whole_commands.specs.Pieces.{Answered}
use Rattle.whole_commands.specs.Commands.{go_on, bytes_in, write_piece, write_pieces, read_piece, read_pieces, piece_of, written, read}
use Rattle.event_machine.specs.Held.{SnapHeld, Moving}
use Rattle.event_machine.specs.Rest.{IsAtRest}
use Rattle.event_machine.specs.Settles.{SettlesTo}
use Rattle.event_machine.specs.Requests.{volume_of, IsInChunk, IsFit}
use Rattle.whole_commands.specs.Requests.{answered_by, answer_of, FitsRange}
use Rattle.whole_command_laws.specs.Running.{IsDone, GoesOn, IsWritten, IsRead}
use Rattle.whole_commands.proofs.Each.{Each, all_from, each_from}
use Rattle.whole_command_laws.proofs.Requests.{request_settles, settles_one}
use Rattle.whole_commands.proofs.Chunks.{HasChunks, answer_keeps}

-- the sectors of these pieces
abbrev pub counts_of : List Span → ℕ
counts_of [] = 0
counts_of (p ∷ pieces) = p.count + counts_of pieces

-- what a command has left of a volume
pub record IsLeft (sectors chunk : ℕ) (w : Moving) (reply : Reply) (answer : Answered Volume) : Type 0 where
  pub rest : IsAtRest sectors w
  pub chunks : Each (HasChunks chunk) (map (λ (h : SnapHeld). h.snap) w.snaps)
  pub volume : volume_of w ≡ answer.state
  pub replied : reply ≡ answer.reply

-- a piece that lies inside the origin and inside one chunk
pub record FitsPiece (sectors chunk : ℕ) (piece : Span) : Type 0 where
  pub one : IsInOneChunk chunk piece
  pub inside : piece.first + piece.count ≤ sectors

module _ (sectors chunk : ℕ) (allowed : is_chunk chunk ≡ true) where
  pub fits_all : (range : Range) (snaps : List SnapHeld) → IsInOneChunk chunk (span_of range) → Each (HasChunks chunk) (map (λ (h : SnapHeld). h.snap) snaps) → Each (IsInChunk range) snaps
  fits_all range [] one all = tt
  fits_all range (h ∷ snaps) one all =
      (wider chunk h.snap.chunk range.first range.count allowed all.0.0 all.0.1 (piece_high chunk range.first range.count (is_chunk-some chunk allowed) one.some one.one), fits_all range snaps one all.1)

  -- one piece
  piece_left : (number : ℕ) (dev : Dev) (op : Op) (piece : Span) (v mid : Moving) (got : Reply) → IsAtRest sectors v → Each (HasChunks chunk) (map (λ (h : SnapHeld). h.snap) v.snaps) → FitsPiece sectors chunk piece → FitsRange op piece.count → IsDone number dev op piece v mid got →
      IsLeft sectors chunk mid got (answered_by dev op piece (volume_of v))
  piece_left number dev op piece v mid got rest chunks fits bytes done =
      let request : Request = done.request in
      let one : IsInOneChunk chunk (span_of request.range) = subst (IsInOneChunk chunk) (sym done.on_piece) fits.one in
      let inside : request.range.first + request.range.count ≤ sectors = subst (λ (p : Span). p.first + p.count ≤ sectors) (sym done.on_piece) fits.inside in
      let len : FitsRange request.op request.range.count = subst (λ (o : Op). FitsRange o request.range.count) (sym done.asks) (subst (λ (p : Span). FitsRange op p.count) (sym done.on_piece) bytes) in
      let fit : IsFit sectors v.snaps request = record { some = one.some; inside = inside; bytes = len; chunks = all_from (IsInChunk request.range) v.snaps (fits_all request.range v.snaps one chunks) } in
      let to : SettlesTo sectors _ (answer_of request (volume_of v)) = request_settles sectors number request v rest fit in
      let same : mid ≡ to.last = settles_one sectors done.fuel _ mid _ to done.ends done.quiet in
      let is : answer_of request (volume_of v) ≡ answered_by dev op piece (volume_of v) =
      ap (λ d. answered_by d request.op (span_of request.range) (volume_of v)) done.to_dev ∙ ap (λ o. answered_by dev o (span_of request.range) (volume_of v)) done.asks ∙ ap (λ p. answered_by dev op p (volume_of v)) done.on_piece in
      let mk : _ → List Snap → Volume = λ o (ss : List Snap). record { origin = o; snaps = ss } in
      let left : volume_of mid ≡ (answered_by dev op piece (volume_of v)).state =
      ap volume_of same ∙ ap (λ o. mk o (volume_of to.last).snaps) to.origin ∙ ap (mk (answer_of request (volume_of v)).state.origin) to.snaps ∙ ap (λ (x : Answered Volume). x.state) is in
      let some_same : Some got ≡ Some (answer_of request (volume_of v)).reply = sym done.replied ∙ ap (λ (x : Moving). x.replied) same ∙ to.reply in
      let reply_same : got ≡ (answer_of request (volume_of v)).reply = cc in
      record {
        rest = subst (IsAtRest sectors) (sym same) to.rest;
        chunks = subst (λ (x : Volume). Each (HasChunks chunk) x.snaps) (sym left) (answer_keeps chunk dev op piece (volume_of v) chunks);
        volume = left;
        replied = reply_same ∙ ap (λ (x : Answered Volume). x.reply) is;
      }

  -- a piece, and then the rest of the command or its end
  goes_left : (w mid : Moving) (reply got : Reply) (here more : Answered Volume) → IsLeft sectors chunk mid got here → GoesOn got (IsLeft sectors chunk w reply more) ((w ≡ mid) × (reply ≡ got)) → IsLeft sectors chunk w reply (go_on here.reply here more)
  goes_left w mid reply (Data bytes) here more left goes = subst (λ (r : Reply). IsLeft sectors chunk w reply (go_on r here more)) left.replied goes
  goes_left w mid reply Written here more left goes = subst (λ (r : Reply). IsLeft sectors chunk w reply (go_on r here more)) left.replied goes
  goes_left w mid reply Flushed here more left goes = subst (λ (r : Reply). IsLeft sectors chunk w reply (go_on r here more)) left.replied goes
  goes_left w mid reply (Refused failure) here more left goes =
      subst (λ (r : Reply). IsLeft sectors chunk w reply (go_on r here more)) left.replied
      (subst (λ (x : Moving). IsLeft sectors chunk x reply here) (sym goes.0) (subst (λ (r : Reply). IsLeft sectors chunk mid r here) (sym goes.1) left))

  pub goes_as : (got : Reply) (A B E : Type 0) → (A → B) → GoesOn got A E → GoesOn got B E
  goes_as (Data bytes) A B E f goes = f goes
  goes_as Written A B E f goes = f goes
  goes_as Flushed A B E f goes = f goes
  goes_as (Refused failure) A B E f goes = goes

  written_left : (pieces : List Span) (number : ℕ) (dev : Dev) (bytes : List ℕ) (v w : Moving) (reply : Reply) → IsAtRest sectors v → Each (HasChunks chunk) (map (λ (h : SnapHeld). h.snap) v.snaps) → Each (FitsPiece sectors chunk) pieces → length bytes ≡ 512 * counts_of pieces →
      IsWritten number dev pieces bytes v w reply → IsLeft sectors chunk w reply (write_pieces dev pieces bytes (volume_of v))
  written_left [] number dev bytes v w reply rest chunks fits len done = record { rest = rw done.0 rest; chunks = rw done.0 chunks; volume = ap volume_of done.0; replied = done.1 }
  written_left (p ∷ pieces) number dev bytes v w reply rest chunks fits len done =
      let mid : Moving = done.0 in
      let got : Reply = done.1 in
      let front : length (take (512 * p.count) bytes) ≡ 512 * p.count = simp length-take (omega arith) in
      let back : length (drop (512 * p.count) bytes) ≡ 512 * counts_of pieces = simp length-drop (omega arith) in
      let left : IsLeft sectors chunk mid got (write_piece dev p (take (512 * p.count) bytes) (volume_of v)) = piece_left number dev (Write (take (512 * p.count) bytes)) p v mid got rest chunks fits.0 front done.2 in
      goes_left w mid reply got (write_piece dev p (take (512 * p.count) bytes) (volume_of v)) (write_pieces dev pieces (drop (512 * p.count) bytes) (write_piece dev p (take (512 * p.count) bytes) (volume_of v)).state) left
      (goes_as got _ _ ((w ≡ mid) × (reply ≡ got))
      (λ more. subst (λ (x : Volume). IsLeft sectors chunk w reply (write_pieces dev pieces (drop (512 * p.count) bytes) x)) left.volume (written_left pieces (number + 1) dev (drop (512 * p.count) bytes) mid w reply left.rest left.chunks fits.1 back more)) done.3)

  read_left : (pieces : List Span) (number : ℕ) (dev : Dev) (before : List ℕ) (v w : Moving) (reply : Reply) → IsAtRest sectors v → Each (HasChunks chunk) (map (λ (h : SnapHeld). h.snap) v.snaps) → Each (FitsPiece sectors chunk) pieces →
      IsRead number dev pieces before v w reply → IsLeft sectors chunk w reply (read_pieces dev pieces before (volume_of v))
  read_left [] number dev before v w reply rest chunks fits done = record { rest = rw done.0 rest; chunks = rw done.0 chunks; volume = ap volume_of done.0; replied = done.1 }
  read_left (p ∷ pieces) number dev before v w reply rest chunks fits done =
      let mid : Moving = done.0 in
      let got : Reply = done.1 in
      let here : Answered Volume = read_piece dev p (volume_of v) in
      let left : IsLeft sectors chunk mid got (read_piece dev p (volume_of v)) = piece_left number dev Read p v mid got rest chunks fits.0 tt done.2 in
      goes_left w mid reply got (read_piece dev p (volume_of v)) (read_pieces dev pieces (before ++ bytes_in (read_piece dev p (volume_of v)).reply) (read_piece dev p (volume_of v)).state) left
      (goes_as got _ _ ((w ≡ mid) × (reply ≡ got))
      (λ more. subst (λ (r : Reply). IsLeft sectors chunk w reply (read_pieces dev pieces (before ++ bytes_in r) (read_piece dev p (volume_of v)).state)) left.replied
      (subst (λ (x : Volume). IsLeft sectors chunk w reply (read_pieces dev pieces (before ++ bytes_in got) x)) left.volume (read_left pieces (number + 1) dev (before ++ bytes_in got) mid w reply left.rest left.chunks fits.1 more))) done.3)

  -- pieces that join to a span fit
  pub fits_joined : (a b : ℕ) (pieces : List Span) → Join a b pieces → Each (IsInOneChunk chunk) pieces → b ≤ sectors → Each (FitsPiece sectors chunk) pieces
  fits_joined a b [] join one inside = tt
  fits_joined a b (p ∷ pieces) join one inside =
      let le : a + p.count ≤ b = join_le (a + p.count) b pieces join.1 in
      let start : p.first ≡ a = join.0 in
      (record { one = one.0; inside = omega arith }, fits_joined (a + p.count) b pieces join.1 one.1 inside)

  pub counts_joined : (a b : ℕ) (pieces : List Span) → Join a b pieces → a + counts_of pieces ≡ b
  counts_joined a b [] join = omega arith
  counts_joined a b (p ∷ pieces) join = let h = counts_joined (a + p.count) b pieces join.1 in omega arith

  module _ (number : ℕ) (dev : Dev) (span : Span) (v w : Moving) (reply : Reply) (rest : IsAtRest sectors v) (chunks : Each (HasChunks chunk) (map (λ (h : SnapHeld). h.snap) v.snaps)) (size : piece_of (map (λ (h : SnapHeld). h.snap) v.snaps) ≡ chunk) (cut : AreCutFrom chunk span (pieces_of chunk span)) (inside : span.first + span.count ≤ sectors) where
    fits_span : Each (FitsPiece sectors chunk) (pieces_of chunk span)
    fits_span = fits_joined span.first (span.first + span.count) (pieces_of chunk span) cut.join (each_from (IsInOneChunk chunk) (pieces_of chunk span) cut.inside) inside

    -- a whole write
    pub write_settles : (bytes : List ℕ) → length bytes ≡ 512 * span.count → IsWritten number dev (pieces_of chunk span) bytes v w reply → IsLeft sectors chunk w reply (written dev span bytes (volume_of v))
    unfolding written
    write_settles bytes len done =
        let all = counts_joined span.first (span.first + span.count) (pieces_of chunk span) cut.join in
        let whole : length bytes ≡ 512 * counts_of (pieces_of chunk span) = omega arith in
        subst (λ (n : ℕ). IsLeft sectors chunk w reply (write_pieces dev (pieces_of n span) bytes (volume_of v))) (sym size) (written_left (pieces_of chunk span) number dev bytes v w reply rest chunks fits_span whole done)

    -- a whole read
    pub read_settles : IsRead number dev (pieces_of chunk span) [] v w reply → IsLeft sectors chunk w reply (read dev span (volume_of v))
    unfolding read
    read_settles done =
        subst (λ (n : ℕ). IsLeft sectors chunk w reply (read_pieces dev (pieces_of n span) [] (volume_of v))) (sym size) (read_left (pieces_of chunk span) number dev [] v w reply rest chunks fits_span done)

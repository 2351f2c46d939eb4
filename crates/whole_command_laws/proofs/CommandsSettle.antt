-- A whole command beside a merge, piece by piece, leaves what the settled machine says: each piece settles by the events of
-- snapshots and requests alone.
use Rattle.std.proofs.Common.{◌≡◌, inl, inr, ℕ, ◌+◌, ◌*◌, ◌/◌, ◌<◌, ◌≤◌, true, List, [], ◌∷◌, ◌++◌, length, take, drop, map, Option, Some, None, refl, arith, ap, ◌∙◌, sym, subst, length-take, length-drop}
use Rattle.std.specs.List.{All}
use Rattle.std.proofs.lemmas.Bool.{cases_Bool, cond-true, cond-false}
use Rattle.chunk.specs.Pieces.{Span, span_of, IsInOneChunk, AreCutFrom, pieces_of}
use Rattle.chunk.specs.Sizes.{is_chunk}
use Rattle.chunk.proofs.Limits.{is_chunk-some}
use Rattle.chunk.proofs.Wider.{wider}
use Rattle.chunk.proofs.PiecePlaces.{piece_high}
use Rattle.chunk.proofs.Whole.{cut_pieces}
use Rattle.plain_machine.specs.declared.request.Request.{Request}
use Rattle.plain_machine.specs.declared.request.Dev.{Dev}
use Rattle.plain_machine.specs.declared.request.Dev.TheVariants.{Origin, Snap as ToSnap}
use Rattle.plain_machine.specs.declared.request.Op.{Op}
use Rattle.plain_machine.specs.declared.request.Op.TheVariants.{Read, Write, Flush}
use Rattle.plain_machine.specs.declared.request.Reply.{Reply}
use Rattle.plain_machine.specs.declared.request.Reply.TheVariants.{Data, Written, Flushed, Refused}
use Rattle.device.specs.declared.operation.Operation.TheVariants.{Flushes}
use Rattle.whole_commands.specs.Devices.{answers}
use Rattle.whole_commands.specs.Commands.{go_on, bytes_in}
use Rattle.whole_commands.specs.Requests.{answered_by, FitsRange}
use Rattle.whole_commands.specs.Snaps.{Snap}
use Rattle.whole_commands.specs.Merges.{Merging, beside, place_in, read_at, write_part, write_parts, read_part, read_parts, least_chunk, written_through, read_through}
use Rattle.whole_commands.specs.MergeShown.{IsWell, IsMerging}
use Rattle.whole_commands.proofs.Chunks.{IsWide, HasChunks, answer_keeps, chunks_keep}
use Rattle.whole_commands.proofs.Each.{Each, each_from, all_from}
use Rattle.event_machine.specs.Held.{SnapHeld, MergeHeld, Moving}
use Rattle.event_machine.specs.MergeRest.{in_big_steps, IsMergedAtRest}
use Rattle.event_machine.specs.MergeSettles.{part_of, SettlesToReplied}
use Rattle.event_machine.specs.Requests.{IsInChunk, IsFit}
use Rattle.event_machine.specs.Rest.{IsResting}
use Rattle.whole_command_laws.specs.Running.{IsDone, GoesOn, IsWritten, IsRead}
use Rattle.whole_command_laws.proofs.Ending.{replied_one}
use Rattle.whole_command_laws.proofs.Running.{FitsPiece, counts_of, fits_all, goes_as, fits_joined, counts_joined}
use Rattle.whole_command_laws.proofs.SavesSettle.{snap_of}
use Rattle.whole_command_laws.proofs.MergeSaves.{IsInOne, HasLeast, has_least, one_wider}
use Rattle.whole_command_laws.proofs.MergeLaws.{snap_bytes}
use Rattle.whole_command_laws.proofs.MergeServes.{reads_through, writes_through, flushes_through, part_keeps}
use Rattle.whole_command_laws.proofs.PartsSettle.{part_settles}
use Rattle.whole_commands.specs.Pieces.{Answered}

-- no chunk is less than this one, and all have sizes that are allowed
pub record AreWide (chunk : ℕ) (m : Merging) : Type 0 where
  pub merge : chunk ≤ m.merge.chunk
  pub snaps : Each (HasChunks chunk) m.volume.snaps

-- what a command has left of a volume with a merge
pub record IsLeftBeside (sectors chunk : ℕ) (w : Moving) (reply : Reply) (answer : Answered Merging) : Type 0 where
  pub held : MergeHeld
  pub rest : IsMergedAtRest sectors held w
  pub is : in_big_steps held w ≡ answer.state
  pub merging : IsMerging sectors answer.state
  pub wide : AreWide chunk answer.state
  pub replied : reply ≡ answer.reply

-- snapshots at rest are in order
wells : (sectors : ℕ) (snaps : List SnapHeld) → Each (IsResting sectors) snaps → Each (IsWell sectors) (map snap_of snaps)
wells sectors [] rest = tt
wells sectors (h ∷ snaps) rest = (λ live. (rest.0.live live).order, wells sectors snaps rest.1)

-- a request of a piece leaves a merge that is under way
record IsMergingStill (sectors : ℕ) (m : Merging) (r : Answered Merging) : Type 0 where
  pub holds : IsMerging sectors r.state
  pub chunk : r.state.merge.chunk ≡ m.merge.chunk

module _ (sectors : ℕ) (piece : Span) (m : Merging) (is : IsMerging sectors m) (some : 0 < piece.count) (inside : piece.first + piece.count ≤ sectors) (one : piece.first + piece.count ≤ m.merge.chunk * (piece.first / m.merge.chunk) + m.merge.chunk) (each : Each (IsInOne piece.first piece.count) m.volume.snaps) where
  beside_still : (n : ℕ) (op : Op) → All (IsWell sectors) (answered_by (ToSnap n) op piece m.volume).state.snaps → IsMergingStill sectors m (beside m.merge (answered_by (ToSnap n) op piece m.volume))
  beside_still n op well = record {
    holds = record {
      whole = ap length (snap_bytes n op piece m.volume) ∙ is.whole;
      merge = is.merge;
      snaps = well;
      allowed = is.allowed;
      chunks = all_from (λ (s : Snap). is_chunk s.chunk ≡ true) (answered_by (ToSnap n) op piece m.volume).state.snaps (chunks_keep (λ x. is_chunk x ≡ true) (ToSnap n) op piece m.volume (each_from (λ (s : Snap). is_chunk s.chunk ≡ true) m.volume.snaps is.chunks));
    };
    chunk = refl;
  }

  still_by : (dev : Dev) (op : Op) → FitsRange op piece.count → All (IsWell sectors) (part_of dev op piece m).state.volume.snaps → IsMergingStill sectors m (part_of dev op piece m)
  still_by Origin Read fits well = let r = reads_through sectors piece m is some inside one in record { holds = r.unseen.holds; chunk = r.unseen.chunk }
  still_by Origin (Write bytes) fits well = let r = writes_through sectors piece m is some inside one each bytes fits in record { holds = r.holds; chunk = r.chunk }
  still_by Origin Flush fits well = let u = flushes_through sectors m is in record { holds = u.holds; chunk = u.chunk }
  still_by (ToSnap n) Read fits well = beside_still n Read well
  still_by (ToSnap n) (Write bytes) fits well = beside_still n (Write bytes) well
  still_by (ToSnap n) Flush fits well = beside_still n Flush well

-- and keeps the sizes of chunks
still_wide : (chunk : ℕ) (dev : Dev) (op : Op) (piece : Span) (m : Merging) → Each (HasChunks chunk) m.volume.snaps → Each (HasChunks chunk) (part_of dev op piece m).state.volume.snaps
still_wide chunk Origin Read piece m each = by_place (place_in piece.first m.merge)
  where
    by_place : (o : Option ℕ) → Each (HasChunks chunk) (read_at o piece m).state.volume.snaps
    by_place None = each
    by_place (Some n) = each
still_wide chunk Origin (Write bytes) piece m each = part_keeps (IsWide chunk) piece bytes m each
still_wide chunk Origin Flush piece m each = elim (cases_Bool (answers m.merge.store Flushes)) [
  | inl ok ↦ subst (λ (r : Answered Merging). Each (HasChunks chunk) r.state.volume.snaps) (sym (cond-true _ _ _ ok)) each
  | inr failed ↦ subst (λ (r : Answered Merging). Each (HasChunks chunk) r.state.volume.snaps) (sym (cond-false _ _ _ failed)) each
]
still_wide chunk (ToSnap n) Read piece m each = answer_keeps chunk (ToSnap n) Read piece m.volume each
still_wide chunk (ToSnap n) (Write bytes) piece m each = answer_keeps chunk (ToSnap n) (Write bytes) piece m.volume each
still_wide chunk (ToSnap n) Flush piece m each = answer_keeps chunk (ToSnap n) Flush piece m.volume each

module _ (sectors chunk : ℕ) (allowed : is_chunk chunk ≡ true) where
  -- one piece
  piece_left : (number : ℕ) (dev : Dev) (op : Op) (piece : Span) (v mid : Moving) (got : Reply) (h : MergeHeld) → IsMergedAtRest sectors h v → IsMerging sectors (in_big_steps h v) → AreWide chunk (in_big_steps h v) → FitsPiece sectors chunk piece → FitsRange op piece.count → IsDone number dev op piece v mid got →
      IsLeftBeside sectors chunk mid got (part_of dev op piece (in_big_steps h v))
  piece_left number dev op piece v mid got h rest is wide fits bytes done =
      let m : Merging = in_big_steps h v in
      let request : Request = done.request in
      let one : IsInOneChunk chunk (span_of request.range) = subst (IsInOneChunk chunk) (sym done.on_piece) fits.one in
      let inside : request.range.first + request.range.count ≤ sectors = subst (λ (p : Span). p.first + p.count ≤ sectors) (sym done.on_piece) fits.inside in
      let len : FitsRange request.op request.range.count = subst (λ (o : Op). FitsRange o request.range.count) (sym done.asks) (subst (λ (p : Span). FitsRange op p.count) (sym done.on_piece) bytes) in
      let chunks : Each (HasChunks chunk) (map snap_of v.snaps) = wide.snaps in
      let fit : IsFit sectors v.snaps request = record { some = one.some; inside = inside; bytes = len; chunks = all_from (IsInChunk request.range) v.snaps (fits_all sectors chunk allowed request.range v.snaps one chunks) } in
      let high : (p : Span) → IsInOneChunk chunk p → p.first + p.count ≤ h.merge.chunk * (p.first / h.merge.chunk) + h.merge.chunk = λ (p : Span) (o : IsInOneChunk chunk p). wider chunk h.merge.chunk p.first p.count allowed is.allowed wide.merge (piece_high chunk p.first p.count (is_chunk-some chunk allowed) o.some o.one) in
      let big : Answered Merging = part_of request.dev request.op (span_of request.range) m in
      let to : SettlesToReplied sectors _ big = part_settles sectors number request v h rest is fit (high (span_of request.range) one) in
      let same : mid ≡ to.last = replied_one sectors done.fuel _ mid _ to done.ends done.quiet in
      let asks : big ≡ part_of dev op piece m =
      ap (λ d. part_of d request.op (span_of request.range) m) done.to_dev ∙ ap (λ o. part_of dev o (span_of request.range) m) done.asks ∙ ap (λ p. part_of dev op p m) done.on_piece in
      let left : in_big_steps to.held to.last ≡ (part_of dev op piece m).state = to.is ∙ ap (λ (r : Answered Merging). r.state) asks in
      let some_same : Some got ≡ Some big.reply = sym done.replied ∙ ap (λ (x : Moving). x.replied) same ∙ to.reply in
      let reply_same : got ≡ big.reply = cc in
      let well : All (IsWell sectors) (part_of dev op piece m).state.volume.snaps =
      subst (λ (x : Merging). All (IsWell sectors) x.volume.snaps) left (all_from (IsWell sectors) (map snap_of to.last.snaps) (wells sectors to.last.snaps (each_from (IsResting sectors) to.last.snaps to.rest.snaps))) in
      let still : IsMergingStill sectors m (part_of dev op piece m) = still_by sectors piece m is fits.one.some fits.inside (high piece fits.one) (one_wider chunk piece.first piece.count m.volume.snaps allowed (piece_high chunk piece.first piece.count (is_chunk-some chunk allowed) fits.one.some fits.one.one) wide.snaps) dev op bytes well in
      record {
        held = to.held;
        rest = subst (IsMergedAtRest sectors to.held) (sym same) to.rest;
        is = ap (in_big_steps to.held) same ∙ left;
        merging = still.holds;
        wide = record { merge = subst (λ (n : ℕ). chunk ≤ n) (sym still.chunk) wide.merge; snaps = still_wide chunk dev op piece m wide.snaps };
        replied = reply_same ∙ ap (λ (r : Answered Merging). r.reply) asks;
      }

  -- a piece, and then the rest of the command or its end
  goes_left : (w mid : Moving) (reply got : Reply) (here more : Answered Merging) → IsLeftBeside sectors chunk mid got here → GoesOn got (IsLeftBeside sectors chunk w reply more) ((w ≡ mid) × (reply ≡ got)) → IsLeftBeside sectors chunk w reply (go_on here.reply here more)
  goes_left w mid reply (Data bytes) here more left goes = subst (λ (r : Reply). IsLeftBeside sectors chunk w reply (go_on r here more)) left.replied goes
  goes_left w mid reply Written here more left goes = subst (λ (r : Reply). IsLeftBeside sectors chunk w reply (go_on r here more)) left.replied goes
  goes_left w mid reply Flushed here more left goes = subst (λ (r : Reply). IsLeftBeside sectors chunk w reply (go_on r here more)) left.replied goes
  goes_left w mid reply (Refused failure) here more left goes =
      subst (λ (r : Reply). IsLeftBeside sectors chunk w reply (go_on r here more)) left.replied
      (subst (λ (x : Moving). IsLeftBeside sectors chunk x reply here) (sym goes.0) (subst (λ (r : Reply). IsLeftBeside sectors chunk mid r here) (sym goes.1) left))

  -- nothing was done
  none_left : (v w : Moving) (reply answer : Reply) (h : MergeHeld) → IsMergedAtRest sectors h v → IsMerging sectors (in_big_steps h v) → AreWide chunk (in_big_steps h v) → w ≡ v → reply ≡ answer → IsLeftBeside sectors chunk w reply (record { state = in_big_steps h v; reply = answer })
  none_left v w reply answer h rest is wide same replied =
      subst (λ (x : Moving). IsLeftBeside sectors chunk x reply (record { state = in_big_steps h v; reply = answer })) (sym same) (record { held = h; rest = rest; is = refl; merging = is; wide = wide; replied = replied })

  -- the rest, from what a piece left
  next_left : (mid w : Moving) (got reply : Reply) (here : Answered Merging) (rest_of : Merging → Answered Merging) (left : IsLeftBeside sectors chunk mid got here) → IsLeftBeside sectors chunk w reply (rest_of (in_big_steps left.held mid)) → IsLeftBeside sectors chunk w reply (rest_of here.state)
  next_left mid w got reply here rest_of left goes = subst (λ (x : Merging). IsLeftBeside sectors chunk w reply (rest_of x)) left.is goes

  written_left : (pieces : List Span) (number : ℕ) (dev : Dev) (bytes : List ℕ) (v w : Moving) (reply : Reply) (h : MergeHeld) → IsMergedAtRest sectors h v → IsMerging sectors (in_big_steps h v) → AreWide chunk (in_big_steps h v) → Each (FitsPiece sectors chunk) pieces → length bytes ≡ 512 * counts_of pieces →
      IsWritten number dev pieces bytes v w reply → IsLeftBeside sectors chunk w reply (write_parts dev pieces bytes (in_big_steps h v))
  written_left [] number dev bytes v w reply h rest is wide fits len done = none_left v w reply Written h rest is wide done.0 done.1
  written_left (p ∷ pieces) number dev bytes v w reply h rest is wide fits len done =
      let mid : Moving = done.0 in
      let got : Reply = done.1 in
      let front : length (take (512 * p.count) bytes) ≡ 512 * p.count = simp length-take (omega arith) in
      let back : length (drop (512 * p.count) bytes) ≡ 512 * counts_of pieces = simp length-drop (omega arith) in
      let here : Answered Merging = write_part dev p (take (512 * p.count) bytes) (in_big_steps h v) in
      let rest_of : Merging → Answered Merging = write_parts dev pieces (drop (512 * p.count) bytes) in
      let left : IsLeftBeside sectors chunk mid got here = piece_left number dev (Write (take (512 * p.count) bytes)) p v mid got h rest is wide fits.0 front done.2 in
      goes_left w mid reply got here (rest_of here.state) left
      (goes_as sectors chunk allowed got _ _ ((w ≡ mid) × (reply ≡ got))
      (λ more. next_left mid w got reply here rest_of left
      (written_left pieces (number + 1) dev (drop (512 * p.count) bytes) mid w reply left.held left.rest (subst (IsMerging sectors) (sym left.is) left.merging) (subst (AreWide chunk) (sym left.is) left.wide) fits.1 back more)) done.3)

  read_left : (pieces : List Span) (number : ℕ) (dev : Dev) (before : List ℕ) (v w : Moving) (reply : Reply) (h : MergeHeld) → IsMergedAtRest sectors h v → IsMerging sectors (in_big_steps h v) → AreWide chunk (in_big_steps h v) → Each (FitsPiece sectors chunk) pieces →
      IsRead number dev pieces before v w reply → IsLeftBeside sectors chunk w reply (read_parts dev pieces before (in_big_steps h v))
  read_left [] number dev before v w reply h rest is wide fits done = none_left v w reply (Data before) h rest is wide done.0 done.1
  read_left (p ∷ pieces) number dev before v w reply h rest is wide fits done =
      let mid : Moving = done.0 in
      let got : Reply = done.1 in
      let here : Answered Merging = read_part dev p (in_big_steps h v) in
      let rest_of : Merging → Answered Merging = read_parts dev pieces (before ++ bytes_in here.reply) in
      let left : IsLeftBeside sectors chunk mid got here = piece_left number dev Read p v mid got h rest is wide fits.0 tt done.2 in
      goes_left w mid reply got here (rest_of here.state) left
      (goes_as sectors chunk allowed got _ _ ((w ≡ mid) × (reply ≡ got))
      (λ more. next_left mid w got reply here rest_of left
      (subst (λ (r : Reply). IsLeftBeside sectors chunk w reply (read_parts dev pieces (before ++ bytes_in r) (in_big_steps left.held mid))) left.replied
      (read_left pieces (number + 1) dev (before ++ bytes_in got) mid w reply left.held left.rest (subst (IsMerging sectors) (sym left.is) left.merging) (subst (AreWide chunk) (sym left.is) left.wide) fits.1 more))) done.3)

-- a whole command
module _ (sectors number : ℕ) (dev : Dev) (span : Span) (v w : Moving) (reply : Reply) (h : MergeHeld) (rest : IsMergedAtRest sectors h v) (is : IsMerging sectors (in_big_steps h v)) (inside : span.first + span.count ≤ sectors) where
  abbrev pub big : Merging
  big = in_big_steps h v

  abbrev pub size : ℕ
  size = least_chunk (in_big_steps h v)

  abbrev pub pieces : List Span
  pieces = pieces_of (least_chunk (in_big_steps h v)) span

  least : HasLeast big
  least = has_least sectors big is

  wide : AreWide size big
  wide = record { merge = least.merge; snaps = least.snaps }

  cut : AreCutFrom size span (pieces_of size span)
  cut = cut_pieces size span (pieces_of size span) refl (is_chunk-some size least.allowed)

  fits : Each (FitsPiece sectors size) (pieces_of size span)
  fits = fits_joined sectors size least.allowed span.first (span.first + span.count) (pieces_of size span) cut.join (each_from (IsInOneChunk size) (pieces_of size span) cut.inside) inside

  pub write_command : (bytes : List ℕ) → length bytes ≡ 512 * span.count → IsWritten number dev pieces bytes v w reply → IsLeftBeside sectors size w reply (written_through dev span bytes big)
  unfolding written_through
  write_command bytes len done =
      let all = counts_joined sectors size least.allowed span.first (span.first + span.count) (pieces_of size span) cut.join in
      let whole : length bytes ≡ 512 * counts_of (pieces_of size span) = omega arith in
      written_left sectors size least.allowed (pieces_of size span) number dev bytes v w reply h rest is wide fits whole done

  pub read_command : IsRead number dev pieces [] v w reply → IsLeftBeside sectors size w reply (read_through dev span big)
  unfolding read_through
  read_command done = read_left sectors size least.allowed (pieces_of size span) number dev [] v w reply h rest is wide fits done

-- One piece more is written, and where the write ends.
use Rattle.std.proofs.Common.{◌≡◌, ◌<◌, ℕ, List, ◌+◌, ◌-◌, ◌*◌, [], take, drop, sym, ap, ◌∙◌, subst, arith}
use Rattle.chunk.specs.Pieces.{Span, pieces_of, span_of}
use Rattle.chunk.proofs.Limits.{is_chunk-some, is_chunk-small}
use Rattle.chunk.proofs.Runs.{StandsAt, first_piece, stands_first, stands_last, stands_next}
use Rattle.plain_machine.specs.declared.request.Op.TheVariants.{Write}
use Rattle.locked_volume.specs.Denying.{Serve, WasDenied}
use Rattle.locked_volume.specs.Fixed.{piece_at}
use Rattle.volume_threads.specs.Rigs.{HasAdded, seen_at}
use Rattle.volume_threads.specs.Served.{IsWriteLost, IsWrittenBy, written_reply}
use Rattle.audited_volume.specs.declared.entry.Receipt.{Receipt}
use Rattle.volume_threads.proofs.Parts.{part_all, part_fits, part_more}
use Rattle.volume_threads.proofs.UnderWay.{IsUnderWay, begins, ends, goes, stops}
use Rattle.volume_threads.proofs.seat.Seat.write_all.Goals as goal

pub invariant_of-geometry : goal.invariant_of-geometry
invariant_of-geometry g c = let place = c.index.result.now in record { allowed = place.is_allowed; some = is_chunk-some place.piece place.is_allowed; small = is_chunk-small place.piece place.is_allowed }

pub loop-part-init : goal.loop-part-init
loop-part-init g c = record {
  can = tt;
  finite = tt;
  under =
      let place = c.index.result.now in
      let piece : place.piece ≡ piece_at (g.J.Room.fixed c.args.volume) = place.is_piece ∙ ap (λ n. piece_at (g.J.Room.fixed n)) (ap (λ p. p.volume) c.index.ensures ∙ c.rig.invariant.0 c.args.volume place (subst (λ (n : ℕ). c.args.volume < n) (sym c.rig.invariant.1) c.requires.volume)) in
      let all = pieces_of place.piece (span_of c.args.range) in
      subst (λ (n : ℕ). StandsAt n c.args.range.first (c.args.range.first + c.args.range.count) 0 c.into_iter-part-iterator.result
      × IsUnderWay Write written_reply c.args.dev c.args.volume (pieces_of n (span_of c.args.range)) c.into_iter-part-iterator.result c.args.self.now c.args.self.now [])
      piece (
        stands_first place.piece (span_of c.args.range) _ _ c.pieces-part-items.ensures.cut c.into_iter-part-iterator.ensures.into_iter_gives,
        subst (λ (left : List Span). IsUnderWay Write written_reply c.args.dev c.args.volume all left c.args.self.now c.args.self.now [])
            (sym (c.into_iter-part-iterator.ensures.into_iter_gives ∙ c.pieces-part-items.ensures.pieces))
            (begins Write written_reply c.args.dev c.args.volume all c.args.self.now),
      );
}

pub overflow_add-to : goal.overflow_add-to
overflow_add-to g c =
    let is = first_piece _ _ _ _ _ _ _ c.loop-part.invariant.under.0 c.in-Some.ensures.steps in
    let bytes = is.bytes in
    let room = c.requires.bytes in
    omega arith

pub slice_bounds-write_piece-end : goal.slice_bounds-write_piece-end
slice_bounds-write_piece-end g c =
    let is = first_piece _ _ _ _ _ _ _ c.loop-part.invariant.under.0 c.in-Some.ensures.steps in
    let bytes = is.bytes in
    let room = c.requires.bytes in
    omega arith

pub write_piece-requires-clause-bytes : goal.write_piece-requires-clause-bytes
write_piece-requires-clause-bytes g c =
    let is = first_piece _ _ _ _ _ _ _ c.loop-part.invariant.under.0 c.in-Some.ensures.steps in
    let bytes = is.bytes in
    part_fits c.loop-part.from c.in-Some.part.count c.args.range.count c.args.bytes.now c.requires.bytes (omega arith)

pub loop-part-preserved : goal.loop-part-preserved
loop-part-preserved g c =
    let under = c.loop-part.invariant.under in
    let done = c.in-Ok.ensures.ok in
    let all = pieces_of (piece_at (g.J.Room.fixed c.args.volume)) (span_of c.args.range) in
    let own = take (c.loop-part.from + c.in-Some.part.count * 512 - c.loop-part.from) (drop c.loop-part.from c.args.bytes.now) in
    record {
      can = tt;
      finite = tt;
      under = (
        stands_next _ _ _ _ _ _ _ under.0 c.in-Some.ensures.steps,
        subst (λ (bytes : List ℕ). IsUnderWay Write written_reply c.args.dev c.args.volume all c.next.new.self c.args.self.now c.write_piece.new.self bytes) (part_more c.loop-part.from (c.in-Some.part.count * 512) c.args.bytes.now)
            (goes Write written_reply c.args.dev c.args.volume all c.next.new.self (span_of c.in-Some.part) c.args.self.now c.loop-part.self c.write_piece.new.self (take c.loop-part.from c.args.bytes.now) own done.0
            (subst (λ (left : List Span). IsUnderWay Write written_reply c.args.dev c.args.volume all left c.args.self.now c.loop-part.self (take c.loop-part.from c.args.bytes.now)) c.in-Some.ensures.steps under.1)
            done.1 done.2 done.3),
      );
    }

pub returns-in-Err-clause-err : goal.returns-in-Err-clause-err
returns-in-Err-clause-err g c =
    let under = c.loop-part.invariant.under in
    let all = pieces_of (piece_at (g.J.Room.fixed c.args.volume)) (span_of c.args.range) in
    let cut = stops Write written_reply c.args.dev IsWriteLost (λ request r. WasDenied (g.J.Room.start c.args.volume) (g.J.Room.fixed c.args.volume) (seen_at c.write_piece.new.self c.args.volume) (Serve request) r) (λ q r is. absurd is) c.args.volume all c.next.new.self (span_of c.in-Some.part) c.args.self.now c.loop-part.self c.write_piece.new.self (take c.loop-part.from c.args.bytes.now) c.in-Err.refusal
    (subst (λ (left : List Span). IsUnderWay Write written_reply c.args.dev c.args.volume all left c.args.self.now c.loop-part.self (take c.loop-part.from c.args.bytes.now)) c.in-Some.ensures.steps under.1)
    c.in-Err.ensures.err in
    (cut.0, cut.1, cut.2)

pub returns-clause-ok : goal.returns-clause-ok
returns-clause-ok g c =
    let under = c.loop-part.invariant.under in
    let all = pieces_of (piece_at (g.J.Room.fixed c.args.volume)) (span_of c.args.range) in
    let end = ends Write written_reply c.args.dev c.args.volume all c.args.self.now c.loop-part.self (take c.loop-part.from c.args.bytes.now)
    (subst (λ (left : List Span). IsUnderWay Write written_reply c.args.dev c.args.volume all left c.args.self.now c.loop-part.self (take c.loop-part.from c.args.bytes.now)) c.in-None.ensures.steps.0 under.1) in
    let last = stands_last _ _ _ _ _ under.0 c.in-None.ensures.steps.0 (omega arith) in
    subst (λ (bytes : List ℕ). (more : List Receipt) × HasAdded c.args.volume more c.args.self.now c.loop-part.self × IsWrittenBy (piece_at (g.J.Room.fixed c.args.volume)) c.args.dev (span_of c.args.range) more bytes)
    (part_all c.loop-part.from c.args.range.count c.args.bytes.now c.requires.bytes (omega (arith, last)))
    (end.0, end.1, end.2)

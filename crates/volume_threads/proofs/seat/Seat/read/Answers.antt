use Rattle.std.proofs.Common.{◌≡◌, ◌<◌, ℕ, List, inl, refl, sym, ap, ◌∙◌, subst}
use Rattle.chunk.specs.Pieces.{Span, pieces_of, span_of}
use Rattle.chunk.proofs.Limits.{is_chunk-some, is_chunk-small}
use Rattle.plain_machine.specs.declared.request.Reply.TheVariants.{Data}
use Rattle.sector.specs.declared.refusal.Refusal.TheVariants.{NoMemory}
use Rattle.audited_volume.specs.declared.entry.Receipt.{Receipt}
use Rattle.locked_volume.specs.Denying.{Serve, WasDenied}
use Rattle.locked_volume.specs.Fixed.{piece_at}
use Rattle.volume_threads.specs.Rigs.{HasAdded, seen_at}
use Rattle.volume_threads.specs.Served.{IsReadBy, IsReadLost, read_op}
use Rattle.volume_threads.proofs.UnderWay.{IsUnderWay, begins, ends, goes, stops, stops_at_once}
use Rattle.volume_threads.proofs.seat.Seat.read.Goals as goal

pub returns-in_default-clause-err : goal.returns-in_default-clause-err
returns-in_default-clause-err g c =
    let once = stops_at_once read_op Data c.args.dev IsReadLost (λ request r. WasDenied (g.J.Room.start c.args.volume) (g.J.Room.fixed c.args.volume) (seen_at c.args.self.now c.args.volume) (Serve request) r) (λ q r is. inl is) c.args.volume (pieces_of (piece_at (g.J.Room.fixed c.args.volume)) (span_of c.args.range)) c.args.self.now NoMemory refl in
    (once.0, once.1, once.2)

pub invariant_of-geometry : goal.invariant_of-geometry
invariant_of-geometry g c = let place = c.index.result.now in record { allowed = place.is_allowed; some = is_chunk-some place.piece place.is_allowed; small = is_chunk-small place.piece place.is_allowed }

pub loop-part-init : goal.loop-part-init
loop-part-init g c = record {
  can = tt;
  finite = tt;
  under =
      let place = c.index.result.now in
      let piece : place.piece ≡ piece_at (g.J.Room.fixed c.args.volume) = place.is_piece ∙ ap (λ n. piece_at (g.J.Room.fixed n)) (ap (λ p. p.volume) c.index.ensures ∙ c.rig.invariant.0 c.args.volume place (subst (λ (n : ℕ). c.args.volume < n) (sym c.rig.invariant.1) c.requires.volume)) in
      let all = pieces_of place.piece (span_of c.args.range) in
      subst (λ (x : ℕ × List Span × List ℕ). IsUnderWay read_op Data c.args.dev c.args.volume (pieces_of x.0 (span_of c.args.range)) x.1 c.args.self.now c.args.self.now x.2)
      (λ i. (piece i, sym (c.into_iter-part-iterator.ensures.into_iter_gives ∙ c.pieces-part-items.ensures.pieces) i, sym c.in-Ok.ensures.items i))
      (begins read_op Data c.args.dev c.args.volume all c.args.self.now);
}

pub loop-part-preserved : goal.loop-part-preserved
loop-part-preserved g c =
    let under = c.loop-part.invariant.under in
    let done = c.in-Ok-read_piece.ensures.ok in
    let all = pieces_of (piece_at (g.J.Room.fixed c.args.volume)) (span_of c.args.range) in
    record {
      can = tt;
      finite = tt;
      under = subst (λ (bytes : List ℕ). IsUnderWay read_op Data c.args.dev c.args.volume all c.next.new.self c.args.self.now c.read_piece.new.self bytes) (sym done.5)
          (goes read_op Data c.args.dev c.args.volume all c.next.new.self (span_of c.in-Some.part) c.args.self.now c.loop-part.self c.read_piece.new.self c.loop-part.out.items done.0 done.1
          (subst (λ (left : List Span). IsUnderWay read_op Data c.args.dev c.args.volume all left c.args.self.now c.loop-part.self c.loop-part.out.items) c.in-Some.ensures.steps under)
          done.2 done.3 done.4);
    }

pub returns-in-Err-clause-err : goal.returns-in-Err-clause-err
returns-in-Err-clause-err g c =
    let under = c.loop-part.invariant.under in
    let all = pieces_of (piece_at (g.J.Room.fixed c.args.volume)) (span_of c.args.range) in
    let cut = stops read_op Data c.args.dev IsReadLost (λ request r. WasDenied (g.J.Room.start c.args.volume) (g.J.Room.fixed c.args.volume) (seen_at c.read_piece.new.self c.args.volume) (Serve request) r) (λ q r is. inl is) c.args.volume all c.next.new.self (span_of c.in-Some.part) c.args.self.now c.loop-part.self c.read_piece.new.self c.loop-part.out.items c.in-Err.refusal
    (subst (λ (left : List Span). IsUnderWay read_op Data c.args.dev c.args.volume all left c.args.self.now c.loop-part.self c.loop-part.out.items) c.in-Some.ensures.steps under)
    c.in-Err.ensures.err in
    (cut.0, cut.1, cut.2)

pub returns-clause-ok : goal.returns-clause-ok
returns-clause-ok g c =
    let under = c.loop-part.invariant.under in
    let all = pieces_of (piece_at (g.J.Room.fixed c.args.volume)) (span_of c.args.range) in
    let end = ends read_op Data c.args.dev c.args.volume all c.args.self.now c.loop-part.self c.loop-part.out.items
    (subst (λ (left : List Span). IsUnderWay read_op Data c.args.dev c.args.volume all left c.args.self.now c.loop-part.self c.loop-part.out.items) c.in-None.ensures.steps.0 under) in
    subst (λ (bytes : List ℕ). (more : List Receipt) × HasAdded c.args.volume more c.args.self.now c.loop-part.self × IsReadBy (piece_at (g.J.Room.fixed c.args.volume)) c.args.dev (span_of c.args.range) more bytes) (sym c.from_vec.ensures)
    (end.0, end.1, end.2)

-- One piece more is written, and where the write ends.
use Rattle.std.proofs.Common.{None, ℕ, List, ◌+◌, ◌-◌, ◌*◌, take, drop, refl, ◌∙◌, ap, subst, sym, arith}
use Rattle.chunk.specs.Pieces.{span_of, pieces_of}
use Rattle.chunk.proofs.Limits.{is_chunk-some, is_chunk-small}
use Rattle.plain_machine.specs.declared.request.Op.TheVariants.{Write}
use Rattle.chunk.proofs.Runs.{StandsAt, first_piece, stands_first, stands_next, stands_last}
use Rattle.volume.specs.Volumed.{piece_with}
use Rattle.volume_commands.specs.Serving.{CanServe}
use Rattle.volume_commands.specs.Rested.{rested_of, merged_of}
use Rattle.volume_commands.proofs.Between.{loud_in_all}
use Rattle.volume_commands.proofs.Going.{chunks_by, goes_none, goes_can, goes_more, goes_within, chunk_least}
use Rattle.volume_commands.proofs.WriteRuns.{writes_none}
use Rattle.volume_commands.proofs.Writing.{left_behind, left_inside, left_part, part_is, part_fits, wrote_more, wrote_refused, wrote_all}
use Rattle.volume_commands.proofs.BesideWrites.{plain_write, plain_write_lost}
use Rattle.volume_commands.proofs.RestRuns.{wrote_end, wrote_next, wrote_start, wrote_stop}
use Rattle.counted_volume.proofs.Takings.{takes_none, takes_then}
use Rattle.volume_commands.proofs.pieces.write_pieces.Goals as goal

pub invariant_of-geometry : goal.invariant_of-geometry
invariant_of-geometry g c =
    let ok = c.piece.ensures.allowed in
    record { allowed = ok; some = is_chunk-some c.piece.result ok; small = is_chunk-small c.piece.result ok }

pub loop-piece-init : goal.loop-piece-init
loop-piece-init g c = record {
  can = tt;
  finite = tt;
  stands = subst (λ n. StandsAt n c.args.range.first (c.args.range.first + c.args.range.count) 0 c.into_iter-piece-iterator.result) c.piece.ensures.piece
      (stands_first c.piece.result (span_of c.args.range) _ _ c.pieces-piece-items.ensures.cut c.into_iter-piece-iterator.ensures.into_iter_gives);
  same = refl;
  so = goes_none g.B.Block.contents g.B.Block.layers g.B.Block.size c.args.volume.now.volume c.requires.between;
  did = writes_none c.args.dev _ (pieces_of (piece_with c.args.volume.now.volume.merge c.args.volume.now.volume.snaps) (span_of c.args.range)) c.into_iter-piece-iterator.result c.args.bytes.now (merged_of g.B.Block.contents g.B.Block.layers (rested_of c.args.volume.now.volume))
      (c.into_iter-piece-iterator.ensures.into_iter_gives ∙ c.pieces-piece-items.ensures.pieces ∙ ap (λ n. pieces_of n (span_of c.args.range)) c.piece.ensures.piece);
  met = wrote_start g.B.Block.may_hold g.B.Block.contents g.B.Block.layers g.B.Block.fault_count g.B.Block.size c.args.dev (pieces_of (piece_with c.args.volume.now.volume.merge c.args.volume.now.volume.snaps) (span_of c.args.range)) c.into_iter-piece-iterator.result c.args.bytes.now c.args.volume.now.volume
      (c.into_iter-piece-iterator.ensures.into_iter_gives ∙ c.pieces-piece-items.ensures.pieces ∙ ap (λ n. pieces_of n (span_of c.args.range)) c.piece.ensures.piece);
  taken = takes_none _;
}

pub overflow_add-to : goal.overflow_add-to
overflow_add-to g c =
    let is = first_piece _ _ _ _ _ _ _ c.loop-piece.invariant.stands c.in-Some.ensures.steps in
    let bytes = is.bytes in
    let room = c.requires.room in
    omega arith

pub write_piece-requires-clause-inside : goal.write_piece-requires-clause-inside
write_piece-requires-clause-inside g c =
    let is = first_piece _ _ _ _ _ _ _ c.loop-piece.invariant.stands c.in-Some.ensures.steps in
    let bytes = is.bytes in
    let some = is.some in
    let room = c.requires.room in
    left_inside c.loop-piece.from (c.loop-piece.from + c.in-Some.piece.count * 512) c.loop-piece.bytes c.args.bytes.now c.loop-piece.invariant.same (omega arith) (omega arith)

pub write_piece-requires-clause-between : goal.write_piece-requires-clause-between
write_piece-requires-clause-between g c = c.loop-piece.invariant.so.between

pub write_piece-requires-clause-can : goal.write_piece-requires-clause-can
write_piece-requires-clause-can g c =
    let is = first_piece _ _ _ _ _ _ _ c.loop-piece.invariant.stands c.in-Some.ensures.steps in
    let bytes = is.bytes in
    let chunk = chunks_by c.args.volume.now.volume c.piece.result c.piece.ensures.piece c.piece.ensures.within c.piece.ensures.allowed in
    subst (λ (part : List ℕ). CanServe g.B.Block.size c.args.dev (Write part) c.in-Some.piece c.loop-piece.volume.volume)
    (sym (left_part c.loop-piece.from (c.loop-piece.from + c.in-Some.piece.count * 512) c.loop-piece.bytes c.args.bytes.now c.loop-piece.invariant.same))
    (goes_can g.B.Block.contents g.B.Block.layers g.B.Block.size c.args.dev (Write (take (c.loop-piece.from + c.in-Some.piece.count * 512 - c.loop-piece.from) (drop c.loop-piece.from c.args.bytes.now))) c.args.range c.in-Some.piece c.loop-piece.from
    c.args.volume.now.volume c.loop-piece.volume.volume c.requires.can c.loop-piece.invariant.so chunk.1 chunk.0 is
    (part_fits c.loop-piece.from c.in-Some.piece.count c.args.range.count c.args.bytes.now c.requires.room (omega arith)))

pub returns-in-Err-clause-refused : goal.returns-in-Err-clause-refused
returns-in-Err-clause-refused g c =
    wrote_refused g.B.Block.contents g.B.Block.layers g.B.Block.size c.args.dev c.args.range (piece_with c.args.volume.now.volume.merge c.args.volume.now.volume.snaps) c.args.bytes.now c.loop-piece.from c.loop-piece.piece-iterator c.next.new.self c.in-Some.piece
    c.args.volume.now.volume c.loop-piece.volume.volume c.write_piece.new.volume.volume c.loop-piece.invariant.did c.in-Some.ensures.steps c.loop-piece.invariant.so.settled
    (take (c.loop-piece.from + c.in-Some.piece.count * 512 - c.loop-piece.from) (drop c.loop-piece.from c.loop-piece.bytes)) c.in-Err.refusal (left_part c.loop-piece.from (c.loop-piece.from + c.in-Some.piece.count * 512) c.loop-piece.bytes c.args.bytes.now c.loop-piece.invariant.same ∙ part_is c.loop-piece.from c.in-Some.piece.count c.args.bytes.now)
    c.requires.can.there (chunk_least g.B.Block.contents g.B.Block.layers c.args.volume.now.volume) c.in-Err.ensures.refused

pub returns-in-Err-clause-settled : goal.returns-in-Err-clause-settled
returns-in-Err-clause-settled g c = λ settled. c.in-Err.ensures.settled (c.loop-piece.invariant.so.settled settled)

pub returns-in-Err-clause-kept : goal.returns-in-Err-clause-kept
returns-in-Err-clause-kept g c =
    let is = first_piece _ _ _ _ _ _ _ c.loop-piece.invariant.stands c.in-Some.ensures.steps in
    (goes_more g.B.Block.contents g.B.Block.layers g.B.Block.size c.loop-piece.from c.in-Some.piece.count c.args.volume.now.volume c.loop-piece.volume.volume c.write_piece.new.volume.volume c.loop-piece.invariant.so
    c.in-Err.ensures.between c.in-Err.ensures.kept c.in-Err.ensures.settled c.in-Err.ensures.piece c.in-Err.ensures.requests is.some).kept

pub returns-in-Err-clause-requests : goal.returns-in-Err-clause-requests
returns-in-Err-clause-requests g c =
    let is = first_piece _ _ _ _ _ _ _ c.loop-piece.invariant.stands c.in-Some.ensures.steps in
    let bytes = is.bytes in
    let more = goes_more g.B.Block.contents g.B.Block.layers g.B.Block.size c.loop-piece.from c.in-Some.piece.count c.args.volume.now.volume c.loop-piece.volume.volume c.write_piece.new.volume.volume c.loop-piece.invariant.so
    c.in-Err.ensures.between c.in-Err.ensures.kept c.in-Err.ensures.settled c.in-Err.ensures.piece c.in-Err.ensures.requests is.some in
    goes_within g.B.Block.contents g.B.Block.layers g.B.Block.size (c.loop-piece.from + c.in-Some.piece.count * 512) c.args.range.count c.args.volume.now.volume c.write_piece.new.volume.volume more (omega arith)

pub loop-piece-preserved : goal.loop-piece-preserved
loop-piece-preserved g c =
    let is = first_piece _ _ _ _ _ _ _ c.loop-piece.invariant.stands c.in-Some.ensures.steps in
    record {
      can = tt;
      finite = tt;
      stands = stands_next _ _ _ _ _ _ _ c.loop-piece.invariant.stands c.in-Some.ensures.steps;
      same = left_behind c.loop-piece.from (c.in-Some.piece.count * 512) c.loop-piece.bytes c.args.bytes.now c.write_piece.new.bytes c.loop-piece.invariant.same c.write_piece.ensures.left;
      so = goes_more g.B.Block.contents g.B.Block.layers g.B.Block.size c.loop-piece.from c.in-Some.piece.count c.args.volume.now.volume c.loop-piece.volume.volume c.write_piece.new.volume.volume c.loop-piece.invariant.so
          c.in-Ok.ensures.between c.in-Ok.ensures.kept c.in-Ok.ensures.settled c.in-Ok.ensures.piece c.in-Ok.ensures.requests is.some;
      did = wrote_more g.B.Block.contents g.B.Block.layers g.B.Block.size c.args.dev c.args.range (piece_with c.args.volume.now.volume.merge c.args.volume.now.volume.snaps) c.args.bytes.now c.loop-piece.from c.loop-piece.piece-iterator c.next.new.self c.in-Some.piece
          c.args.volume.now.volume c.loop-piece.volume.volume c.write_piece.new.volume.volume c.loop-piece.invariant.did c.in-Some.ensures.steps c.loop-piece.invariant.so.settled
          (take (c.loop-piece.from + c.in-Some.piece.count * 512 - c.loop-piece.from) (drop c.loop-piece.from c.loop-piece.bytes)) (left_part c.loop-piece.from (c.loop-piece.from + c.in-Some.piece.count * 512) c.loop-piece.bytes c.args.bytes.now c.loop-piece.invariant.same ∙ part_is c.loop-piece.from c.in-Some.piece.count c.args.bytes.now) c.in-Ok.ensures.done;
      met = wrote_next g.B.Block.may_hold g.B.Block.contents g.B.Block.layers g.B.Block.fault_count g.B.Block.size c.args.dev (pieces_of (piece_with c.args.volume.now.volume.merge c.args.volume.now.volume.snaps) (span_of c.args.range)) c.loop-piece.piece-iterator c.next.new.self (span_of c.in-Some.piece) c.loop-piece.from c.args.bytes.now
          (take (c.loop-piece.from + c.in-Some.piece.count * 512 - c.loop-piece.from) (drop c.loop-piece.from c.loop-piece.bytes)) c.in-Ok.ensures.answered.0
          c.args.volume.now.volume c.loop-piece.volume.volume c.write_piece.new.volume.volume c.loop-piece.invariant.met c.in-Some.ensures.steps (left_part c.loop-piece.from (c.loop-piece.from + c.in-Some.piece.count * 512) c.loop-piece.bytes c.args.bytes.now c.loop-piece.invariant.same) c.in-Ok.ensures.answered.1;
      taken = takes_then _ _ _ c.loop-piece.invariant.taken c.in-Ok.ensures.taken;
    }

pub returns-clause-between : goal.returns-clause-between
returns-clause-between g c = c.loop-piece.invariant.so.between

pub returns-clause-done : goal.returns-clause-done
returns-clause-done g c =
    wrote_all g.B.Block.contents g.B.Block.layers g.B.Block.size c.args.dev c.args.range (piece_with c.args.volume.now.volume.merge c.args.volume.now.volume.snaps) c.args.bytes.now c.loop-piece.from c.loop-piece.piece-iterator c.loop-piece.piece-iterator c.args.range
    c.args.volume.now.volume c.loop-piece.volume.volume c.loop-piece.volume.volume c.loop-piece.invariant.did c.in-None.ensures.steps.0 (chunk_least g.B.Block.contents g.B.Block.layers c.args.volume.now.volume)

pub returns-clause-settled : goal.returns-clause-settled
returns-clause-settled g c = c.loop-piece.invariant.so.settled

pub returns-clause-kept : goal.returns-clause-kept
returns-clause-kept g c = c.loop-piece.invariant.so.kept

pub returns-clause-requests : goal.returns-clause-requests
returns-clause-requests g c =
    let end = stands_last _ _ _ _ _ c.loop-piece.invariant.stands c.in-None.ensures.steps.0 (omega arith) in
    goes_within g.B.Block.contents g.B.Block.layers g.B.Block.size c.loop-piece.from c.args.range.count c.args.volume.now.volume c.loop-piece.volume.volume c.loop-piece.invariant.so (omega arith)

pub returns-clause-shows : goal.returns-clause-shows
returns-clause-shows g c = λ settled.
    let chunk = chunks_by c.args.volume.now.volume c.piece.result c.piece.ensures.piece c.piece.ensures.within c.piece.ensures.allowed in
    let loud = loud_in_all g.B.Block.contents g.B.Block.layers g.B.Block.size c.args.volume.now.volume settled in
    let quiet = c.is_quiet.ensures.value ∙ c.requires.between.quiet in
    let size = piece_with c.args.volume.now.volume.merge c.args.volume.now.volume.snaps in
    plain_write g.B.Block.contents g.B.Block.layers g.B.Block.size c.args.dev c.args.range size c.args.bytes.now c.args.volume.now.volume c.loop-piece.volume.volume chunk.1 c.requires.can.some c.requires.can.inside c.requires.room chunk.0
    (chunk_least g.B.Block.contents g.B.Block.layers c.args.volume.now.volume) refl (c.is_quiet.ensures.between quiet loud None) (c.is_quiet.ensures.under quiet loud None) (returns-clause-done g c) settled

pub returns-in-Err-clause-loses : goal.returns-in-Err-clause-loses
returns-in-Err-clause-loses g c = λ settled.
    let chunk = chunks_by c.args.volume.now.volume c.piece.result c.piece.ensures.piece c.piece.ensures.within c.piece.ensures.allowed in
    let loud = loud_in_all g.B.Block.contents g.B.Block.layers g.B.Block.size c.args.volume.now.volume settled in
    let quiet = c.is_quiet.ensures.value ∙ c.requires.between.quiet in
    let size = piece_with c.args.volume.now.volume.merge c.args.volume.now.volume.snaps in
    plain_write_lost g.B.Block.contents g.B.Block.layers g.B.Block.size c.args.dev c.args.range size c.args.bytes.now c.args.volume.now.volume c.write_piece.new.volume.volume chunk.1 c.requires.can.some c.requires.can.inside c.requires.room chunk.0
    (chunk_least g.B.Block.contents g.B.Block.layers c.args.volume.now.volume) refl (c.is_quiet.ensures.between quiet loud None) (c.is_quiet.ensures.under quiet loud None) c.in-Err.refusal (returns-in-Err-clause-refused g c) settled

pub returns-in-Err-clause-undone : goal.returns-in-Err-clause-undone
returns-in-Err-clause-undone g c =
    wrote_stop g.B.Block.may_hold g.B.Block.contents g.B.Block.layers g.B.Block.fault_count g.B.Block.size c.args.dev (pieces_of (piece_with c.args.volume.now.volume.merge c.args.volume.now.volume.snaps) (span_of c.args.range)) c.loop-piece.piece-iterator c.next.new.self (span_of c.in-Some.piece) c.loop-piece.from c.args.bytes.now
    (take (c.loop-piece.from + c.in-Some.piece.count * 512 - c.loop-piece.from) (drop c.loop-piece.from c.loop-piece.bytes)) c.in-Err.refusal
    c.args.volume.now.volume c.loop-piece.volume.volume c.write_piece.new.volume.volume c.loop-piece.invariant.met c.in-Some.ensures.steps (left_part c.loop-piece.from (c.loop-piece.from + c.in-Some.piece.count * 512) c.loop-piece.bytes c.args.bytes.now c.loop-piece.invariant.same) c.in-Err.ensures.undone

pub returns-clause-answered : goal.returns-clause-answered
returns-clause-answered g c =
    wrote_end g.B.Block.may_hold g.B.Block.contents g.B.Block.layers g.B.Block.fault_count g.B.Block.size c.args.dev (pieces_of (piece_with c.args.volume.now.volume.merge c.args.volume.now.volume.snaps) (span_of c.args.range)) c.loop-piece.piece-iterator c.loop-piece.from c.args.bytes.now c.args.volume.now.volume c.loop-piece.volume.volume c.loop-piece.invariant.met c.in-None.ensures.steps.0

pub returns-in-Err-clause-taken : goal.returns-in-Err-clause-taken
returns-in-Err-clause-taken g c = takes_then _ _ _ c.loop-piece.invariant.taken c.in-Err.ensures.taken

pub returns-clause-taken : goal.returns-clause-taken
returns-clause-taken g c = c.loop-piece.invariant.taken

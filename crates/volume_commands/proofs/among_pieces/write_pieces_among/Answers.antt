-- One piece more is written, and where the write ends.
use Rattle.std.proofs.Common.{◌+◌, ◌-◌, ◌*◌, length, take, drop, refl, ◌∙◌, ap, subst, arith}
use Rattle.chunk.specs.Pieces.{span_of, pieces_of}
use Rattle.chunk.proofs.Limits.{is_chunk-some, is_chunk-small}
use Rattle.chunk.proofs.Runs.{StandsAt, first_piece, stands_first, stands_next, stands_last}
use Rattle.volume.specs.Volumed.{piece_with}
use Rattle.volume_commands.proofs.Writing.{left_behind, left_inside, left_part, part_fits}
use Rattle.volume_commands.proofs.AmongRuns.{among_start, among_next, among_within, writes_start, writes_next, writes_end, writes_stop}
use Rattle.counted_volume.proofs.Takings.{takes_none, takes_then}
use Rattle.volume_commands.proofs.among_pieces.write_pieces_among.Goals as goal

pub invariant_of-geometry : goal.invariant_of-geometry
invariant_of-geometry g c =
    let ok = c.piece.ensures.allowed in
    record { allowed = ok; some = is_chunk-some c.piece.result ok; small = is_chunk-small c.piece.result ok }

pub loop-piece-init : goal.loop-piece-init
loop-piece-init g c = record {
  can = tt;
  finite = tt;
  stands = subst (λ n. StandsAt n c.args.range.first (c.args.range.first + c.args.range.count) 0 c.into_iter-piece-iterator.result) c.piece.ensures.piece
      (stands_first c.piece.result (span_of c.args.range) _ _ c.pieces-piece-items.ensures.cut c.into_iter-piece-iterator.ensures.into_iter_gives);
  same = refl;
  so = among_start g.B.Block.layers g.B.Block.size c.args.volume.now.volume;
  did = writes_start g.B.Block.may_hold g.B.Block.contents g.B.Block.layers g.B.Block.fault_count g.B.Block.size c.args.dev (pieces_of (piece_with c.args.volume.now.volume.merge c.args.volume.now.volume.snaps) (span_of c.args.range)) c.into_iter-piece-iterator.result c.args.bytes.now c.args.volume.now.volume c.args.ended.now.items
      (c.into_iter-piece-iterator.ensures.into_iter_gives ∙ c.pieces-piece-items.ensures.pieces ∙ ap (λ n. pieces_of n (span_of c.args.range)) c.piece.ensures.piece);
  taken = takes_none _;
}

pub overflow_add-to : goal.overflow_add-to
overflow_add-to g c =
    let is = first_piece _ _ _ _ _ _ _ c.loop-piece.invariant.stands c.in-Some.ensures.steps in
    let bytes = is.bytes in
    let room = c.requires.room in
    omega arith

pub write_piece_among-requires-clause-inside : goal.write_piece_among-requires-clause-inside
write_piece_among-requires-clause-inside g c =
    let is = first_piece _ _ _ _ _ _ _ c.loop-piece.invariant.stands c.in-Some.ensures.steps in
    let bytes = is.bytes in
    let some = is.some in
    let room = c.requires.room in
    left_inside c.loop-piece.from (c.loop-piece.from + c.in-Some.piece.count * 512) c.loop-piece.bytes c.args.bytes.now c.loop-piece.invariant.same (omega arith) (omega arith)

pub write_piece_among-requires-clause-room : goal.write_piece_among-requires-clause-room
write_piece_among-requires-clause-room g c =
    let is = first_piece _ _ _ _ _ _ _ c.loop-piece.invariant.stands c.in-Some.ensures.steps in
    let bytes = is.bytes in
    ap length (left_part c.loop-piece.from (c.loop-piece.from + c.in-Some.piece.count * 512) c.loop-piece.bytes c.args.bytes.now c.loop-piece.invariant.same)
    ∙ part_fits c.loop-piece.from c.in-Some.piece.count c.args.range.count c.args.bytes.now c.requires.room (omega arith)

pub returns-in-Err-clause-stopped : goal.returns-in-Err-clause-stopped
returns-in-Err-clause-stopped g c =
    writes_stop g.B.Block.may_hold g.B.Block.contents g.B.Block.layers g.B.Block.fault_count g.B.Block.size c.args.dev (pieces_of (piece_with c.args.volume.now.volume.merge c.args.volume.now.volume.snaps) (span_of c.args.range)) c.loop-piece.piece-iterator c.next.new.self (span_of c.in-Some.piece) c.loop-piece.from c.args.bytes.now
    (take (c.loop-piece.from + c.in-Some.piece.count * 512 - c.loop-piece.from) (drop c.loop-piece.from c.loop-piece.bytes)) c.in-Err.refusal
    c.args.volume.now.volume c.loop-piece.volume.volume c.write_piece_among.new.volume.volume c.args.ended.now.items c.loop-piece.ended.items c.write_piece_among.new.ended.items c.loop-piece.invariant.did c.in-Some.ensures.steps (left_part c.loop-piece.from (c.loop-piece.from + c.in-Some.piece.count * 512) c.loop-piece.bytes c.args.bytes.now c.loop-piece.invariant.same) c.in-Err.ensures.failed

pub returns-in-Err-clause-kept : goal.returns-in-Err-clause-kept
returns-in-Err-clause-kept g c =
    let is = first_piece _ _ _ _ _ _ _ c.loop-piece.invariant.stands c.in-Some.ensures.steps in
    (among_next g.B.Block.layers g.B.Block.size c.loop-piece.from c.in-Some.piece.count c.args.volume.now.volume c.loop-piece.volume.volume c.write_piece_among.new.volume.volume c.loop-piece.invariant.so c.in-Err.ensures.kept c.in-Err.ensures.requests is.some).kept

pub returns-in-Err-clause-requests : goal.returns-in-Err-clause-requests
returns-in-Err-clause-requests g c =
    let is = first_piece _ _ _ _ _ _ _ c.loop-piece.invariant.stands c.in-Some.ensures.steps in
    let bytes = is.bytes in
    let more = among_next g.B.Block.layers g.B.Block.size c.loop-piece.from c.in-Some.piece.count c.args.volume.now.volume c.loop-piece.volume.volume c.write_piece_among.new.volume.volume c.loop-piece.invariant.so c.in-Err.ensures.kept c.in-Err.ensures.requests is.some in
    (among_within g.B.Block.layers g.B.Block.size (c.loop-piece.from + c.in-Some.piece.count * 512) c.args.range.count c.args.volume.now.volume c.write_piece_among.new.volume.volume more (omega arith))

pub loop-piece-preserved : goal.loop-piece-preserved
loop-piece-preserved g c =
    let is = first_piece _ _ _ _ _ _ _ c.loop-piece.invariant.stands c.in-Some.ensures.steps in
    record {
      can = tt;
      finite = tt;
      stands = stands_next _ _ _ _ _ _ _ c.loop-piece.invariant.stands c.in-Some.ensures.steps;
      same = left_behind c.loop-piece.from (c.in-Some.piece.count * 512) c.loop-piece.bytes c.args.bytes.now c.write_piece_among.new.bytes c.loop-piece.invariant.same c.write_piece_among.ensures.left;
      so = among_next g.B.Block.layers g.B.Block.size c.loop-piece.from c.in-Some.piece.count c.args.volume.now.volume c.loop-piece.volume.volume c.write_piece_among.new.volume.volume c.loop-piece.invariant.so c.in-Ok.ensures.kept c.in-Ok.ensures.requests is.some;
      did = writes_next g.B.Block.may_hold g.B.Block.contents g.B.Block.layers g.B.Block.fault_count g.B.Block.size c.args.dev (pieces_of (piece_with c.args.volume.now.volume.merge c.args.volume.now.volume.snaps) (span_of c.args.range)) c.loop-piece.piece-iterator c.next.new.self (span_of c.in-Some.piece) c.loop-piece.from c.args.bytes.now
          (take (c.loop-piece.from + c.in-Some.piece.count * 512 - c.loop-piece.from) (drop c.loop-piece.from c.loop-piece.bytes)) c.in-Ok.ensures.written.0
          c.args.volume.now.volume c.loop-piece.volume.volume c.write_piece_among.new.volume.volume c.args.ended.now.items c.loop-piece.ended.items c.write_piece_among.new.ended.items c.loop-piece.invariant.did c.in-Some.ensures.steps (left_part c.loop-piece.from (c.loop-piece.from + c.in-Some.piece.count * 512) c.loop-piece.bytes c.args.bytes.now c.loop-piece.invariant.same) c.in-Ok.ensures.written.1;
      taken = takes_then _ _ _ c.loop-piece.invariant.taken c.in-Ok.ensures.taken;
    }

pub returns-clause-written : goal.returns-clause-written
returns-clause-written g c =
    writes_end g.B.Block.may_hold g.B.Block.contents g.B.Block.layers g.B.Block.fault_count g.B.Block.size c.args.dev (pieces_of (piece_with c.args.volume.now.volume.merge c.args.volume.now.volume.snaps) (span_of c.args.range)) c.loop-piece.piece-iterator c.loop-piece.from c.args.bytes.now c.args.volume.now.volume c.loop-piece.volume.volume c.args.ended.now.items c.loop-piece.ended.items
    c.loop-piece.invariant.did c.in-None.ensures.steps.0

pub returns-clause-kept : goal.returns-clause-kept
returns-clause-kept g c = c.loop-piece.invariant.so.kept

pub returns-clause-requests : goal.returns-clause-requests
returns-clause-requests g c =
    let end = stands_last _ _ _ _ _ c.loop-piece.invariant.stands c.in-None.ensures.steps.0 (omega arith) in
    (among_within g.B.Block.layers g.B.Block.size c.loop-piece.from c.args.range.count c.args.volume.now.volume c.loop-piece.volume.volume c.loop-piece.invariant.so (omega arith))

pub returns-in-Err-clause-taken : goal.returns-in-Err-clause-taken
returns-in-Err-clause-taken g c = takes_then _ _ _ c.loop-piece.invariant.taken c.in-Err.ensures.taken

pub returns-clause-taken : goal.returns-clause-taken
returns-clause-taken g c = c.loop-piece.invariant.taken

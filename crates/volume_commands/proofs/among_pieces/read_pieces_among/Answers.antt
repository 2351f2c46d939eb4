-- One piece more is read, and where the read ends.
use Rattle.std.proofs.Common.{◌+◌, ◌*◌, ◌∙◌, ap, subst, arith}
use Rattle.chunk.specs.Pieces.{span_of, pieces_of}
use Rattle.chunk.proofs.Limits.{is_chunk-some, is_chunk-small}
use Rattle.chunk.proofs.Runs.{StandsAt, first_piece, stands_first, stands_next, stands_last}
use Rattle.volume.specs.Volumed.{piece_with}
use Rattle.volume_commands.proofs.AmongRuns.{among_start, among_next, among_within, reads_start, reads_next, reads_end, reads_stop}
use Rattle.counted_volume.proofs.Takings.{takes_none, takes_then}
use Rattle.volume_commands.proofs.among_pieces.read_pieces_among.Goals as goal

pub invariant_of-geometry : goal.invariant_of-geometry
invariant_of-geometry g c =
    let ok = c.piece.ensures.allowed in
    record { allowed = ok; some = is_chunk-some c.piece.result ok; small = is_chunk-small c.piece.result ok }

pub loop-piece-init : goal.loop-piece-init
loop-piece-init g c = record {
  can = tt;
  finite = tt;
  place = record {
    from = 0;
    stands = subst (λ n. StandsAt n c.args.range.first (c.args.range.first + c.args.range.count) 0 c.into_iter-piece-iterator.result) c.piece.ensures.piece
        (stands_first c.piece.result (span_of c.args.range) _ _ c.pieces-piece-items.ensures.cut c.into_iter-piece-iterator.ensures.into_iter_gives);
    so = among_start g.B.Block.layers g.B.Block.size c.args.volume.now.volume;
    few = (let none = c.requires.none in omega (arith, none));
    enough = c.requires.room;
  };
  did = reads_start g.B.Block.may_hold g.B.Block.contents g.B.Block.layers g.B.Block.fault_count g.B.Block.size c.args.dev (pieces_of (piece_with c.args.volume.now.volume.merge c.args.volume.now.volume.snaps) (span_of c.args.range)) c.into_iter-piece-iterator.result c.args.out.now.items c.args.volume.now.volume c.args.ended.now.items
      (c.into_iter-piece-iterator.ensures.into_iter_gives ∙ c.pieces-piece-items.ensures.pieces ∙ ap (λ n. pieces_of n (span_of c.args.range)) c.piece.ensures.piece) c.requires.empty;
  taken = takes_none _;
}

pub read_piece_among-requires : goal.read_piece_among-requires
read_piece_among-requires g c =
    let is = first_piece _ _ _ _ _ _ _ c.loop-piece.invariant.place.stands c.in-Some.ensures.steps in
    let bytes = is.bytes in
    let few = c.loop-piece.invariant.place.few in
    let enough = c.loop-piece.invariant.place.enough in
    record { room = omega (arith, bytes, few, enough) }

pub loop-piece-preserved : goal.loop-piece-preserved
loop-piece-preserved g c =
    let is = first_piece _ _ _ _ _ _ _ c.loop-piece.invariant.place.stands c.in-Some.ensures.steps in
    record {
      can = tt;
      finite = tt;
      place = record {
        from = c.loop-piece.invariant.place.from + c.in-Some.piece.count * 512;
        stands = stands_next _ _ _ _ _ _ _ c.loop-piece.invariant.place.stands c.in-Some.ensures.steps;
        so = among_next g.B.Block.layers g.B.Block.size c.loop-piece.invariant.place.from c.in-Some.piece.count c.args.volume.now.volume c.loop-piece.volume.volume c.read_piece_among.new.volume.volume c.loop-piece.invariant.place.so c.in-Ok.ensures.kept c.in-Ok.ensures.requests is.some;
        few = (let was = c.loop-piece.invariant.place.few in let more = c.in-Ok.ensures.len in omega (arith, was, more));
        enough = (let was = c.loop-piece.invariant.place.enough in let more = c.in-Ok.ensures.capacity in omega (arith, was, more));
      };
      did = reads_next g.B.Block.may_hold g.B.Block.contents g.B.Block.layers g.B.Block.fault_count g.B.Block.size c.args.dev (pieces_of (piece_with c.args.volume.now.volume.merge c.args.volume.now.volume.snaps) (span_of c.args.range)) c.loop-piece.piece-iterator c.next.new.self (span_of c.in-Some.piece) c.loop-piece.out.items c.read_piece_among.new.out.items c.in-Ok.ensures.read.0
          c.args.volume.now.volume c.loop-piece.volume.volume c.read_piece_among.new.volume.volume c.args.ended.now.items c.loop-piece.ended.items c.read_piece_among.new.ended.items c.loop-piece.invariant.did c.in-Some.ensures.steps c.in-Ok.ensures.read.1 c.in-Ok.ensures.read.2;
      taken = takes_then _ _ _ c.loop-piece.invariant.taken c.in-Ok.ensures.taken;
    }

pub returns-in-Err-clause-stopped : goal.returns-in-Err-clause-stopped
returns-in-Err-clause-stopped g c =
    reads_stop g.B.Block.may_hold g.B.Block.contents g.B.Block.layers g.B.Block.fault_count g.B.Block.size c.args.dev (pieces_of (piece_with c.args.volume.now.volume.merge c.args.volume.now.volume.snaps) (span_of c.args.range)) c.loop-piece.piece-iterator c.next.new.self (span_of c.in-Some.piece) c.loop-piece.out.items c.in-Err.refusal
    c.args.volume.now.volume c.loop-piece.volume.volume c.read_piece_among.new.volume.volume c.args.ended.now.items c.loop-piece.ended.items c.read_piece_among.new.ended.items c.loop-piece.invariant.did c.in-Some.ensures.steps c.in-Err.ensures.failed

pub returns-in-Err-clause-kept : goal.returns-in-Err-clause-kept
returns-in-Err-clause-kept g c =
    let is = first_piece _ _ _ _ _ _ _ c.loop-piece.invariant.place.stands c.in-Some.ensures.steps in
    (among_next g.B.Block.layers g.B.Block.size c.loop-piece.invariant.place.from c.in-Some.piece.count c.args.volume.now.volume c.loop-piece.volume.volume c.read_piece_among.new.volume.volume c.loop-piece.invariant.place.so c.in-Err.ensures.kept c.in-Err.ensures.requests is.some).kept

pub returns-in-Err-clause-requests : goal.returns-in-Err-clause-requests
returns-in-Err-clause-requests g c =
    let is = first_piece _ _ _ _ _ _ _ c.loop-piece.invariant.place.stands c.in-Some.ensures.steps in
    let bytes = is.bytes in
    let more = among_next g.B.Block.layers g.B.Block.size c.loop-piece.invariant.place.from c.in-Some.piece.count c.args.volume.now.volume c.loop-piece.volume.volume c.read_piece_among.new.volume.volume c.loop-piece.invariant.place.so c.in-Err.ensures.kept c.in-Err.ensures.requests is.some in
    (among_within g.B.Block.layers g.B.Block.size (c.loop-piece.invariant.place.from + c.in-Some.piece.count * 512) c.args.range.count c.args.volume.now.volume c.read_piece_among.new.volume.volume more (omega (arith, bytes)))

pub returns-clause-read : goal.returns-clause-read
returns-clause-read g c =
    reads_end g.B.Block.may_hold g.B.Block.contents g.B.Block.layers g.B.Block.fault_count g.B.Block.size c.args.dev (pieces_of (piece_with c.args.volume.now.volume.merge c.args.volume.now.volume.snaps) (span_of c.args.range)) c.loop-piece.piece-iterator c.loop-piece.out.items c.args.volume.now.volume c.loop-piece.volume.volume c.args.ended.now.items c.loop-piece.ended.items
    c.loop-piece.invariant.did c.in-None.ensures.steps.0

pub returns-clause-kept : goal.returns-clause-kept
returns-clause-kept g c = c.loop-piece.invariant.place.so.kept

pub returns-clause-requests : goal.returns-clause-requests
returns-clause-requests g c =
    let end = stands_last _ _ _ _ _ c.loop-piece.invariant.place.stands c.in-None.ensures.steps.0 (omega arith) in
    (among_within g.B.Block.layers g.B.Block.size c.loop-piece.invariant.place.from c.args.range.count c.args.volume.now.volume c.loop-piece.volume.volume c.loop-piece.invariant.place.so (omega (arith, end)))

pub returns-in-Err-clause-taken : goal.returns-in-Err-clause-taken
returns-in-Err-clause-taken g c = takes_then _ _ _ c.loop-piece.invariant.taken c.in-Err.ensures.taken

pub returns-clause-taken : goal.returns-clause-taken
returns-clause-taken g c = c.loop-piece.invariant.taken

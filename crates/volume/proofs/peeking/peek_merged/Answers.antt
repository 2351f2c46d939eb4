-- One piece after the other has its place in the buffer.
use Rattle.std.proofs.Common.{◌≡◌, ◌*◌, length, arith}
use Rattle.chunk.specs.Pieces.{span_of}
use Rattle.chunk.proofs.Runs.{first_piece, stands_first, stands_next, stands_last}
use Rattle.whole_commands.proofs.PictureSectors.{read_next, read_all}
use Rattle.volume.proofs.Listed.{length-listed}
use Rattle.volume.proofs.peeking.peek_merged.Goals as goal

pub loop-piece-init : goal.loop-piece-init
loop-piece-init g c = record {
  stands = stands_first c.args.geometry.now.chunk (span_of c.args.range) _ _ c.pieces-piece-items.ensures.cut c.into_iter-piece-iterator.ensures.into_iter_gives;
  bytes = λ k lt. absurd (omega (arith, lt));
}

pub overflow_add-to : goal.overflow_add-to
overflow_add-to g c =
    let is = first_piece _ _ _ _ _ _ _ c.loop-piece.invariant.stands c.in-Some.ensures.steps in
    omega (arith, is.bytes, c.requires.inside, g.met.B.Block.small c.args.origin.now)

pub slice_bounds-peek_merged_piece-end : goal.slice_bounds-peek_merged_piece-end
slice_bounds-peek_merged_piece-end g c =
    let is = first_piece _ _ _ _ _ _ _ c.loop-piece.invariant.stands c.in-Some.ensures.steps in
    let bytes = is.bytes in
    let room = c.requires.room in
    let kept = c.loop-piece.auto.out in
    omega arith

pub peek_merged_piece-requires-clause-inside : goal.peek_merged_piece-requires-clause-inside
peek_merged_piece-requires-clause-inside g c =
    let is = first_piece _ _ _ _ _ _ _ c.loop-piece.invariant.stands c.in-Some.ensures.steps in
    omega (arith, is.end, c.requires.inside)

pub peek_merged_piece-requires-clause-some : goal.peek_merged_piece-requires-clause-some
peek_merged_piece-requires-clause-some g c = (first_piece _ _ _ _ _ _ _ c.loop-piece.invariant.stands c.in-Some.ensures.steps).some

pub peek_merged_piece-requires-clause-one : goal.peek_merged_piece-requires-clause-one
peek_merged_piece-requires-clause-one g c = (first_piece _ _ _ _ _ _ _ c.loop-piece.invariant.stands c.in-Some.ensures.steps).one

pub loop-piece-preserved : goal.loop-piece-preserved
loop-piece-preserved g c =
    let inv = c.loop-piece.invariant in
    let is = first_piece _ _ _ _ _ _ _ inv.stands c.in-Some.ensures.steps in
    let bytes = is.bytes in
    let room = c.requires.room in
    let kept = c.loop-piece.auto.out in
    let place = is.place in
    let part : length c.peek_merged_piece.new.out ≡ c.in-Some.piece.count * 512 = omega (arith, c.peek_merged_piece.auto.out) in
    record {
      stands = stands_next _ _ _ _ _ _ _ inv.stands c.in-Some.ensures.steps;
      bytes = read_next c.loop-piece.from c.args.range.first c.in-Some.piece.first c.in-Some.piece.count c.loop-piece.out c.peek_merged_piece.new.out _ (omega arith)
          c.peek_merged_piece.ensures part place inv.bytes;
    }

pub returns : goal.returns
returns g c =
    let inv = c.loop-piece.invariant in
    let inside = c.requires.inside in
    let room = c.requires.room in
    let kept = c.loop-piece.auto.out in
    let whole = g.met.B.Block.whole c.args.origin.now in
    let len = length-listed c.args.merge.now.state.chunk (g.B.Block.contents c.args.origin.now) (g.B.Block.contents c.args.merge.now.device) c.args.merge.now.pairs in
    let end = stands_last _ _ _ _ _ inv.stands c.in-None.ensures.steps.0 (omega arith) in
    read_all c.loop-piece.from c.args.range.first c.args.range.count c.loop-piece.out _ (omega arith) (omega arith) (omega arith) inv.bytes

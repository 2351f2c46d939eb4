-- One piece more is read, and where the read ends.
use Rattle.std.proofs.Common.{◌≡◌, None, ℕ, ◌+◌, ◌*◌, List, [], ◌∷◌, refl, sym, ◌∙◌, ap, subst, arith}
use Rattle.sector.specs.declared.refusal.Refusal.{Refusal}
use Rattle.chunk.specs.Pieces.{Span, span_of, pieces_of}
use Rattle.chunk.proofs.Limits.{is_chunk-some, is_chunk-small}
use Rattle.plain_machine.specs.declared.request.Op.TheVariants.{Read}
use Rattle.plain_machine.specs.declared.request.Reply.{Reply}
use Rattle.plain_machine.specs.declared.request.Reply.TheVariants.{Data}
use Rattle.chunk.proofs.Runs.{StandsAt, first_piece, stands_first, stands_next, stands_last}
use Rattle.whole_commands.specs.Beside.{read_beside}
use Rattle.whole_commands.specs.Commands.{bytes_in}
use Rattle.volume.specs.Volumed.{piece_with}
use Rattle.volume_commands.specs.Rested.{rested_of, merged_of, IsSettled}
use Rattle.volume_commands.specs.AtRest.{AreReadAtRest, IsPieceAnswered, IsPieceUndone, IsReadUndone}
use Rattle.volume_commands.specs.Commands.{IsDoneBy, IsReadRefused}
use Rattle.volume_commands.specs.Serving.{IsPieceRead, IsPieceRefused, part_read}
use Rattle.volume_commands.specs.Showing.{IsPlainRead, IsPlainReadRefused, arrays_in}
use Rattle.volume_commands.proofs.Alone.{alone_can, alone_read, alone_refused, err_so, ok_so}
use Rattle.volume_commands.proofs.Between.{loud_in_all}
use Rattle.volume_commands.proofs.Going.{chunks_by, goes_none, goes_can, goes_more, goes_within, chunk_least}
use Rattle.volume_commands.proofs.WriteRuns.{answer}
use Rattle.volume_commands.proofs.ReadRuns.{ReadsTo, reads_none}
use Rattle.volume_commands.proofs.Reading.{got_more, got_refused, got_all, refused_first}
use Rattle.volume_commands.proofs.PlainReads.{plain_read, plain_read_refused}
use Rattle.volume_commands.proofs.RestRuns.{rest_alone, rest_end, rest_next, rest_start, rest_stop, rest_undone}
use Rattle.counted_volume.proofs.Takings.{takes_none, takes_then}
use Rattle.volume_commands.proofs.pieces.read_pieces.Goals as goal

pub returns-in_default-clause-refused : goal.returns-in_default-clause-refused
returns-in_default-clause-refused g c =
    refused_first g.B.Block.contents g.B.Block.layers g.B.Block.size c.args.dev c.args.range c.args.volume.now.volume c.requires.can

pub returns-in_default-clause-settled : goal.returns-in_default-clause-settled
returns-in_default-clause-settled g c = λ settled. settled

pub returns-in_default-clause-kept : goal.returns-in_default-clause-kept
returns-in_default-clause-kept g c = record { numbers = refl; chunks = refl; sizes = refl; loud = refl; attached = refl; merging = refl }

pub invariant_of-geometry : goal.invariant_of-geometry
invariant_of-geometry g c =
    let ok = c.piece.ensures.allowed in
    record { allowed = ok; some = is_chunk-some c.piece.result ok; small = is_chunk-small c.piece.result ok }

pub loop-piece-init : goal.loop-piece-init
loop-piece-init g c = record {
  can = tt;
  finite = tt;
  place = record {
    from = 0;
    stands = subst (λ n. StandsAt n c.args.range.first (c.args.range.first + c.args.range.count) 0 c.into_iter-piece-iterator.result) c.piece.ensures.piece
        (stands_first c.piece.result (span_of c.args.range) _ _ c.pieces-piece-items.ensures.cut c.into_iter-piece-iterator.ensures.into_iter_gives);
    so = goes_none g.B.Block.contents g.B.Block.layers g.B.Block.size c.args.volume.now.volume c.requires.between;
    few = (let none = c.in-Ok.ensures.len in omega (arith, none));
    enough = (let room = c.in-Ok.ensures.capacity in omega (arith, room));
  };
  did = subst (λ bs. ReadsTo c.args.dev (IsSettled g.B.Block.layers (rested_of c.args.volume.now.volume)) (pieces_of (piece_with c.args.volume.now.volume.merge c.args.volume.now.volume.snaps) (span_of c.args.range)) c.into_iter-piece-iterator.result bs
      (merged_of g.B.Block.contents g.B.Block.layers (rested_of c.args.volume.now.volume)) (merged_of g.B.Block.contents g.B.Block.layers (rested_of c.args.volume.now.volume))) (sym c.in-Ok.ensures.items)
      (reads_none c.args.dev _ (pieces_of (piece_with c.args.volume.now.volume.merge c.args.volume.now.volume.snaps) (span_of c.args.range)) c.into_iter-piece-iterator.result (merged_of g.B.Block.contents g.B.Block.layers (rested_of c.args.volume.now.volume))
      (c.into_iter-piece-iterator.ensures.into_iter_gives ∙ c.pieces-piece-items.ensures.pieces ∙ ap (λ n. pieces_of n (span_of c.args.range)) c.piece.ensures.piece));
  met = rest_start g.B.Block.may_hold g.B.Block.contents g.B.Block.layers g.B.Block.fault_count g.B.Block.size c.args.dev (pieces_of (piece_with c.args.volume.now.volume.merge c.args.volume.now.volume.snaps) (span_of c.args.range)) c.into_iter-piece-iterator.result _ c.args.volume.now.volume
      (c.into_iter-piece-iterator.ensures.into_iter_gives ∙ c.pieces-piece-items.ensures.pieces ∙ ap (λ n. pieces_of n (span_of c.args.range)) c.piece.ensures.piece) c.in-Ok.ensures.items;
  taken = takes_none _;
}

pub read_piece-requires-clause-between : goal.read_piece-requires-clause-between
read_piece-requires-clause-between g c = c.loop-piece.invariant.place.so.between

pub read_piece-requires-clause-can : goal.read_piece-requires-clause-can
read_piece-requires-clause-can g c =
    let is = first_piece _ _ _ _ _ _ _ c.loop-piece.invariant.place.stands c.in-Some.ensures.steps in
    let chunk = chunks_by c.args.volume.now.volume c.piece.result c.piece.ensures.piece c.piece.ensures.within c.piece.ensures.allowed in
    goes_can g.B.Block.contents g.B.Block.layers g.B.Block.size c.args.dev Read c.args.range c.in-Some.piece c.loop-piece.invariant.place.from
    c.args.volume.now.volume c.loop-piece.volume.volume c.requires.can c.loop-piece.invariant.place.so chunk.1 chunk.0 is tt

pub read_piece-requires-clause-room : goal.read_piece-requires-clause-room
read_piece-requires-clause-room g c =
    let is = first_piece _ _ _ _ _ _ _ c.loop-piece.invariant.place.stands c.in-Some.ensures.steps in
    let bytes = is.bytes in
    let few = c.loop-piece.invariant.place.few in
    let enough = c.loop-piece.invariant.place.enough in
    omega (arith, bytes, few, enough)

pub loop-piece-preserved : goal.loop-piece-preserved
loop-piece-preserved g c =
    let is = first_piece _ _ _ _ _ _ _ c.loop-piece.invariant.place.stands c.in-Some.ensures.steps in
    record {
      can = tt;
      finite = tt;
      place = record {
        from = c.loop-piece.invariant.place.from + c.in-Some.piece.count * 512;
        stands = stands_next _ _ _ _ _ _ _ c.loop-piece.invariant.place.stands c.in-Some.ensures.steps;
        so = goes_more g.B.Block.contents g.B.Block.layers g.B.Block.size c.loop-piece.invariant.place.from c.in-Some.piece.count c.args.volume.now.volume c.loop-piece.volume.volume c.read_piece.new.volume.volume c.loop-piece.invariant.place.so
            c.in-Ok-read_piece.ensures.between c.in-Ok-read_piece.ensures.kept c.in-Ok-read_piece.ensures.settled c.in-Ok-read_piece.ensures.piece c.in-Ok-read_piece.ensures.requests is.some;
        few = (let was = c.loop-piece.invariant.place.few in let more = c.in-Ok-read_piece.ensures.len in omega (arith, was, more));
        enough = (let was = c.loop-piece.invariant.place.enough in let more = c.in-Ok-read_piece.ensures.capacity in omega (arith, was, more));
      };
      did = got_more g.B.Block.contents g.B.Block.layers g.B.Block.size c.args.dev c.args.range (piece_with c.args.volume.now.volume.merge c.args.volume.now.volume.snaps) c.loop-piece.out.items c.read_piece.new.out.items c.loop-piece.piece-iterator c.next.new.self c.in-Some.piece
          c.args.volume.now.volume c.loop-piece.volume.volume c.read_piece.new.volume.volume c.loop-piece.invariant.did c.in-Some.ensures.steps c.loop-piece.invariant.place.so.settled c.in-Ok-read_piece.ensures.done;
      met = rest_next g.B.Block.may_hold g.B.Block.contents g.B.Block.layers g.B.Block.fault_count g.B.Block.size c.args.dev (pieces_of (piece_with c.args.volume.now.volume.merge c.args.volume.now.volume.snaps) (span_of c.args.range)) c.loop-piece.piece-iterator c.next.new.self (span_of c.in-Some.piece) c.loop-piece.out.items c.read_piece.new.out.items c.in-Ok-read_piece.ensures.answered.0
          c.args.volume.now.volume c.loop-piece.volume.volume c.read_piece.new.volume.volume c.loop-piece.invariant.met c.in-Some.ensures.steps c.in-Ok-read_piece.ensures.answered.1 c.in-Ok-read_piece.ensures.answered.2;
      taken = takes_then _ _ _ c.loop-piece.invariant.taken c.in-Ok-read_piece.ensures.taken;
    }

pub returns-in-Err-clause-refused : goal.returns-in-Err-clause-refused
returns-in-Err-clause-refused g c =
    got_refused g.B.Block.contents g.B.Block.layers g.B.Block.size c.args.dev c.args.range (piece_with c.args.volume.now.volume.merge c.args.volume.now.volume.snaps) c.loop-piece.out.items c.loop-piece.out.items c.loop-piece.piece-iterator c.next.new.self c.in-Some.piece
    c.args.volume.now.volume c.loop-piece.volume.volume c.read_piece.new.volume.volume c.loop-piece.invariant.did c.in-Some.ensures.steps c.loop-piece.invariant.place.so.settled c.in-Err.refusal
    c.requires.can.there (chunk_least g.B.Block.contents g.B.Block.layers c.args.volume.now.volume) c.in-Err.ensures.refused

pub returns-in-Err-clause-settled : goal.returns-in-Err-clause-settled
returns-in-Err-clause-settled g c = λ settled. c.in-Err.ensures.settled (c.loop-piece.invariant.place.so.settled settled)

pub returns-in-Err-clause-kept : goal.returns-in-Err-clause-kept
returns-in-Err-clause-kept g c =
    let is = first_piece _ _ _ _ _ _ _ c.loop-piece.invariant.place.stands c.in-Some.ensures.steps in
    (goes_more g.B.Block.contents g.B.Block.layers g.B.Block.size c.loop-piece.invariant.place.from c.in-Some.piece.count c.args.volume.now.volume c.loop-piece.volume.volume c.read_piece.new.volume.volume c.loop-piece.invariant.place.so
    c.in-Err.ensures.between c.in-Err.ensures.kept c.in-Err.ensures.settled c.in-Err.ensures.piece c.in-Err.ensures.requests is.some).kept

pub returns-in-Err-clause-requests : goal.returns-in-Err-clause-requests
returns-in-Err-clause-requests g c =
    let is = first_piece _ _ _ _ _ _ _ c.loop-piece.invariant.place.stands c.in-Some.ensures.steps in
    let bytes = is.bytes in
    let more = goes_more g.B.Block.contents g.B.Block.layers g.B.Block.size c.loop-piece.invariant.place.from c.in-Some.piece.count c.args.volume.now.volume c.loop-piece.volume.volume c.read_piece.new.volume.volume c.loop-piece.invariant.place.so
    c.in-Err.ensures.between c.in-Err.ensures.kept c.in-Err.ensures.settled c.in-Err.ensures.piece c.in-Err.ensures.requests is.some in
    goes_within g.B.Block.contents g.B.Block.layers g.B.Block.size (c.loop-piece.invariant.place.from + c.in-Some.piece.count * 512) c.args.range.count c.args.volume.now.volume c.read_piece.new.volume.volume more (omega (arith, bytes))

pub returns-clause-between : goal.returns-clause-between
returns-clause-between g c = c.loop-piece.invariant.place.so.between

pub returns-clause-done : goal.returns-clause-done
returns-clause-done g c =
    λ loud. got_all g.B.Block.contents g.B.Block.layers g.B.Block.size c.args.dev c.args.range (piece_with c.args.volume.now.volume.merge c.args.volume.now.volume.snaps) c.loop-piece.out.items c.loop-piece.out.items c.loop-piece.piece-iterator c.loop-piece.piece-iterator c.args.range
    c.args.volume.now.volume c.loop-piece.volume.volume c.loop-piece.volume.volume c.loop-piece.invariant.did c.in-None.ensures.steps.0 (chunk_least g.B.Block.contents g.B.Block.layers c.args.volume.now.volume) loud
    ∙ ap (λ bs. answer (merged_of g.B.Block.contents g.B.Block.layers (rested_of c.loop-piece.volume.volume)) (Data bs)) (sym c.from_vec.ensures)

pub returns-clause-settled : goal.returns-clause-settled
returns-clause-settled g c = c.loop-piece.invariant.place.so.settled

pub returns-clause-kept : goal.returns-clause-kept
returns-clause-kept g c = c.loop-piece.invariant.place.so.kept

pub returns-clause-requests : goal.returns-clause-requests
returns-clause-requests g c =
    let end = stands_last _ _ _ _ _ c.loop-piece.invariant.place.stands c.in-None.ensures.steps.0 (omega arith) in
    goes_within g.B.Block.contents g.B.Block.layers g.B.Block.size c.loop-piece.invariant.place.from c.args.range.count c.args.volume.now.volume c.loop-piece.volume.volume c.loop-piece.invariant.place.so (omega (arith, end))

pub returns-clause-shows : goal.returns-clause-shows
returns-clause-shows g c = λ settled.
    let chunk = chunks_by c.args.volume.now.volume c.piece.result c.piece.ensures.piece c.piece.ensures.within c.piece.ensures.allowed in
    let loud = loud_in_all g.B.Block.contents g.B.Block.layers g.B.Block.size c.args.volume.now.volume settled in
    let quiet = c.is_quiet.ensures.value ∙ c.requires.between.quiet in
    plain_read g.B.Block.contents g.B.Block.layers g.B.Block.size c.args.dev c.args.range c.args.volume.now.volume c.loop-piece.volume.volume chunk.1 c.requires.can.some c.requires.can.inside chunk.0
    (chunk_least g.B.Block.contents g.B.Block.layers c.args.volume.now.volume) (c.is_quiet.ensures.between quiet loud None) (c.is_quiet.ensures.under quiet loud None) c.from_vec.result (returns-clause-done g c) settled

pub returns-in-Err-clause-loses : goal.returns-in-Err-clause-loses
returns-in-Err-clause-loses g c = λ settled.
    let chunk = chunks_by c.args.volume.now.volume c.piece.result c.piece.ensures.piece c.piece.ensures.within c.piece.ensures.allowed in
    let loud = loud_in_all g.B.Block.contents g.B.Block.layers g.B.Block.size c.args.volume.now.volume settled in
    let quiet = c.is_quiet.ensures.value ∙ c.requires.between.quiet in
    plain_read_refused g.B.Block.contents g.B.Block.layers g.B.Block.size c.args.dev c.args.range c.args.volume.now.volume c.read_piece.new.volume.volume chunk.1 c.requires.can.some c.requires.can.inside chunk.0
    (chunk_least g.B.Block.contents g.B.Block.layers c.args.volume.now.volume) (c.is_quiet.ensures.between quiet loud None) (c.is_quiet.ensures.under quiet loud None) c.in-Err.refusal (returns-in-Err-clause-refused g c) settled

pub returns-in_default-clause-loses : goal.returns-in_default-clause-loses
returns-in_default-clause-loses g c = λ settled. (tt, refl)

pub read_alone-requires-clause-can : goal.read_alone-requires-clause-can
read_alone-requires-clause-can g c =
    let one = subst (λ n. pieces_of n (span_of c.args.range) ≡ span_of c.args.range ∷ []) c.piece.ensures.piece (c.is_one_piece.ensures c.if-is_one_piece.true) in
    let chunk = chunks_by c.args.volume.now.volume c.piece.result c.piece.ensures.piece c.piece.ensures.within c.piece.ensures.allowed in
    alone_can g.B.Block.contents g.B.Block.layers g.B.Block.size c.args.dev c.args.range c.args.volume.now.volume one c.requires.can c.requires.between (is_chunk-some _ chunk.1) chunk.0 chunk.1

pub returns-then-is_one_piece-clause-done : goal.returns-then-is_one_piece-clause-done
returns-then-is_one_piece-clause-done g c =
    let one = subst (λ n. pieces_of n (span_of c.args.range) ≡ span_of c.args.range ∷ []) c.piece.ensures.piece (c.is_one_piece.ensures c.if-is_one_piece.true) in
    let P : List ℕ → Type 0 = λ bytes. IsPieceRead g.B.Block.contents g.B.Block.layers (part_read c.args.dev (span_of c.args.range)) [] bytes (rested_of c.args.volume.now.volume) (rested_of c.read_alone.new.volume.volume) in
    let Q : List ℕ → Type 0 = λ bytes. IsDoneBy g.B.Block.contents g.B.Block.layers (read_beside c.args.dev (span_of c.args.range)) (Data bytes) (rested_of c.args.volume.now.volume) (rested_of c.read_alone.new.volume.volume) in
    ok_so P Q c.read_alone.result (alone_read g.B.Block.contents g.B.Block.layers g.B.Block.size c.args.dev c.args.range c.args.volume.now.volume one c.read_alone.new.volume.volume) c.read_alone.ensures.done

pub returns-then-is_one_piece-clause-refused : goal.returns-then-is_one_piece-clause-refused
returns-then-is_one_piece-clause-refused g c =
    let one = subst (λ n. pieces_of n (span_of c.args.range) ≡ span_of c.args.range ∷ []) c.piece.ensures.piece (c.is_one_piece.ensures c.if-is_one_piece.true) in
    let P : Refusal → Type 0 = λ e. IsPieceRefused g.B.Block.contents g.B.Block.layers (part_read c.args.dev (span_of c.args.range)) e (rested_of c.args.volume.now.volume) (rested_of c.read_alone.new.volume.volume) in
    let Q : Refusal → Type 0 = λ e. IsReadRefused g.B.Block.contents g.B.Block.layers c.args.dev (span_of c.args.range) e (rested_of c.args.volume.now.volume) (rested_of c.read_alone.new.volume.volume) in
    err_so P Q c.read_alone.result (alone_refused g.B.Block.contents g.B.Block.layers g.B.Block.size c.args.dev c.args.range c.args.volume.now.volume one c.read_alone.new.volume.volume c.requires.can) c.read_alone.ensures.refused

pub returns-then-is_one_piece-clause-shows : goal.returns-then-is_one_piece-clause-shows
returns-then-is_one_piece-clause-shows g c =
    let chunk = chunks_by c.args.volume.now.volume c.piece.result c.piece.ensures.piece c.piece.ensures.within c.piece.ensures.allowed in
    let quiet = c.is_quiet.ensures.value ∙ c.requires.between.quiet in
    let P : List ℕ → Type 0 = λ bytes. IsDoneBy g.B.Block.contents g.B.Block.layers (read_beside c.args.dev (span_of c.args.range)) (Data bytes) (rested_of c.args.volume.now.volume) (rested_of c.read_alone.new.volume.volume) in
    let Q : List ℕ → Type 0 = λ bytes. IsSettled g.B.Block.layers (rested_of c.args.volume.now.volume) → IsPlainRead c.args.dev (span_of c.args.range) bytes (arrays_in g.B.Block.contents g.B.Block.layers (rested_of c.args.volume.now.volume)) (arrays_in g.B.Block.contents g.B.Block.layers (rested_of c.read_alone.new.volume.volume)) in
    ok_so P Q c.read_alone.result
    (λ bytes done settled. plain_read g.B.Block.contents g.B.Block.layers g.B.Block.size c.args.dev c.args.range c.args.volume.now.volume c.read_alone.new.volume.volume chunk.1 c.requires.can.some c.requires.can.inside chunk.0
    (chunk_least g.B.Block.contents g.B.Block.layers c.args.volume.now.volume) (c.is_quiet.ensures.between quiet (loud_in_all g.B.Block.contents g.B.Block.layers g.B.Block.size c.args.volume.now.volume settled) None) (c.is_quiet.ensures.under quiet (loud_in_all g.B.Block.contents g.B.Block.layers g.B.Block.size c.args.volume.now.volume settled) None) bytes done settled)
    (returns-then-is_one_piece-clause-done g c)

pub returns-then-is_one_piece-clause-loses : goal.returns-then-is_one_piece-clause-loses
returns-then-is_one_piece-clause-loses g c =
    let chunk = chunks_by c.args.volume.now.volume c.piece.result c.piece.ensures.piece c.piece.ensures.within c.piece.ensures.allowed in
    let quiet = c.is_quiet.ensures.value ∙ c.requires.between.quiet in
    let P : Refusal → Type 0 = λ e. IsReadRefused g.B.Block.contents g.B.Block.layers c.args.dev (span_of c.args.range) e (rested_of c.args.volume.now.volume) (rested_of c.read_alone.new.volume.volume) in
    let Q : Refusal → Type 0 = λ e. IsSettled g.B.Block.layers (rested_of c.args.volume.now.volume) → IsPlainReadRefused c.args.dev e (arrays_in g.B.Block.contents g.B.Block.layers (rested_of c.args.volume.now.volume)) (arrays_in g.B.Block.contents g.B.Block.layers (rested_of c.read_alone.new.volume.volume)) in
    err_so P Q c.read_alone.result
    (λ e why settled. plain_read_refused g.B.Block.contents g.B.Block.layers g.B.Block.size c.args.dev c.args.range c.args.volume.now.volume c.read_alone.new.volume.volume chunk.1 c.requires.can.some c.requires.can.inside chunk.0
    (chunk_least g.B.Block.contents g.B.Block.layers c.args.volume.now.volume) (c.is_quiet.ensures.between quiet (loud_in_all g.B.Block.contents g.B.Block.layers g.B.Block.size c.args.volume.now.volume settled) None) (c.is_quiet.ensures.under quiet (loud_in_all g.B.Block.contents g.B.Block.layers g.B.Block.size c.args.volume.now.volume settled) None) e why settled)
    (returns-then-is_one_piece-clause-refused g c)

pub returns-in-Err-clause-undone : goal.returns-in-Err-clause-undone
returns-in-Err-clause-undone g c =
    rest_stop g.B.Block.may_hold g.B.Block.contents g.B.Block.layers g.B.Block.fault_count g.B.Block.size c.args.dev (pieces_of (piece_with c.args.volume.now.volume.merge c.args.volume.now.volume.snaps) (span_of c.args.range)) c.loop-piece.piece-iterator c.next.new.self (span_of c.in-Some.piece) c.loop-piece.out.items c.in-Err.refusal
    c.args.volume.now.volume c.loop-piece.volume.volume c.read_piece.new.volume.volume c.loop-piece.invariant.met c.in-Some.ensures.steps c.in-Err.ensures.undone

pub returns-clause-answered : goal.returns-clause-answered
returns-clause-answered g c =
    subst (λ (bs : List ℕ). AreReadAtRest g.B.Block.may_hold g.B.Block.contents g.B.Block.layers g.B.Block.fault_count g.B.Block.size c.args.dev (pieces_of (piece_with c.args.volume.now.volume.merge c.args.volume.now.volume.snaps) (span_of c.args.range)) bs c.args.volume.now.volume c.loop-piece.volume.volume) (sym c.from_vec.ensures)
    (rest_end g.B.Block.may_hold g.B.Block.contents g.B.Block.layers g.B.Block.fault_count g.B.Block.size c.args.dev (pieces_of (piece_with c.args.volume.now.volume.merge c.args.volume.now.volume.snaps) (span_of c.args.range)) c.loop-piece.piece-iterator c.loop-piece.out.items c.args.volume.now.volume c.loop-piece.volume.volume c.loop-piece.invariant.met c.in-None.ensures.steps.0)

pub returns-then-is_one_piece-clause-answered : goal.returns-then-is_one_piece-clause-answered
returns-then-is_one_piece-clause-answered g c =
    let one = subst (λ n. pieces_of n (span_of c.args.range) ≡ span_of c.args.range ∷ []) c.piece.ensures.piece (c.is_one_piece.ensures c.if-is_one_piece.true) in
    let P : List ℕ → Type 0 = λ bytes. (reply : Reply) × IsPieceAnswered g.B.Block.may_hold g.B.Block.contents g.B.Block.layers g.B.Block.fault_count g.B.Block.size c.args.dev Read (span_of c.args.range) reply c.args.volume.now.volume c.read_alone.new.volume.volume × (bytes ≡ bytes_in reply) in
    let Q : List ℕ → Type 0 = λ bytes. AreReadAtRest g.B.Block.may_hold g.B.Block.contents g.B.Block.layers g.B.Block.fault_count g.B.Block.size c.args.dev (pieces_of (piece_with c.args.volume.now.volume.merge c.args.volume.now.volume.snaps) (span_of c.args.range)) bytes c.args.volume.now.volume c.read_alone.new.volume.volume in
    ok_so P Q c.read_alone.result
    (λ bytes got. subst (λ (ps : List Span). AreReadAtRest g.B.Block.may_hold g.B.Block.contents g.B.Block.layers g.B.Block.fault_count g.B.Block.size c.args.dev ps bytes c.args.volume.now.volume c.read_alone.new.volume.volume) (sym one)
    (rest_alone g.B.Block.may_hold g.B.Block.contents g.B.Block.layers g.B.Block.fault_count g.B.Block.size c.args.dev (span_of c.args.range) bytes got.0 c.args.volume.now.volume c.read_alone.new.volume.volume got.1 got.2)) c.read_alone.ensures.answered

pub returns-then-is_one_piece-clause-undone : goal.returns-then-is_one_piece-clause-undone
returns-then-is_one_piece-clause-undone g c =
    let one = subst (λ n. pieces_of n (span_of c.args.range) ≡ span_of c.args.range ∷ []) c.piece.ensures.piece (c.is_one_piece.ensures c.if-is_one_piece.true) in
    let P : Refusal → Type 0 = λ e. IsPieceUndone g.B.Block.may_hold g.B.Block.contents g.B.Block.layers g.B.Block.fault_count g.B.Block.size c.args.dev Read (span_of c.args.range) e c.args.volume.now.volume c.read_alone.new.volume.volume in
    let Q : Refusal → Type 0 = λ e. IsReadUndone g.B.Block.may_hold g.B.Block.contents g.B.Block.layers g.B.Block.fault_count g.B.Block.size c.args.dev (pieces_of (piece_with c.args.volume.now.volume.merge c.args.volume.now.volume.snaps) (span_of c.args.range)) e c.args.volume.now.volume c.read_alone.new.volume.volume in
    err_so P Q c.read_alone.result
    (λ e undone. subst (λ (ps : List Span). IsReadUndone g.B.Block.may_hold g.B.Block.contents g.B.Block.layers g.B.Block.fault_count g.B.Block.size c.args.dev ps e c.args.volume.now.volume c.read_alone.new.volume.volume) (sym one)
    (rest_undone g.B.Block.may_hold g.B.Block.contents g.B.Block.layers g.B.Block.fault_count g.B.Block.size c.args.dev (span_of c.args.range) e c.args.volume.now.volume c.read_alone.new.volume.volume undone)) c.read_alone.ensures.undone

pub returns-in-Err-clause-taken : goal.returns-in-Err-clause-taken
returns-in-Err-clause-taken g c = takes_then _ _ _ c.loop-piece.invariant.taken c.in-Err.ensures.taken

pub returns-clause-taken : goal.returns-clause-taken
returns-clause-taken g c = c.loop-piece.invariant.taken

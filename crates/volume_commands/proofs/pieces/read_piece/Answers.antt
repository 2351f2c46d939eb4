-- All that was read comes after what was there.
use Rattle.std.proofs.Common.{◌*◌, ◌++◌, List, ℕ, refl, ◌∙◌, ap, sym}
use Rattle.chunk.specs.Pieces.{span_of}
use Rattle.plain_machine.specs.declared.request.Reply.TheVariants.{Data, Written, Flushed}
use Rattle.volume_commands.specs.Rested.{rested_of, merged_of}
use Rattle.volume_commands.proofs.WriteRuns.{answer}
use Rattle.volume_commands.proofs.Reading.{whole_taken}
use Rattle.plain_machine.specs.declared.request.Op.TheVariants.{Read}
use Rattle.volume_commands.specs.Among.{IsRequestOf}
use Rattle.volume_commands.proofs.AmongRuns.{cut_same}
use Rattle.volume_commands.proofs.AtRest.{piece_answered, piece_failed, piece_untaken, read_whole}
use Rattle.volume_commands.proofs.RestRuns.{all_taken, none_more}
use Rattle.volume.proofs.Submits.{not_full}
use Rattle.volume_commands.proofs.pieces.read_piece.Goals as goal

pub returns-in-Ok-clause-done : goal.returns-in-Ok-clause-done
returns-in-Ok-clause-done g c =
    let old = merged_of g.B.Block.contents g.B.Block.layers (rested_of c.args.volume.now.volume) in
    let new = merged_of g.B.Block.contents g.B.Block.layers (rested_of c.serve.new.volume.volume) in (
      Data c.in-Ok-Data.bytes,
      tt,
      λ loud. c.in-Ok-Data.ensures.answer loud ∙ ap (answer new) c.in-Ok-Data.field-0-is,
      λ loud. c.in-Ok.ensures.items ∙ ap (λ (ys : List ℕ). c.args.out.now.items ++ ys)
          (whole_taken c.args.dev (span_of c.args.piece) old new c.in-Ok-Data.bytes c.as_slice.result.now c.len.result c.min-count.result c.as_slice.ensures c.len.ensures c.min-count.ensures (c.in-Ok-Data.ensures.answer loud ∙ ap (answer new) c.in-Ok-Data.field-0-is)),
    )

pub returns-in-Ok-Refused-clause-undone : goal.returns-in-Ok-Refused-clause-undone
returns-in-Ok-Refused-clause-undone g c =
    piece_failed g.B.Block.may_hold g.B.Block.contents g.B.Block.layers g.B.Block.fault_count g.B.Block.size c.args.dev Read (span_of c.args.piece) (record { dev = c.args.dev; op = Read; range = c.args.piece }) (record { dev_is = refl; op_is = refl; range_is = refl })
    c.args.volume.now.volume c.serve.new.volume.volume c.in-Ok-Refused.field-0 c.in-Ok-Refused.failure c.refusal_for.result c.refusal_for.ensures c.in-Ok-Refused.field-0-is c.in-Ok-Refused.ensures.answered

pub returns-in-Ok-Written-clause-answered : goal.returns-in-Ok-Written-clause-answered
returns-in-Ok-Written-clause-answered g c = (
  Written,
  piece_answered g.B.Block.may_hold g.B.Block.contents g.B.Block.layers g.B.Block.fault_count g.B.Block.size c.args.dev Read (span_of c.args.piece) (record { dev = c.args.dev; op = Read; range = c.args.piece }) (record { dev_is = refl; op_is = refl; range_is = refl })
      c.args.volume.now.volume c.serve.new.volume.volume c.in-Ok-Written.field-0 Written tt c.in-Ok-Written.field-0-is c.in-Ok-Written.ensures.answered,
  none_more c.args.out.now.items,
)

pub returns-in-Ok-Flushed-clause-answered : goal.returns-in-Ok-Flushed-clause-answered
returns-in-Ok-Flushed-clause-answered g c = (
  Flushed,
  piece_answered g.B.Block.may_hold g.B.Block.contents g.B.Block.layers g.B.Block.fault_count g.B.Block.size c.args.dev Read (span_of c.args.piece) (record { dev = c.args.dev; op = Read; range = c.args.piece }) (record { dev_is = refl; op_is = refl; range_is = refl })
      c.args.volume.now.volume c.serve.new.volume.volume c.in-Ok-Flushed.field-0 Flushed tt c.in-Ok-Flushed.field-0-is c.in-Ok-Flushed.ensures.answered,
  none_more c.args.out.now.items,
)

pub returns-in-Ok-clause-answered : goal.returns-in-Ok-clause-answered
returns-in-Ok-clause-answered g c =
    let asked : IsRequestOf c.args.dev Read (span_of c.args.piece) (record { dev = c.args.dev; op = Read; range = c.args.piece }) = record { dev_is = refl; op_is = refl; range_is = refl } in
    let long = read_whole g.B.Block.may_hold g.B.Block.contents g.B.Block.layers g.B.Block.fault_count g.B.Block.size c.args.dev (span_of c.args.piece) (record { dev = c.args.dev; op = Read; range = c.args.piece }) c.in-Ok-Data.bytes c.in-Ok-Data.field-0 c.args.volume.now.volume c.serve.new.volume.volume asked c.in-Ok-Data.field-0-is c.in-Ok-Data.ensures.answered in
    let cut = cut_same c.args.piece.count c.min-count.result c.len.result c.in-Ok-Data.bytes c.as_slice.result.now c.as_slice.ensures c.len.ensures c.min-count.ensures in (
      Data c.in-Ok-Data.bytes,
      piece_answered g.B.Block.may_hold g.B.Block.contents g.B.Block.layers g.B.Block.fault_count g.B.Block.size c.args.dev Read (span_of c.args.piece) (record { dev = c.args.dev; op = Read; range = c.args.piece }) asked
          c.args.volume.now.volume c.serve.new.volume.volume c.in-Ok-Data.field-0 (Data c.in-Ok-Data.bytes) tt c.in-Ok-Data.field-0-is c.in-Ok-Data.ensures.answered,
      c.in-Ok.ensures.items ∙ ap (λ (ys : List ℕ). c.args.out.now.items ++ ys) (all_taken (512 * c.args.piece.count) c.in-Ok-Data.bytes _ cut long),
    )

pub returns-in-Err-clause-undone : goal.returns-in-Err-clause-undone
returns-in-Err-clause-undone g c =
    piece_untaken g.B.Block.may_hold g.B.Block.contents g.B.Block.layers g.B.Block.fault_count g.B.Block.size c.args.dev Read (span_of c.args.piece) (record { dev = c.args.dev; op = Read; range = c.args.piece }) (record { dev_is = refl; op_is = refl; range_is = refl })
    c.args.volume.now.volume c.serve.new.volume.volume c.in-Err.refusal c.in-Err.ensures.starved.0 c.in-Err.ensures.untaken

pub returns-in-Ok-Refused-clause-full : goal.returns-in-Ok-Refused-clause-full
returns-in-Ok-Refused-clause-full g c = λ is. absurd (not_full c.in-Ok-Refused.failure (sym is ∙ c.refusal_for.ensures))

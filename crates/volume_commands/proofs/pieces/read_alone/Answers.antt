-- The bytes of the reply are what was read.
use Rattle.std.proofs.Common.{refl, ◌∙◌, ap, sym}
use Rattle.plain_machine.specs.declared.request.Reply.TheVariants.{Data, Written, Flushed}
use Rattle.volume_commands.specs.Rested.{rested_of, merged_of}
use Rattle.volume_commands.proofs.WriteRuns.{answer}
use Rattle.chunk.specs.Pieces.{span_of}
use Rattle.plain_machine.specs.declared.request.Op.TheVariants.{Read}
use Rattle.volume_commands.proofs.AtRest.{piece_answered, piece_failed, piece_untaken}
use Rattle.volume.proofs.Submits.{not_full}
use Rattle.volume_commands.proofs.pieces.read_alone.Goals as goal

pub returns-in-Ok-Data-clause-done : goal.returns-in-Ok-Data-clause-done
returns-in-Ok-Data-clause-done g c =
    let new = merged_of g.B.Block.contents g.B.Block.layers (rested_of c.serve.new.volume.volume) in
    (Data c.in-Ok-Data.bytes, tt, λ loud. c.in-Ok-Data.ensures.answer loud ∙ ap (answer new) c.in-Ok-Data.field-0-is, λ loud. refl)

pub returns-in-Ok-Refused-clause-undone : goal.returns-in-Ok-Refused-clause-undone
returns-in-Ok-Refused-clause-undone g c =
    piece_failed g.B.Block.may_hold g.B.Block.contents g.B.Block.layers g.B.Block.fault_count g.B.Block.size c.args.dev Read (span_of c.args.piece) (record { dev = c.args.dev; op = Read; range = c.args.piece }) (record { dev_is = refl; op_is = refl; range_is = refl })
    c.args.volume.now.volume c.serve.new.volume.volume c.in-Ok-Refused.field-0 c.in-Ok-Refused.failure c.refusal_for.result c.refusal_for.ensures c.in-Ok-Refused.field-0-is c.in-Ok-Refused.ensures.answered

pub returns-in-Ok-Written-clause-answered : goal.returns-in-Ok-Written-clause-answered
returns-in-Ok-Written-clause-answered g c = (
  Written,
  piece_answered g.B.Block.may_hold g.B.Block.contents g.B.Block.layers g.B.Block.fault_count g.B.Block.size c.args.dev Read (span_of c.args.piece) (record { dev = c.args.dev; op = Read; range = c.args.piece }) (record { dev_is = refl; op_is = refl; range_is = refl })
      c.args.volume.now.volume c.serve.new.volume.volume c.in-Ok-Written.field-0 Written tt c.in-Ok-Written.field-0-is c.in-Ok-Written.ensures.answered,
  c.from_vec.ensures ∙ c.new.ensures.items,
)

pub returns-in-Ok-Flushed-clause-answered : goal.returns-in-Ok-Flushed-clause-answered
returns-in-Ok-Flushed-clause-answered g c = (
  Flushed,
  piece_answered g.B.Block.may_hold g.B.Block.contents g.B.Block.layers g.B.Block.fault_count g.B.Block.size c.args.dev Read (span_of c.args.piece) (record { dev = c.args.dev; op = Read; range = c.args.piece }) (record { dev_is = refl; op_is = refl; range_is = refl })
      c.args.volume.now.volume c.serve.new.volume.volume c.in-Ok-Flushed.field-0 Flushed tt c.in-Ok-Flushed.field-0-is c.in-Ok-Flushed.ensures.answered,
  c.from_vec-in-Ok-Flushed.ensures ∙ c.new-in-Ok-Flushed.ensures.items,
)

pub returns-in-Ok-Data-clause-answered : goal.returns-in-Ok-Data-clause-answered
returns-in-Ok-Data-clause-answered g c = (
  Data c.in-Ok-Data.bytes,
  piece_answered g.B.Block.may_hold g.B.Block.contents g.B.Block.layers g.B.Block.fault_count g.B.Block.size c.args.dev Read (span_of c.args.piece) (record { dev = c.args.dev; op = Read; range = c.args.piece }) (record { dev_is = refl; op_is = refl; range_is = refl })
      c.args.volume.now.volume c.serve.new.volume.volume c.in-Ok-Data.field-0 (Data c.in-Ok-Data.bytes) tt c.in-Ok-Data.field-0-is c.in-Ok-Data.ensures.answered,
  refl,
)

pub returns-in-Err-clause-undone : goal.returns-in-Err-clause-undone
returns-in-Err-clause-undone g c =
    piece_untaken g.B.Block.may_hold g.B.Block.contents g.B.Block.layers g.B.Block.fault_count g.B.Block.size c.args.dev Read (span_of c.args.piece) (record { dev = c.args.dev; op = Read; range = c.args.piece }) (record { dev_is = refl; op_is = refl; range_is = refl })
    c.args.volume.now.volume c.serve.new.volume.volume c.in-Err.refusal c.in-Err.ensures.starved.0 c.in-Err.ensures.untaken

pub returns-in-Ok-Refused-clause-full : goal.returns-in-Ok-Refused-clause-full
returns-in-Ok-Refused-clause-full g c = λ is. absurd (not_full c.in-Ok-Refused.failure (sym is ∙ c.refusal_for.ensures))

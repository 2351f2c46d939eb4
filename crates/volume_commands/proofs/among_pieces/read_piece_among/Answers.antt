-- The piece was read, or failed.
use Rattle.std.proofs.Common.{◌++◌, List, ℕ, refl, ◌∙◌, ap, sym}
use Rattle.chunk.specs.Pieces.{span_of}
use Rattle.plain_machine.specs.declared.request.Op.TheVariants.{Read}
use Rattle.plain_machine.specs.declared.request.Reply.TheVariants.{Data, Written, Flushed}
use Rattle.volume_commands.proofs.Amongs.{piece_served, piece_failed, piece_refused}
use Rattle.volume_commands.proofs.AmongRuns.{cut_same, cut_none}
use Rattle.volume.proofs.Submits.{not_full}
use Rattle.volume_commands.proofs.among_pieces.read_piece_among.Goals as goal

pub returns-in-Ok-Refused-clause-failed : goal.returns-in-Ok-Refused-clause-failed
returns-in-Ok-Refused-clause-failed g c =
    piece_failed g.B.Block.may_hold g.B.Block.contents g.B.Block.layers g.B.Block.fault_count g.B.Block.size c.args.dev Read (span_of c.args.piece) (record { dev = c.args.dev; op = Read; range = c.args.piece }) (record { dev_is = refl; op_is = refl; range_is = refl }) c.args.volume.now.volume c.serve_among.new.volume.volume c.args.ended.now.items c.serve_among.new.ended.items
    c.in-Ok-Refused.field-0 c.in-Ok-Refused.failure c.refusal_for.result c.refusal_for.ensures c.in-Ok-Refused.field-0-is c.in-Ok-Refused.ensures.served

pub returns-in-Ok-Written-clause-read : goal.returns-in-Ok-Written-clause-read
returns-in-Ok-Written-clause-read g c = (
  Written,
  piece_served g.B.Block.may_hold g.B.Block.contents g.B.Block.layers g.B.Block.fault_count g.B.Block.size c.args.dev Read (span_of c.args.piece) (record { dev = c.args.dev; op = Read; range = c.args.piece }) (record { dev_is = refl; op_is = refl; range_is = refl }) c.args.volume.now.volume c.serve_among.new.volume.volume c.args.ended.now.items c.serve_among.new.ended.items
      c.in-Ok-Written.field-0 Written tt c.in-Ok-Written.field-0-is c.in-Ok-Written.ensures.served,
  cut_none _ c.args.out.now.items,
)

pub returns-in-Ok-Flushed-clause-read : goal.returns-in-Ok-Flushed-clause-read
returns-in-Ok-Flushed-clause-read g c = (
  Flushed,
  piece_served g.B.Block.may_hold g.B.Block.contents g.B.Block.layers g.B.Block.fault_count g.B.Block.size c.args.dev Read (span_of c.args.piece) (record { dev = c.args.dev; op = Read; range = c.args.piece }) (record { dev_is = refl; op_is = refl; range_is = refl }) c.args.volume.now.volume c.serve_among.new.volume.volume c.args.ended.now.items c.serve_among.new.ended.items
      c.in-Ok-Flushed.field-0 Flushed tt c.in-Ok-Flushed.field-0-is c.in-Ok-Flushed.ensures.served,
  cut_none _ c.args.out.now.items,
)

pub returns-in-Ok-clause-read : goal.returns-in-Ok-clause-read
returns-in-Ok-clause-read g c = (
  Data c.in-Ok-Data.bytes,
  piece_served g.B.Block.may_hold g.B.Block.contents g.B.Block.layers g.B.Block.fault_count g.B.Block.size c.args.dev Read (span_of c.args.piece) (record { dev = c.args.dev; op = Read; range = c.args.piece }) (record { dev_is = refl; op_is = refl; range_is = refl }) c.args.volume.now.volume c.serve_among.new.volume.volume c.args.ended.now.items c.serve_among.new.ended.items
      c.in-Ok-Data.field-0 (Data c.in-Ok-Data.bytes) tt c.in-Ok-Data.field-0-is c.in-Ok-Data.ensures.served,
  c.in-Ok.ensures.items ∙ ap (λ (ys : List ℕ). c.args.out.now.items ++ ys)
      (cut_same c.args.piece.count c.min-count.result c.len.result c.in-Ok-Data.bytes c.as_slice.result.now c.as_slice.ensures c.len.ensures c.min-count.ensures),
)

pub returns-in-Err-clause-failed : goal.returns-in-Err-clause-failed
returns-in-Err-clause-failed g c =
    piece_refused g.B.Block.may_hold g.B.Block.contents g.B.Block.layers g.B.Block.fault_count g.B.Block.size c.args.dev Read (span_of c.args.piece) (record { dev = c.args.dev; op = Read; range = c.args.piece }) (record { dev_is = refl; op_is = refl; range_is = refl }) c.args.volume.now.volume c.serve_among.new.volume.volume c.args.ended.now.items c.serve_among.new.ended.items
    c.in-Err.refusal c.in-Err.ensures.refused

pub returns-in-Ok-Refused-clause-full : goal.returns-in-Ok-Refused-clause-full
returns-in-Ok-Refused-clause-full g c = λ is. absurd (not_full c.in-Ok-Refused.failure (sym is ∙ c.refusal_for.ensures))

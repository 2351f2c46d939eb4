-- The piece was written, or failed.
use Rattle.std.proofs.Common.{◌-◌, take, drop, refl, ap, sym, ◌∙◌}
use Rattle.chunk.specs.Pieces.{span_of}
use Rattle.plain_machine.specs.declared.request.Op.TheVariants.{Write}
use Rattle.plain_machine.specs.declared.request.Reply.TheVariants.{Written, Flushed}
use Rattle.volume_commands.proofs.Amongs.{piece_served, piece_failed, piece_refused}
use Rattle.volume.proofs.Submits.{not_full}
use Rattle.volume_commands.proofs.among_pieces.write_piece_among.Goals as goal

pub returns-in-Ok-Refused-clause-failed : goal.returns-in-Ok-Refused-clause-failed
returns-in-Ok-Refused-clause-failed g c =
    piece_failed g.B.Block.may_hold g.B.Block.contents g.B.Block.layers g.B.Block.fault_count g.B.Block.size c.args.dev (Write (take (c.args.to - c.args.from) (drop c.args.from c.args.bytes.now))) (span_of c.args.piece)
    (record { dev = c.args.dev; op = Write c.in-Ok.part; range = c.args.piece }) (record { dev_is = refl; op_is = ap (λ bs. Write bs) c.in-Ok.ensures.part; range_is = refl })
    c.args.volume.now.volume c.serve_among.new.volume.volume c.args.ended.now.items c.serve_among.new.ended.items
    c.in-Ok-Refused.field-0 c.in-Ok-Refused.failure c.refusal_for.result c.refusal_for.ensures c.in-Ok-Refused.field-0-is c.in-Ok-Refused.ensures.served

pub returns-in-Ok-Written-clause-written : goal.returns-in-Ok-Written-clause-written
returns-in-Ok-Written-clause-written g c = (
  Written,
  piece_served g.B.Block.may_hold g.B.Block.contents g.B.Block.layers g.B.Block.fault_count g.B.Block.size c.args.dev (Write (take (c.args.to - c.args.from) (drop c.args.from c.args.bytes.now))) (span_of c.args.piece)
      (record { dev = c.args.dev; op = Write c.in-Ok.part; range = c.args.piece }) (record { dev_is = refl; op_is = ap (λ bs. Write bs) c.in-Ok.ensures.part; range_is = refl })
      c.args.volume.now.volume c.serve_among.new.volume.volume c.args.ended.now.items c.serve_among.new.ended.items
      c.in-Ok-Written.field-0 Written tt c.in-Ok-Written.field-0-is c.in-Ok-Written.ensures.served,
)

pub returns-in-Ok-Flushed-clause-written : goal.returns-in-Ok-Flushed-clause-written
returns-in-Ok-Flushed-clause-written g c = (
  Flushed,
  piece_served g.B.Block.may_hold g.B.Block.contents g.B.Block.layers g.B.Block.fault_count g.B.Block.size c.args.dev (Write (take (c.args.to - c.args.from) (drop c.args.from c.args.bytes.now))) (span_of c.args.piece)
      (record { dev = c.args.dev; op = Write c.in-Ok.part; range = c.args.piece }) (record { dev_is = refl; op_is = ap (λ bs. Write bs) c.in-Ok.ensures.part; range_is = refl })
      c.args.volume.now.volume c.serve_among.new.volume.volume c.args.ended.now.items c.serve_among.new.ended.items
      c.in-Ok-Flushed.field-0 Flushed tt c.in-Ok-Flushed.field-0-is c.in-Ok-Flushed.ensures.served,
)

pub returns-in-Ok-Data-clause-written : goal.returns-in-Ok-Data-clause-written
returns-in-Ok-Data-clause-written g c = (
  c.in-Ok-Data.field-0,
  piece_served g.B.Block.may_hold g.B.Block.contents g.B.Block.layers g.B.Block.fault_count g.B.Block.size c.args.dev (Write (take (c.args.to - c.args.from) (drop c.args.from c.args.bytes.now))) (span_of c.args.piece)
      (record { dev = c.args.dev; op = Write c.in-Ok.part; range = c.args.piece }) (record { dev_is = refl; op_is = ap (λ bs. Write bs) c.in-Ok.ensures.part; range_is = refl })
      c.args.volume.now.volume c.serve_among.new.volume.volume c.args.ended.now.items c.serve_among.new.ended.items
      c.in-Ok-Data.field-0 c.in-Ok-Data.field-0 (rw c.in-Ok-Data.field-0-is tt) refl c.in-Ok-Data.ensures.served,
)

pub returns-clause-failed : goal.returns-clause-failed
returns-clause-failed g c =
    piece_refused g.B.Block.may_hold g.B.Block.contents g.B.Block.layers g.B.Block.fault_count g.B.Block.size c.args.dev (Write (take (c.args.to - c.args.from) (drop c.args.from c.args.bytes.now))) (span_of c.args.piece)
    (record { dev = c.args.dev; op = Write c.in-Ok.part; range = c.args.piece }) (record { dev_is = refl; op_is = ap (λ bs. Write bs) c.in-Ok.ensures.part; range_is = refl })
    c.args.volume.now.volume c.serve_among.new.volume.volume c.args.ended.now.items c.serve_among.new.ended.items
    c.in-Err.refusal c.in-Err.ensures.refused

pub returns-in-Ok-Refused-clause-full : goal.returns-in-Ok-Refused-clause-full
returns-in-Ok-Refused-clause-full g c = λ is. absurd (not_full c.in-Ok-Refused.failure (sym is ∙ c.refusal_for.ensures))

-- The piece was written, or was not.
use Rattle.std.proofs.Common.{◌-◌, inl, ℕ, List, take, drop, refl, ap, sym, subst, ◌∙◌}
use Rattle.std.specs.Prelude.{IfErr}
use Rattle.chunk.specs.Pieces.{span_of}
use Rattle.plain_machine.specs.declared.request.Op.TheVariants.{Write}
use Rattle.plain_machine.specs.declared.request.Reply.{Reply}
use Rattle.plain_machine.specs.declared.request.Reply.TheVariants.{Written, Flushed, Refused}
use Rattle.volume_commands.specs.AtRest.{IsPieceUndone}
use Rattle.volume_commands.specs.Commands.{IsDoneBy}
use Rattle.volume_commands.specs.Rested.{rested_of}
use Rattle.volume_commands.specs.Serving.{part_written}
use Rattle.volume_commands.proofs.AtRest.{piece_answered, piece_failed, piece_untaken}
use Rattle.volume.proofs.Submits.{not_full}
use Rattle.volume_commands.proofs.pieces.write_piece.Goals as goal

pub returns-in-Ok-Refused-clause-undone : goal.returns-in-Ok-Refused-clause-undone
returns-in-Ok-Refused-clause-undone g c =
    piece_failed g.B.Block.may_hold g.B.Block.contents g.B.Block.layers g.B.Block.fault_count g.B.Block.size c.args.dev (Write (take (c.args.to - c.args.from) (drop c.args.from c.args.bytes.now))) (span_of c.args.piece)
    (record { dev = c.args.dev; op = Write c.in-Ok.part; range = c.args.piece }) (record { dev_is = refl; op_is = ap (λ bs. Write bs) c.in-Ok.ensures.part; range_is = refl })
    c.args.volume.now.volume c.serve.new.volume.volume c.in-Ok-Refused.field-0 c.in-Ok-Refused.failure c.refusal_for.result c.refusal_for.ensures c.in-Ok-Refused.field-0-is c.in-Ok-Refused.ensures.answered

pub returns-in-Ok-Written-clause-answered : goal.returns-in-Ok-Written-clause-answered
returns-in-Ok-Written-clause-answered g c = (
  Written,
  piece_answered g.B.Block.may_hold g.B.Block.contents g.B.Block.layers g.B.Block.fault_count g.B.Block.size c.args.dev (Write (take (c.args.to - c.args.from) (drop c.args.from c.args.bytes.now))) (span_of c.args.piece)
      (record { dev = c.args.dev; op = Write c.in-Ok.part; range = c.args.piece }) (record { dev_is = refl; op_is = ap (λ bs. Write bs) c.in-Ok.ensures.part; range_is = refl })
      c.args.volume.now.volume c.serve.new.volume.volume c.in-Ok-Written.field-0 Written tt c.in-Ok-Written.field-0-is c.in-Ok-Written.ensures.answered,
)

pub returns-in-Ok-Flushed-clause-answered : goal.returns-in-Ok-Flushed-clause-answered
returns-in-Ok-Flushed-clause-answered g c = (
  Flushed,
  piece_answered g.B.Block.may_hold g.B.Block.contents g.B.Block.layers g.B.Block.fault_count g.B.Block.size c.args.dev (Write (take (c.args.to - c.args.from) (drop c.args.from c.args.bytes.now))) (span_of c.args.piece)
      (record { dev = c.args.dev; op = Write c.in-Ok.part; range = c.args.piece }) (record { dev_is = refl; op_is = ap (λ bs. Write bs) c.in-Ok.ensures.part; range_is = refl })
      c.args.volume.now.volume c.serve.new.volume.volume c.in-Ok-Flushed.field-0 Flushed tt c.in-Ok-Flushed.field-0-is c.in-Ok-Flushed.ensures.answered,
)

pub returns-in-Ok-Data-clause-answered : goal.returns-in-Ok-Data-clause-answered
returns-in-Ok-Data-clause-answered g c = (
  c.in-Ok-Data.field-0,
  piece_answered g.B.Block.may_hold g.B.Block.contents g.B.Block.layers g.B.Block.fault_count g.B.Block.size c.args.dev (Write (take (c.args.to - c.args.from) (drop c.args.from c.args.bytes.now))) (span_of c.args.piece)
      (record { dev = c.args.dev; op = Write c.in-Ok.part; range = c.args.piece }) (record { dev_is = refl; op_is = ap (λ bs. Write bs) c.in-Ok.ensures.part; range_is = refl })
      c.args.volume.now.volume c.serve.new.volume.volume c.in-Ok-Data.field-0 c.in-Ok-Data.field-0 (rw c.in-Ok-Data.field-0-is tt) refl c.in-Ok-Data.ensures.answered,
)

pub returns-clause-undone : goal.returns-clause-undone
returns-clause-undone g c =
    piece_untaken g.B.Block.may_hold g.B.Block.contents g.B.Block.layers g.B.Block.fault_count g.B.Block.size c.args.dev (Write (take (c.args.to - c.args.from) (drop c.args.from c.args.bytes.now))) (span_of c.args.piece)
    (record { dev = c.args.dev; op = Write c.in-Ok.part; range = c.args.piece }) (record { dev_is = refl; op_is = ap (λ bs. Write bs) c.in-Ok.ensures.part; range_is = refl })
    c.args.volume.now.volume c.serve.new.volume.volume c.in-Err.refusal c.in-Err.ensures.starved.0 c.in-Err.ensures.untaken

pub returns-in-Ok-Refused-clause-full : goal.returns-in-Ok-Refused-clause-full
returns-in-Ok-Refused-clause-full g c = λ is. absurd (not_full c.in-Ok-Refused.failure (sym is ∙ c.refusal_for.ensures))

pub returns-in-Ok-Refused-clause-refused : goal.returns-in-Ok-Refused-clause-refused
returns-in-Ok-Refused-clause-refused g c =
    let done : Reply → List ℕ → Type 0 = λ reply bytes. IsDoneBy g.B.Block.contents g.B.Block.layers (part_written c.args.dev (span_of c.args.piece) bytes) reply (rested_of c.args.volume.now.volume) (rested_of c.serve.new.volume.volume) in
    inl (c.in-Ok-Refused.failure, c.refusal_for.ensures, subst (done (Refused c.in-Ok-Refused.failure)) c.in-Ok.ensures.part (subst (λ (reply : Reply). done reply c.in-Ok.part) c.in-Ok-Refused.field-0-is c.in-Ok-Refused.ensures.answer))

pub returns-then-is_bare-clause-undone : goal.returns-then-is_bare-clause-undone
returns-then-is_bare-clause-undone g c =
    subst
    (λ (bytes : List ℕ). IfErr c.write_piece_lent.result
    (λ refusal. IsPieceUndone g.B.Block.may_hold g.B.Block.contents g.B.Block.layers g.B.Block.fault_count g.B.Block.size c.args.dev (Write (take (c.args.to - c.args.from) (drop c.args.from bytes))) (span_of c.args.piece) refusal c.args.volume.now.volume c.write_piece_lent.new.volume.volume))
    c.as_slice.ensures c.write_piece_lent.ensures.undone

-- The flush was done, or failed.
use Rattle.plain_machine.specs.declared.request.Op.TheVariants.{Flush}
use Rattle.plain_machine.specs.declared.request.Reply.TheVariants.{Written, Flushed}
use Rattle.std.proofs.Common.{refl, sym, ◌∙◌}
use Rattle.volume_commands.specs.Among.{flush_piece}
use Rattle.volume_commands.proofs.Amongs.{piece_served, piece_failed, piece_refused}
use Rattle.volume.proofs.Submits.{not_full}
use Rattle.volume_commands.proofs.flushing.flush_device_among.Goals as goal

pub returns-in-Ok-Refused-clause-failed : goal.returns-in-Ok-Refused-clause-failed
returns-in-Ok-Refused-clause-failed g c =
    piece_failed g.B.Block.may_hold g.B.Block.contents g.B.Block.layers g.B.Block.fault_count g.B.Block.size c.args.dev Flush flush_piece c.request_of.result c.request_of.ensures c.args.volume.now.volume c.serve_among.new.volume.volume c.args.ended.now.items c.serve_among.new.ended.items
    c.in-Ok-Refused.field-0 c.in-Ok-Refused.failure c.refusal_for.result c.refusal_for.ensures c.in-Ok-Refused.field-0-is c.in-Ok-Refused.ensures.served

pub returns-in-Ok-Written-clause-flushed : goal.returns-in-Ok-Written-clause-flushed
returns-in-Ok-Written-clause-flushed g c = (
  Written,
  piece_served g.B.Block.may_hold g.B.Block.contents g.B.Block.layers g.B.Block.fault_count g.B.Block.size c.args.dev Flush flush_piece c.request_of.result c.request_of.ensures c.args.volume.now.volume c.serve_among.new.volume.volume c.args.ended.now.items c.serve_among.new.ended.items
      c.in-Ok-Written.field-0 Written tt c.in-Ok-Written.field-0-is c.in-Ok-Written.ensures.served,
)

pub returns-in-Ok-Flushed-clause-flushed : goal.returns-in-Ok-Flushed-clause-flushed
returns-in-Ok-Flushed-clause-flushed g c = (
  Flushed,
  piece_served g.B.Block.may_hold g.B.Block.contents g.B.Block.layers g.B.Block.fault_count g.B.Block.size c.args.dev Flush flush_piece c.request_of.result c.request_of.ensures c.args.volume.now.volume c.serve_among.new.volume.volume c.args.ended.now.items c.serve_among.new.ended.items
      c.in-Ok-Flushed.field-0 Flushed tt c.in-Ok-Flushed.field-0-is c.in-Ok-Flushed.ensures.served,
)

pub returns-in-Ok-Data-clause-flushed : goal.returns-in-Ok-Data-clause-flushed
returns-in-Ok-Data-clause-flushed g c = (
  c.in-Ok-Data.field-0,
  piece_served g.B.Block.may_hold g.B.Block.contents g.B.Block.layers g.B.Block.fault_count g.B.Block.size c.args.dev Flush flush_piece c.request_of.result c.request_of.ensures c.args.volume.now.volume c.serve_among.new.volume.volume c.args.ended.now.items c.serve_among.new.ended.items
      c.in-Ok-Data.field-0 c.in-Ok-Data.field-0 (rw c.in-Ok-Data.field-0-is tt) refl c.in-Ok-Data.ensures.served,
)

pub returns-clause-failed : goal.returns-clause-failed
returns-clause-failed g c =
    piece_refused g.B.Block.may_hold g.B.Block.contents g.B.Block.layers g.B.Block.fault_count g.B.Block.size c.args.dev Flush flush_piece c.request_of.result c.request_of.ensures c.args.volume.now.volume c.serve_among.new.volume.volume c.args.ended.now.items c.serve_among.new.ended.items
    c.in-Err.refusal c.in-Err.ensures.refused

pub returns-in-Ok-Refused-clause-full : goal.returns-in-Ok-Refused-clause-full
returns-in-Ok-Refused-clause-full g c = λ is. absurd (not_full c.in-Ok-Refused.failure (sym is ∙ c.refusal_for.ensures))

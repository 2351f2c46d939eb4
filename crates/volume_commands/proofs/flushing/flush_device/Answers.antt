-- The flush was done, or refused.
use Rattle.std.proofs.Common.{inl, inr, refl, ◌∙◌, ap, sym, subst}
use Rattle.plain_machine.specs.declared.request.Reply.TheVariants.{Written, Flushed, Refused}
use Rattle.volume_commands.specs.Rested.{rested_of, merged_of}
use Rattle.volume_commands.proofs.Going.{chunks_by}
use Rattle.volume_commands.proofs.WriteRuns.{answer}
use Rattle.volume_commands.proofs.Flushes.{flush_can, flush_did, flush_good, plain_flush, plain_flush_refused}
use Rattle.plain_machine.specs.declared.request.Op.TheVariants.{Flush}
use Rattle.plain_machine.specs.declared.request.Reply.{Reply}
use Rattle.volume.specs.Flying.{Fits}
use Rattle.volume.proofs.Quieted.{quiet_flights}
use Rattle.volume_commands.specs.Among.{flush_piece}
use Rattle.volume_commands.specs.AtRest.{IsAnswered}
use Rattle.volume_commands.proofs.AtRest.{piece_answered, piece_failed, piece_untaken}
use Rattle.volume_commands.proofs.Closing.{flush_fits}
use Rattle.volume_commands.proofs.ClosingMerge.{all_closes}
use Rattle.chunk.proofs.Limits.{is_chunk-some}
use Rattle.volume.proofs.Submits.{not_full}
use Rattle.volume_commands.proofs.flushing.flush_device.Goals as goal

pub serve-requires-clause-can : goal.serve-requires-clause-can
serve-requires-clause-can g c =
    let chunk = chunks_by c.args.volume.now.volume c.piece.result c.piece.ensures.piece c.piece.ensures.within c.piece.ensures.allowed in
    flush_can g.B.Block.size c.args.dev c.request_of.result c.args.volume.now.volume c.request_of.ensures c.requires.there c.requires.some c.requires.requests chunk.1 chunk.0

pub returns-in-Ok-Refused-clause-refused : goal.returns-in-Ok-Refused-clause-refused
returns-in-Ok-Refused-clause-refused g c =
    let new = merged_of g.B.Block.contents g.B.Block.layers (rested_of c.serve.new.volume.volume) in
    inr (inl (
      c.requires.there,
      (
        c.in-Ok-Refused.failure,
        c.refusal_for.ensures,
        flush_did g.B.Block.contents g.B.Block.layers c.args.dev c.args.volume.now.volume c.serve.new.volume.volume c.request_of.result (Refused c.in-Ok-Refused.failure) c.request_of.ensures
            (λ settled. c.in-Ok-Refused.ensures.answer settled ∙ ap (answer new) c.in-Ok-Refused.field-0-is),
      ),
    ))

pub returns-in-Ok-Refused-clause-loses : goal.returns-in-Ok-Refused-clause-loses
returns-in-Ok-Refused-clause-loses g c =
    plain_flush_refused g.B.Block.contents g.B.Block.layers c.args.dev c.args.volume.now.volume c.serve.new.volume.volume c.refusal_for.result (returns-in-Ok-Refused-clause-refused g c)

pub returns-in-Ok-Written-clause-done : goal.returns-in-Ok-Written-clause-done
returns-in-Ok-Written-clause-done g c =
    let new = merged_of g.B.Block.contents g.B.Block.layers (rested_of c.serve.new.volume.volume) in
    flush_good g.B.Block.contents g.B.Block.layers c.args.dev c.args.volume.now.volume c.serve.new.volume.volume Written tt
    (flush_did g.B.Block.contents g.B.Block.layers c.args.dev c.args.volume.now.volume c.serve.new.volume.volume c.request_of.result Written c.request_of.ensures
    (λ settled. c.in-Ok-Written.ensures.answer settled ∙ ap (answer new) c.in-Ok-Written.field-0-is))

pub returns-in-Ok-Written-clause-shows : goal.returns-in-Ok-Written-clause-shows
returns-in-Ok-Written-clause-shows g c = plain_flush g.B.Block.contents g.B.Block.layers c.args.dev c.args.volume.now.volume c.serve.new.volume.volume (returns-in-Ok-Written-clause-done g c)

pub returns-in-Ok-Flushed-clause-done : goal.returns-in-Ok-Flushed-clause-done
returns-in-Ok-Flushed-clause-done g c =
    let new = merged_of g.B.Block.contents g.B.Block.layers (rested_of c.serve.new.volume.volume) in
    flush_did g.B.Block.contents g.B.Block.layers c.args.dev c.args.volume.now.volume c.serve.new.volume.volume c.request_of.result Flushed c.request_of.ensures
    (λ settled. c.in-Ok-Flushed.ensures.answer settled ∙ ap (answer new) c.in-Ok-Flushed.field-0-is)

pub returns-in-Ok-Flushed-clause-shows : goal.returns-in-Ok-Flushed-clause-shows
returns-in-Ok-Flushed-clause-shows g c = plain_flush g.B.Block.contents g.B.Block.layers c.args.dev c.args.volume.now.volume c.serve.new.volume.volume (returns-in-Ok-Flushed-clause-done g c)

pub returns-in-Ok-Data-clause-done : goal.returns-in-Ok-Data-clause-done
returns-in-Ok-Data-clause-done g c =
    let new = merged_of g.B.Block.contents g.B.Block.layers (rested_of c.serve.new.volume.volume) in
    flush_good g.B.Block.contents g.B.Block.layers c.args.dev c.args.volume.now.volume c.serve.new.volume.volume c.in-Ok-Data.field-0 (rw c.in-Ok-Data.field-0-is tt)
    (flush_did g.B.Block.contents g.B.Block.layers c.args.dev c.args.volume.now.volume c.serve.new.volume.volume c.request_of.result c.in-Ok-Data.field-0 c.request_of.ensures c.in-Ok-Data.ensures.answer)

pub returns-in-Ok-Data-clause-shows : goal.returns-in-Ok-Data-clause-shows
returns-in-Ok-Data-clause-shows g c = plain_flush g.B.Block.contents g.B.Block.layers c.args.dev c.args.volume.now.volume c.serve.new.volume.volume (returns-in-Ok-Data-clause-done g c)

pub returns-clause-refused : goal.returns-clause-refused
returns-clause-refused g c = inr (inr (c.requires.there, c.in-Err.ensures.starved.0, c.in-Err.ensures.starved.1))

pub returns-clause-loses : goal.returns-clause-loses
returns-clause-loses g c = plain_flush_refused g.B.Block.contents g.B.Block.layers c.args.dev c.args.volume.now.volume c.serve.new.volume.volume c.in-Err.refusal (returns-clause-refused g c)

pub returns-in-Ok-Refused-clause-undone : goal.returns-in-Ok-Refused-clause-undone
returns-in-Ok-Refused-clause-undone g c =
    piece_failed g.B.Block.may_hold g.B.Block.contents g.B.Block.layers g.B.Block.fault_count g.B.Block.size c.args.dev Flush flush_piece c.request_of.result c.request_of.ensures c.args.volume.now.volume c.serve.new.volume.volume
    c.in-Ok-Refused.field-0 c.in-Ok-Refused.failure c.refusal_for.result c.refusal_for.ensures c.in-Ok-Refused.field-0-is c.in-Ok-Refused.ensures.answered

pub returns-in-Ok-Written-clause-answered : goal.returns-in-Ok-Written-clause-answered
returns-in-Ok-Written-clause-answered g c = (
  Written,
  piece_answered g.B.Block.may_hold g.B.Block.contents g.B.Block.layers g.B.Block.fault_count g.B.Block.size c.args.dev Flush flush_piece c.request_of.result c.request_of.ensures c.args.volume.now.volume c.serve.new.volume.volume
      c.in-Ok-Written.field-0 Written tt c.in-Ok-Written.field-0-is c.in-Ok-Written.ensures.answered,
)

pub returns-in-Ok-Flushed-clause-answered : goal.returns-in-Ok-Flushed-clause-answered
returns-in-Ok-Flushed-clause-answered g c = (
  Flushed,
  piece_answered g.B.Block.may_hold g.B.Block.contents g.B.Block.layers g.B.Block.fault_count g.B.Block.size c.args.dev Flush flush_piece c.request_of.result c.request_of.ensures c.args.volume.now.volume c.serve.new.volume.volume
      c.in-Ok-Flushed.field-0 Flushed tt c.in-Ok-Flushed.field-0-is c.in-Ok-Flushed.ensures.answered,
)

pub returns-in-Ok-Data-clause-answered : goal.returns-in-Ok-Data-clause-answered
returns-in-Ok-Data-clause-answered g c = (
  c.in-Ok-Data.field-0,
  piece_answered g.B.Block.may_hold g.B.Block.contents g.B.Block.layers g.B.Block.fault_count g.B.Block.size c.args.dev Flush flush_piece c.request_of.result c.request_of.ensures c.args.volume.now.volume c.serve.new.volume.volume
      c.in-Ok-Data.field-0 c.in-Ok-Data.field-0 (rw c.in-Ok-Data.field-0-is tt) refl c.in-Ok-Data.ensures.answered,
)

pub returns-clause-undone : goal.returns-clause-undone
returns-clause-undone g c =
    piece_untaken g.B.Block.may_hold g.B.Block.contents g.B.Block.layers g.B.Block.fault_count g.B.Block.size c.args.dev Flush flush_piece c.request_of.result c.request_of.ensures c.args.volume.now.volume c.serve.new.volume.volume c.in-Err.refusal c.in-Err.ensures.starved.0 c.in-Err.ensures.untaken

pub returns-in-Ok-Refused-clause-full : goal.returns-in-Ok-Refused-clause-full
returns-in-Ok-Refused-clause-full g c = λ is. absurd (not_full c.in-Ok-Refused.failure (sym is ∙ c.refusal_for.ensures))

pub returns-in-Ok-Written-clause-closes : goal.returns-in-Ok-Written-clause-closes
returns-in-Ok-Written-clause-closes g c = λ loud.
    let fits = subst (λ (r : Reply). Fits c.request_of.result.op c.request_of.result.range r) c.in-Ok-Written.field-0-is c.in-Ok-Written.ensures.answered.fits in
    absurd (flush_fits c.request_of.result.op c.request_of.result.range Written c.request_of.ensures.op_is (inl refl) fits)

pub returns-in-Ok-Flushed-clause-closes : goal.returns-in-Ok-Flushed-clause-closes
returns-in-Ok-Flushed-clause-closes g c = λ loud.
    let quiet = c.is_quiet.ensures.value ∙ c.requires.between.quiet in
    all_closes g.B.Block.may_hold g.B.Block.contents g.B.Block.layers g.B.Block.fault_count g.B.Block.size g.met.B.Block.whole g.met.B.Block.holds_now (g.B.Block.size c.args.volume.now.volume.origin) c.args.dev c.request_of.result c.args.volume.now.volume c.serve.new.volume.volume c.request_of.ensures
    (quiet_flights c.args.volume.now.volume c.requires.between.quiet) loud c.is_quiet.ensures.numbers (λ m is. is_chunk-some m.state.chunk (c.merging.ensures.fine m is).0) (c.is_quiet.ensures.between quiet loud)
    (subst (λ (r : Reply). IsAnswered g.B.Block.may_hold g.B.Block.contents g.B.Block.layers g.B.Block.fault_count g.B.Block.size c.request_of.result r c.args.volume.now.volume c.serve.new.volume.volume) c.in-Ok-Flushed.field-0-is c.in-Ok-Flushed.ensures.answered)

pub returns-in-Ok-Data-clause-closes : goal.returns-in-Ok-Data-clause-closes
returns-in-Ok-Data-clause-closes g c = λ loud.
    absurd (flush_fits c.request_of.result.op c.request_of.result.range c.in-Ok-Data.field-0 c.request_of.ensures.op_is (inr (_, c.in-Ok-Data.field-0-is)) c.in-Ok-Data.ensures.answered.fits)

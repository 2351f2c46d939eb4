use Rattle.std.proofs.Common.{inl, inr, refl, ap, ◌∙◌}
use Rattle.chunk.specs.Pieces.{span_of}
use Rattle.plain_machine.specs.declared.request.Op.TheVariants.{Write}
use Rattle.volume_threads.proofs.seat.Seat.write_piece.Goals as goal

pub returns-in-Ok-Written-clause-ok : goal.returns-in-Ok-Written-clause-ok
returns-in-Ok-Written-clause-ok g c =
    let h = c.in-Ok-Written.ensures.ok in (
      h.0,
      record { goes_to = ap (λ q. q.dev) h.1; asks = ap (λ q. q.op) h.1 ∙ ap Write c.in-Ok.ensures; covers = ap (λ q. span_of q.range) h.1 },
      h.2 ∙ c.in-Ok-Written.field-0-is,
      h.3,
    )

pub returns-in-Ok-Refused-clause-err : goal.returns-in-Ok-Refused-clause-err
returns-in-Ok-Refused-clause-err g c =
    let h = c.in-Ok-Refused.ensures.ok in
    inr (
      c.args.bytes.now,
      h.0,
      record { goes_to = ap (λ q. q.dev) h.1; asks = ap (λ q. q.op) h.1 ∙ ap Write c.in-Ok.ensures; covers = ap (λ q. span_of q.range) h.1 },
      h.3,
      inr (c.in-Ok-Refused.failure, h.2 ∙ c.in-Ok-Refused.field-0-is, c.refusal_for.ensures),
    )

pub returns-clause-err : goal.returns-clause-err
returns-clause-err g c =
    let h = c.in-Err.ensures.err in
    inl (h.0, inr (c.args.bytes.now, record { dev = c.args.dev; op = Write c.in-Ok.bytes; range = c.args.part }, record { goes_to = refl; asks = ap Write c.in-Ok.ensures; covers = refl }, h.1))

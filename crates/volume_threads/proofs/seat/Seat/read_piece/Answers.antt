use Rattle.std.proofs.Common.{◌++◌, [], inl, inr, refl, ap, ◌∙◌}
use Rattle.chunk.specs.Pieces.{span_of}
use Rattle.plain_machine.specs.declared.request.Op.TheVariants.{Read}
use Rattle.volume_threads.proofs.seat.Seat.read_piece.Goals as goal

pub returns-in-Ok-clause-ok : goal.returns-in-Ok-clause-ok
returns-in-Ok-clause-ok g c =
    let h = c.in-Ok-Data.ensures.ok in (
      c.in-Ok-Data.bytes,
      h.0,
      record { goes_to = ap (λ q. q.dev) h.1; asks = ap (λ q. q.op) h.1; covers = ap (λ q. span_of q.range) h.1 },
      h.2 ∙ c.in-Ok-Data.field-0-is,
      h.3,
      c.in-Ok.ensures.items ∙ ap (λ l. c.args.out.now.items ++ l) c.as_slice.ensures,
    )

pub returns-in-Ok-Data-clause-err : goal.returns-in-Ok-Data-clause-err
returns-in-Ok-Data-clause-err g c =
    let h = c.in-Ok-Data.ensures.ok in
    inr (
      c.in-Ok-Data.bytes,
      h.0,
      record { goes_to = ap (λ q. q.dev) h.1; asks = ap (λ q. q.op) h.1; covers = ap (λ q. span_of q.range) h.1 },
      h.3,
      inl (h.2 ∙ c.in-Ok-Data.field-0-is, refl),
    )

pub returns-in-Ok-Refused-clause-err : goal.returns-in-Ok-Refused-clause-err
returns-in-Ok-Refused-clause-err g c =
    let h = c.in-Ok-Refused.ensures.ok in
    inr (
      [],
      h.0,
      record { goes_to = ap (λ q. q.dev) h.1; asks = ap (λ q. q.op) h.1; covers = ap (λ q. span_of q.range) h.1 },
      h.3,
      inr (c.in-Ok-Refused.failure, h.2 ∙ c.in-Ok-Refused.field-0-is, c.refusal_for.ensures),
    )

pub returns-clause-err : goal.returns-clause-err
returns-clause-err g c =
    let h = c.in-Err.ensures.err in
    inl (h.0, inr ([], record { dev = c.args.dev; op = Read; range = c.args.part }, record { goes_to = refl; asks = refl; covers = refl }, h.1))

use Rattle.std.proofs.Common.{[], ◌∷◌, ◌++◌, ap, ◌∙◌}
use Rattle.locked_volume.proofs.Begins.{begins_then}
use Rattle.volume_threads.proofs.performing.perform.Goals as goal

pub returns-in-Ok-default-Some-clause-ok : goal.returns-in-Ok-default-Some-clause-ok
returns-in-Ok-default-Some-clause-ok g c =
    let made = rw c.in-Ok-default-Some.is at c.submit-got.ensures in
    let h = rw c.in-Ok-default-Some.field-0-1-is at made in
    let same = c.reserve.ensures.same in (
      h.0,
      record {
        volume = h.1.volume ∙ same.volume;
        seat = h.1.seat ∙ same.seat;
        receipts = h.1.receipts ∙ ap (λ l. l ++ h.0 ∷ []) same.receipts;
        waits = h.1.waits;
        answer = h.1.answer;
        fits = h.1.fits;
        by = h.1.by ∙ same.seat;
        asked = h.1.asked;
        later = begins_then _ _ _ same.later h.1.later;
      },
    )

pub returns-in-Some-reply-clause-ok : goal.returns-in-Some-reply-clause-ok
returns-in-Some-reply-clause-ok g c =
    let h = rw c.in-Some-reply.is at c.turn-reply.ensures.some in
    let was = c.loop.invariant in (
      h.0,
      record {
        volume = h.1.volume ∙ was.0;
        seat = h.1.seat ∙ was.1;
        receipts = h.1.receipts ∙ ap (λ l. l ++ h.0 ∷ []) was.2;
        waits = h.1.waits;
        answer = h.1.answer;
        fits = h.1.fits;
        by = h.1.by ∙ was.1;
        asked = h.1.asked _ was.3;
        later = begins_then _ _ _ was.5 h.1.later;
      },
    )

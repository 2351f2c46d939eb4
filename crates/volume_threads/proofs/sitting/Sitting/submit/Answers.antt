-- A request that is accepted is the one that the seat waits for.
use Rattle.std.proofs.Common.{sym, ap, ◌∙◌, subst}
use Rattle.std.specs.Prelude.{IfErr}
use Rattle.locked_volume.specs.Denying.{Serve, WasDenied}
use Rattle.volume_threads.specs.Sittings.{seen_of, waits_of}
use Rattle.volume_threads.proofs.Submitted.{submitted_at}
use Rattle.volume_threads.proofs.sitting.Sitting.submit.Goals as goal

pub returns-clause-seat : goal.returns-clause-seat
returns-clause-seat g c =
    let made = c.submit-pass in
    submitted_at _ (g.J.Room.start c.args.self.now.volume) (g.J.Room.fixed c.args.self.now.volume) c.self.inside.seat c.args.request c.into_seat.result made.result.0 c.args.self.now _ made.result.1
    made.ensures.seat
    (subst (λ v. IfErr made.result.1 (λ refusal. WasDenied (g.J.Room.start v) (g.J.Room.fixed v) made.result.0.me.0.seen (Serve c.args.request) refusal)) c.requires.volume made.ensures.denied)
    (ap (λ s. s.volume) c.self.view_is)
    (ap (λ s. s.seat) c.self.view_is)
    (sym (ap (λ s. s.seat) c.self.view_is))
    (ap (λ s. s.receipts) c.self.view_is)
    (ap (λ s. s.room) c.self.view_is)
    c.requires.idle
    (sym (ap (λ s. s.waits) c.self.view_is) ∙ ap (λ b. waits_of b.views) (sym c.replace-badge.ensures.value) ∙ ap waits_of c.into_seat.ensures.2)
    (ap waits_of c.into_badge.ensures.2)
    (sym (ap (λ s. s.seen) c.self.view_is) ∙ ap (λ b. seen_of b.views) (sym c.replace-badge.ensures.value) ∙ ap seen_of c.into_seat.ensures.2)
    (ap seen_of c.into_badge.ensures.2)

use Rattle.std.proofs.Common.{[], ◌∷◌, ◌++◌, sym, ap, ◌∙◌, subst}
use Rattle.locked_volume.specs.Keeping.{Begins}
use Rattle.locked_volume.proofs.Begins.{begins_in}
use Rattle.locked_volume.specs.Fixed.{count_at}
use Rattle.locked_volume.specs.Seats.{IsReceipted}
use Rattle.volume_threads.specs.Sittings.{seen_of, waits_of}
use Rattle.volume_threads.proofs.Answering.{answered_at}
use Rattle.volume_threads.proofs.Counting.{holds_more}
use Rattle.volume_threads.proofs.sitting.Sitting.issue.Goals as goal

pub returns-in-Some-clause-some : goal.returns-in-Some-clause-some
returns-in-Some-clause-some g c =
    let h = rw c.in-Some.is at c.issue-pass.ensures.seat in (
      c.in-Some.pair.1,
      answered_at _ _ c.self.inside.seat c.into_seat.result c.issue-pass.result.0 c.in-Some.pair.0 c.in-Some.pair.1 c.args.self.now _ h
          (sym (ap (λ s. s.waits) c.self.view_is) ∙ ap (λ b. waits_of b.views) (sym c.replace-badge.ensures.value) ∙ ap waits_of c.into_seat.ensures.2)
          (ap waits_of c.into_badge.ensures.2)
          (ap (λ s. s.volume) c.self.view_is)
          (ap (λ s. s.seat) c.self.view_is)
          (sym (ap (λ s. s.seat) c.self.view_is))
          (c.push_reserved.ensures.items ∙ ap (λ s. s.receipts ++ c.in-Some.pair.1 ∷ []) c.self.view_is)
          c.requires.one
          (begins_in _ _ _
          (subst (λ l. Begins l c.issue-pass.result.0.me.0.seen)
          (sym (ap (λ b. seen_of b.views) (sym c.replace-badge.ensures.value) ∙ ap seen_of c.into_seat.ensures.2) ∙ ap (λ s. s.seen) c.self.view_is)
          h.later)
          (ap seen_of c.into_badge.ensures.2)),
    )

pub invariant_of-self : goal.invariant_of-self
invariant_of-self g c =
    let inside = c.self.inside in
    let r = c.in-Some.pair.1 in
    let vol = c.requires.volume ∙ sym (ap (λ s. s.volume) c.self.view_is) in
    let h = rw c.in-Some.is at c.issue-pass.ensures.seat in
    holds_more (g.J.Room.history inside.volume) (count_at (g.J.Room.fixed inside.volume) (g.J.Room.start inside.volume) inside.seat) inside.seat inside.pass c.into_badge.result inside.receipts.items c.push_reserved.new.self.items
    c.into_seat.result c.issue-pass.result.0 c.in-Some.pair.0 r c.self.invariant (ap (λ b. b.views) (sym c.replace-badge.ensures.value) ∙ c.into_seat.ensures.2)
    (subst (λ v. IsReceipted (g.J.Room.history v) (count_at (g.J.Room.fixed v) (g.J.Room.start v) inside.seat) inside.seat c.into_seat.result c.issue-pass.result.0 c.in-Some.pair.0 r) vol h)
    c.into_badge.ensures.0 c.into_badge.ensures.2 c.push_reserved.ensures.items

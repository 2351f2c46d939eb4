use Rattle.std.proofs.Common.{◌≡◌, ℕ, ◌<◌, List, get_or, length, set, [], ◌∷◌, ◌++◌, sym, ap, ◌∙◌, subst}
use Rattle.std.proofs.lemmas.List.{append-nil, get_or_default}
use Rattle.locked_volume.specs.Keeping.{Begins}
use Rattle.plain_machine.specs.declared.request.Request.{Request}
use Rattle.volume.specs.Flying.{Fits}
use Rattle.audited_volume.specs.declared.entry.Entry.{Entry}
use Rattle.locked_volume.specs.Denying.{Serve}
use Rattle.volume_threads.specs.Rigs.{HasAdded}
use Rattle.volume_threads.specs.Sittings.{SittingShape}
use Rattle.volume_threads.proofs.Asking.{added_at, denied_as, err_mapped, ok_mapped, seen_now}
use Rattle.volume_threads.proofs.seat.Seat.ask.Goals as goal

pub returns-clause-ok : goal.returns-clause-ok
returns-clause-ok g c =
    let within : c.args.volume < length c.self.inside.sittings.items = subst (λ (n : ℕ). c.args.volume < n) (sym c.self.invariant.1) c.requires.volume in
    let was : (d : SittingShape) → c.index_mut.result.now ≡ get_or c.self.inside.sittings.items c.args.volume d = λ d. c.index_mut.ensures.value ∙ get_or_default c.self.inside.sittings.items c.args.volume c.index_mut.result.now d within in
    ok_mapped _ _ c.perform.result
    (λ reply h. (
      h.0,
      h.1.asked,
      h.1.answer,
      subst (λ s. HasAdded c.args.volume (h.0 ∷ []) s (record { number = c.self.inside.number; sittings = set c.self.inside.sittings.items c.args.volume c.perform.new.sitting; watches = c.self.inside.watches.items })) c.self.view_is
          (added_at c.self.inside.number c.args.volume c.self.inside.watches.items (h.0 ∷ []) c.self.inside.sittings.items c.perform.new.sitting within
          (λ d. h.1.receipts ∙ ap (λ s. s.receipts ++ h.0 ∷ []) (was d))
          (λ d. subst (λ (l : List Entry). Begins l c.perform.new.sitting.seen) (ap (λ s. s.seen) (was d)) h.1.later)),
    ))
    c.perform.ensures.ok

pub returns-clause-fits : goal.returns-clause-fits
returns-clause-fits g c = ok_mapped _ _ c.perform.result (λ reply h. subst (λ (q : Request). Fits q.op q.range reply) h.1.asked h.1.fits) c.perform.ensures.ok

pub returns-clause-err : goal.returns-clause-err
returns-clause-err g c =
    let within : c.args.volume < length c.self.inside.sittings.items = subst (λ (n : ℕ). c.args.volume < n) (sym c.self.invariant.1) c.requires.volume in
    let was : (d : SittingShape) → c.index_mut.result.now ≡ get_or c.self.inside.sittings.items c.args.volume d = λ d. c.index_mut.ensures.value ∙ get_or_default c.self.inside.sittings.items c.args.volume c.index_mut.result.now d within in
    let sitting = c.index_mut.result.now in
    err_mapped _ _ c.perform.result
    (λ refusal h. (
      subst (λ s. HasAdded c.args.volume [] s (record { number = c.self.inside.number; sittings = set c.self.inside.sittings.items c.args.volume c.perform.new.sitting; watches = c.self.inside.watches.items })) c.self.view_is
          (added_at c.self.inside.number c.args.volume c.self.inside.watches.items [] c.self.inside.sittings.items c.perform.new.sitting within
          (λ d. h.same.receipts ∙ ap (λ s. s.receipts) (was d) ∙ sym (append-nil _))
          (λ d. subst (λ (l : List Entry). Begins l c.perform.new.sitting.seen) (ap (λ s. s.seen) (was d)) h.same.later)),
      denied_as g.J.Room.start g.J.Room.fixed (Serve c.args.request) refusal sitting.volume c.args.volume c.perform.new.sitting.seen _
          (ap (λ s. s.volume) (was sitting) ∙ (c.self.invariant.2 c.args.volume sitting within).volume)
          (sym (seen_now c.self.inside.number c.args.volume c.self.inside.watches.items c.self.inside.sittings.items c.perform.new.sitting within))
          h.denied,
    ))
    c.perform.ensures.err

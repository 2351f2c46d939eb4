-- The seat is as it was, but that it may have seen more.
use Rattle.std.proofs.Common.{◌≡◌, ℕ, true, ◌<◌, List, get_or, length, set, [], sym, ap, ◌∙◌, subst}
use Rattle.std.proofs.lemmas.List.{append-nil, get_or_default}
use Rattle.locked_volume.specs.Keeping.{Begins}
use Rattle.audited_volume.specs.declared.entry.Entry.{Entry}
use Rattle.volume_threads.specs.Rigs.{HasAdded}
use Rattle.volume_threads.specs.Sittings.{SittingShape}
use Rattle.volume_threads.proofs.Asking.{added_at}
use Rattle.volume_threads.proofs.seat.Seat.merge.Goals as goal

pub returns-in_err-begin_merge-clause-added : goal.returns-in_err-begin_merge-clause-added
returns-in_err-begin_merge-clause-added g c =
    let within : c.args.volume < length c.self.inside.sittings.items = subst (λ (n : ℕ). c.args.volume < n) (sym c.self.invariant.1) c.requires.volume in
    let was : (d : SittingShape) → c.index_mut-sitting.result.now ≡ get_or c.self.inside.sittings.items c.args.volume d = λ d. c.index_mut-sitting.ensures.value ∙ get_or_default c.self.inside.sittings.items c.args.volume c.index_mut-sitting.result.now d within in
    let same = c.begin_merge.ensures.seat in
    subst (λ s. HasAdded c.args.volume [] s (record { number = c.self.inside.number; sittings = set c.self.inside.sittings.items c.args.volume c.begin_merge.new.sitting; watches = c.self.inside.watches.items })) c.self.view_is
    (added_at c.self.inside.number c.args.volume c.self.inside.watches.items [] c.self.inside.sittings.items c.begin_merge.new.sitting within
    (λ d. same.receipts ∙ ap (λ s. s.receipts) (was d) ∙ sym (append-nil _))
    (λ d. subst (λ (l : List Entry). Begins l c.begin_merge.new.sitting.seen) (ap (λ s. s.seen) (was d)) same.later))

pub returns-clause-added : goal.returns-clause-added
returns-clause-added g c =
    let within : c.args.volume < length c.self.inside.sittings.items = subst (λ (n : ℕ). c.args.volume < n) (sym c.self.invariant.1) c.requires.volume in
    let was : (d : SittingShape) → c.index_mut-sitting.result.now ≡ get_or c.self.inside.sittings.items c.args.volume d = λ d. c.index_mut-sitting.ensures.value ∙ get_or_default c.self.inside.sittings.items c.args.volume c.index_mut-sitting.result.now d within in
    let same = c.begin_merge.ensures.seat in
    subst (λ s. HasAdded c.args.volume [] s (record { number = c.self.inside.number; sittings = set c.self.inside.sittings.items c.args.volume c.begin_merge.new.sitting; watches = c.self.inside.watches.items })) c.self.view_is
    (added_at c.self.inside.number c.args.volume c.self.inside.watches.items [] c.self.inside.sittings.items c.begin_merge.new.sitting within
    (λ d. same.receipts ∙ ap (λ s. s.receipts) (was d) ∙ sym (append-nil _))
    (λ d. subst (λ (l : List Entry). Begins l c.begin_merge.new.sitting.seen) (ap (λ s. s.seen) (was d)) same.later))

pub begin_merge-requires-clause-asked : goal.begin_merge-requires-clause-asked
begin_merge-requires-clause-asked g c =
    let within : c.args.volume < length c.self.inside.sittings.items = subst (λ (n : ℕ). c.args.volume < n) (sym c.self.invariant.1) c.requires.volume in
    let sitting = c.index_mut-sitting.result.now in
    let was = c.index_mut-sitting.ensures.value ∙ get_or_default c.self.inside.sittings.items c.args.volume sitting sitting within in
    subst (λ v. g.J.Room.merges v c.args.snap ≡ true) (sym (ap (λ s. s.volume) was ∙ (c.self.invariant.2 c.args.volume sitting within).volume)) c.requires.asked

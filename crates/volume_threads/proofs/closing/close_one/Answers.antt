-- The audit that is given back is the one that the seats were compared with.
use Rattle.std.proofs.Common.{◌++◌, sym, ap, ◌∙◌, subst, slice_index_or}
use Rattle.locked_volume.specs.AskedFor.{AddsAskedFor}
use Rattle.volume_threads.specs.Rigs.{IsSettledAt}
use Rattle.volume_threads.proofs.closing.close_one.Goals as goal

pub returns-clause-settled : goal.returns-clause-settled
returns-clause-settled g c i s low =
    subst (λ a. IsSettledAt (g.J.Room.start c.args.place.volume) a c.args.place.volume (slice_index_or c.settle_all.new.seats i s))
    (sym (c.into_audit.ensures.same ∙ ap (λ p. p.audit) c.settle_all.ensures.post))
    (c.settle_all.ensures.settled i s low)

pub returns-clause-grows : goal.returns-clause-grows
returns-clause-grows g c =
    let of = c.into_audit.ensures.grows in
    (of.0, of.1 ∙ ap (λ v. g.J.Room.start v ++ of.0) (ap (λ p. p.volume) c.settle_all.ensures.post ∙ c.checked-post.ensures.0))

pub returns-clause-asked : goal.returns-clause-asked
returns-clause-asked g c =
    subst (λ v. AddsAskedFor (g.J.Room.merges v) (g.J.Room.start v) c.into_audit.result.entries) (ap (λ p. p.volume) c.settle_all.ensures.post ∙ c.checked-post.ensures.0) c.into_audit.ensures.asked

use Rattle.std.proofs.Common.{◌≡◌, true, ap, ◌∙◌, sym, subst, refl}
use Rattle.store.specs.Held.{committed}
use Rattle.merge.specs.Due.{can_flush_of}
use Rattle.merge.specs.Lists.{changed, flushed_in}
use Rattle.merge.specs.Merging.{Merging, due_of}
use Rattle.volume_laws.specs.MergeSteps.{FlushesBack}
use Rattle.merge.proofs.Changes.{merging, same_merging, flushes}
use Rattle.merge.proofs.Stages.{present_flushed}
use Rattle.merge.proofs.merge.Merge.flush.Goals as goal

pub invariant_of-self : goal.invariant_of-self
invariant_of-self g c =
    let m = c.self.invariant in
    let s = c.self.inside.store in
    let due : can_flush_of c.self.inside.group ≡ true = ap (λ v. can_flush_of v.group) c.self.view_is ∙ c.requires.due in
    record {
      allowed = m.allowed;
      counted = m.counted;
      ready = m.ready;
      idle = m.idle;
      room = m.room;
      present = λ h same. present_flushed s.state (committed s.exceptions) c.self.inside.group m.present due h (sym c.mark_flushed.ensures ∙ same);
      alone = λ f. c.mark_flushed.ensures ∙ ap (changed flushed_in) (m.alone f);
      unfinished = m.unfinished;
      valid = m.valid;
    }

pub returns-in-Ok-clause-step : goal.returns-in-Ok-clause-step
returns-in-Ok-clause-step g c =
    let m = c.self.inside in
    let s = m.store in
    let v : Merging g.row.B.Denot = merging m.number s.device m.failed s.state s.places.next (committed s.exceptions) m.group m.buffer.items in
    let due : can_flush_of m.group ≡ true = ap (λ v. can_flush_of v.group) c.self.view_is ∙ c.requires.due in
    let fields = same_merging m.number s.device m.failed s.state s.state s.places.next s.places.next (committed s.exceptions) (committed s.exceptions) c.mark_flushed.new.group (changed flushed_in m.group)
    m.buffer.items m.buffer.items refl refl refl c.mark_flushed.ensures refl in
    rw (← c.self.view_is) (λ loud.
    subst (λ (x : Merging g.row.B.Denot). FlushesBack (due_of g.B.Block.contents loud v) (due_of g.B.Block.contents loud x)) (sym fields)
    (flushes g.B.Block.contents loud v c.self.invariant.present c.self.invariant.alone due))

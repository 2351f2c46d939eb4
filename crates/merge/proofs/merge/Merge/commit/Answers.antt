use Rattle.std.proofs.Common.{◌≡◌, ℕ, ◌*◌, ◌-◌, ◌<◌, ◌^◌, true, arith, refl, ap, ◌∙◌, sym, subst, length, take}
use Rattle.std.specs.Prelude.{Some, None}
use Rattle.chunk.specs.Sizes.{is_chunk}
use Rattle.cow_format.specs.Pairs.{pairs_of}
use Rattle.store.specs.Loading.{is_begun}
use Rattle.store.specs.Held.{committed}
use Rattle.store.specs.declared.state.State.{State}
use Rattle.merge.specs.Due.{can_commit_of}
use Rattle.merge.specs.Lists.{changed, committed_in, copied_count}
use Rattle.merge.specs.Merging.{Merging}
use Rattle.merge.proofs.Groups.{group_small}
use Rattle.merge.proofs.Stages.{ready_group, falls, present_committed}
use Rattle.merge.proofs.Changes.{merging, same_merging, clears, CommitStep}
use Rattle.merge.proofs.merge.Merge.commit.Goals as goal

pub overflow_sub-last : goal.overflow_sub-last
overflow_sub-last g c =
    let m = c.self.inside in
    let due : can_commit_of m.group ≡ true = ap (λ (m : Merging g.row.B.Denot). can_commit_of m.group) c.self.view_is ∙ c.requires.due in
    let r = ready_group m.store.state (committed m.store.exceptions) m.group c.in-Some.group c.self.invariant.present c.in-Some.is due in
    r.some

pub overflow_add-last : goal.overflow_add-last
overflow_add-last g c =
    let m = c.self.inside in
    let s = m.store in
    let due : can_commit_of m.group ≡ true = ap (λ (m : Merging g.row.B.Denot). can_commit_of m.group) c.self.view_is ∙ c.requires.due in
    let r = ready_group s.state (committed s.exceptions) m.group c.in-Some.group c.self.invariant.present c.in-Some.is due in
    let small = group_small s.state (committed s.exceptions) c.in-Some.group (c.self.invariant.present c.in-Some.group c.in-Some.is) s.front.some c.self.invariant.counted (omega (arith, s.size, g.met.B.Block.small s.device)) in
    omega (arith, small.old, r.all)

pub merge_commit-requires-clause-some : goal.merge_commit-requires-clause-some
merge_commit-requires-clause-some g c =
    let m = c.self.inside in
    let due : can_commit_of m.group ≡ true = ap (λ (m : Merging g.row.B.Denot). can_commit_of m.group) c.self.view_is ∙ c.requires.due in
    let r = ready_group m.store.state (committed m.store.exceptions) m.group c.in-Some.group c.self.invariant.present c.in-Some.is due in
    r.some

pub merge_commit-requires-clause-fits : goal.merge_commit-requires-clause-fits
merge_commit-requires-clause-fits g c =
    let m = c.self.inside in
    let due : can_commit_of m.group ≡ true = ap (λ (m : Merging g.row.B.Denot). can_commit_of m.group) c.self.view_is ∙ c.requires.due in
    let r = ready_group m.store.state (committed m.store.exceptions) m.group c.in-Some.group c.self.invariant.present c.in-Some.is due in
    r.fits

pub merge_commit-requires-clause-falling : goal.merge_commit-requires-clause-falling
merge_commit-requires-clause-falling g c =
    let m = c.self.inside in
    let due : can_commit_of m.group ≡ true = ap (λ (m : Merging g.row.B.Denot). can_commit_of m.group) c.self.view_is ∙ c.requires.due in
    let r = ready_group m.store.state (committed m.store.exceptions) m.group c.in-Some.group c.self.invariant.present c.in-Some.is due in
    λ i d lt. falls (committed m.store.exceptions) c.in-Some.group.first c.in-Some.group.copied i d r.ends lt

pub invariant_of-self : goal.invariant_of-self
invariant_of-self g c =
    let m = c.self.invariant in
    let s = c.self.inside.store in
    let t = c.merge_commit.new.self in
    let state = c.in-Ok.ensures.state in
    let due : can_commit_of c.self.inside.group ≡ true = ap (λ (m : Merging g.row.B.Denot). can_commit_of m.group) c.self.view_is ∙ c.requires.due in
    let chunk : t.state.chunk ≡ s.state.chunk = ap (λ (x : State). x.chunk) state in
    let origin : t.state.origin ≡ s.state.origin = ap (λ (x : State). x.origin) state in
    let size : t.state.size ≡ s.state.size = ap (λ (x : State). x.size) state in
    record {
      allowed = ap is_chunk chunk ∙ m.allowed;
      counted = subst (λ (n : ℕ). n < 2 ^ 64) (sym origin) m.counted;
      ready = ap (λ (x : State). x.left) state ∙ m.ready;
      idle = ap length c.merge_commit.ensures.pending ∙ m.idle;
      room = m.room ∙ ap (λ n. 512 * n) (sym chunk);
      present = λ h same. present_committed s.state t.state (committed s.exceptions) (committed t.exceptions) c.self.inside.group m.present due chunk origin size h (sym c.mark_committed.ensures ∙ same);
      alone = λ f. (let none : Some c.in-Some.group ≡ None = sym c.in-Some.is ∙ m.alone f in absurd (cc));
      unfinished = λ f. (let none : Some c.in-Some.group ≡ None = sym c.in-Some.is ∙ m.alone f in absurd (cc));
      valid = ap (λ (x : State). x.valid) state ∙ m.valid;
    }

pub returns-in-Ok-clause-step : goal.returns-in-Ok-clause-step
returns-in-Ok-clause-step g c =
    let m = c.self.inside in
    let s = m.store in
    let t = c.merge_commit.new.self in
    let e = c.in-Ok.ensures in
    let v : Merging g.row.B.Denot = merging m.number s.device m.failed s.state s.places.next (committed s.exceptions) m.group m.buffer.items in
    let due : can_commit_of m.group ≡ true = ap (λ (m : Merging g.row.B.Denot). can_commit_of m.group) c.self.view_is ∙ c.requires.due in
    let chunk : t.state.chunk ≡ s.state.chunk = ap (λ (x : State). x.chunk) e.state in
    let origin : t.state.origin ≡ s.state.origin = ap (λ (x : State). x.origin) e.state in
    let size : t.state.size ≡ s.state.size = ap (λ (x : State). x.size) e.state in
    let filled : t.state.filled ≡ s.state.filled - copied_count m.group = ap (λ (x : State). x.filled) e.state ∙ ap (λ k. s.state.filled - k) (sym (ap copied_count c.in-Some.is)) in
    let current : t.state.current ≡ s.state.current = ap (λ (x : State). x.current) e.state in
    let ready = ap (λ (x : State). x.left) e.state ∙ c.self.invariant.ready in
    let pairs : committed t.exceptions ≡ take (length v.pairs - copied_count m.group) v.pairs = e.committed ∙ ap (λ k. take (length v.pairs - k) v.pairs) (sym (ap copied_count c.in-Some.is)) in
    let fields = same_merging m.number t.device m.failed t.state t.state t.places.next t.places.next (committed t.exceptions) (take (length v.pairs - copied_count m.group) v.pairs) c.mark_committed.new.group (changed committed_in m.group)
    m.buffer.items m.buffer.items refl refl pairs c.mark_committed.ensures refl in
    rw (← c.self.view_is) (λ loud louder.
    subst (λ (x : Merging g.row.B.Denot). CommitStep g.B.Block.contents loud v x) (sym fields)
    (clears g.B.Block.contents loud v t.device t.state t.places.next c.self.invariant.present c.self.invariant.alone due filled current chunk origin size c.merge_commit.ensures.only
    (λ l. ap (λ k. pairs_of k (g.B.Block.contents t.device)) (sym chunk) ∙ (t.stored (c.merge_commit.ensures.loud ∙ louder l)).listed (ap is_begun ready) ∙ pairs)))

pub returns-in-Ok-clause-adds : goal.returns-in-Ok-clause-adds
returns-in-Ok-clause-adds g c = rw (← c.self.view_is) c.merge_commit.ensures.adds

pub returns-in-Err-clause-adds : goal.returns-in-Err-clause-adds
returns-in-Err-clause-adds g c = rw (← c.self.view_is) c.merge_commit.ensures.adds

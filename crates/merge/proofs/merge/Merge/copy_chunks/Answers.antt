use Rattle.std.proofs.Common.{◌≡◌, ℕ, ◌+◌, ◌-◌, ◌*◌, ◌^◌, ◌<◌, ◌≤◌, List, ◌++◌, length, take, drop, arith, refl, ap, ◌∙◌, sym, subst}
use Rattle.std.specs.Prelude.{Some, Bool, true, ◌&&◌}
use Rattle.sector.specs.Bytes.{sectors_at, with_part}
use Rattle.sector.specs.declared.pair.Pair.{Pair}
use Rattle.sector.proofs.Sectors.{written_back}
use Rattle.cow_format.specs.Pairs.{IsInside}
use Rattle.in_flight.specs.Copies.{count_of}
use Rattle.store.specs.Grouping.{shifted}
use Rattle.store.proofs.Groups.{same_pair}
use Rattle.store.specs.Held.{committed}
use Rattle.store.specs.declared.state.State.{State}
use Rattle.merge.specs.declared.group.Group.{Group}
use Rattle.merge.specs.Lists.{changed, copied_in, total}
use Rattle.merge.specs.Merging.{Merging}
use Rattle.merge.specs.Steps.{IsWaiting}
use Rattle.merge.proofs.Groups.{group_small}
use Rattle.merge.proofs.Stages.{chunk_whole, copies_all, front_all, inside_of, length-read, one_more, present_copied, the_group, waiting_inside}
use Rattle.merge.proofs.Changes.{merging, same_merging, sound_with}
use Rattle.merge.proofs.merge.Merge.copy_chunks.Goals as goal

pub is_copyable-requires-clause-small : goal.is_copyable-requires-clause-small
is_copyable-requires-clause-small g c =
    let s = c.self.inside.store in
    group_small s.state (committed s.exceptions) c.in-Some.group (c.self.invariant.present c.in-Some.group c.in-Some.is) s.front.some c.self.invariant.counted (omega (arith, s.size, g.met.B.Block.small s.device))

pub is_copyable-requires-clause-near : goal.is_copyable-requires-clause-near
is_copyable-requires-clause-near g c =
    let s = c.self.inside.store in
    let h = c.self.invariant.present c.in-Some.group c.in-Some.is in
    let n = total c.in-Some.group in
    let some = h.some in
    let last = inside_of s.state (committed s.exceptions) c.in-Some.group (n - 1) h (omega (arith, some)) in
    let first : ℕ = c.in-Some.group.first.old in
    let up : s.state.chunk * (first + n) ≡ s.state.chunk * (first + (n - 1)) + s.state.chunk = (let e : first + n ≡ first + (n - 1) + 1 = omega (arith, some) in ap (λ k. s.state.chunk * k) e ∙ grind arith) in
    let few : s.state.chunk * (first + c.in-Some.group.waiting) ≤ s.state.chunk * (first + n) = (let le : c.in-Some.group.waiting ≤ n = omega arith in grind arith) in
    omega (arith, up, few, last.old, s.near, s.front.allowed)

pub copy_to-requires-clause-there : goal.copy_to-requires-clause-there
copy_to-requires-clause-there g c =
    let s = c.self.inside.store in
    let k = copies_all c.in-Some.group s.state.chunk s.state.origin (sym c.if-not-is_copyable.ensures) in
    let inside = waiting_inside s.state (committed s.exceptions) c.in-Some.group (c.self.invariant.present c.in-Some.group c.in-Some.is) k.far in
    let two = k.two in
    let last = inside_of s.state (committed s.exceptions) c.in-Some.group (c.in-Some.group.waiting - 1) (c.self.invariant.present c.in-Some.group c.in-Some.is) (omega (arith, two)) in
    let up : s.state.chunk * c.in-Some.group.first.new + s.state.chunk * c.in-Some.group.waiting ≡ s.state.chunk * (c.in-Some.group.first.new + (c.in-Some.group.waiting - 1) + 1) = (let e : c.in-Some.group.first.new + (c.in-Some.group.waiting - 1) + 1 ≡ c.in-Some.group.first.new + c.in-Some.group.waiting = omega (arith, two) in grind arith ∙ ap (λ k. s.state.chunk * k) (sym e)) in
    omega (arith, up, last.new)

pub fetch-requires-clause-inside : goal.fetch-requires-clause-inside
fetch-requires-clause-inside g c =
    let s = c.self.inside.store in
    let h = c.self.invariant.present c.in-Some.group c.in-Some.is in
    let some = h.some in
    subst (λ (x : State). IsInside x.chunk x.origin x.size c.in-Some.group.first) (sym c.copy_to.ensures.state)
    (subst (λ (p : Pair). IsInside s.state.chunk s.state.origin s.state.size p) (same_pair (shifted c.in-Some.group.first 0) c.in-Some.group.first (omega arith) (omega arith)) (inside_of s.state (committed s.exceptions) c.in-Some.group 0 h some))

pub count_all-requires : goal.count_all-requires
count_all-requires g c = record {
  few = λ h same.
      (let s = c.self.inside.store in
      let this : c.in-Some.group ≡ h = the_group c.in-Some.group h (sym c.in-Some.is ∙ same) in
      let k = copies_all c.in-Some.group s.state.chunk s.state.origin (sym c.if-not-is_copyable.ensures) in
      let fits = (c.self.invariant.present c.in-Some.group c.in-Some.is).fits (rw k.far refl) in
      let n : total c.in-Some.group ≡ c.in-Some.group.waiting + (0 + c.in-Some.group.copied) = rw k.far refl in
      let few : c.in-Some.group.copied + c.in-Some.group.waiting < 2 ^ 32 = omega (arith, fits, n, s.front.fits, s.front.allowed) in
      subst (λ (x : Group). x.copied + x.waiting < 2 ^ 32) this few);
}

pub invariant_of-self-2 : goal.invariant_of-self-2
invariant_of-self-2 g c =
    let m = c.self.invariant in
    let s = c.self.inside.store in
    let k = copies_all c.in-Some.group s.state.chunk s.state.origin (sym c.if-not-is_copyable.ensures) in
    rw (c.fetch.ensures.state, c.fetch.ensures.exceptions, c.copy_to.ensures.state, c.copy_to.ensures.exceptions) (record {
      allowed = m.allowed;
      counted = m.counted;
      ready = m.ready;
      idle = m.idle;
      room = ap length (written_back c.self.inside.buffer.len c.fetch.new.buffer c.self.inside.buffer.items (c.fetch.auto.buffer ∙ c.as_mut_slice.ensures.len)) ∙ c.fetch.auto.buffer ∙ ap length c.as_mut_slice.ensures.value ∙ m.room;
      present = λ h same. present_copied s.state (committed s.exceptions) c.self.inside.group c.in-Some.group m.present c.in-Some.is k.far h (sym c.count_all.ensures ∙ same);
      alone = λ f. c.count_all.ensures ∙ ap (changed copied_in) (m.alone f);
      unfinished = m.unfinished;
      valid = m.valid;
    })

pub returns-clause-waits : goal.returns-clause-waits
returns-clause-waits g c =
    let s = c.self.inside.store in
    let k = copies_all c.in-Some.group s.state.chunk s.state.origin (sym c.if-not-is_copyable.ensures) in
    rw (← c.self.view_is) (λ yes h same.
    (let this : c.in-Some.group ≡ h = the_group c.in-Some.group h (sym c.in-Some.is ∙ same) in
    let v : Merging g.row.B.Denot = merging c.self.inside.number s.device c.self.inside.failed s.state s.places.next (committed s.exceptions) c.self.inside.group c.self.inside.buffer.items in
    subst (λ (x : Group). IsWaiting x v) this
    (record {
      running = sound_with c.self.inside.failed c.self.inside.group c.in-Some.group c.self.invariant.alone c.in-Some.is;
      far = k.far;
      inside = waiting_inside s.state (committed s.exceptions) c.in-Some.group (c.self.invariant.present c.in-Some.group c.in-Some.is) k.far;
      room = c.self.invariant.room;
    })))

pub returns-clause-fields : goal.returns-clause-fields
returns-clause-fields g c =
    let m = c.self.inside in
    let s = m.store in
    let t = c.copy_to.new.self in
    let u = c.fetch.new.store in
    let q = c.in-Some.group.first in
    let k = copies_all c.in-Some.group s.state.chunk s.state.origin (sym c.if-not-is_copyable.ensures) in
    let two = k.two in
    let bytes = sectors_at (g.B.Block.contents s.device) (s.state.chunk * q.new) s.state.chunk in
    let whole : count_of s.state.chunk s.state.origin q.old ≡ s.state.chunk = (let zero : q.old ≡ q.old + 0 = omega arith in ap (count_of s.state.chunk s.state.origin) zero ∙ chunk_whole s.state.chunk q.old 0 c.in-Some.group.waiting s.state.origin (omega (arith, two)) k.whole) in
    let inside = inside_of s.state (committed s.exceptions) c.in-Some.group 0 (c.self.invariant.present c.in-Some.group c.in-Some.is) (c.self.invariant.present c.in-Some.group c.in-Some.is).some in
    let long : length bytes ≡ 512 * s.state.chunk = (let up : s.state.chunk * (q.new + 0 + 1) ≡ s.state.chunk * q.new + s.state.chunk = (let e : q.new + 0 + 1 ≡ q.new + 1 = omega arith in ap (λ n. s.state.chunk * n) e ∙ one_more s.state.chunk q.new) in
    length-read (g.B.Block.contents s.device) s.state.size (s.state.chunk * q.new) s.state.chunk (g.met.B.Block.whole s.device ∙ ap (λ n. 512 * n) (sym s.size)) (omega (arith, inside.new, up))) in
    let read : c.fetch.new.buffer ≡ with_part m.buffer.items 0 bytes = c.in-Ok.ensures.data
    ∙ ap (λ (x : State). with_part c.as_mut_slice.result.now 0 (sectors_at (g.B.Block.contents t.device) (x.chunk * q.new) (count_of x.chunk x.origin q.old))) c.copy_to.ensures.state
    ∙ ap (λ x. with_part c.as_mut_slice.result.now 0 (sectors_at x (s.state.chunk * q.new) (count_of s.state.chunk s.state.origin q.old))) c.copy_to.ensures.same
    ∙ ap (λ n. with_part c.as_mut_slice.result.now 0 (sectors_at (g.B.Block.contents s.device) (s.state.chunk * q.new) n)) whole
    ∙ ap (λ x. with_part x 0 bytes) c.as_mut_slice.ensures.value in
    let back = written_back m.buffer.len c.fetch.new.buffer m.buffer.items (c.fetch.auto.buffer ∙ c.as_mut_slice.ensures.len) in
    rw (← c.self.view_is) (λ yes h same.
    (let this : c.in-Some.group ≡ h = the_group c.in-Some.group h (sym c.in-Some.is ∙ same) in
    subst (λ (x : Group). merging m.number u.device m.failed u.state u.places.next (committed u.exceptions) c.count_all.new.group (take m.buffer.len (c.fetch.new.buffer ++ drop (length c.fetch.new.buffer) m.buffer.items))
    ≡ merging m.number u.device m.failed s.state s.places.next (committed s.exceptions) (Some (copied_in x)) (sectors_at (g.B.Block.contents s.device) (s.state.chunk * x.first.new) s.state.chunk)) this
    (same_merging m.number u.device m.failed u.state s.state u.places.next s.places.next (committed u.exceptions) (committed s.exceptions) c.count_all.new.group (Some (copied_in c.in-Some.group))
    (take m.buffer.len (c.fetch.new.buffer ++ drop (length c.fetch.new.buffer) m.buffer.items)) bytes
    (c.fetch.ensures.state ∙ c.copy_to.ensures.state) (ap (λ x. x.next) (c.fetch.ensures.places ∙ c.copy_to.ensures.places)) (ap committed (c.fetch.ensures.exceptions ∙ c.copy_to.ensures.exceptions))
    (c.count_all.ensures ∙ ap (changed copied_in) c.in-Some.is) (back ∙ read ∙ front_all m.buffer.items bytes (long ∙ sym c.self.invariant.room)))))

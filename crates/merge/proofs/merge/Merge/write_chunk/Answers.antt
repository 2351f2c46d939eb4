use Rattle.std.proofs.Common.{◌≡◌, ℕ, ◌*◌, arith, refl, ap, ◌∙◌, sym, subst, take}
use Rattle.std.specs.Prelude.{Some}
use Rattle.sector.specs.Bytes.{with_sectors}
use Rattle.sector.specs.declared.pair.Pair.{Pair}
use Rattle.in_flight.specs.Copies.{count_of}
use Rattle.store.specs.Held.{committed}
use Rattle.merge.specs.Due.{full_of}
use Rattle.merge.specs.Lists.{changed, written_in}
use Rattle.merge.specs.Merging.{Merging}
use Rattle.volume_laws.specs.Steps.{WritesDisk}
use Rattle.merge.proofs.Stages.{full_inside, full_room, present_written, wrote_back}
use Rattle.merge.proofs.Changes.{merging, same_merging, writes, WriteStep}
use Rattle.merge.proofs.merge.Merge.write_chunk.Goals as goal

pub put_back-requires-clause-size : goal.put_back-requires-clause-size
put_back-requires-clause-size g c = omega (arith, c.requires.sectors, ap (λ (m : Merging g.row.B.Denot). m.state.origin) c.self.view_is)

pub put_back-requires-clause-begins : goal.put_back-requires-clause-begins
put_back-requires-clause-begins g c =
    let s = c.self.inside.store in
    let h = full_inside s.state (committed s.exceptions) c.self.inside.group c.in-Some.pair c.self.invariant.present (ap (λ (m : Merging g.row.B.Denot). full_of m.group) c.self.view_is ∙ sym c.full.ensures ∙ c.in-Some.is) in
    omega (arith, h.old, c.requires.sectors, ap (λ (m : Merging g.row.B.Denot). m.state.origin) c.self.view_is)

pub count_copied-requires : goal.count_copied-requires
count_copied-requires g c =
    let s = c.self.inside.store in
    record {
      few = λ h same. (let room = full_room s.state (committed s.exceptions) c.self.inside.group c.in-Some.pair c.self.invariant.present (ap (λ (m : Merging g.row.B.Denot). full_of m.group) c.self.view_is ∙ sym c.full.ensures ∙ c.in-Some.is) h same in
          omega (arith, room, s.front.fits, s.front.allowed));
    }

pub invariant_of-self : goal.invariant_of-self
invariant_of-self g c =
    let m = c.self.invariant in
    let s = c.self.inside.store in
    let is : full_of c.self.inside.group ≡ Some c.in-Some.pair = ap (λ (m : Merging g.row.B.Denot). full_of m.group) c.self.view_is ∙ sym c.full.ensures ∙ c.in-Some.is in
    record {
      allowed = m.allowed;
      counted = m.counted;
      ready = m.ready;
      idle = m.idle;
      room = m.room;
      present = λ h same. present_written s.state (committed s.exceptions) c.self.inside.group c.in-Some.pair m.present is h (sym c.count_copied.ensures ∙ same);
      alone = λ f. c.count_copied.ensures ∙ ap (changed written_in) (m.alone f);
      unfinished = m.unfinished;
      valid = m.valid;
    }

pub returns-in-Ok-clause-step : goal.returns-in-Ok-clause-step
returns-in-Ok-clause-step g c =
    let m = c.self.inside in
    let s = m.store in
    let q = c.in-Some.pair in
    let o = g.B.Block.contents c.args.origin.now in
    let o' = g.B.Block.contents c.put_back.new.origin in
    let n : ℕ = count_of s.state.chunk s.state.origin q.old in
    let v : Merging g.row.B.Denot = merging m.number s.device m.failed s.state s.places.next (committed s.exceptions) m.group m.buffer.items in
    let is : full_of m.group ≡ Some q = ap (λ (m : Merging g.row.B.Denot). full_of m.group) c.self.view_is ∙ sym c.full.ensures ∙ c.in-Some.is in
    let size : g.B.Block.size c.args.origin.now ≡ s.state.origin = c.requires.sectors ∙ sym (ap (λ (m : Merging g.row.B.Denot). m.state.origin) c.self.view_is) in
    let h = full_inside s.state (committed s.exceptions) m.group q c.self.invariant.present is in
    let disk : WritesDisk (s.state.chunk * q.old) n o o' = subst (λ (k : ℕ). WritesDisk (s.state.chunk * q.old) (count_of s.state.chunk k q.old) o o') size c.put_back.ensures.disk in
    let fields = same_merging m.number s.device m.failed s.state s.state s.places.next s.places.next (committed s.exceptions) (committed s.exceptions) c.count_copied.new.group (changed written_in m.group)
    m.buffer.items m.buffer.items refl refl refl c.count_copied.ensures refl in
    rw (← c.self.view_is) (λ p e loud louder.
    (let same : q ≡ p = (let both : Some q ≡ Some p = sym is ∙ e in cc) in
    subst (λ (p : Pair). WriteStep g.B.Block.contents loud p o o' v (merging m.number s.device m.failed s.state s.places.next (committed s.exceptions) c.count_copied.new.group m.buffer.items)) same
    (subst (λ (x : Merging g.row.B.Denot). WriteStep g.B.Block.contents loud q o o' v x) (sym fields)
    (writes g.B.Block.contents loud v q o o' c.self.invariant.alone is disk
    (λ l. wrote_back o o' m.buffer.items s.state.chunk s.state.origin q.old (g.met.B.Block.whole c.args.origin.now ∙ ap (λ k. 512 * k) size) h.old c.self.invariant.room
    (c.in-Ok.ensures.written (louder l) ∙ ap (λ k. with_sectors o (s.state.chunk * q.old) (take (512 * count_of s.state.chunk k q.old) c.as_slice.result.now)) size
    ∙ ap (λ x. with_sectors o (s.state.chunk * q.old) (take (512 * n) x)) c.as_slice.ensures.value))))))

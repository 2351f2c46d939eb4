use Rattle.std.proofs.Common.{◌≡◌, ◌*◌, refl, ap, ◌∙◌, sym, subst, length, take, drop, ◌++◌}
use Rattle.std.specs.Prelude.{Some}
use Rattle.sector.specs.Bytes.{sectors_at, with_part}
use Rattle.sector.specs.declared.pair.Pair.{Pair}
use Rattle.sector.proofs.Sectors.{written_back}
use Rattle.in_flight.specs.Copies.{count_of}
use Rattle.store.specs.Held.{committed}
use Rattle.merge.specs.Due.{next_read_of}
use Rattle.merge.specs.Lists.{changed, taken_in}
use Rattle.merge.specs.Merging.{Merging}
use Rattle.merge.proofs.Stages.{read_inside, present_taken}
use Rattle.merge.proofs.Changes.{merging, same_merging, reads, ReadStep}
use Rattle.merge.proofs.merge.Merge.read_chunk.Goals as goal

pub fetch-requires-clause-inside : goal.fetch-requires-clause-inside
fetch-requires-clause-inside g c =
    let s = c.self.inside.store in
    read_inside s.state (committed s.exceptions) c.self.inside.group c.in-Some.pair c.self.invariant.present
    (ap (λ (m : Merging g.row.B.Denot). next_read_of m.group) c.self.view_is ∙ sym c.next_read.ensures ∙ c.in-Some.is)

pub invariant_of-self : goal.invariant_of-self
invariant_of-self g c =
    let m = c.self.invariant in
    let s = c.self.inside.store in
    let t = c.fetch.new.store in
    let is : next_read_of c.self.inside.group ≡ Some c.in-Some.pair = ap (λ (m : Merging g.row.B.Denot). next_read_of m.group) c.self.view_is ∙ sym c.next_read.ensures ∙ c.in-Some.is in
    rw (c.fetch.ensures.state, c.fetch.ensures.exceptions) (record {
      allowed = m.allowed;
      counted = m.counted;
      ready = m.ready;
      idle = m.idle;
      room = ap length (written_back c.self.inside.buffer.len c.fetch.new.buffer c.self.inside.buffer.items (c.fetch.auto.buffer ∙ c.as_mut_slice.ensures.len)) ∙ c.fetch.auto.buffer ∙ ap length c.as_mut_slice.ensures.value ∙ m.room;
      present = λ h same. present_taken s.state (committed s.exceptions) c.self.inside.group c.in-Some.pair m.present is h (sym c.take_last.ensures ∙ same);
      alone = λ f. c.take_last.ensures ∙ ap (changed taken_in) (m.alone f);
      unfinished = m.unfinished;
      valid = m.valid;
    })

pub returns-in-Ok-clause-step : goal.returns-in-Ok-clause-step
returns-in-Ok-clause-step g c =
    let m = c.self.inside in
    let s = m.store in
    let t = c.fetch.new.store in
    let q = c.in-Some.pair in
    let v : Merging g.row.B.Denot = merging m.number s.device m.failed s.state s.places.next (committed s.exceptions) m.group m.buffer.items in
    let is : next_read_of m.group ≡ Some q = ap (λ (m : Merging g.row.B.Denot). next_read_of m.group) c.self.view_is ∙ sym c.next_read.ensures ∙ c.in-Some.is in
    let bytes = sectors_at (g.B.Block.contents s.device) (s.state.chunk * q.new) (count_of s.state.chunk s.state.origin q.old) in
    let back = written_back m.buffer.len c.fetch.new.buffer m.buffer.items (c.fetch.auto.buffer ∙ c.as_mut_slice.ensures.len) in
    let fields = same_merging m.number t.device m.failed t.state s.state t.places.next s.places.next (committed t.exceptions) (committed s.exceptions) c.take_last.new.group (changed taken_in m.group)
    (take m.buffer.len (c.fetch.new.buffer ++ drop (length c.fetch.new.buffer) m.buffer.items)) (with_part m.buffer.items 0 bytes)
    c.fetch.ensures.state (ap (λ x. x.next) c.fetch.ensures.places) (ap committed c.fetch.ensures.exceptions) c.take_last.ensures (back ∙ c.in-Ok.ensures.data ∙ ap (λ x. with_part x 0 bytes) c.as_mut_slice.ensures.value) in
    rw (← c.self.view_is) (λ p e loud.
    (let same : q ≡ p = (let both : Some q ≡ Some p = sym is ∙ e in cc) in
    subst (λ (p : Pair). ReadStep g.B.Block.contents loud p v (merging m.number t.device m.failed t.state t.places.next (committed t.exceptions) c.take_last.new.group (take m.buffer.len (c.fetch.new.buffer ++ drop (length c.fetch.new.buffer) m.buffer.items)))) same
    (subst (λ (x : Merging g.row.B.Denot). ReadStep g.B.Block.contents loud q v x) (sym fields)
    (reads g.B.Block.contents loud v q t.device bytes c.self.invariant.alone is c.fetch.ensures.same refl (g.met.B.Block.whole s.device ∙ ap (λ n. 512 * n) (sym s.size)) c.self.invariant.room
    (read_inside s.state (committed s.exceptions) m.group q c.self.invariant.present is)))))

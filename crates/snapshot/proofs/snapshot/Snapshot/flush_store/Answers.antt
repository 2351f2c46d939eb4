-- What was written counts as written, and what was committed may be published.
use Rattle.std.proofs.Common.{◌≡◌, ◌∙◌, ap, arith, length, map, sym, true}
use Rattle.std.proofs.lemmas.List.{length-map}
use Rattle.in_flight.specs.Flushed.{flushed_copy, safe_mark}
use Rattle.store.specs.Held.{committed, pairs_pending, reserved}
use Rattle.store.specs.declared.state.State.{State}
use Rattle.snapshot.proofs.Copies.{copies_flushed, like_firm, like_same}
use Rattle.snapshot.proofs.Spared.{spared_flushed, spared_like}
use Rattle.snapshot.proofs.Steps.{step_like}
use Rattle.snapshot.proofs.snapshot.Snapshot.flush_store.Goals as goal

pub invariant_of-self : goal.invariant_of-self
invariant_of-self g c =
    let s = c.self.inside.store in
    let t = c.flush.new.self in
    let copies = c.self.inside.copies.items in
    let marks = c.self.inside.marks.items in
    let alive : c.self.inside.live ≡ true = ap (λ v. v.live) c.self.view_is ∙ c.requires.live in
    let many : length c.flush_lists.new.copies.items ≡ length copies = ap length c.flush_lists.ensures.copies ∙ length-map copies flushed_copy in
    let more : length c.flush_lists.new.marks.items ≡ length marks = ap length c.flush_lists.ensures.marks ∙ length-map marks safe_mark in
    let has = c.self.invariant.1 in (
      rw c.flush_lists.ensures.copies
          (copies_flushed _ _ _ _ s.state t.state _ _ _ copies _ _ alive c.self.invariant.0 c.in-Ok.ensures.state (ap pairs_pending c.flush.ensures.exceptions)),
      record {
        for_pairs = has.for_pairs ∙ sym (ap reserved c.flush.ensures.exceptions);
        counted = has.counted;
        for_copies = omega (arith, many, has.for_copies, c.flush_lists.ensures.copies_capacity);
        for_marks = omega (arith, many, more, has.for_marks, c.flush_lists.ensures.marks_capacity);
      },
      rw c.flush_lists.ensures.copies
          (spared_like s.state.chunk t.state.chunk c.self.inside.spare c.self.inside.merging (map flushed_copy copies) (ap (λ (x : State). x.chunk) c.in-Ok.ensures.state)
          (spared_flushed s.state.chunk c.self.inside.spare c.self.inside.merging copies c.self.invariant.2)),
    )

pub returns-in-Ok-clause-in_step : goal.returns-in-Ok-clause-in_step
returns-in-Ok-clause-in_step g c =
    let s = c.self.inside.store in
    let t = c.flush.new.self in
    step_like g.B.Block.contents g.B.Block.layers g.B.Block.size _ s.state t.area.bytes.items _ _ _ c.self.invariant.0 (like_firm s.state t.state _ c.in-Ok.ensures.state) t.size t.given t.stored

pub returns-in-Err-clause-in_step : goal.returns-in-Err-clause-in_step
returns-in-Err-clause-in_step g c =
    let s = c.self.inside.store in
    let t = c.flush.new.self in
    step_like g.B.Block.contents g.B.Block.layers g.B.Block.size _ s.state t.area.bytes.items _ _ _ c.self.invariant.0 (like_same s.state t.state c.in-Err.ensures.kept) t.size t.given t.stored

use Rattle.std.proofs.Common.{◌≡◌, ◌+◌, ◌-◌, ◌*◌, ◌<◌, ◌≤◌, length, take, arith, refl, ap, ◌∙◌, sym, subst, true, length-drop, inl, inr}
use Rattle.std.proofs.lemmas.Bool.{cases_lt}
use Rattle.std.specs.List.{All}
use Rattle.std.proofs.lemmas.List.{take-map}
use Rattle.sector.specs.Bytes.{with_part}
use Rattle.in_flight.specs.declared.copies.Stage.TheVariants.{Flushed}
use Rattle.exception_arena.specs.Pending.{pair_of}
use Rattle.store.specs.Held.{committed, pending, pairs_pending}
use Rattle.store.specs.Slots.{pairs_bytes, slot_start}
use Rattle.std.specs.Option.{is_some}
use Rattle.snapshot.specs.Kept.{Kept}
use Rattle.snapshot.proofs.Copies.{ahead_commit, copies_drop, like_commit, like_same, sure_commit}
use Rattle.snapshot.proofs.Stores.{listed_now, pairs_dropped}
use Rattle.snapshot.proofs.Events.{commit_fields, commits_at, marked_count}
use Rattle.snapshot.proofs.Spared.{copies_slots, marks_slots, spared_like}
use Rattle.snapshot.proofs.Steps.{step_like}
use Rattle.snapshot.proofs.snapshot.Snapshot.write_area.Goals as goal

pub invariant_of-self : goal.invariant_of-self
invariant_of-self g c =
    let s = c.self.inside.store in
    let t = c.write_area.new.self in
    let e = c.in-Ok.ensures in
    let copies = c.self.inside.copies.items in
    let marks = c.self.inside.marks.items in
    let alive : c.self.inside.live ≡ true = ap (λ v. v.live) c.self.view_is ∙ c.requires.live in
    let few : c.args.count ≤ length copies = omega (arith, ap (λ v. length v.copies) c.self.view_is) in
    let fits : 1 < c.args.count → s.state.filled + c.args.count ≤ 32 * s.state.chunk = λ more. (let room = c.requires.fits more in omega (arith, room, ap (λ v. v.state.filled) c.self.view_is, ap (λ v. v.state.chunk) c.self.view_is)) in
    let slot = s.front.next (c.self.invariant.0.copying alive) in
    let room : s.state.filled + c.args.count ≤ 32 * s.state.chunk = elim (cases_lt 1 c.args.count) [
      | inl more ↦ fits more
      | inr one ↦ omega (arith, one, slot)
    ] in
    let len : length c.mark_first.new.copies.items ≡ length copies - c.args.count = ap length c.mark_first.ensures.copies ∙ length-drop c.args.count copies in
    let more : length c.mark_first.new.marks.items ≡ length marks + c.args.count = ap length c.mark_first.ensures.marks ∙ marked_count c.args.count marks copies few in
    let has = c.self.invariant.1 in (
      rw c.mark_first.ensures.copies
          (copies_drop _ _ _ _ s.state t.state _ _ copies _ _ c.args.count alive c.self.invariant.0 (like_commit s.state t.state c.args.count e.state) (pairs_dropped c.args.count (pending s.exceptions) (pending t.exceptions) e.pending)
          (ahead_commit c.self.inside.live s.state t.state (length copies) c.args.count e.state room few c.self.invariant.0.ahead)),
      record {
        for_pairs = omega (arith, c.write_area.ensures.reserved, has.for_pairs);
        counted = has.counted;
        for_copies = (let slots = copies_slots (is_some c.self.inside.spare) (is_some c.mark_first.new.spare) c.self.inside.merging copies c.args.count few c.mark_first.ensures.spare in omega (arith, len, slots, has.for_copies, c.mark_first.ensures.copies_capacity));
        for_marks = (let slots = marks_slots (is_some c.self.inside.spare) (is_some c.mark_first.new.spare) c.self.inside.merging copies c.args.count c.mark_first.ensures.spare in omega (arith, len, more, few, slots, has.for_marks, c.mark_first.ensures.marks_capacity));
      },
      spared_like s.state.chunk t.state.chunk c.mark_first.new.spare c.self.inside.merging c.mark_first.new.copies.items (like_commit s.state t.state c.args.count e.state).chunk (c.mark_first.ensures.spared s.state.chunk c.self.invariant.2),
    )

pub returns-in-Ok-clause-written : goal.returns-in-Ok-clause-written
returns-in-Ok-clause-written g c =
    let s = c.self.inside.store in
    rw (← c.self.view_is) (λ l. c.in-Ok.ensures.written l ∙ ap (λ x. with_part (g.B.Block.contents s.device) (slot_start s.state.chunk s.state.current s.state.filled) (pairs_bytes x)) (sym (take-map pair_of c.args.count (pending s.exceptions))))

pub returns-in-Ok-clause-fields : goal.returns-in-Ok-clause-fields
returns-in-Ok-clause-fields g c =
    let s = c.self.inside.store in
    let t = c.write_area.new.self in
    let e = c.in-Ok.ensures in
    let v : Kept g.row.B.Denot = record { number = c.self.inside.number; live = c.self.inside.live; untried = c.self.inside.untried; marked = c.self.inside.marked; stale = c.self.inside.stale; overflow = c.self.inside.overflow; device = s.device; state = s.state; next = s.places.next; pairs = committed s.exceptions; begun = pairs_pending s.exceptions; copies = c.self.inside.copies.items; marks = c.self.inside.marks.items; room = c.self.inside.room; kept_back = c.self.inside.kept_back; spare = is_some c.self.inside.spare; merging = c.self.inside.merging } in
    rw (← c.self.view_is, c.write_area.ensures.places)
    (commit_fields c.args.count t.device _ t.state v (pending s.exceptions) _ _ _ _ _ refl e.state e.committed (pairs_dropped c.args.count (pending s.exceptions) (pending t.exceptions) e.pending) c.mark_first.ensures.copies c.mark_first.ensures.marks c.mark_first.ensures.spare)

pub returns-in-Ok-clause-commits : goal.returns-in-Ok-clause-commits
returns-in-Ok-clause-commits g c =
    let s = c.self.inside.store in
    let t = c.write_area.new.self in
    let e = c.in-Ok.ensures in
    let like = like_commit s.state t.state c.args.count e.state in
    let alive : c.self.inside.live ≡ true = ap (λ v. v.live) c.self.view_is ∙ c.requires.live in
    let few : c.args.count ≤ length c.self.inside.copies.items = omega (arith, ap (λ v. length v.copies) c.self.view_is) in
    let v : Kept g.row.B.Denot = record { number = c.self.inside.number; live = c.self.inside.live; untried = c.self.inside.untried; marked = c.self.inside.marked; stale = c.self.inside.stale; overflow = c.self.inside.overflow; device = s.device; state = s.state; next = s.places.next; pairs = committed s.exceptions; begun = pairs_pending s.exceptions; copies = c.self.inside.copies.items; marks = c.self.inside.marks.items; room = c.self.inside.room; kept_back = c.self.inside.kept_back; spare = is_some c.self.inside.spare; merging = c.self.inside.merging } in
    let w : Kept g.row.B.Denot = record v { device = t.device; state = t.state; next = t.places.next; pairs = committed t.exceptions; begun = pairs_pending t.exceptions; copies = c.mark_first.new.copies.items; marks = c.mark_first.new.marks.items; spare = is_some c.mark_first.new.spare } in
    rw (← c.self.view_is)
    (commits_at g.B.Block.contents g.B.Block.layers c.args.count v w t.device t.state
    (rw c.write_area.ensures.places (commit_fields c.args.count t.device t.state t.state v (pending s.exceptions) _ _ _ _ _ refl refl e.committed (pairs_dropped c.args.count (pending s.exceptions) (pending t.exceptions) e.pending) c.mark_first.ensures.copies c.mark_first.ensures.marks c.mark_first.ensures.spare))
    like (sure_commit s.state t.state c.args.count e.state) few
    (subst (λ (v : Kept g.row.B.Denot). All (λ p. p.stage ≡ Flushed) (take c.args.count v.copies)) (sym c.self.view_is) c.requires.ready)
    c.write_area.ensures.loud e.only
    (λ l. listed_now (g.B.Block.contents t.device) (committed t.exceptions) s.state t.state t.area.bytes.items (t.stored (c.write_area.ensures.loud ∙ l)) (like.left ∙ c.self.invariant.0.ready) like.chunk))

pub returns-in-Ok-clause-in_step : goal.returns-in-Ok-clause-in_step
returns-in-Ok-clause-in_step g c =
    let s = c.self.inside.store in
    let t = c.write_area.new.self in
    step_like g.B.Block.contents g.B.Block.layers g.B.Block.size _ s.state t.area.bytes.items _ _ _ c.self.invariant.0 (like_commit s.state t.state c.args.count c.in-Ok.ensures.state) t.size t.given t.stored

pub returns-in-Err-clause-in_step : goal.returns-in-Err-clause-in_step
returns-in-Err-clause-in_step g c =
    let s = c.self.inside.store in
    let t = c.write_area.new.self in
    step_like g.B.Block.contents g.B.Block.layers g.B.Block.size _ s.state t.area.bytes.items _ _ _ c.self.invariant.0 (like_same s.state t.state c.in-Err.ensures.kept.0) t.size t.given t.stored

pub returns-in-Ok-clause-adds : goal.returns-in-Ok-clause-adds
returns-in-Ok-clause-adds g c = rw (← c.self.view_is) c.write_area.ensures.adds

pub returns-in-Err-clause-adds : goal.returns-in-Err-clause-adds
returns-in-Err-clause-adds g c = rw (← c.self.view_is) c.write_area.ensures.adds

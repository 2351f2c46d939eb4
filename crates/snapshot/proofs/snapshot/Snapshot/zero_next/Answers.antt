use Rattle.std.proofs.Common.{◌≡◌, ◌+◌, ◌*◌, ◌<◌, length, arith, ap, ◌∙◌}
use Rattle.store.specs.Held.{pairs_pending, reserved}
use Rattle.snapshot.specs.Held.{IsSnapshot}
use Rattle.snapshot.specs.Kept.{batch_of, needs_area}
use Rattle.snapshot.proofs.Copies.{ahead_zeroed, like_same, like_zeroed, needs_is, state_kept, state_same}
use Rattle.snapshot.proofs.Spared.{spared_like}
use Rattle.snapshot.proofs.Steps.{step_like}
use Rattle.snapshot.proofs.snapshot.Snapshot.zero_next.Goals as goal
use Rattle.snapshot.proofs.snapshot.Snapshot.zero_next.Goals.{in-Ok, in-Err}

pub invariant_of-self : goal.invariant_of-self
invariant_of-self g c =
    let s = c.self.inside.store in
    let t = c.zero_next.new.self in
    let copies = c.self.inside.copies.items in
    let some : 0 < length copies = omega (arith, ap (λ v. length v.copies) c.self.view_is, c.requires.some) in
    let due : s.state.filled + batch_of s.state copies ≡ 32 * s.state.chunk = needs_is s.state copies (ap (λ v. needs_area v.state v.copies) c.self.view_is ∙ c.requires.due) in
    let begun = ap pairs_pending c.zero_next.ensures.exceptions in
    let kept : IsSnapshot c.self.inside.live c.self.inside.untried c.self.inside.marked c.self.inside.stale t.state (pairs_pending t.exceptions) c.self.inside.copies.items c.self.inside.marks.items = elim c.match-zero_next.branch [
      | in-Ok w ↦ state_kept _ _ _ _ s.state t.state _ _ _ _ c.self.invariant.0 (like_zeroed s.state t.state w.in-Ok.ensures.zeroed) begun (ahead_zeroed c.self.inside.live s.state t.state copies w.in-Ok.ensures.zeroed some due)
      | in-Err w ↦ state_same _ _ _ _ s.state t.state _ _ _ _ c.self.invariant.0 w.in-Err.ensures.kept begun
    ] in
    let chunk : t.state.chunk ≡ s.state.chunk = elim c.match-zero_next.branch [ in-Ok w ↦ ap (λ x. x.chunk) w.in-Ok.ensures.zeroed | in-Err w ↦ ap (λ x. x.chunk) w.in-Err.ensures.kept ] in
    (kept, rw (ap reserved c.zero_next.ensures.exceptions) c.self.invariant.1, spared_like s.state.chunk t.state.chunk c.self.inside.spare c.self.inside.merging copies chunk c.self.invariant.2)

pub returns-clause-in_step : goal.returns-clause-in_step
returns-clause-in_step g c =
    let s = c.self.inside.store in
    let t = c.zero_next.new.self in
    step_like g.B.Block.contents g.B.Block.layers g.B.Block.size _ s.state t.area.bytes.items _ _ _ c.self.invariant.0 (elim c.match-zero_next.branch [ in-Ok w ↦ like_zeroed s.state t.state w.in-Ok.ensures.zeroed | in-Err w ↦ like_same s.state t.state w.in-Err.ensures.kept ]) t.size t.given t.stored

pub returns-clause-adds : goal.returns-clause-adds
returns-clause-adds g c = rw (← c.self.view_is) c.zero_next.ensures.adds

-- A flush changes no byte, and then a write is done.
use Rattle.std.proofs.Common.{◌≡◌, ◌∙◌, ap, length, List, ℕ, subst, IsTrue, false}
use Rattle.std.proofs.lemmas.Bool.{cond-true}
use Rattle.device.specs.Layers.{is_loud}
use Rattle.store.specs.Held.{committed}
use Rattle.store.specs.Stopping.{LeavesPreparing, MayPrepare}
use Rattle.store.specs.declared.state.State.{State}
use Rattle.snapshot.proofs.Leaves.{leaves_one, leaves_then}
use Rattle.snapshot.proofs.opening.prepare_next.Goals as goal

pub returns-in-Ok-prepare-clause-leaves : goal.returns-in-Ok-prepare-clause-leaves
returns-in-Ok-prepare-clause-leaves g c = λ valid loud.
    let s = c.args.store.now in
    let n = c.prepare.new.self in
    let m = c.prepare-then-more.new.self in
    let ps = committed s.exceptions in
    let state : n.state ≡ record s.state { sure = length ps; awaits = false } = c.in-Ok.ensures.state ∙ cond-true _ _ _ c.requires in
    let loud' : IsTrue (is_loud (g.B.Block.layers n.device)) = c.prepare.ensures.loud ∙ loud in
    let such : List ℕ → Type 0 = MayPrepare s.state.left s.state.chunk s.state.origin s.state.size ps in
    let then = c.prepare-then-more.ensures.leaves (ap (λ (t : State). t.valid) state ∙ valid) loud' in
    let all : LeavesPreparing (g.B.Block.may_hold n.device) (g.B.Block.may_hold m.device) s.state.left s.state.chunk s.state.origin s.state.size ps =
    subst (λ qs. LeavesPreparing (g.B.Block.may_hold n.device) (g.B.Block.may_hold m.device) s.state.left s.state.chunk s.state.origin s.state.size qs) (ap committed c.prepare.ensures.exceptions)
    (subst (λ (t : State). LeavesPreparing (g.B.Block.may_hold n.device) (g.B.Block.may_hold m.device) t.left t.chunk t.origin t.size (committed n.exceptions)) state then) in
    leaves_then (g.B.Block.may_hold s.device) (g.B.Block.may_hold n.device) (g.B.Block.may_hold m.device) s.state.size such such such
    (leaves_one (g.B.Block.may_hold s.device) (g.B.Block.may_hold n.device) s.state.left s.state.chunk s.state.origin s.state.size ps (c.prepare.ensures.leaves valid loud))
    (leaves_one (g.B.Block.may_hold n.device) (g.B.Block.may_hold m.device) s.state.left s.state.chunk s.state.origin s.state.size ps all) (λ b is. is) (λ b is. is)

pub returns-in-Err-prepare-clause-leaves : goal.returns-in-Err-prepare-clause-leaves
returns-in-Err-prepare-clause-leaves g c = λ valid loud.
    let s = c.args.store.now in
    let n = c.prepare.new.self in
    let m = c.prepare-then-more.new.self in
    let ps = committed s.exceptions in
    let state : n.state ≡ record s.state { sure = length ps; awaits = false } = c.in-Ok.ensures.state ∙ cond-true _ _ _ c.requires in
    let loud' : IsTrue (is_loud (g.B.Block.layers n.device)) = c.prepare.ensures.loud ∙ loud in
    let such : List ℕ → Type 0 = MayPrepare s.state.left s.state.chunk s.state.origin s.state.size ps in
    let then = c.prepare-then-more.ensures.leaves (ap (λ (t : State). t.valid) state ∙ valid) loud' in
    let all : LeavesPreparing (g.B.Block.may_hold n.device) (g.B.Block.may_hold m.device) s.state.left s.state.chunk s.state.origin s.state.size ps =
    subst (λ qs. LeavesPreparing (g.B.Block.may_hold n.device) (g.B.Block.may_hold m.device) s.state.left s.state.chunk s.state.origin s.state.size qs) (ap committed c.prepare.ensures.exceptions)
    (subst (λ (t : State). LeavesPreparing (g.B.Block.may_hold n.device) (g.B.Block.may_hold m.device) t.left t.chunk t.origin t.size (committed n.exceptions)) state then) in
    leaves_then (g.B.Block.may_hold s.device) (g.B.Block.may_hold n.device) (g.B.Block.may_hold m.device) s.state.size such such such
    (leaves_one (g.B.Block.may_hold s.device) (g.B.Block.may_hold n.device) s.state.left s.state.chunk s.state.origin s.state.size ps (c.prepare.ensures.leaves valid loud))
    (leaves_one (g.B.Block.may_hold n.device) (g.B.Block.may_hold m.device) s.state.left s.state.chunk s.state.origin s.state.size ps all) (λ b is. is) (λ b is. is)

pub returns-in-Err-clause-leaves : goal.returns-in-Err-clause-leaves
returns-in-Err-clause-leaves g c = λ valid loud.
    let s = c.args.store.now in
    let n = c.prepare.new.self in
    leaves_one (g.B.Block.may_hold s.device) (g.B.Block.may_hold n.device) s.state.left s.state.chunk s.state.origin s.state.size (committed s.exceptions) (c.prepare.ensures.leaves valid loud)

pub returns-else-more-clause-leaves : goal.returns-else-more-clause-leaves
returns-else-more-clause-leaves g c = λ valid loud.
    let s = c.args.store.now in
    let n = c.prepare.new.self in
    leaves_one (g.B.Block.may_hold s.device) (g.B.Block.may_hold n.device) s.state.left s.state.chunk s.state.origin s.state.size (committed s.exceptions) (c.prepare.ensures.leaves valid loud)

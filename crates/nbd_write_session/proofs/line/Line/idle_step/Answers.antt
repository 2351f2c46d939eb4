use Rattle.std.proofs.Common.{ℕ, List, ◌∷◌, refl, subst}
use Rattle.nbd_backend.specs.Calls.{Call, Step}
use Rattle.nbd_backend.specs.declared.array.Stepped.TheVariants.{Still, Idle, Done, Slow, Back, Ended}
use Rattle.nbd_write_session.specs.Moved.{MovesCalling}
use Rattle.nbd_write_session.proofs.Calling.{called_to, stepped}
use Rattle.nbd_write_session.proofs.line.Line.idle_step.Goals as goal

pub returns-in-Still-clause-moves : goal.returns-in-Still-clause-moves
returns-in-Still-clause-moves g c = stepped g.A.Array.does _ _ _ Still (rw c.in-Still.is at c.step.ensures) (λ calls. refl) (λ calls serial. refl)

pub returns-in-Ended-clause-moves : goal.returns-in-Ended-clause-moves
returns-in-Ended-clause-moves g c = stepped g.A.Array.does _ _ _ Ended (rw c.in-Ended.is at c.step.ensures) (λ calls. refl) (λ calls serial. refl)

pub returns-in-Idle-clause-moves : goal.returns-in-Idle-clause-moves
returns-in-Idle-clause-moves g c = stepped g.A.Array.does _ _ _ Idle (rw c.in-Idle.is at c.step.ensures) (λ calls. refl) (λ calls serial. refl)

pub returns-in-Done-clause-moves : goal.returns-in-Done-clause-moves
returns-in-Done-clause-moves g c = stepped g.A.Array.does _ _ _ Done (rw c.in-Done.is at c.step.ensures) (λ calls. refl) (λ calls serial. refl)

pub returns-in-Slow-clause-moves : goal.returns-in-Slow-clause-moves
returns-in-Slow-clause-moves g c = stepped g.A.Array.does _ _ _ Slow (rw c.in-Slow.is at c.step.ensures) (λ calls. refl) (λ calls serial. refl)

pub returns-in-Back-clause-moves : goal.returns-in-Back-clause-moves
returns-in-Back-clause-moves g c =
    let P : List ℕ → Type 0 = λ l. (calls : List Call) → MovesCalling c.args.self.now c.take_back.new.self calls (Step (Back c.in-Back.number l c.in-Back.error) ∷ calls) in
    called_to g.A.Array.does _ _ _ _ (Step (Back c.in-Back.number c.in-Back.bytes c.in-Back.error)) (rw c.in-Back.is at c.step.ensures) (subst P c.as_slice.ensures c.take_back.ensures.moves)

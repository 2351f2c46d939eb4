-- A volume settles: the event that is due first is done, until none is due; and what it has settled to.
use Rattle.std.specs.Prelude.{◌≡◌, ℕ, ◌+◌, zero, suc, Option, Some, None, map}
use Rattle.plain_machine.specs.declared.event.Event.{Event}
use Rattle.whole_commands.specs.Pieces.{Answered}
use Rattle.event_machine.specs.Held.{SnapHeld, Moving}
use Rattle.event_machine.specs.Due.{due}
use Rattle.event_machine.specs.Stepping.{for_some, stepped}
use Rattle.event_machine.specs.MergeDue.{due_all}
use Rattle.event_machine.specs.MergeStepping.{stepped_all}
use Rattle.event_machine.specs.Rest.{IsAtRest}
use Rattle.whole_commands.specs.Snaps.{Volume}

-- after so many events at most, each chosen so, and each doing this
abbrev pub settle_by : (Moving → Option Event) → (Event → Moving → Moving) → ℕ → Moving → Moving
settle_by choose step zero v = v
settle_by choose step (suc fuel) v = for_some (choose v) (λ event. settle_by choose step fuel (step event v)) v

-- each the one that is due first of the snapshots and requests; and of the merge too
abbrev pub settle : ℕ → Moving → Moving
settle fuel v = settle_by due stepped fuel v

abbrev pub settle_all : ℕ → Moving → Moving
settle_all fuel v = settle_by due_all stepped_all fuel v

-- A volume of so many sectors settles to this answer: after so many events, and after any more, nothing is due, it is at
-- rest, its devices and its snapshots are those of the answer, and so is the reply.
pub record SettlesTo (sectors : ℕ) (v : Moving) (answer : Answered Volume) : Type 0 where
  pub fuel : ℕ
  pub last : Moving
  pub ends : (more : ℕ) → settle (fuel + more) v ≡ last
  pub quiet : due last ≡ None
  pub rest : IsAtRest sectors last
  pub origin : last.origin ≡ answer.state.origin
  pub snaps : map (λ (h : SnapHeld). h.snap) last.snaps ≡ answer.state.snaps
  pub reply : last.replied ≡ Some answer.reply

use Rattle.std.proofs.Common.{refl, ◌∙◌}
use Rattle.nbd_write_session.proofs.Calling.{calling, still}
use Rattle.nbd_write_session.proofs.line.Line.idle.Goals as goal

pub loop-init : goal.loop-init
loop-init g c = record { moves = still g.A.Array.does _ _; input = refl; size = refl; out = refl; none = λ none. none }

pub returns-then-not-idle_step-clause-moves : goal.returns-then-not-idle_step-clause-moves
returns-then-not-idle_step-clause-moves g c = calling g.A.Array.does _ _ _ _ _ _ c.loop.invariant.moves c.idle_step.ensures.moves

pub loop-preserved : goal.loop-preserved
loop-preserved g c = record {
  moves = calling g.A.Array.does _ _ _ _ _ _ c.loop.invariant.moves c.idle_step.ensures.moves;
  input = c.idle_step.ensures.input ∙ c.loop.invariant.input;
  size = c.idle_step.ensures.size ∙ c.loop.invariant.size;
  out = c.idle_step.ensures.out ∙ c.loop.invariant.out;
  none = λ none. c.idle_step.ensures.none (c.loop.invariant.none none);
}

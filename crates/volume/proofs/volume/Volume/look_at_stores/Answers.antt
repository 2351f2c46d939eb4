-- The stores are in step, and so a stop leaves them as they are.
use Rattle.std.proofs.Common.{subst}
use Rattle.std.specs.List.{All}
use Rattle.snapshot.specs.InStep.{IsInStep}
use Rattle.volume.proofs.LastBoth.{now_stops}
use Rattle.volume.proofs.volume.Volume.look_at_stores.Goals as goal

pub returns-in-Some-clause-stops : goal.returns-in-Some-clause-stops
returns-in-Some-clause-stops g c =
    rw (← c.self.view_is) (now_stops g.B.Block.may_hold g.B.Block.contents g.B.Block.layers g.B.Block.size g.met.B.Block.whole g.met.B.Block.holds_now _ c.self.invariant.whole c.self.invariant.lasting)

pub returns-in-Some-clause-in_step : goal.returns-in-Some-clause-in_step
returns-in-Some-clause-in_step g c =
    rw (← c.self.view_is) (subst (All (IsInStep g.B.Block.contents g.B.Block.layers g.B.Block.size)) c.as_slice.ensures.value c.look_at_each.ensures.in_step)

pub returns-in-None-clause-in_step : goal.returns-in-None-clause-in_step
returns-in-None-clause-in_step g c =
    rw (← c.self.view_is) (subst (All (IsInStep g.B.Block.contents g.B.Block.layers g.B.Block.size)) c.as_slice.ensures.value c.look_at_each.ensures.in_step)

pub returns-in-None-clause-stops : goal.returns-in-None-clause-stops
returns-in-None-clause-stops g c =
    rw (← c.self.view_is) (now_stops g.B.Block.may_hold g.B.Block.contents g.B.Block.layers g.B.Block.size g.met.B.Block.whole g.met.B.Block.holds_now _ c.self.invariant.whole c.self.invariant.lasting)

-- A request that is served has one place more, and one that is refused none.
use Rattle.std.proofs.Common.{◌+◌, arith, inr}
use Rattle.std.specs.Prelude.{◌-◌}
use Rattle.counted_volume.specs.Places.{counted_with, kept_for_marks}
use Rattle.counted_volume.proofs.ServedPlaces.{served_have, served_takes}
use Rattle.counted_volume.proofs.Fewer.{refused_fewer_marks, refused_have}
use Rattle.counted_volume.proofs.Full.{unsent_other}
use Rattle.counted_volume.proofs.Takings.{done_takes, full_takes, refused_takes, takes_none, unsent_takes}
use Rattle.counted_volume.proofs.counted_volume.CountedVolume.serve.Goals as goal

pub invariant_of-self : goal.invariant_of-self
invariant_of-self g c =
    served_have g.B.Block.may_hold g.B.Block.contents g.B.Block.layers g.B.Block.size g.B.Block.fault_count g.B.Block.done_count c.args.request c.self.inside.volume c.serve.new.self c.self.inside.places (omega (arith, c.if-self-may-gt-MAX_ENTRIES.false, c.count_may-may.ensures.count))
    c.in-Ok.served c.in-Ok.ensures.does c.self.invariant

pub invariant_of-self-in-Err : goal.invariant_of-self-in-Err
invariant_of-self-in-Err g c = rw c.count_may.ensures.count (refused_have c.self.inside.volume c.serve.new.self g.B.Block.contents g.B.Block.layers g.B.Block.size c.args.request c.in-Err.refusal c.self.inside.places c.count_may-may.result c.in-Err.ensures.refused c.in-Err.ensures.does.untouched c.count_may-may.ensures.count c.self.invariant)

pub overflow_sub-self : goal.overflow_sub-self
overflow_sub-self g c =
    let fewer = refused_fewer_marks c.self.inside.volume c.serve.new.self g.B.Block.contents g.B.Block.layers g.B.Block.size c.args.request c.in-Err.refusal c.in-Err.ensures.refused in
    omega (arith, fewer, c.count_may.ensures.count, c.count_may-may.ensures.count)

pub returns-in-Ok-clause-does : goal.returns-in-Ok-clause-does
returns-in-Ok-clause-does g c = rw (← c.self.view_is) c.in-Ok.ensures.does

pub returns-in-Err-clause-does : goal.returns-in-Err-clause-does
returns-in-Err-clause-does g c = rw (← c.self.view_is) c.in-Err.ensures.does

pub returns-then-self-may-gt-MAX_ENTRIES-clause-places : goal.returns-then-self-may-gt-MAX_ENTRIES-clause-places
returns-then-self-may-gt-MAX_ENTRIES-clause-places g c =
    rw (← c.self.view_is) (full_takes 1 c.self.inside.places c.count_may-may.result kept_for_marks c.self.inside.volume c.count_may-may.ensures.count (omega (arith, c.if-self-may-gt-MAX_ENTRIES.true)))

pub returns-in-Ok-clause-places : goal.returns-in-Ok-clause-places
returns-in-Ok-clause-places g c =
    rw (← c.self.view_is) (done_takes 1 c.self.inside.places (c.self.inside.places + 1) c.count_may-may.result kept_for_marks c.self.inside.volume c.serve.new.self c.in-Ok.served c.count_may-may.ensures.count (omega (arith, c.if-self-may-gt-MAX_ENTRIES.false)) (omega arith))

pub returns-in-Err-clause-places : goal.returns-in-Err-clause-places
returns-in-Err-clause-places g c =
    let fewer = refused_fewer_marks c.self.inside.volume c.serve.new.self g.B.Block.contents g.B.Block.layers g.B.Block.size c.args.request c.in-Err.refusal c.in-Err.ensures.refused in
    rw (← c.self.view_is) (refused_takes 1 c.self.inside.places (c.self.inside.places + (c.count_may-may.result - c.count_may.result)) c.count_may-may.result kept_for_marks c.self.inside.volume c.serve.new.self c.in-Err.refusal c.count_may-may.ensures.count (omega (arith, c.if-self-may-gt-MAX_ENTRIES.false))
    (unsent_other g.B.Block.contents g.B.Block.layers g.B.Block.size c.args.request c.in-Err.refusal c.self.inside.volume c.serve.new.self c.in-Err.ensures.refused) (omega (arith, fewer, c.count_may.ensures.count, c.count_may-may.ensures.count)))

pub returns-then-self-may-gt-MAX_ENTRIES-clause-taken : goal.returns-then-self-may-gt-MAX_ENTRIES-clause-taken
returns-then-self-may-gt-MAX_ENTRIES-clause-taken g c = takes_none _

pub returns-in-Ok-clause-taken : goal.returns-in-Ok-clause-taken
returns-in-Ok-clause-taken g c =
    rw (← c.self.view_is) (served_takes g.B.Block.may_hold g.B.Block.contents g.B.Block.layers g.B.Block.size g.B.Block.fault_count g.B.Block.done_count c.args.request c.self.inside.volume c.serve.new.self c.self.inside.places (omega (arith, c.if-self-may-gt-MAX_ENTRIES.false, c.count_may-may.ensures.count))
    c.in-Ok.served c.in-Ok.ensures.does)

pub returns-in-Err-clause-taken : goal.returns-in-Err-clause-taken
returns-in-Err-clause-taken g c =
    let v = c.self.inside.volume in
    let w = c.serve.new.self in
    let p = c.self.inside.places + (c.count_may-may.result - c.count_may.result) in
    let fewer = refused_fewer_marks v w g.B.Block.contents g.B.Block.layers g.B.Block.size c.args.request c.in-Err.refusal c.in-Err.ensures.refused in
    rw (← c.self.view_is) (unsent_takes (counted_with v c.self.inside.places) (counted_with w p) g.B.Block.contents g.B.Block.layers g.B.Block.size c.args.request c.in-Err.refusal (inr c.in-Err.ensures.refused)
    (omega (arith, fewer, c.count_may.ensures.count, c.count_may-may.ensures.count)))

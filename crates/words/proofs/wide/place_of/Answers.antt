use Rattle.std.proofs.Common.{◌≤◌, ◌+◌, arith, drop, eqb, length, take}
use Rattle.std.specs.List.{position_or_len}
use Rattle.words.proofs.Places.{none_here}
use Rattle.words.proofs.wide.place_of.Goals as goal

pub loop-at-preserved : goal.loop-at-preserved
loop-at-preserved c =
    let room : c.loop-at.at + 16 ≤ length c.args.bytes.now = omega (arith, c.loop-at-test.true, c.loop-at.invariant.within) in
    let none : 16 ≤ position_or_len (λ b. eqb b c.args.byte) (take 16 (drop c.loop-at.at c.args.bytes.now)) = omega (arith, c.before_among-before.ensures, c.if-before-lt-WIDE.false) in
    record { within = room; before = none_here c.args.byte c.args.bytes.now c.loop-at.at room c.loop-at.invariant.before none }

use Rattle.std.proofs.Common.{◌≡◌, inl, inr, ◌+◌, ◌-◌, ◌<◌, length, get_or, arith, refl, ap, ◌∙◌}
use Rattle.store.specs.Held.{committed}
use Rattle.store.proofs.Groups.{run_last, run_more}
use Rattle.store.proofs.store.Store.merge_group.Goals as goal

pub loop-count-init : goal.loop-count-init
loop-count-init g c =
    let ps = committed c.args.self.now.exceptions in
    let front = c.args.self.now.front.count in
    let some : 0 < c.args.self.now.state.filled = omega arith in
    let len : c.len-len.result - 1 ≡ length ps - 1 = omega (arith, c.len-len.ensures) in
    run_last ps c.committed_at-first.result (omega (arith, front, some)) (λ d. c.committed_at-first.ensures d ∙ ap (λ i. get_or ps i d) len)

pub loop-count-preserved : goal.loop-count-preserved
loop-count-preserved g c =
    let ps = committed c.args.self.now.exceptions in
    let front = c.args.self.now.front.count in
    let len : c.len-len.result - 1 - c.loop-count.count ≡ length ps - (c.loop-count.count + 1) = omega (arith, c.len-len.ensures) in
    run_more ps c.committed_at-before.result c.loop-count.first c.loop-count.count c.loop-count.invariant (omega (arith, front, c.loop-count-test.true))
    (λ d. c.committed_at-before.ensures d ∙ ap (λ i. get_or ps i d) len) c.if-not-follows.ensures

pub returns-then-not-follows : goal.returns-then-not-follows
returns-then-not-follows g c =
    let ps = committed c.args.self.now.exceptions in
    let len : c.len-len.result - 1 - c.loop-count.count ≡ length ps - (c.loop-count.count + 1) = omega (arith, c.len-len.ensures) in
    record {
      some = c.loop-count.auto.count;
      fits = omega (arith, c.loop-count-test.true);
      ends = c.loop-count.invariant;
      most = inr (λ d f. c.if-not-follows.ensures (rw (c.committed_at-before.ensures d, len) f));
    }

pub returns : goal.returns
returns g c =
    let some : 0 < c.args.self.now.state.filled = omega (arith, c.if-filled-eq0.false) in
    let all : c.loop-count.count ≡ c.args.self.now.state.filled = omega (arith, c.loop-count-test.false, c.loop-count.auto.count-end) in
    record {
      some = some;
      fits = omega arith;
      ends = rw (← all) c.loop-count.invariant;
      most = inl refl;
    }

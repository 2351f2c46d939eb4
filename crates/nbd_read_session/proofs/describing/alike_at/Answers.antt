use Rattle.std.proofs.Common.{◌≡◌, ◌≤◌, ℕ, ◌∙◌, ap, sym, refl, arith, drop}
use Rattle.nbd_read_session.proofs.Blanks.{alike_start, done_all, done_most, done_other, done_more}
use Rattle.nbd_read_session.specs.Blocks.{asked_bytes}
use Rattle.nbd_read_session.proofs.describing.alike_at.Goals as goal

pub loop-left-init : goal.loop-left-init
loop-left-init g c = record {
  inside = omega arith;
  alike = λ b bis. alike_start c.args.blank (asked_bytes c.args.offset c.args.count b.bytes);
  shows = λ k. refl;
  calm = λ k from count h. h;
}

pub returns-then-done-count-clause-data : goal.returns-then-done-count-clause-data
returns-then-done-count-clause-data g c = λ b bis. sym (done_all b.bytes c.args.offset c.args.count c.loop-left.done c.loop-left.left c.args.blank c.if-done-count.true) ∙ c.loop-left.invariant.alike b bis

pub returns-then-not-same_kind-clause-data : goal.returns-then-not-same_kind-clause-data
returns-then-not-same_kind-clause-data g c = λ b bis.
    let read = c.in_ok-here.ensures.data b (c.loop-left.invariant.shows c.args.export ∙ bis) in
    sym (done_other b.bytes c.args.offset c.args.count c.loop-left.done c.min-part.result c.loop-left.left c.args.blank c.in_ok-here.here c.loop-left-test.true c.loop-left.invariant.inside c.min-part.ensures read.0 (sym c.same_kind.ensures ∙ c.if-not-same_kind.true))
    ∙ c.loop-left.invariant.alike b bis

pub loop-left-preserved : goal.loop-left-preserved
loop-left-preserved g c = record {
  inside = (let i = c.loop-left.invariant.inside in let least = c.min-part.ensures in omega arith);
  alike = λ b bis.
      (let read = c.in_ok-here.ensures.data b (c.loop-left.invariant.shows c.args.export ∙ bis) in
      done_more b.bytes c.args.offset c.args.count c.loop-left.done c.min-part.result c.loop-left.left c.args.blank c.in_ok-here.here c.loop-left-test.true c.loop-left.invariant.inside c.min-part.ensures read.0 read.1 (sym c.same_kind.ensures ∙ c.if-not-same_kind.false)
      ∙ c.loop-left.invariant.alike b bis);
  shows = λ k. c.in_ok-here.ensures.shows k ∙ c.loop-left.invariant.shows k;
  calm = λ k from count h. c.loop-left.invariant.calm k from count (c.in_ok-here.ensures.calm k from count h);
}

pub returns-clause-data : goal.returns-clause-data
returns-clause-data g c = λ b bis. sym (done_most (drop c.loop-left.done (asked_bytes c.args.offset c.args.count b.bytes)) c.loop-left.done c.loop-left.left c.args.blank c.loop-left-test.false) ∙ c.loop-left.invariant.alike b bis

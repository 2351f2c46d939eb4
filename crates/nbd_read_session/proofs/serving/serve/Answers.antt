use Rattle.std.proofs.Common.{◌≡◌, ℕ, List, [], ◌++◌, Some, ap, ◌∙◌, sym, subst}
use Rattle.std.specs.Io.KnownBytes.{Appends}
use Rattle.nbd_messages.specs.Replies.{greeting}
use Rattle.nbd_read_session.specs.Talk.{AreArrays, beginning}
use Rattle.nbd_read_session.specs.Turns.{IsTurn, IsEnd}
use Rattle.nbd_read_session.proofs.SoFar.{so_far_begins, so_far_goes, so_far_ends}
use Rattle.nbd_read_session.proofs.Calm.{turn_calm}
use Rattle.nbd_read_session.proofs.serving.serve.Goals as goal
use Rattle.nbd_read_session.specs.Blocks.{Array}

pub returns-then-not-branch : goal.returns-then-not-branch
returns-then-not-branch g c = record {
  answers = λ arrays heard known is.
      (let ends : IsEnd (g.R.Read.remaining c.loop.reader) c.loop.session = rw c.if-not-branch.true at c.in_ok-turn.ensures.turn in
      so_far_ends c.args.exports.now arrays (g.T.Served.may_fail c.args.served.now) heard _ _ _ c.loop.session (c.loop.invariant.so_far arrays heard known is) ends);
}

pub loop-preserved : goal.loop-preserved
loop-preserved g c = record {
  calm = λ k from count h. c.loop.invariant.calm k from count (c.in_ok-turn.ensures.calm k from count h);
  shows = λ k. c.in_ok-turn.ensures.shows k ∙ c.loop.invariant.shows k;
  so_far = λ arrays heard known is.
      (let went : (arrays : ℕ → Array) → AreArrays (g.T.Served.shows c.loop.served) arrays → IsTurn c.args.exports.now arrays (g.T.Served.may_fail c.loop.served) (g.R.Read.remaining c.loop.reader) (g.R.Read.remaining c.turn.new.reader) c.loop.session c.turn.new.session c.turn.new.answer.items = rw c.if-not-branch.false at c.in_ok-turn.ensures.turn in
      let now : AreArrays (g.T.Served.shows c.loop.served) arrays = λ k. c.loop.invariant.shows k ∙ known k in
      so_far_goes c.args.exports.now arrays (g.T.Served.may_fail c.args.served.now) heard _ _ _ _ _ c.loop.session c.turn.new.session c.turn.new.answer.items (c.loop.invariant.so_far arrays heard known is) (turn_calm c.args.exports.now arrays _ (g.T.Served.may_fail c.args.served.now) _ _ c.loop.session _ _ c.loop.invariant.calm (went arrays now)) (rw c.as_slice-in-loop.ensures.value at c.in_ok-say-2.ensures));
}

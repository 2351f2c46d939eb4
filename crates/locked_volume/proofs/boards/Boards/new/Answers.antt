-- One board more, with what publishes on it.
use Rattle.std.proofs.Common.{◌≡◌, ◌∷◌, [], sym, ap, ◌∙◌, arith}
use Rattle.std.proofs.lemmas.Grind.{common_steps}
use Rattle.std.proofs.lemmas.List.{length-map}
use Rattle.crossbeam_utils.specs.Padded.{padded_value}
use Rattle.thread_channels.specs.Words.{no_usage}
use Rattle.locked_volume.specs.Boards.{Publishes}
use Rattle.locked_volume.specs.Names.{no_table}
use Rattle.locked_volume.proofs.Matched.{matched_map, matched_more}
use Rattle.locked_volume.proofs.boards.Boards.new.Goals as goal

pub loop-preserved : goal.loop-preserved
loop-preserved c =
    let was = c.loop.invariant in
    record {
      many = grind (arith, common_steps);
      wide = grind (arith, common_steps);
      each = rw (c.in_ok-push.ensures.items, c.in_ok-push-2.ensures.items)
          (matched_more (λ b p. Publishes (padded_value b) p × (p.seen ≡ no_usage ∷ [])) c.loop.counter c.loop.padded.items c.loop.passes.items c.new-in-loop.result c.in_ok-board.pass was.many was.wide was.each
          (record { of_board = ap (λ p. p.board) c.in_ok-board.ensures ∙ sym c.new-in-loop.ensures; may = ap (λ p. p.publishes) c.in_ok-board.ensures }, ap (λ p. p.seen) c.in_ok-board.ensures));
    }

pub returns-clause-passes : goal.returns-clause-passes
returns-clause-passes c =
    let was = c.loop.invariant in
    let all : c.loop.counter ≡ 8 = omega (arith, c.loop-test.false, c.loop.auto.counter-end) in
    record {
      boards_many = length-map c.loop.padded.items padded_value ∙ was.many ∙ all;
      many = was.wide ∙ all;
      each = λ k b d low.
          (matched_map padded_value (λ b p. Publishes b p × (p.seen ≡ no_usage ∷ [])) c.loop.counter c.loop.padded.items c.loop.passes.items was.many was.each k b d (omega (arith, low, all))).0;
    }

pub returns-clause-unused : goal.returns-clause-unused
returns-clause-unused c =
    let was = c.loop.invariant in
    let all : c.loop.counter ≡ 8 = omega (arith, c.loop-test.false, c.loop.auto.counter-end) in
    λ k d low. (matched_map padded_value (λ b p. Publishes b p × (p.seen ≡ no_usage ∷ [])) c.loop.counter c.loop.padded.items c.loop.passes.items was.many was.each k no_table d (omega (arith, low, all))).1

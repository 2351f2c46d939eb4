use Rattle.std.proofs.Common.{rules, ◌≡◌, true, false, ◌++◌, refl, ap}
use Rattle.nbd_write_session.specs.Haggling.{goes_on}
use Rattle.nbd_write_session.proofs.Come.{came_more, gave_false, gave_true, left_asking, left_gone, left_over, told_more}
use Rattle.nbd_write_session.proofs.options.chosen.Goals as goal
use Rattle.nbd_write_session.proofs.options.chosen.Goals.{in-Opening, in-Haggling}

pub returns-then-not-branch-2 : goal.returns-then-not-branch-2
returns-then-not-branch-2 g c =
    let none : c.in_ok-hear_option.field-0 ≡ false = search rules in
    left_gone c.args.exports.now c.loop.session _ _ _ _ c.loop.invariant.came.0 c.loop.invariant.came.1
    (left_asking c.loop.session _ c.loop.invariant.still (gave_false _ _ c.in_ok-hear_option.field-0 none c.in_ok-hear_option.ensures).0)
    c.loop.invariant.came.2

pub returns-in-Serving : goal.returns-in-Serving
returns-in-Serving g c =
    let one : c.in_ok-hear_option.field-0 ≡ true = search rules in
    record {
      after = c.hear_option.new.session;
      answers = c.loop.invariant.came.0 ++ c.hear_option.new.answer.items;
      chosen = c.in-Serving.is;
      agreed = refl;
      came = came_more c.args.exports.now c.loop.session c.hear_option.new.session _ _ _ c.loop.invariant.came.0 c.hear_option.new.answer.items c.loop.invariant.came.1 (gave_true _ _ c.in_ok-hear_option.field-0 one c.in_ok-hear_option.ensures);
      told = told_more _ _ _ c.loop.invariant.came.0 c.hear_option.new.answer.items c.loop.invariant.came.2 (rw c.as_slice-in-loop.ensures.value at c.in_ok-said-2.ensures);
    }

pub returns-in-Over : goal.returns-in-Over
returns-in-Over g c =
    let one : c.in_ok-hear_option.field-0 ≡ true = search rules in
    left_gone c.args.exports.now c.hear_option.new.session _ _ _ _ (c.loop.invariant.came.0 ++ c.hear_option.new.answer.items)
    (came_more c.args.exports.now c.loop.session c.hear_option.new.session _ _ _ c.loop.invariant.came.0 c.hear_option.new.answer.items c.loop.invariant.came.1 (gave_true _ _ c.in_ok-hear_option.field-0 one c.in_ok-hear_option.ensures))
    (left_over c.hear_option.new.session _ c.in-Over.is)
    (told_more _ _ _ c.loop.invariant.came.0 c.hear_option.new.answer.items c.loop.invariant.came.2 (rw c.as_slice-in-loop.ensures.value at c.in_ok-said-2.ensures))

pub loop-preserved : goal.loop-preserved
loop-preserved g c =
    let one : c.in_ok-hear_option.field-0 ≡ true = search rules in
    record {
      came = (
        c.loop.invariant.came.0 ++ c.hear_option.new.answer.items,
        came_more c.args.exports.now c.loop.session c.hear_option.new.session _ _ _ c.loop.invariant.came.0 c.hear_option.new.answer.items c.loop.invariant.came.1 (gave_true _ _ c.in_ok-hear_option.field-0 one c.in_ok-hear_option.ensures),
        told_more _ _ _ c.loop.invariant.came.0 c.hear_option.new.answer.items c.loop.invariant.came.2 (rw c.as_slice-in-loop.ensures.value at c.in_ok-said-2.ensures),
      );
      still = elim c.match-session.branch [
        | in-Opening w ↦ ap goes_on w.in-Opening.is
        | in-Haggling w ↦ ap goes_on w.in-Haggling.is
      ];
    }

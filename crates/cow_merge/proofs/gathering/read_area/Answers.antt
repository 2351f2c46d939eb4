use Rattle.std.proofs.Common.{arith}
use Rattle.cow_merge.specs.Begun.{begun}
use Rattle.cow_merge.proofs.Steps.{passes_none, passes_one, rolls_kept}
use Rattle.cow_merge.proofs.Areas.{area_room, copies_same}
use Rattle.cow_merge.proofs.gathering.read_area.Goals as goal

pub returns-then-sizes-chunk-clause-cause : goal.returns-then-sizes-chunk-clause-cause
returns-then-sizes-chunk-clause-cause g c = record {
  later = omega arith;
  failed = λ e there. (let (o, s, from, le, rolls, given) = there in
      let room = area_room (begun c.args.sizes o s) c.args.index rolls.leaves.begin le in
      let test = c.if-sizes-chunk.true in
      absurd (omega arith));
}

pub returns-in_err-read_at-clause-rolls : goal.returns-in_err-read_at-clause-rolls
returns-in_err-read_at-clause-rolls g c = λ o s from rolls. copies_same _ from _ _ _ _ _ _ _ _ rolls c.read_at.ensures.known c.read_at.ensures.bytes c.read_at.ensures.stop c.read_at.ensures.lasts

pub returns-clause-rolls : goal.returns-clause-rolls
returns-clause-rolls g c = λ o s from rolls. copies_same _ from _ _ _ _ _ _ _ _ rolls c.read_at.ensures.known c.read_at.ensures.bytes c.read_at.ensures.stop c.read_at.ensures.lasts

pub returns-in_err-read_at-clause-passes : goal.returns-in_err-read_at-clause-passes
returns-in_err-read_at-clause-passes g c = λ o s from rolls.
    let kept = rolls_kept _ from _ _ _ _ _ _ rolls c.read_at.ensures.known c.read_at.ensures.bytes c.read_at.ensures.stop in
    passes_one _ from _ _ _ _ _ _ _ c.read_at.ensures.time kept.is_known rolls.reach kept.leaves

pub returns-clause-passes : goal.returns-clause-passes
returns-clause-passes g c = λ o s from rolls.
    let kept = rolls_kept _ from _ _ _ _ _ _ rolls c.read_at.ensures.known c.read_at.ensures.bytes c.read_at.ensures.stop in
    passes_one _ from _ _ _ _ _ _ _ c.read_at.ensures.time kept.is_known rolls.reach kept.leaves

pub returns-then-sizes-chunk-clause-passes : goal.returns-then-sizes-chunk-clause-passes
returns-then-sizes-chunk-clause-passes g c = λ o s from rolls. passes_none _ from _ _ _ _ _ rolls

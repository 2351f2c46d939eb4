use Rattle.std.proofs.Common.{inl, inr, arith, refl}
use Rattle.cow_merge.specs.Begun.{begun}
use Rattle.cow_merge.proofs.Steps.{passes_one, passes_both, leaves_kept, rolls_kept}
use Rattle.cow_merge.proofs.Areas.{area_room, zero_gone}
use Rattle.cow_merge.proofs.merging.clear_batch.Goals as goal

pub returns-in_err-sync-clause-passes : goal.returns-in_err-sync-clause-passes
returns-in_err-sync-clause-passes g c = λ o s first lt rolls.
    let clears = c.in_ok-clear_areas.ensures.clears o s first lt rolls in
    let leaves = leaves_kept _ first _ _ _ _ clears.rolls.leaves c.sync.ensures.len c.sync.ensures.stop in
    passes_both _ _ _ _ _ _ _ _ _ _ _ _ _ (c.clear_areas.ensures.passes o s first lt rolls) (passes_one _ first _ _ _ _ _ _ _ c.sync.ensures.time (c.sync.ensures.known clears.rolls.is_known) clears.rolls.reach leaves)

pub returns-in_err-sync-clause-cause : goal.returns-in_err-sync-clause-cause
returns-in_err-sync-clause-cause g c = record {
  later = (let x = c.clear_areas.ensures.cause.later in let y = c.sync.ensures.cause.later in omega arith);
  failed = λ e there. (let (o, s, first, lt, reach, rolls, given) = there in
      let clears = c.in_ok-clear_areas.ensures.clears o s first lt rolls in
      let x = c.clear_areas.ensures.cause.later in
      let y = c.in_err-sync.ensures.cause.failed refl (clears.rolls.is_known, given) in
      omega arith);
}

pub returns-clause-passes : goal.returns-clause-passes
returns-clause-passes g c = λ o s first lt rolls.
    let clears = c.in_ok-clear_areas.ensures.clears o s first lt rolls in
    let leaves = leaves_kept _ first _ _ _ _ clears.rolls.leaves c.sync.ensures.len c.sync.ensures.stop in
    passes_both _ _ _ _ _ _ _ _ _ _ _ _ _ (c.clear_areas.ensures.passes o s first lt rolls) (passes_one _ first _ _ _ _ _ _ _ c.sync.ensures.time (c.sync.ensures.known clears.rolls.is_known) clears.rolls.reach leaves)

pub returns-clause-rolls : goal.returns-clause-rolls
returns-clause-rolls g c = λ o s first lt rolls. rolls_kept _ first _ _ _ _ _ _ (c.in_ok-clear_areas.ensures.clears o s first lt rolls).rolls c.sync.ensures.known c.in_ok-sync.ensures.bytes c.sync.ensures.stop

pub returns-clause-gone : goal.returns-clause-gone
returns-clause-gone g c = λ o s first lt le rolls area lo hi.
    let clears = c.in_ok-clear_areas.ensures.clears o s first lt rolls in
    let b = begun c.args.sizes o s in
    zero_gone b area (g.F.FileSet.bytes c.clear_areas.new.files) (g.F.FileSet.may_hold c.sync.new.self) (g.F.FileSet.will_last c.clear_areas.new.files) (c.in_ok-clear_areas.ensures.zero o s first lt rolls area lo hi) clears.rolls.leaves.store (area_room b area clears.rolls.leaves.begin (omega arith)) (c.in_ok-sync.ensures.synced clears.rolls.is_known)

pub returns-clause-keeps : goal.returns-clause-keeps
returns-clause-keeps g c = λ o s first lt rolls area was t v less h. elim ((c.in_ok-clear_areas.ensures.clears o s first lt rolls).stop _ v (c.sync.ensures.stop 1 _ v h)) [
  | inl before ↦ was t v less before
  | inr zeros ↦ zeros
]

use Rattle.std.proofs.Common.{inl, inr, ◌-◌, arith, refl, sym, subst}
use Rattle.std.proofs.lemmas.Bool.{cases_eq}
use Rattle.cow_merge.specs.Holding.{IsZero}
use Rattle.cow_merge.proofs.Steps.{passes_both, passes_none}
use Rattle.cow_merge.proofs.Areas.{clears_both, clears_none}
use Rattle.cow_merge.proofs.clearing.clear_areas.Goals as goal

pub loop-index-init : goal.loop-index-init
loop-index-init g c = record {
  high = omega arith;
  faults = omega arith;
  passes = λ o s first le rolls. passes_none _ _ _ _ _ _ _ rolls;
  clears = λ o s first le rolls. clears_none _ _ _ _ _ _ rolls;
  zero = λ o s first le rolls area lo lo' hi. absurd (omega arith);
}

pub returns-in_err-clear_area-clause-passes : goal.returns-in_err-clear_area-clause-passes
returns-in_err-clear_area-clause-passes g c = λ o s first le rolls.
    let i = c.loop-index.invariant in
    let test = c.loop-index-test.true in
    passes_both _ _ _ _ _ _ _ _ _ _ _ _ _ (i.passes o s first le rolls) (c.clear_area.ensures.passes o s first (omega arith) (i.clears o s first le rolls).rolls)

pub returns-in_err-clear_area-clause-cause : goal.returns-in_err-clear_area-clause-cause
returns-in_err-clear_area-clause-cause g c = record {
  later = (let x = c.loop-index.invariant.faults in let y = c.clear_area.ensures.cause.later in omega arith);
  failed = λ e there. (let (o, s, first, le, reach, rolls, given) = there in
      let i = c.loop-index.invariant in
      let test = c.loop-index-test.true in
      let high = i.high in
      let x = i.faults in
      let y = c.in_err-clear_area.ensures.cause.failed refl (o, s, first, omega arith, omega arith, (i.clears o s first le rolls).rolls, given) in
      omega arith);
}

pub loop-index-preserved : goal.loop-index-preserved
loop-index-preserved g c =
    let i = c.loop-index.invariant in
    let test = c.loop-index-test.true in
    let high' = i.high in
    record {
      high = omega arith;
      faults = (let x = i.faults in let y = c.clear_area.ensures.cause.later in omega arith);
      passes = λ o s first le rolls. passes_both _ _ _ _ _ _ _ _ _ _ _ _ _ (i.passes o s first le rolls) (c.clear_area.ensures.passes o s first (omega arith) (i.clears o s first le rolls).rolls);
      clears = λ o s first le rolls. clears_both _ first _ _ _ _ _ _ _ _ _ _ _ (i.clears o s first le rolls) (c.in_ok-clear_area.ensures.clears o s first (omega arith) (i.clears o s first le rolls).rolls);
      zero = λ o s first le rolls area lo lo' hi.
          let of = (i.clears o s first le rolls).rolls in
          let clears = c.in_ok-clear_area.ensures.clears o s first (omega arith) of in
          let here = c.in_ok-clear_area.ensures.zero o s first (omega arith) of in
          elim (cases_eq area (c.loop-index.index - 1)) [
            | inl e ↦ subst (IsZero c.args.sizes.chunk (g.F.FileSet.bytes c.clear_area.new.files 1) (g.F.FileSet.will_last c.clear_area.new.files)) (sym e) here
            | inr ne ↦ clears.keeps area (i.zero o s first le rolls area (omega arith) lo' hi)
          ];
    }

pub returns-clause-zero : goal.returns-clause-zero
returns-clause-zero g c = λ o s first le rolls area lo hi. let test = c.loop-index-test.false in c.loop-index.invariant.zero o s first le rolls area (omega arith) lo hi

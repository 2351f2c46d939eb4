use Rattle.std.proofs.Common.{◌≡◌, ◌+◌, ◌*◌, length, arith, ap, ◌∙◌}
use Rattle.std.proofs.lemmas.List.{length-replicate}
use Rattle.cow_merge.specs.Begun.{begun}
use Rattle.cow_merge.proofs.Steps.{passes_none, passes_one}
use Rattle.cow_merge.proofs.Areas.{area_room, leaves_cleared, clears_written, zero_written}
use Rattle.cow_merge.proofs.clearing.clear_area.Goals as goal

pub returns-then-sizes-chunk-clause-cause : goal.returns-then-sizes-chunk-clause-cause
returns-then-sizes-chunk-clause-cause g c = record {
  later = omega arith;
  failed = λ e there. (let (o, s, from, le, reach, rolls, given) = there in
      let room = area_room (begun c.args.sizes o s) c.args.index rolls.leaves.begin reach in
      let test = c.if-sizes-chunk.true in
      absurd (omega arith));
}

pub returns-in_err-write_at-clause-passes : goal.returns-in_err-write_at-clause-passes
returns-in_err-write_at-clause-passes g c = λ o s from le rolls.
    let b = begun c.args.sizes o s in
    let leaves = leaves_cleared b from c.args.index _ _ _ _ c.args.zeros.now rolls.leaves le c.requires.zeros c.write_at.ensures.len c.write_at.ensures.stop in
    passes_one b from _ _ _ _ _ _ _ c.write_at.ensures.time (c.write_at.ensures.known rolls.is_known) rolls.reach leaves

pub returns-clause-passes : goal.returns-clause-passes
returns-clause-passes g c = λ o s from le rolls.
    let b = begun c.args.sizes o s in
    let leaves = leaves_cleared b from c.args.index _ _ _ _ c.args.zeros.now rolls.leaves le c.requires.zeros c.write_at.ensures.len c.write_at.ensures.stop in
    passes_one b from _ _ _ _ _ _ _ c.write_at.ensures.time (c.write_at.ensures.known rolls.is_known) rolls.reach leaves

pub returns-clause-clears : goal.returns-clause-clears
returns-clause-clears g c = λ o s from le rolls.
    let b = begun c.args.sizes o s in
    let leaves = leaves_cleared b from c.args.index _ _ _ _ c.args.zeros.now rolls.leaves le c.requires.zeros c.write_at.ensures.len c.write_at.ensures.stop in
    let test = c.if-sizes-chunk.false in
    let ls = rolls.leaves.store in
    let n = ap length c.requires.zeros ∙ length-replicate (512 * c.args.sizes.chunk) 0 in
    let up : c.args.sizes.chunk * (c.args.index * (32 * c.args.sizes.chunk + 1) + 1 + 1) ≡ c.args.sizes.chunk * (c.args.index * (32 * c.args.sizes.chunk + 1) + 1) + c.args.sizes.chunk = grind arith in
    let wrote = c.in_ok-write_at.ensures.written rolls.is_known (omega arith) in
    clears_written b from c.args.index _ _ _ _ _ _ (g.F.FileSet.will_last c.args.files.now) (g.F.FileSet.will_last c.write_at.new.self) c.args.zeros.now rolls c.write_at.ensures.known le c.requires.zeros test wrote (c.write_at.ensures.beside 0 (λ e. omega arith)) leaves c.write_at.ensures.stop c.write_at.ensures.lasts c.in_ok-write_at.ensures.fresh

pub returns-clause-zero : goal.returns-clause-zero
returns-clause-zero g c = λ o s from le rolls.
    let b = begun c.args.sizes o s in
    let test = c.if-sizes-chunk.false in
    let ls = rolls.leaves.store in
    let n = ap length c.requires.zeros ∙ length-replicate (512 * c.args.sizes.chunk) 0 in
    let up : c.args.sizes.chunk * (c.args.index * (32 * c.args.sizes.chunk + 1) + 1 + 1) ≡ c.args.sizes.chunk * (c.args.index * (32 * c.args.sizes.chunk + 1) + 1) + c.args.sizes.chunk = grind arith in
    let wrote = c.in_ok-write_at.ensures.written rolls.is_known (omega arith) in
    zero_written b c.args.index _ _ c.args.zeros.now (g.F.FileSet.will_last c.write_at.new.self) c.requires.zeros ls test wrote c.in_ok-write_at.ensures.fresh

pub returns-then-sizes-chunk-clause-passes : goal.returns-then-sizes-chunk-clause-passes
returns-then-sizes-chunk-clause-passes g c = λ o s from le rolls. passes_none _ from _ _ _ _ _ rolls

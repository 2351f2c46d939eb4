use Rattle.std.proofs.Common.{length, arith, refl, ap, ◌∙◌}
use Rattle.cow_merge.specs.Begun.{begun}
use Rattle.cow_merge.proofs.Steps.{passes_none, passes_one, passes_both, rolls_kept}
use Rattle.cow_merge.proofs.Copies.{row_fits, arrays_at, read_row, length_row, leaves_written, copies_written, back_row}
use Rattle.cow_merge.proofs.copying.copy_row.Goals as goal

pub returns-in_default-clause-cause : goal.returns-in_default-clause-cause
returns-in_default-clause-cause g c = record {
  later = omega arith;
  failed = λ e there. (let (o, s, from, of, rolls, given) = there in
      let (first, fits) = row_fits (begun c.args.sizes o s) c.args.pair c.args.count rolls.leaves.begin c.requires.some of in
      absurd (c.in_default.ensures.found first fits));
}

pub returns-in_err-read_at-clause-passes : goal.returns-in_err-read_at-clause-passes
returns-in_err-read_at-clause-passes g c = λ o s from of rolls.
    let kept = rolls_kept _ from _ _ _ _ _ _ rolls c.read_at.ensures.known c.read_at.ensures.bytes c.read_at.ensures.stop in
    passes_one _ from _ _ _ _ _ _ _ c.read_at.ensures.time kept.is_known rolls.reach kept.leaves

pub returns-in_err-put_back-clause-passes : goal.returns-in_err-put_back-clause-passes
returns-in_err-put_back-clause-passes g c = λ o s from of rolls.
    let b = begun c.args.sizes o s in
    let found = c.in-Some.ensures.found in
    let place = c.in-Some.place in
    let part = c.read_at.new.out in
    let kept = rolls_kept b from _ _ _ _ _ _ rolls c.read_at.ensures.known c.read_at.ensures.bytes c.read_at.ensures.stop in
    let is = read_row (g.F.FileSet.bytes c.args.files.now 1) part c.args.room.now c.args.sizes.chunk c.args.pair.new place.count place.from found.0 (let h = found.4 in let room = c.requires.room in omega arith) (c.in_ok-read_at.ensures.data rolls.is_known) in
    let arrays = arrays_at b from _ _ _ c.args.pair c.args.count place.count place.to part rolls of found.4 found.1 is in
    let len = length_row b from _ _ _ c.args.pair c.args.count place.count part rolls c.requires.some of found.4 is in
    let leaves = leaves_written b from place.to place.count _ _ _ _ part kept.leaves arrays len c.put_back.ensures.len c.put_back.ensures.stop in
    passes_both b _ _ _ _ _ _ _ _ _ _ _ _ (passes_one b from _ _ _ _ _ _ _ c.read_at.ensures.time kept.is_known rolls.reach kept.leaves) (passes_one b from _ _ _ _ _ _ _ c.put_back.ensures.time (c.put_back.ensures.known kept.is_known) rolls.reach leaves)

pub returns-in_err-put_back-clause-cause : goal.returns-in_err-put_back-clause-cause
returns-in_err-put_back-clause-cause g c = record {
  later = (let x = c.read_at.ensures.cause.later in let y = c.put_back.ensures.cause.later in omega arith);
  failed = λ e there. (let (o, s, from, of, rolls, given) = there in
      let b = begun c.args.sizes o s in
      let found = c.in-Some.ensures.found in
      let place = c.in-Some.place in
      let is = read_row (g.F.FileSet.bytes c.args.files.now 1) c.read_at.new.out c.args.room.now c.args.sizes.chunk c.args.pair.new place.count place.from found.0 (let h = found.4 in let room = c.requires.room in omega arith) (c.in_ok-read_at.ensures.data rolls.is_known) in
      let len = length_row b from _ _ _ c.args.pair c.args.count place.count c.read_at.new.out rolls c.requires.some of found.4 is in
      let lo = rolls.leaves.origin in
      let same = ap length (c.read_at.ensures.bytes 0) in
      let first = found.1 in let inside = found.2 in let size = found.4 in
      let x = c.read_at.ensures.cause.later in
      let y = c.in_err-put_back.ensures.cause.failed refl (c.read_at.ensures.known rolls.is_known, omega arith, given) in
      omega arith);
}

pub returns-clause-passes : goal.returns-clause-passes
returns-clause-passes g c = λ o s from of rolls.
    let b = begun c.args.sizes o s in
    let found = c.in-Some.ensures.found in
    let place = c.in-Some.place in
    let part = c.read_at.new.out in
    let kept = rolls_kept b from _ _ _ _ _ _ rolls c.read_at.ensures.known c.read_at.ensures.bytes c.read_at.ensures.stop in
    let is = read_row (g.F.FileSet.bytes c.args.files.now 1) part c.args.room.now c.args.sizes.chunk c.args.pair.new place.count place.from found.0 (let h = found.4 in let room = c.requires.room in omega arith) (c.in_ok-read_at.ensures.data rolls.is_known) in
    let arrays = arrays_at b from _ _ _ c.args.pair c.args.count place.count place.to part rolls of found.4 found.1 is in
    let len = length_row b from _ _ _ c.args.pair c.args.count place.count part rolls c.requires.some of found.4 is in
    let leaves = leaves_written b from place.to place.count _ _ _ _ part kept.leaves arrays len c.put_back.ensures.len c.put_back.ensures.stop in
    passes_both b _ _ _ _ _ _ _ _ _ _ _ _ (passes_one b from _ _ _ _ _ _ _ c.read_at.ensures.time kept.is_known rolls.reach kept.leaves) (passes_one b from _ _ _ _ _ _ _ c.put_back.ensures.time (c.put_back.ensures.known kept.is_known) rolls.reach leaves)

pub returns-clause-copies : goal.returns-clause-copies
returns-clause-copies g c = λ o s from of rolls.
    let b = begun c.args.sizes o s in
    let found = c.in-Some.ensures.found in
    let place = c.in-Some.place in
    let part = c.read_at.new.out in
    let kept = rolls_kept b from _ _ _ _ _ _ rolls c.read_at.ensures.known c.read_at.ensures.bytes c.read_at.ensures.stop in
    let is = read_row (g.F.FileSet.bytes c.args.files.now 1) part c.args.room.now c.args.sizes.chunk c.args.pair.new place.count place.from found.0 (let h = found.4 in let room = c.requires.room in omega arith) (c.in_ok-read_at.ensures.data rolls.is_known) in
    let arrays = arrays_at b from _ _ _ c.args.pair c.args.count place.count place.to part rolls of found.4 found.1 is in
    let len = length_row b from _ _ _ c.args.pair c.args.count place.count part rolls c.requires.some of found.4 is in
    let leaves = leaves_written b from place.to place.count _ _ _ _ part kept.leaves arrays len c.put_back.ensures.len c.put_back.ensures.stop in
    let lo = kept.leaves.origin in
    let first = found.1 in let inside = found.2 in let size = found.4 in
    let wrote = c.in_ok-put_back.ensures.written kept.is_known (omega arith) in
    let same = copies_written b from place.to place.count _ _ _ _ _ _ (g.F.FileSet.will_last c.read_at.new.self) (g.F.FileSet.will_last c.put_back.new.files) part kept c.put_back.ensures.known arrays len (omega arith) wrote c.put_back.ensures.beside leaves c.put_back.ensures.stop c.put_back.ensures.lasts in
    record {
      rolls = same.rolls;
      store = λ t v h. c.read_at.ensures.stop 1 t v (same.store t v h);
      keeps = λ t lt was. same.keeps t lt (ap (λ x. Rattle.sector.specs.Bytes.sector_at x t) (c.read_at.ensures.bytes 0) ∙ was.0, c.read_at.ensures.lasts 0 t was.1);
    }

pub returns-clause-back : goal.returns-clause-back
returns-clause-back g c = λ o s from of rolls.
    let b = begun c.args.sizes o s in
    let found = c.in-Some.ensures.found in
    let place = c.in-Some.place in
    let part = c.read_at.new.out in
    let kept = rolls_kept b from _ _ _ _ _ _ rolls c.read_at.ensures.known c.read_at.ensures.bytes c.read_at.ensures.stop in
    let is = read_row (g.F.FileSet.bytes c.args.files.now 1) part c.args.room.now c.args.sizes.chunk c.args.pair.new place.count place.from found.0 (let h = found.4 in let room = c.requires.room in omega arith) (c.in_ok-read_at.ensures.data rolls.is_known) in
    let arrays = arrays_at b from _ _ _ c.args.pair c.args.count place.count place.to part rolls of found.4 found.1 is in
    let len = length_row b from _ _ _ c.args.pair c.args.count place.count part rolls c.requires.some of found.4 is in
    let lo = kept.leaves.origin in
    let first = found.1 in let inside = found.2 in let size = found.4 in
    let wrote = c.in_ok-put_back.ensures.written kept.is_known (omega arith) in
    back_row b place.to c.args.count place.count _ _ part (g.F.FileSet.will_last c.put_back.new.files) c.args.pair.old kept.leaves.begin.some arrays len found.1 found.4 lo (omega arith) wrote c.in_ok-put_back.ensures.fresh

pub returns-in_default-clause-passes : goal.returns-in_default-clause-passes
returns-in_default-clause-passes g c = λ o s from of rolls. passes_none _ from _ _ _ _ _ rolls

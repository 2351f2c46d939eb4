use Rattle.std.proofs.Common.{◌≡◌, ℕ, ◌+◌, ◌-◌, ◌*◌, ◌++◌, List, [], length, take, drop, subst, arith, refl, ap, sym, ◌∙◌, append_assoc, append-nil}
use Rattle.std.proofs.Math.Seq.{take-length}
use Rattle.std.proofs.lemmas.List.{length-drop}
use Rattle.sector.specs.declared.pair.Pair.{Pair}
use Rattle.std.proofs.KnownBytes.{Appends-trans, Appends-nil}
use Rattle.new_store_files.specs.Parts.{IsFrontOf, IsAreaOf}
use Rattle.new_store_files.specs.Written.{IsStoreOf}
use Rattle.new_store_files.proofs.Stores.{full_more, store_written}
use Rattle.new_store_files.proofs.writing.write_areas.Goals as goal

pub loop-first-init : goal.loop-first-init
loop-first-init g c = record {
  bytes = refl;
  chunk = refl;
  room = refl;
  inside = omega arith;
  few = omega arith;
  at = omega arith;
  written = λ b is front begins. ([], subst (IsFrontOf c.args.area.now.chunk b c.args.pairs.now 0) (sym (append-nil front)) begins, Appends-nil _);
}

pub loop-first-preserved : goal.loop-first-preserved
loop-first-preserved g c =
    let i = c.loop-first.invariant in
    let a = c.args.area.now in
    let first : ℕ = c.loop-first.first in
    let number : ℕ = c.loop-first.number in
    let slots = c.slots-slots.ensures in
    let m : ℕ = first + c.slots-slots.result - first in
    let part : List Pair = take (first + c.slots-slots.result - first) (drop first c.args.pairs.now) in
    let whole : first + c.slots-slots.result - first ≡ 32 * a.chunk = omega arith in
    let test = c.loop-first-test.true in
    let inside = i.inside in
    let few = i.few in
    let at = i.at in
    let some = a.some in
    let place = c.write_area.auto.room in
    let room = i.room in
    record {
      bytes = c.in-Ok.ensures.bytes ∙ i.bytes;
      chunk = c.in-Ok.ensures.chunk ∙ i.chunk;
      room = omega arith;
      inside = omega arith;
      few = omega arith;
      at = (let e : (number + 1) * (32 * a.chunk) ≡ number * (32 * a.chunk) + 32 * a.chunk = grind arith in omega arith);
      written = λ b is front begins.
          let (x, before, appends) = i.written b is front begins in
          let (y, area, more) = c.in-Ok.ensures.all b (i.bytes ∙ is) in (
            x ++ y,
            subst (IsFrontOf a.chunk b c.args.pairs.now (number + 1)) (append_assoc front x y)
                (full_more a.chunk number first (first + number + 2) m b (front ++ x) y c.args.pairs.now part a.some at (omega arith) refl whole refl before (subst (λ (n : ℕ). IsAreaOf n b (first + number + 2) part y) i.chunk area)),
            Appends-trans _ _ _ _ _ appends more,
          );
    }

pub returns-in-Ok-write_area-clause-all : goal.returns-in-Ok-write_area-clause-all
returns-in-Ok-write_area-clause-all g c = λ b is front begins.
    let i = c.loop-first.invariant in
    let a = c.args.area.now in
    let first : ℕ = c.loop-first.first in
    let number : ℕ = c.loop-first.number in
    let slots = c.slots-slots.ensures in
    let test = c.loop-first-test.false in
    let inside = i.inside in
    let at = i.at in
    let rest : List Pair = drop first c.args.pairs.now in
    let all : take (length c.args.pairs.now - first) rest ≡ rest = ap (λ n. take n rest) (sym (length-drop first c.args.pairs.now)) ∙ take-length rest in
    let (x, before, appends) = i.written b is front begins in
    let (y, area, more) = c.in-Ok-write_area.ensures.all b (i.bytes ∙ is) in (
      x ++ y,
      subst (IsStoreOf a.chunk b c.args.pairs.now) (append_assoc front x y)
          (store_written a.chunk number first (first + number + 2) b (front ++ x) y c.args.pairs.now (drop first c.args.pairs.now) a.some at inside (omega arith) refl refl before (subst (λ (n : ℕ). IsAreaOf n b (first + number + 2) (drop first c.args.pairs.now) y) i.chunk (subst (λ xs. IsAreaOf c.loop-first.area.chunk b (first + number + 2) xs y) all area))),
      Appends-trans _ _ _ _ _ appends more,
    )

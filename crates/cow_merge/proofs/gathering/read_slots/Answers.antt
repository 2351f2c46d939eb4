use Rattle.std.proofs.Common.{◌≡◌, ◌+◌, ◌*◌, ◌-◌, ◌≤◌, List, length, take, drop, arith, refl, sym, subst, length-take, length-drop}
use Rattle.std.specs.List.{All}
use Rattle.std.proofs.Math.Nat.{mul-le-mul_right}
use borrow.Rule.Slice.PartMut.{put_mid, same_len_mid}
use Rattle.sector.specs.declared.pair.Pair.{Pair}
use Rattle.cow_merge.specs.Begun.{begun}
use Rattle.cow_merge.specs.Holding.{IsPairOf, AreGathered}
use Rattle.cow_merge.proofs.Steps.{passes_both, passes_none}
use Rattle.cow_merge.proofs.Areas.{copies_both, copies_none}
use Rattle.cow_merge.proofs.Gathered.{room_less, taken_put, pairs_more, gathered_more}
use Rattle.cow_merge.proofs.gathering.read_slots.Goals as goal

pub loop-index-init : goal.loop-index-init
loop-index-init g c = record {
  chunk = c.requires.chunk;
  room = (let h = c.requires.slots in omega arith);
  faults = omega arith;
  passes = λ o s first rolls. passes_none _ _ _ _ _ _ _ rolls;
  copies = λ o s first rolls. copies_none _ _ _ _ _ _ rolls;
  are_pairs = λ o s first le rolls k d less. absurd (omega arith);
  gathered = λ o s first le rolls k d lo hi under inside. absurd (omega arith);
}

pub returns-in_err-read_area-clause-passes : goal.returns-in_err-read_area-clause-passes
returns-in_err-read_area-clause-passes g c = λ o s first rolls.
    let i = c.loop-index.invariant in
    passes_both _ _ _ _ _ _ _ _ _ _ _ _ _ (i.passes o s first rolls) (c.read_area.ensures.passes o s first (i.copies o s first rolls).rolls)

pub returns-in_err-read_area-clause-copies : goal.returns-in_err-read_area-clause-copies
returns-in_err-read_area-clause-copies g c = λ o s first rolls.
    let i = c.loop-index.invariant in
    copies_both _ first _ _ _ _ _ _ _ _ _ _ _ (i.copies o s first rolls) (c.read_area.ensures.rolls o s first (i.copies o s first rolls).rolls)

pub returns-in_err-read_area-clause-cause : goal.returns-in_err-read_area-clause-cause
returns-in_err-read_area-clause-cause g c = record {
  later = (let x = c.loop-index.invariant.faults in let y = c.read_area.ensures.cause.later in omega arith);
  failed = λ e there. (let (o, s, first, le, rolls, given) = there in
      let i = c.loop-index.invariant in
      let test = c.loop-index-test.true in
      let x = i.faults in
      let y = c.in_err-read_area.ensures.cause.failed refl (o, s, first, omega arith, (i.copies o s first rolls).rolls, given) in
      omega arith);
}

pub loop-index-preserved : goal.loop-index-preserved
loop-index-preserved g c =
    let i = c.loop-index.invariant in
    let test = c.loop-index-test.true in
    let slots = c.loop-index.slots in
    let count = c.loop-index.count in
    let part = c.put_slots-count.new.slots in
    let n = c.put_slots-count.result in
    let is_chunk = c.read_area.ensures.chunk in
    let kept = c.put_slots-count.auto.slots in
    let len : length (put_mid count (length slots - count) slots part) ≡ length slots = same_len_mid count (length slots - count) slots part kept in
    let step = room_less c.loop-index.index c.args.end (32 * c.args.sizes.chunk) test in
    let room' = i.room in
    let few' = c.put_slots-count.ensures.few in
    let few : n ≤ 32 * c.args.sizes.chunk = omega arith in
    let inside : count ≤ length slots = omega arith in
    let dropped = length-drop count slots in
    let taken = length-take (length slots - count) (drop count slots) in
    let long : n ≤ length part = omega arith in
    record {
      chunk = is_chunk;
      room = omega arith;
      faults = (let x = i.faults in let y = c.read_area.ensures.cause.later in omega arith);
      passes = λ o s first rolls. passes_both _ _ _ _ _ _ _ _ _ _ _ _ _ (i.passes o s first rolls) (c.read_area.ensures.passes o s first (i.copies o s first rolls).rolls);
      copies = λ o s first rolls. copies_both _ first _ _ _ _ _ _ _ _ _ _ _ (i.copies o s first rolls) (c.read_area.ensures.rolls o s first (i.copies o s first rolls).rolls);
      are_pairs = λ o s first le rolls.
          let of = (i.copies o s first rolls).rolls in
          subst (λ (list : List Pair). All (IsPairOf (begun c.args.sizes o s)) list) (sym (taken_put slots part count (length slots - count) n inside long))
          (pairs_more (begun c.args.sizes o s) first c.loop-index.index n _ _ _ c.read_area.new.area.bytes.items (take count slots) part of (omega arith) (c.in_ok-read_area.ensures.data of.is_known) few c.put_slots-count.ensures.used c.put_slots-count.ensures.put (i.are_pairs o s first le rolls));
      gathered = λ o s first le rolls.
          let of = (i.copies o s first rolls).rolls in
          subst (λ (list : List Pair). AreGathered (begun c.args.sizes o s) first list (c.args.from * (32 * c.args.sizes.chunk)) ((c.loop-index.index + 1) * (32 * c.args.sizes.chunk))) (sym (taken_put slots part count (length slots - count) n inside long))
          (gathered_more (begun c.args.sizes o s) first c.loop-index.index n (c.args.from * (32 * c.args.sizes.chunk)) _ _ _ c.read_area.new.area.bytes.items (take count slots) part of (omega arith) (c.in_ok-read_area.ensures.data of.is_known) few long c.put_slots-count.ensures.used (λ h. c.put_slots-count.ensures.empty (omega arith)) c.put_slots-count.ensures.put (i.gathered o s first le rolls));
    }

pub returns-clause-gathered : goal.returns-clause-gathered
returns-clause-gathered g c = λ o s first le rolls k d lo hi under inside.
    let up : c.args.end * (32 * c.args.sizes.chunk) ≤ c.loop-index.index * (32 * c.args.sizes.chunk) = mul-le-mul_right (32 * c.args.sizes.chunk) c.loop-index-test.false in
    c.loop-index.invariant.gathered o s first le rolls k d lo (omega arith) under inside

use Rattle.std.proofs.Common.{◌≡◌, ℕ, ◌+◌, ◌*◌, ◌<◌, ◌≤◌, List, [], ◌∙◌, length, take, drop, arith, rules, refl, sym, subst, length-append, length-drop}
use Rattle.std.proofs.lemmas.List.{length-take-le}
use Rattle.cow_salvage.specs.Unread.{AddUnread, Stand, AreUnread}
use Rattle.cow_salvage.proofs.Tries.{add_then, add_none}
use Rattle.cow_salvage.proofs.trying.try_pieces.Goals as goal

pub loop-first-init : goal.loop-first-init
loop-first-init g c = record {
  bytes = refl;
  calm = λ k n h. h;
  steady = λ k n h. h;
  inside = omega arith;
  room = c.requires.room;
  told = λ stand. add_none (g.I.Image.may_fail c.args.image.now) (g.I.Image.may_give c.args.image.now) 0 c.args.spans.now.items stand;
}

pub loop-first-preserved : goal.loop-first-preserved
loop-first-preserved g c =
    let i = c.loop-first.invariant in
    let least = c.min-count.ensures in
    let test = c.loop-first-test.true in
    let room = i.room in
    let long : length (take (512 * c.min-count.result) c.loop-first.room) ≡ 512 * c.min-count.result = length-take-le (512 * c.min-count.result) c.loop-first.room (omega arith) in
    let kept = c.try_piece.auto.out in
    record {
      bytes = c.in_ok-try_piece.ensures.bytes ∙ i.bytes;
      calm = λ k n h. i.calm k n (c.in_ok-try_piece.ensures.calm k n h);
      steady = λ k n h. i.steady k n (c.in_ok-try_piece.ensures.steady k n h);
      inside = omega arith;
      room = simp (length-append, length-drop) (omega arith);
      told = λ stand.
          add_then (g.I.Image.may_fail c.args.image.now) (g.I.Image.may_give c.args.image.now) (g.I.Image.may_fail c.loop-first.image) (g.I.Image.may_give c.loop-first.image) 0 c.loop-first.first (c.loop-first.first + c.min-count.result) c.args.spans.now.items c.loop-first.spans.items c.try_piece.new.spans.items i.calm i.steady (i.told stand) c.in_ok-try_piece.ensures.each;
    }

pub returns-clause-each : goal.returns-clause-each
returns-clause-each g c = λ stand.
    let all : c.loop-first.first ≡ c.args.size = let inside = c.loop-first.invariant.inside in let past = c.loop-first-test.false in omega arith in
    subst (λ (n : ℕ). AddUnread (g.I.Image.may_fail c.args.image.now) (g.I.Image.may_give c.args.image.now) 0 c.args.spans.now.items n c.loop-first.spans.items) all (c.loop-first.invariant.told stand)

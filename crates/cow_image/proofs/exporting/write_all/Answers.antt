use Rattle.std.proofs.Common.{◌≡◌, List, ℕ, ◌+◌, ◌≤◌, ◌∙◌, ◌++◌, length, take, subst, refl, arith, length-append, length-drop}
use Rattle.std.specs.Io.KnownBytes.{Appends}
use Rattle.std.proofs.KnownBytes.{Appends-trans}
use Rattle.std.proofs.lemmas.List.{length-take-le}
use Rattle.cow_image.specs.Shown.{shown}
use Rattle.cow_image.proofs.Exports.{shown_more, front_more}
use Rattle.cow_image.proofs.exporting.write_all.Goals as goal

pub returns-in-Err-clause-part : goal.returns-in-Err-clause-part
returns-in-Err-clause-part g c = λ o b ois bis.
    let i = c.loop-done.invariant in
    let least = c.min-len.ensures in
    let room = i.room in
    let test = c.loop-done-test.true in
    let len : length (take c.min-len.result c.loop-done.room) ≡ c.min-len.result = length-take-le c.min-len.result c.loop-done.room (omega arith) in
    let inside : c.loop-done.done + length (take c.min-len.result c.loop-done.room) ≤ c.args.end = omega arith in
    let (front, is, appends) = c.in-Err.ensures.part o b (i.origin ∙ ois) (i.cow ∙ bis) in (
      shown c.args.chunk o b c.args.pairs.now 0 c.loop-done.done ++ front,
      front_more c.args.chunk o b c.args.pairs.now c.loop-done.done c.loop-done.done (length (take c.min-len.result c.loop-done.room)) c.args.end front refl inside is,
      Appends-trans _ _ _ _ _ (i.written o b ois bis) appends,
    )

pub loop-done-preserved : goal.loop-done-preserved
loop-done-preserved g c =
    let i = c.loop-done.invariant in
    let least = c.min-len.ensures in
    let test = c.loop-done-test.true in
    let room = i.room in
    let len : length (take c.min-len.result c.loop-done.room) ≡ c.min-len.result = length-take-le c.min-len.result c.loop-done.room (omega arith) in
    let kept = c.put_piece.auto.room in
    let end : c.loop-done.done + c.min-len.result ≡ c.loop-done.done + length (take c.min-len.result c.loop-done.room) = omega arith in
    record {
      origin = c.in_default.ensures.origin ∙ i.origin;
      cow = c.in_default.ensures.cow ∙ i.cow;
      room = simp (length-append, length-drop) (omega arith);
      inside = omega arith;
      written = λ o b ois bis.
          subst (λ (xs : List ℕ). Appends (g.S.Sink.contents c.args.sink.now) (g.S.Sink.contents c.put_piece.new.sink) xs)
          (shown_more c.args.chunk o b c.args.pairs.now c.loop-done.done c.loop-done.done (length (take c.min-len.result c.loop-done.room)) (c.loop-done.done + c.min-len.result) refl end)
          (Appends-trans _ _ _ _ _ (i.written o b ois bis) (c.in_default.ensures.all o b (i.origin ∙ ois) (i.cow ∙ bis)));
    }

use Rattle.std.proofs.Common.{◌≡◌, List, ℕ, ◌-◌, ◌*◌, ◌∙◌, ◌++◌, length, take, subst, sym, refl, arith, length-append, length-drop}
use Rattle.std.specs.Prelude.{min}
use Rattle.std.specs.Io.KnownBytes.{Appends}
use Rattle.std.proofs.KnownBytes.{Appends-nil, Appends-trans}
use Rattle.std.proofs.lemmas.List.{length-take-le}
use Rattle.image_to_dmrig.specs.Loads.{loads_below, pieces}
use Rattle.image_to_dmrig.proofs.Fronts.{rest_of, loads_more, loads_front}
use Rattle.image_to_dmrig.proofs.putting.put_loads.Goals as goal

pub loop-number-init : goal.loop-number-init
loop-number-init g c = record {
  image = refl;
  room = c.as_mut_slice-room.ensures.len ∙ c.in-Ok.ensures.len;
  written = λ b bis len. Appends-nil _;
}

pub returns-in-Err-clause-part : goal.returns-in-Err-clause-part
returns-in-Err-clause-part g c = λ b bis len.
    let i = c.loop-number.invariant in
    let least = c.min-len.ensures in
    let room = i.room in
    let taken : length (take c.min-len.result c.loop-number.room) ≡ c.min-len.result = length-take-le c.min-len.result c.loop-number.room (omega arith) in
    let count : length (take c.min-len.result c.loop-number.room) ≡ min (512 * c.args.sectors - 8192 * c.loop-number.number) 8192 = omega arith in
    let rest = rest_of b c.loop-number.number c.args.sectors (length (take c.min-len.result c.loop-number.room)) len count in
    let (front, is, appends) = c.in-Err.ensures.part b (i.image ∙ bis) rest in (
      loads_below c.args.name.now b c.loop-number.number ++ front,
      loads_front c.args.name.now b front c.loop-number.number (pieces c.args.sectors) c.loop-number-test.true is,
      Appends-trans _ _ _ _ _ (i.written b bis len) appends,
    )

pub loop-number-preserved : goal.loop-number-preserved
loop-number-preserved g c =
    let i = c.loop-number.invariant in
    let least = c.min-len.ensures in
    let room = i.room in
    let kept = c.put_piece.auto.room in
    let taken : length (take c.min-len.result c.loop-number.room) ≡ c.min-len.result = length-take-le c.min-len.result c.loop-number.room (omega arith) in
    let count : length (take c.min-len.result c.loop-number.room) ≡ min (512 * c.args.sectors - 8192 * c.loop-number.number) 8192 = omega arith in
    record {
      image = c.in_default-put_piece.ensures.bytes ∙ i.image;
      room = simp (length-append, length-drop) (omega arith);
      written = λ b bis len.
          let rest = rest_of b c.loop-number.number c.args.sectors (length (take c.min-len.result c.loop-number.room)) len count in
          subst (λ (xs : List ℕ). Appends (g.S.Sink.contents c.args.sink.now) (g.S.Sink.contents c.put_piece.new.sink) xs) (sym (loads_more c.args.name.now b c.loop-number.number))
          (Appends-trans _ _ _ _ _ (i.written b bis len) (c.in_default-put_piece.ensures.all b (i.image ∙ bis) rest));
    }

pub returns-clause-all : goal.returns-clause-all
returns-clause-all g c = λ b bis len.
    let i = c.loop-number.invariant in
    let end : c.loop-number.number ≡ pieces c.args.sectors = let low = c.loop-number-test.false in let high = c.loop-number.auto.number-end in omega arith in
    subst (λ (n : ℕ). Appends (g.S.Sink.contents c.args.sink.now) (g.S.Sink.contents c.loop-number.sink) (loads_below c.args.name.now b n)) end (i.written b bis len)

use Rattle.std.proofs.Common.{◌≡◌, ℕ, ◌+◌, ◌*◌, ◌/◌, ◌≤◌, ◌++◌, List, length, take, arith, ◌∙◌, length-append, length-drop}
use Rattle.std.proofs.Math.Nat.{mul-le-mul_right, div-mul-le_self}
use Rattle.std.proofs.KnownBytes.{Appends-trans}
use Rattle.std.proofs.lemmas.List.{length-take-le}
use Rattle.new_store_files.proofs.Chunks.{copies_written, length-more}
use Rattle.new_store_files.proofs.copying.write_copies.Goals as goal

pub loop-done-preserved : goal.loop-done-preserved
loop-done-preserved g c =
    let i = c.loop-done.invariant in
    let chunk : ℕ = c.args.chunk in
    let done : ℕ = c.loop-done.done in
    let count : ℕ = c.min-count.result in
    let room : ℕ = length c.args.room.now in
    let part : List ℕ = c.read_copies.new.out in
    let least = c.min-count.ensures in
    let test = c.loop-done-test.true in
    let same = i.room in
    let few : count ≤ room / (512 * chunk) = omega arith in
    let inside : done + count ≤ length c.args.pairs.now = omega arith in
    let whole : room / (512 * chunk) * (512 * chunk) ≤ room = div-mul-le_self room (512 * chunk) in
    let most : count * (512 * chunk) ≤ room / (512 * chunk) * (512 * chunk) = mul-le-mul_right (512 * chunk) few in
    let turned : 512 * chunk * count ≡ count * (512 * chunk) = grind arith in
    let joined : 512 * chunk * count ≡ 512 * (chunk * count) = grind arith in
    let fits : 512 * chunk * count ≤ length c.loop-done.room = omega arith in
    let slice : length (take (512 * chunk * count) c.loop-done.room) ≡ 512 * chunk * count = length-take-le (512 * chunk * count) c.loop-done.room fits in
    let long : length c.read_copies.new.out ≡ 512 * (chunk * count) = c.read_copies.auto.out ∙ slice ∙ joined in
    record {
      bytes = c.in-Ok.ensures.bytes ∙ i.bytes;
      inside = inside;
      room = simp (length-append, length-drop) (omega arith);
      written = λ b is.
          let (x, len, copies, appends) = i.written b is in (
            x ++ part,
            length-more chunk done count x part len long,
            copies_written chunk done count _ b x part c.args.pairs.now (omega arith) inside len copies (c.in-Ok.ensures.data b (i.bytes ∙ is)),
            Appends-trans _ _ _ _ _ appends c.in-Ok-put.ensures.all,
          );
    }

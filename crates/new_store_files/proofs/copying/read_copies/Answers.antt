use Rattle.std.proofs.Common.{◌≡◌, ℕ, ◌+◌, ◌-◌, ◌*◌, ◌≤◌, List, length, take, drop, arith, ap, sym, ◌∙◌}
use Rattle.std.proofs.Math.Nat.{mul-le-mul_left}
use Rattle.std.proofs.lemmas.List.{get_or_default}
use Rattle.sector.specs.declared.pair.Pair.{Pair}
use Rattle.new_store_files.proofs.Chunks.{copies_read, length-put, length-slice}
use Rattle.new_store_files.proofs.copying.read_copies.Goals as goal

pub loop-done-preserved : goal.loop-done-preserved
loop-done-preserved g c =
    let i = c.loop-done.invariant in
    let chunk : ℕ = c.args.chunk in
    let done : ℕ = c.loop-done.done in
    let count : ℕ = c.row_from-count.result in
    let n : ℕ = length c.args.pairs.now in
    let out : List ℕ = c.loop-done.out in
    let from : ℕ = 512 * chunk * done in
    let room : ℕ = 512 * chunk * (done + count) - 512 * chunk * done in
    let inside = c.row_from-count.ensures.inside in
    let long = i.long in
    let from_is : 512 * chunk * done ≡ 512 * (chunk * done) = grind arith in
    let to_is : 512 * chunk * (done + count) ≡ 512 * (chunk * done) + 512 * (chunk * count) = grind arith in
    let sum : chunk * (done + count) ≡ chunk * done + chunk * count = grind arith in
    let below : chunk * (done + count) ≤ chunk * n = mul-le-mul_left chunk inside in
    let room_is : 512 * chunk * (done + count) - 512 * chunk * done ≡ 512 * (chunk * count) = omega arith in
    let fits : 512 * chunk * done + (512 * chunk * (done + count) - 512 * chunk * done) ≤ length out = omega arith in
    let slice : length (take (512 * chunk * (done + count) - 512 * chunk * done) (drop (512 * chunk * done) out)) ≡ 512 * chunk * (done + count) - 512 * chunk * done = length-slice from room out fits in
    let same : 512 * chunk * (done + count) - 512 * chunk * done ≡ length c.read_row.new.out = sym (c.read_row.auto.out ∙ slice) in
    record {
      bytes = c.in-Ok.ensures.bytes ∙ i.bytes;
      inside = inside;
      long = length-put from room out c.read_row.new.out same fits ∙ long;
      read = λ b is. copies_read chunk done count _ from room _ b out c.read_row.new.out c.args.pairs.now from_is same (sym same ∙ room_is) (slice ∙ room_is) fits (c.in-Ok.ensures.data b (i.bytes ∙ is))
          (λ q d lt. c.row_from-count.ensures.row q d lt ∙ ap (λ (p : Pair). p.new + q) (get_or_default c.args.pairs.now done d _ c.loop-done-test.true)) (i.read b is);
    }

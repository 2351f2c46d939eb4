use Rattle.std.proofs.Common.{◌≡◌, ◌≤◌, ℕ, arith, ap, ◌∙◌, ◌+◌, ◌*◌, length, take}
use Rattle.std.proofs.lemmas.List.{length-take-le}
use Rattle.crash_laws.proofs.Firm.{adds_answered}
use Rattle.in_flight.specs.Copies.{count_of}
use Rattle.merge.proofs.copying.put_back.Goals as goal

pub returns-clause-adds : goal.returns-clause-adds
returns-clause-adds g c = λ loud.
    let whole = g.met.B.Block.whole c.args.origin.now in
    let begins = c.requires.begins in
    let room = c.requires.room in
    let is : c.sectors_of-count.result ≡ count_of c.args.chunk (g.B.Block.size c.args.origin.now) c.args.old = c.sectors_of-count.ensures ∙ ap (λ (n : ℕ). count_of c.args.chunk n c.args.old) c.requires.size in
    let few : c.sectors_of-count.result ≤ c.args.chunk = omega (arith, is) in
    let inside : c.args.chunk * c.args.old + c.sectors_of-count.result ≤ g.B.Block.size c.args.origin.now = omega (arith, is, begins) in
    let long : length (take (512 * c.sectors_of-count.result) c.args.buffer.now) ≡ 512 * c.sectors_of-count.result = length-take-le (512 * c.sectors_of-count.result) c.args.buffer.now (omega (arith, room, few)) in
    adds_answered c.write.result _ (g.B.Block.may_hold c.args.origin.now) (g.B.Block.may_hold c.write.new.self) (g.B.Block.contents c.args.origin.now) (g.B.Block.contents c.write.new.self) (take (512 * c.sectors_of-count.result) c.args.buffer.now) (c.args.chunk * c.args.old) c.sectors_of-count.result
    c.write.ensures.stop c.write.ensures.stop_err c.write.ensures.written (omega (arith, whole, long, inside)) long loud

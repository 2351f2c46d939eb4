use Rattle.std.proofs.Common.{◌≡◌, ℕ, ◌+◌, ◌-◌, ◌≤◌, length, arith, rules, subst, ◌∙◌}
use Rattle.cow_image.proofs.Ranges.{length-put, length-part}
use Rattle.read_beside_writer.specs.Known.{AreShown}
use Rattle.read_beside_writer.proofs.Saves.{of_part, shown_more, rest_stays}
use Rattle.read_beside_writer.proofs.snapshot.put_copies.Goals as goal

pub loop-done-preserved : goal.loop-done-preserved
loop-done-preserved g c =
    let i = c.loop-done.invariant in
    let done = c.loop-done.done in
    let len = c.min-len.result in
    let out = c.loop-done.out in
    let part = c.put_part.new.part in
    let before = g.F.MovingFiles.now c.loop-done.files in
    let after = g.F.MovingFiles.now c.put_part.new.files in
    let least = c.min-len.ensures in
    let room : (done + len) - done ≡ len = omega arith in
    let inside : done + len ≤ length out = (let h = i.inside in omega arith) in
    let long : length part ≡ len = search rules in
    let later : before ≤ after = c.in_ok-put_part.ensures.later in
    let whole = length-put out part done len ((done + len) - done) room inside long in
    let all = i.later in
    let short = length-part out done len inside in
    record {
      inside = omega arith;
      long = whole ∙ i.long;
      history = c.in_ok-put_part.ensures.history ∙ i.history;
      later = omega arith;
      rest = rest_stays done len ((done + len) - done) c.args.out.now out part room inside long i.rest;
      shown = λ h first read is of.
          shown_more c.args.chunk h before after c.args.at done len ((done + len) - done) out part room inside long later (i.shown h first read is of)
          (subst (λ (n : ℕ). AreShown c.args.chunk h after (c.args.at + done) part n) short (c.in_ok-put_part.ensures.shown h first read (i.history ∙ is) (of_part c.args.chunk h first read _ before c.args.at done len ((done + len) - done) c.args.pairs.now.listed.items c.args.out.now out of all room inside i.long i.rest short)));
    }

pub returns-clause-shown : goal.returns-clause-shown
returns-clause-shown g c = λ h first read is of later after live k lt.
    (let i = c.loop-done.invariant in
    let long = i.long in
    let end = c.loop-done-test.false in
    i.shown h first read is of later after live k (omega arith))

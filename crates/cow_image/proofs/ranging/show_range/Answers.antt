use Rattle.std.proofs.Common.{◌≡◌, ℕ, ◌+◌, ◌-◌, ◌*◌, ◌/◌, ◌%◌, ◌≤◌, length, arith, rules, ap, ◌∙◌}
use Rattle.cow_image.specs.Shown.{shown}
use Rattle.cow_image.proofs.Ranges.{range_more, length-put, length-part, chunk_and}
use Rattle.cow_image.proofs.Fails.{shown_fails}
use Rattle.cow_image.proofs.ranging.show_range.Goals as goal

pub loop-done-preserved : goal.loop-done-preserved
loop-done-preserved g c =
    let i = c.loop-done.invariant in
    let done = c.loop-done.done in
    let len = c.min-len.result in
    let from : ℕ = c.args.at + done in
    let least = c.min-len.ensures in
    let room : (done + len) - done ≡ len = omega arith in
    let inside : done + len ≤ length c.loop-done.out = (let h = i.inside in omega arith) in
    let long : length c.show_run.new.out ≡ len = search rules in
    let whole = length-put c.loop-done.out c.show_run.new.out done len ((done + len) - done) room inside long in
    record {
      origin = c.in-Ok.ensures.origin ∙ i.origin;
      cow = c.in-Ok.ensures.cow ∙ i.cow;
      calm = λ k n h. i.calm k n (c.in-Ok.ensures.calm k n h);
      calm_cow = λ k n h. i.calm_cow k n (c.in-Ok.ensures.calm_cow k n h);
      inside = omega arith;
      long = whole ∙ i.long;
      read = λ o b ois bis.
          range_more c.args.chunk o b c.loop-done.out c.show_run.new.out c.args.pairs.now c.args.at _ done len ((done + len) - done) room (chunk_and c.args.chunk from) inside long (i.read o b ois bis)
          (c.in-Ok.ensures.shown o b (i.origin ∙ ois) (i.cow ∙ bis) ∙ ap (λ (n : ℕ). shown c.args.chunk o b c.args.pairs.now (512 * (c.args.chunk * (from / (512 * c.args.chunk))) + from % (512 * c.args.chunk)) n) (length-part c.loop-done.out done len inside));
    }

pub returns-in-Err-clause-fails : goal.returns-in-Err-clause-fails
returns-in-Err-clause-fails g c =
    let i = c.loop-done.invariant in
    let done = c.loop-done.done in
    let len = c.min-len.result in
    let from : ℕ = c.args.at + done in
    let least = c.min-len.ensures in
    let inside : done + len ≤ length c.loop-done.out = (let h = i.inside in omega arith) in
    let here = chunk_and c.args.chunk from in
    let long = i.long in
    shown_fails (g.O.Image.may_fail c.loop-done.origin) (g.O.Image.may_fail c.args.origin.now) (g.C.Image.may_fail c.loop-done.cow) (g.C.Image.may_fail c.args.cow.now) c.args.chunk c.args.pairs.now c.args.at (length c.args.out.now) (from / (512 * c.args.chunk)) (from % (512 * c.args.chunk)) _ len c.run_at-run.result.chunks c.run_at-run.result.place i.calm i.calm_cow c.run_at-run.ensures.run c.run_at-run.ensures.some
    (length-part c.loop-done.out done len inside) (omega arith) (omega arith) c.in-Err.ensures.fails

use Rattle.std.proofs.Common.{length, Some, None}
use Rattle.cow_image.specs.Runs.{IsRun}
use Rattle.cow_image.proofs.Ranges.{own_shown, copy_shown}
use Rattle.cow_image.proofs.ranging.show_run.Goals as goal

pub returns-in-Ok-clause-shown : goal.returns-in-Ok-clause-shown
returns-in-Ok-clause-shown g c = λ o b ois bis.
    let run : IsRun c.args.pairs.now c.args.number (Some c.in-Some.place) c.args.run.chunks = rw c.in-Some.is at c.requires.run in
    let got = rw bis at c.in-Ok.ensures.data in
    let within = rw bis at c.in-Ok.ensures.inside in
    let at = c.in-Some-byte_in.ensures.value in
    copy_shown c.args.chunk c.args.number c.args.inside c.in-Some-byte_in.at (length c.args.out.now) c.args.run.chunks c.in-Some.place o b c.read_at.new.out c.args.pairs.now c.requires.some run c.requires.part at within got c.read_at.auto.out

pub returns-in-Ok-read_at-clause-shown : goal.returns-in-Ok-read_at-clause-shown
returns-in-Ok-read_at-clause-shown g c = λ o b ois bis.
    let run : IsRun c.args.pairs.now c.args.number None c.args.run.chunks = rw c.in-None.is at c.requires.run in
    let got = rw ois at c.in-Ok-read_at.ensures.data in
    let within = rw ois at c.in-Ok-read_at.ensures.inside in
    own_shown c.args.chunk c.args.number c.args.inside c.in-Some-byte_in-2.at (length c.args.out.now) c.args.run.chunks o b c.read_at-in-None.new.out c.args.pairs.now c.requires.some run c.requires.part c.in-Some-byte_in-2.ensures.value within got c.read_at-in-None.auto.out

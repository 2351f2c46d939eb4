use Rattle.std.proofs.Common.{ℕ, ◌+◌, ◌*◌, ◌/◌, ◌%◌, ◌∙◌, sym}
use Rattle.std.proofs.lemmas.Result.{on_ok_weaker}
use Rattle.read_beside_writer.specs.Moments.{AreRead}
use Rattle.read_beside_writer.proofs.Saves.{part_own, part_copy, of_history}
use Rattle.read_beside_writer.proofs.snapshot.put_part.Goals as goal

pub returns-in-Some-clause-shown : goal.returns-in-Some-clause-shown
returns-in-Some-clause-shown g c =
    let history = g.F.MovingFiles.history c.args.files.now in
    let now = g.F.MovingFiles.now c.args.files.now in
    let end = g.F.MovingFiles.now c.put_copy.new.files in
    let pairs = c.args.pairs.now in
    let bytes : ℕ = 512 * c.args.chunk in
    on_ok_weaker c.put_copy.result (λ got h first read is of. part_copy c.args.chunk h first read now end c.args.from c.in-Some.place.now pairs.listed.items c.args.part.now c.put_copy.new.part c.requires.some of c.requires.inside (sym (pairs.placed (c.args.from / bytes)) ∙ sym c.in-Some.ensures.value) c.put_copy.auto.part (of_history history h (λ k. AreRead (λ m. (k m).store) now end (bytes * c.in-Some.place.now + c.args.from % bytes) c.put_copy.new.part) is got)) c.put_copy.ensures.data

pub returns-in-None-clause-shown : goal.returns-in-None-clause-shown
returns-in-None-clause-shown g c = λ h first read is of. part_own c.args.chunk h first read (g.F.MovingFiles.now c.args.files.now) c.args.from c.args.pairs.now.listed.items c.args.part.now c.requires.some of c.requires.inside (sym (c.args.pairs.now.placed (c.args.from / (512 * c.args.chunk))) ∙ sym c.in-None.ensures.value)

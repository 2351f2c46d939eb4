use Rattle.std.proofs.Common.{rules, ◌≡◌, ◌<◌, ◌∙◌, arith, length, get_or, true}
use Rattle.std.proofs.lemmas.List.{length-set}
use Rattle.words.specs.Names.{is_name_byte}
use Rattle.words.proofs.Padded.{back_here, front_here, name_here}
use Rattle.words.proofs.names.padded.Goals as goal

pub loop-i-preserved : goal.loop-i-preserved
loop-i-preserved c =
    let lt : c.loop-i.i < length c.args.word.now = search rules in
    let long = c.loop-i.invariant.long in
    let is : is_name_byte (get_or c.args.word.now c.loop-i.i 0) ≡ true = search rules in
    record {
      rest = name_here c.args.word.now c.loop-i.i lt is ∙ c.loop-i.invariant.rest;
      front = front_here c.args.word.now c.loop-i.bytes c.loop-i.i lt (omega (arith, lt, long, c.requires)) c.loop-i.invariant.front;
      long = length-set c.loop-i.bytes c.loop-i.i (get_or c.args.word.now c.loop-i.i 0) ∙ long;
      back = back_here c.loop-i.bytes c.loop-i.i (get_or c.args.word.now c.loop-i.i 0) c.loop-i.invariant.back;
    }

use Rattle.std.proofs.Common.{arith, sym}
use Rattle.std.proofs.lemmas.List.{length-take-le}
use Rattle.explain_syntax.proofs.shown.put_word.Goals as goal

pub slice_bounds-put_two-end : goal.slice_bounds-put_two-end
slice_bounds-put_two-end g c = sym (length-take-le 40 c.args.word.now (omega arith))

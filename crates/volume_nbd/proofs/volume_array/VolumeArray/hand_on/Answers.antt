-- The volume is asked for just this piece.
use Rattle.std.proofs.Common.{rules, Err, ap, sym, ◌∙◌}
use Rattle.volume_nbd.specs.Answers.{taken_as}
use Rattle.volume_nbd.proofs.volume_array.VolumeArray.hand_on.Goals as goal
use Rattle.volume_nbd.proofs.volume_array.VolumeArray.hand_on.Goals.{in-Ok, in-Err}

pub returns-clause-does : goal.returns-clause-does
returns-clause-does g c = λ work part op first count sectors. record {
  request = record { dev = c.args.self.now.chosen; op = c.args.op; range = c.args.range };
  is = record { dev = search rules; op = op; first = first; count = count; sectors_are = sectors };
  answer = c.submit-answer.result;
  does = search rules;
  reasons = search rules;
  told = elim c.match-answer.branch [
    | in-Ok w ↦ w.result-is ∙ sym (ap taken_as w.in-Ok.is)
    | in-Err w ↦ w.result-is ∙ ap Err w.refused.ensures ∙ sym (ap taken_as w.in-Err.is)
  ];
  looked = c.look_at.ensures;
}

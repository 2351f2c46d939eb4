-- The pair in the buffer, or else the last that waits.
use Rattle.std.proofs.Common.{◌∙◌, sym}
use Rattle.merge.proofs.Looks.{turn_next}
use Rattle.merge.proofs.merge.Merge.next_pair.Goals as goal

pub returns-in-None : goal.returns-in-None
returns-in-None g c = c.next.ensures ∙ sym (turn_next c.args.self.now.group (sym c.full.ensures ∙ c.in-None.is))

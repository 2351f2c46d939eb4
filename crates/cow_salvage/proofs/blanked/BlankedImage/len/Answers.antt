use Rattle.cow_salvage.proofs.BlankBytes.{blank_len}
use Rattle.cow_salvage.proofs.Ends.{if_ok}
use Rattle.cow_salvage.proofs.blanked.BlankedImage.len.Goals as goal

pub returns-clause-value : goal.returns-clause-value
returns-clause-value g c = if_ok c.len.result _ _ (λ n is. blank_len (g.I.Image.bytes c.args.self.now.below) c.args.self.now.spans.items n is) c.len.ensures.value

use Rattle.std.proofs.Common.{◌≡◌, length, arith}
use Rattle.new_store_files.proofs.Padded.{if_padded, length-padded}
use Rattle.new_store_files.proofs.padding.PaddedImage.len.Goals as goal

pub returns-in-Some-clause-value : goal.returns-in-Some-clause-value
returns-in-Some-clause-value g c =
    let sum = c.in-Some.ensures in
    if_padded c.args.self.now.end (g.I.Image.bytes c.args.self.now.below.now) (λ b. c.in-Some.len ≡ length b) (λ b is long. let l = length-padded b in omega arith)

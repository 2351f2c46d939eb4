use Rattle.std.proofs.Common.{◌∙◌, sym}
use Rattle.cow_image.proofs.windowed.WindowedImage.len.Goals as goal

pub invariant_of-self : goal.invariant_of-self
invariant_of-self g c = record { held = λ b a is here. c.args.self.now.held b a (sym c.len.ensures.bytes ∙ is) here }

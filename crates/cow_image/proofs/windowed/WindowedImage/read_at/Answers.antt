use Rattle.std.proofs.Common.{◌∙◌, sym}
use Rattle.cow_image.proofs.windowed.WindowedImage.read_at.Goals as goal

pub invariant_of-self : goal.invariant_of-self
invariant_of-self g c = record { held = λ b a is here. c.give_ahead.new.self.held b a (sym c.read_at.ensures.bytes ∙ is) here }

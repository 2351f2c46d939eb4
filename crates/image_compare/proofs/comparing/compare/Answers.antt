use Rattle.std.proofs.Common.{ℕ, subst}
use Rattle.image_compare.specs.Comparisons.{IsFront}
use Rattle.image_compare.proofs.comparing.compare.Goals as goal

pub returns-in-Ok-compare_front : goal.returns-in-Ok-compare_front
returns-in-Ok-compare_front g c = λ a b ais bis along blong.
    c.whole.ensures a b along blong
    (subst (λ (n : ℕ). IsFront a b n c.in-Ok-compare_front.front) c.min-both.ensures (c.in-Ok-compare_front.ensures a b ais bis))

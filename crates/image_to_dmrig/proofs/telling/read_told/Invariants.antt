use Rattle.std.proofs.Common.{◌≡◌, List, ℕ, Some}
use Rattle.image_to_dmrig.specs.Told.{told, told_from}
use Rattle.image_to_dmrig.proofs.Ends.{lines, told_after}
use Rattle.image_to_dmrig.proofs.telling.read_told.Given as goal

abbrev pub invariant-loop-number : goal.invariant-loop-number
invariant-loop-number g l = (text : List ℕ) → g.R.Read.remaining l.fn.reader ≡ Some text → (rest : List ℕ) × (g.R.Read.remaining l.reader ≡ Some rest) × (told text ≡ told_after l.bytes.items (told_from l.number (lines rest)))

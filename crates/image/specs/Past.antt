-- What a stop since the last of some moments might have left.
use Rattle.std.specs.Prelude.{◌⊎◌, ℕ, List, [], ◌∷◌, length, drop}
use mathlib.Core.Logic.{inl, inr}
use Rattle.image.specs.declared.mem_files.FilePair.{FilePair}
use Rattle.image.specs.MemFiles.{AreLeftIn, HadLeft}

none_left : (past : List FilePair) (left : ℕ → List ℕ) → HadLeft (drop (length past) past) left → ⊥
none_left [] left had = had
none_left (two ∷ past) left had = none_left past left had

-- since the last of them there is what may be left now
pub only_now : (past : List FilePair) (two : FilePair) (left : ℕ → List ℕ) → AreLeftIn two left ⊎ HadLeft (drop (length past) past) left → AreLeftIn two left
only_now past two left (inl now) = now
only_now past two left (inr had) = absurd (none_left past left had)

-- What two files in memory hold, and what a stop may leave of them.
use Rattle.std.specs.Prelude.{◌≡◌, ◌⊎◌, ℕ, zero, suc, List, [], ◌∷◌}
use Rattle.sector.specs.Bytes.{sector_at}
use Rattle.image.specs.declared.mem_files.FilePair.{FilePair}
use Rattle.image.specs.Stops.{AreLeft}

-- their bytes, by their numbers
abbrev pub bytes_in : FilePair → ℕ → List ℕ
bytes_in two zero = two.first.bytes.items
bytes_in two (suc zero) = two.second.bytes.items
bytes_in two (suc (suc file)) = []

-- as they were when they were synced last
abbrev pub synced_in : FilePair → ℕ → List ℕ
synced_in two zero = two.first.synced.items
synced_in two (suc zero) = two.second.synced.items
synced_in two (suc (suc file)) = []

-- two that hold the same
abbrev pub AreAlike : FilePair → FilePair → Type 0
AreAlike one other = ((file : ℕ) → bytes_in one file ≡ bytes_in other file) × ((file : ℕ) → synced_in one file ≡ synced_in other file)

-- a stop leaves a sector as it is, or as it was when its file was synced last
abbrev pub MayIn : FilePair → ℕ → ℕ → List ℕ → Type 0
MayIn two file s v = (v ≡ sector_at (bytes_in two file) s) ⊎ (v ≡ sector_at (synced_in two file) s)

abbrev pub AreLeftIn : FilePair → (ℕ → List ℕ) → Type 0
AreLeftIn two left = AreLeft (bytes_in two) (MayIn two) left

-- what a stop at one of these moments might have left
abbrev pub HadLeft : List FilePair → (ℕ → List ℕ) → Type 0
HadLeft [] left = ⊥
HadLeft (two ∷ past) left = AreLeftIn two left ⊎ HadLeft past left

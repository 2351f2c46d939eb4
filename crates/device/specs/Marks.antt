-- What the marks of a disk's sectors say: its bytes at the last flush.
use Rattle.std.specs.Prelude.{◌≡◌, ◌≢◌, ℕ, ◌+◌, ◌<◌, List, [], ◌∷◌, ◌++◌, length, replicate, slice_index, slice_index_or, Bool, true, false}
use Rattle.sector.specs.Bytes.{sector_at}
use Rattle.device.specs.declared.mark.Mark.{Mark}
use Rattle.device.specs.declared.mark.Mark.TheVariants.{Fresh, Same, Zero, Kept, Loaded}
use Rattle.device.specs.Listed.{place_in}

-- the mark of a sector
abbrev pub mark_at : List Mark → ℕ → Mark
mark_at marks s = slice_index_or marks s Same

-- the value at the last flush of a sector with a mark, by the bytes now, the sectors whose values are kept aside, and
-- those values, in the same order
abbrev pub flushed_sector : List ℕ → List ℕ → List ℕ → ℕ → Mark → List ℕ
flushed_sector now kept aside s Fresh = sector_at now s
flushed_sector now kept aside s Same = sector_at now s
flushed_sector now kept aside s Zero = replicate 512 0
flushed_sector now kept aside s Kept = sector_at aside (place_in kept s)
flushed_sector now kept aside s Loaded = sector_at now s

-- the values of the sectors from one on, one after another
abbrev pub flushed_from : List ℕ → List ℕ → List ℕ → ℕ → List Mark → List ℕ
flushed_from now kept aside s [] = []
flushed_from now kept aside s (mark ∷ marks) = flushed_sector now kept aside s mark ++ flushed_from now kept aside (s + 1) marks

-- the value of one of them
abbrev pub flushed_at : List ℕ → List ℕ → List ℕ → List Mark → ℕ → List ℕ
flushed_at now kept aside marks s = flushed_sector now kept aside s (mark_at marks s)

-- whether the value now is that of the last flush
abbrev pub is_settled : Mark → Bool
is_settled Fresh = true
is_settled Same = true
is_settled Zero = false
is_settled Kept = false
is_settled Loaded = true

-- whether a value was kept aside, also one that is not used any more
abbrev pub is_kept : Mark → Bool
is_kept Fresh = false
is_kept Same = false
is_kept Zero = false
is_kept Kept = true
is_kept Loaded = true

-- the mark of a sector whose value now was made that of the last flush
abbrev pub put_mark : Mark → Mark
put_mark Fresh = Same
put_mark Same = Same
put_mark Zero = Same
put_mark Kept = Loaded
put_mark Loaded = Loaded

-- a list has the sectors of which a value was kept aside, each once, and no others
pub record AreKept (marks : List Mark) (kept : List ℕ) : Type 0 where
  pub all : (s : ℕ) → is_kept (mark_at marks s) ≡ true → place_in kept s < length kept
  pub marked : (j : ℕ) → j < length kept → is_kept (mark_at marks (slice_index kept j)) ≡ true
  pub once : (j : ℕ) → j < length kept → place_in kept (slice_index kept j) ≡ j

-- a list has the sectors that are marked as zero, none twice, and others that were written
pub record AreZeroed (marks : List Mark) (zeroed : List ℕ) : Type 0 where
  pub all : (s : ℕ) → mark_at marks s ≡ Zero → place_in zeroed s < length zeroed
  pub inside : (j : ℕ) → j < length zeroed → slice_index zeroed j < length marks
  pub marked : (j : ℕ) → j < length zeroed → mark_at marks (slice_index zeroed j) ≢ Fresh
  pub once : (j : ℕ) → j < length zeroed → place_in zeroed (slice_index zeroed j) ≡ j

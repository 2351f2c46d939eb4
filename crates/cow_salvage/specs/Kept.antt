-- To be believed: what a salvage writes is said in these words.
-- Which pairs of a damaged store are kept: this project's own rule.
use Rattle.std.specs.Prelude.{◌==◌, ℕ, ◌+◌, ◌*◌, ◌||◌, List, [], ◌∷◌, ◌++◌, length, take, drop, Option, Some, None, nat_le, nat_lt, if◌then◌else◌, fold}
use Rattle.sector.specs.declared.pair.Pair.{Pair}
use Rattle.cow_format.specs.Places.{is_area_place}
use Rattle.cow_image.specs.declared.fault.Fault.{Fault}
use Rattle.cow_image.specs.declared.fault.Fault.TheVariants.{PastOrigin, OutsideStore, AtArea, OldTwice, NewTwice}
use Rattle.cow_image.specs.Judged.{stands_in}
use Rattle.cow_image.specs.Sorted.{old_of, new_of}
use Rattle.cow_salvage.specs.declared.using.Slot.{Slot}

-- the pairs that are kept, and of each other one the slot and why it is not
pub record Sifted : Type 0 where
  pub kept : List Pair
  pub skipped : List Fault

-- Why a slot's pair is not kept, for an origin and a store of so many sectors, after the pairs that were kept before it: it
-- does not lie inside, or one of its chunks stands in one of those.
abbrev pub why_skipped : ℕ → ℕ → ℕ → List Pair → Slot → Option Fault
why_skipped chunk origin size kept s =
    if nat_le origin (chunk * s.pair.old) then Some (PastOrigin s.number s.pair)
    else (if s.pair.new == 0 || nat_lt size (chunk * (s.pair.new + 1)) then Some (OutsideStore s.number s.pair)
    else (if is_area_place chunk s.pair.new then Some (AtArea s.number s.pair)
    else (if stands_in old_of kept s.pair.old then Some (OldTwice s.number s.pair)
    else (if stands_in new_of kept s.pair.new then Some (NewTwice s.number s.pair) else None))))

abbrev pub sifted_as : List Pair → List Fault → Sifted
sifted_as kept skipped = record { kept = kept; skipped = skipped }

-- a pair more, which is kept or not
abbrev pub sifted_by : Option Fault → Sifted → Pair → Sifted
sifted_by None s pair = sifted_as (s.kept ++ pair ∷ []) s.skipped
sifted_by (Some fault) s pair = sifted_as s.kept (s.skipped ++ fault ∷ [])

abbrev pub sifted_more : ℕ → ℕ → ℕ → Sifted → Slot → Sifted
sifted_more chunk origin size s next = sifted_by (why_skipped chunk origin size s.kept next) s next.pair

-- The pairs of these slots in their order: those that lie inside and are apart from all that were kept before, and the others.
abbrev pub sifted : ℕ → ℕ → ℕ → List Slot → Sifted
sifted chunk origin size slots = fold (sifted_more chunk origin size) (sifted_as [] []) slots

-- Of the pairs that are kept, those of so many slots in front: where no empty slot comes before these, they are the store's list.
abbrev pub certain : ℕ → ℕ → ℕ → List Slot → ℕ → List Pair
certain chunk origin size slots front = (sifted chunk origin size (take front slots)).kept

-- And the others. They stand behind an empty slot: they may be of this list, whose slot before them was lost, or of an earlier
-- one, as a merge leaves it behind its end. No byte of the store tells which.
abbrev pub doubtful : ℕ → ℕ → ℕ → List Slot → ℕ → List Pair
doubtful chunk origin size slots front = drop (length (certain chunk origin size slots front)) (sifted chunk origin size slots).kept

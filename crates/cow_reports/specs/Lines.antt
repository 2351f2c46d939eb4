-- The pairs of a store, in lines.
use Rattle.std.specs.Prelude.{ℕ, ◌+◌, ◌/◌, ◌%◌, ◌==◌, ◌&&◌, Bool, List, [], ◌∷◌, ◌++◌, codes, decimal, if◌then◌else◌}
use Rattle.sector.specs.declared.pair.Pair.{Pair}
use Rattle.cow_image.specs.declared.reading.Listed.{Listed}
use Rattle.cow_image.specs.declared.reading.Listed.TheVariants.{Ends, Lacks}
use Rattle.cow_reports.specs.Shows.{line_text}

-- whether both chunks of a pair come right after those of another
abbrev pub follows : Pair → Pair → Bool
follows before pair = pair.old == before.old + 1 && pair.new == before.new + 1

-- the line of a run: its first pair, and how many pairs it has
abbrev pub run_text : Pair → ℕ → List ℕ
run_text first count = decimal first.old ++ (codes " " ++ (decimal first.new ++ (codes " " ++ (decimal count ++ codes "\n"))))

-- the lines of a run that has some pairs already, and of the runs after it
abbrev pub runs_from : Pair → Pair → ℕ → List Pair → List ℕ
runs_from first last count [] = run_text first count
runs_from first last count (pair ∷ pairs) = if follows last pair then runs_from first pair (count + 1) pairs else (run_text first count ++ runs_from pair pair 1 pairs)

-- A line for each run of pairs: as long as each pair follows the one before.
abbrev pub runs_text : List Pair → List ℕ
runs_text [] = []
runs_text (pair ∷ pairs) = runs_from pair pair 1 pairs

-- two numbers
abbrev pub two_text : ℕ → ℕ → List ℕ
two_text first second = decimal first ++ (codes " " ++ decimal second)

-- the line of a slot, in a store whose areas have so many slots
abbrev pub slot_line : ℕ → ℕ → Pair → List ℕ
slot_line slots slot pair = two_text (slot / slots) (slot % slots) ++ (codes " " ++ (two_text pair.old pair.new ++ codes "\n"))

-- a line for each slot, from one on
abbrev pub slots_text : ℕ → ℕ → List Pair → List ℕ
slots_text slots slot [] = []
slots_text slots slot (pair ∷ pairs) = slot_line slots slot pair ++ slots_text slots (slot + 1) pairs

-- how the areas of a store end: the area of the first empty slot, or the one that is not there
abbrev pub listed_text : Listed → List ℕ
listed_text (Ends area) = line_text (codes "ends") area
listed_text (Lacks area) = line_text (codes "lacks") area

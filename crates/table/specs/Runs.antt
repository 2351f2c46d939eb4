-- To be believed: `run`'s output, a volume's steps or its attach are said in these words.
-- The pairs of a snapshot as `map` tells them: in runs, in the order of the origin's chunks. This project's own; `lochknife map` prints
-- the same numbers, a line for each run.
use Rattle.std.specs.Prelude.{ℕ, ◌+◌, ◌==◌, ◌&&◌, Bool, List, [], ◌∷◌, ◌++◌, Option, Some, None, codes, decimal, if◌then◌else◌}
use Rattle.std.specs.List.{flat_map, range_with_len}
use Rattle.sector.specs.declared.pair.Pair.{Pair}
use Rattle.table.specs.declared.runs.Run.{Run}

-- the pair of a chunk that has a place on the store
abbrev pub pair_at : ℕ → Option ℕ → List Pair
pair_at chunk None = []
pair_at chunk (Some place) = record { old = chunk; new = place } ∷ []

-- those of so many chunks, from one on
abbrev pub pairs_from : (ℕ → Option ℕ) → ℕ → ℕ → List Pair
pairs_from place chunk count = flat_map (λ c. pair_at c (place c)) (range_with_len chunk count)

-- a run: its first pair, and how many pairs it has
abbrev pub run_text : Run → List ℕ
run_text run = codes "; " ++ decimal run.first.old ++ codes " " ++ decimal run.first.new ++ codes " " ++ decimal run.count

-- whether a pair goes on with a run: both its chunks come right after the run's
abbrev pub goes_on : Run → Pair → Bool
goes_on run pair = pair.old == run.first.old + run.count && pair.new == run.first.new + run.count

-- a run that has some pairs already, and the runs after it
abbrev pub runs_from : Run → List Pair → List ℕ
runs_from run [] = run_text run
runs_from run (pair ∷ pairs) =
    if goes_on run pair then runs_from (record { first = run.first; count = run.count + 1 }) pairs else (run_text run ++ runs_from (record { first = pair; count = 1 }) pairs)

-- the runs of pairs, the first of which may go on with a run
abbrev pub runs_after : Option Run → List Pair → List ℕ
runs_after (Some run) pairs = runs_from run pairs
runs_after None [] = []
runs_after None (pair ∷ pairs) = runs_from (record { first = pair; count = 1 }) pairs

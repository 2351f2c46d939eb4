-- What is listed of a salvage, in lines.
use Rattle.std.specs.Prelude.{ℕ, ◌*◌, List, ◌++◌, codes, decimal, flat_map}
use Rattle.cow_image.specs.declared.fault.Fault.{Fault}
use Rattle.cow_salvage.specs.declared.span.Span.{Span}
use Rattle.sector.specs.declared.pair.Pair.{Pair}
use Rattle.cow_reports.specs.Lines.{two_text}
use Rattle.cow_reports.specs.Reasons.{fault_text, slot_text}

-- a line for each pair that is skipped, in a store whose areas have so many slots
abbrev pub skipped_line : ℕ → Fault → List ℕ
skipped_line slots fault = codes "skipped " ++ (fault_text slots fault ++ codes "\n")

abbrev pub skipped_text : ℕ → List Fault → List ℕ
skipped_text slots faults = flat_map (skipped_line slots) faults

-- a line for each span after a key: the byte where it begins, and how many bytes it has
abbrev pub span_line : List ℕ → Span → List ℕ
span_line key span = key ++ (codes " " ++ (decimal (512 * span.first) ++ (codes " " ++ (decimal (512 * span.count) ++ codes "\n"))))

abbrev pub spans_text : List ℕ → List Span → List ℕ
spans_text key spans = flat_map (span_line key) spans

-- a line for each pair that is kept from behind the first empty slot
abbrev pub doubtful_line : Pair → List ℕ
doubtful_line pair = codes "doubtful " ++ (two_text pair.old pair.new ++ codes "\n")

abbrev pub doubtful_text : List Pair → List ℕ
doubtful_text pairs = flat_map doubtful_line pairs

-- how many slots behind the first empty one are not, and the first of them
abbrev pub behind_text : ℕ → ℕ → ℕ → List ℕ
behind_text slots count slot = codes "behind " ++ (decimal count ++ (codes " " ++ (slot_text slots slot ++ codes "\n")))

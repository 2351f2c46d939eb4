-- What is printed of a salvage.
use Rattle.std.specs.Prelude.{◌≡◌, ℕ, List, [], ◌++◌, length, codes, Option, Some, None}
use Rattle.sector.specs.declared.pair.Pair.{Pair}
use Rattle.cow_image.specs.declared.fault.Fault.{Fault}
use Rattle.cow_image.specs.declared.reading.Listed.TheVariants.{Lacks}
use Rattle.cow_salvage.specs.declared.span.Span.{Span}
use Rattle.cow_reports.specs.Lines.{runs_text, listed_text}
use Rattle.cow_reports.specs.Salvage.{doubtful_text, skipped_text, spans_text, behind_text}
use Rattle.cow_reports.specs.declared.notes.Notes.{Notes}
use Rattle.cow_reports.specs.declared.notes.Behind.{Behind}

-- the line of an area that is not there
abbrev pub lacks_of : Option ℕ → List ℕ
lacks_of None = []
lacks_of (Some area) = listed_text (Lacks area)

-- the line of the slots behind the first empty one
abbrev pub behind_of : ℕ → Option Behind → List ℕ
behind_of slots None = []
behind_of slots (Some behind) = behind_text slots behind.count behind.first

-- what is said before the runs
abbrev pub salvaged_words : List ℕ
salvaged_words = codes "salvaged the runs below are the chunks that have copies: OLD NEW COUNT\nunknown every other chunk is the origin's of today, and may be newer than the snapshot\n"

-- each pair that is doubtful, and each that is not kept
abbrev pub others_text : ℕ → List Pair → List Fault → List ℕ
others_text slots doubtful skipped = doubtful_text doubtful ++ skipped_text slots skipped

-- the certain pairs in runs, and each other one
abbrev pub kept_text : ℕ → List Pair → List Pair → List Fault → List ℕ
kept_text slots certain doubtful skipped = salvaged_words ++ (runs_text certain ++ others_text slots doubtful skipped)

-- what is noted of a store's slots
abbrev pub notes_text : ℕ → Notes → List ℕ
notes_text slots notes = lacks_of notes.lacks ++ behind_of slots notes.behind

-- each span of both images that could not be read, and the notes
abbrev pub unknown_text : ℕ → List Span → List Span → Notes → List ℕ
unknown_text slots origin cow notes = spans_text (codes "unreadable ORIGIN") origin ++ (spans_text (codes "unreadable COW") cow ++ notes_text slots notes)

-- what is printed of a salvage
abbrev pub salvaged_text : ℕ → List Pair → List Pair → List Fault → List Span → List Span → Notes → List ℕ
salvaged_text slots certain doubtful skipped origin cow notes = kept_text slots certain doubtful skipped ++ unknown_text slots origin cow notes

-- nothing is listed
abbrev pub IsWhole : List Pair → List Fault → List Span → List Span → Notes → Type 0
IsWhole doubtful skipped origin cow notes = (length doubtful ≡ 0) × (length skipped ≡ 0) × (length origin ≡ 0) × (length cow ≡ 0) × (notes.lacks ≡ None)

-- What is printed by the form that is asked for: lines, or objects.
use Rattle.std.specs.Prelude.{ℕ, List, Option}
use Rattle.sector.specs.declared.pair.Pair.{Pair}
use Rattle.cow_image.specs.declared.fault.Fault.{Fault}
use Rattle.cow_image.specs.declared.reading.Listed.{Listed}
use Rattle.image_options.specs.declared.asked.Form.{Form}
use Rattle.image_options.specs.declared.asked.Form.TheVariants.{Lines, Json}
use Rattle.cow_salvage.specs.declared.span.Span.{Span}
use Rattle.cow_reports.specs.declared.showing.Numbers.{Numbers}
use Rattle.cow_reports.specs.declared.looking.Seen.{Seen}
use Rattle.cow_reports.specs.declared.notes.Notes.{Notes}
use Rattle.cow_reports.specs.declared.notes.Behind.{Behind}
use Rattle.cow_reports.specs.Answers.{shown_text, object_text, map_text, raw_text, check_text}
use Rattle.cow_reports.specs.Notes.{behind_of, salvaged_text}
use Rattle.cow_reports.specs.Objects.{map_objects, raw_objects, check_objects, behind_object_of, salvaged_objects}

abbrev pub shown_by : Form → Seen → List ℕ
shown_by Lines seen = shown_text seen
shown_by Json seen = object_text seen

abbrev pub map_by : Form → Seen → List ℕ
map_by Lines seen = map_text seen
map_by Json seen = map_objects seen

abbrev pub raw_by : Form → ℕ → List Pair → Listed → Seen → List ℕ
raw_by Lines chunk slots listed seen = raw_text chunk slots listed seen
raw_by Json chunk slots listed seen = raw_objects chunk slots listed seen

abbrev pub check_by : Form → Option Numbers → List Fault → Listed → List ℕ
check_by Lines numbers faults listed = check_text numbers faults listed
check_by Json numbers faults listed = check_objects numbers faults listed

abbrev pub behind_by : Form → ℕ → Option Behind → List ℕ
behind_by Lines slots behind = behind_of slots behind
behind_by Json slots behind = behind_object_of slots behind

abbrev pub salvaged_by : Form → ℕ → List Pair → List Pair → List Fault → List Span → List Span → Notes → List ℕ
salvaged_by Lines slots certain doubtful skipped origin cow notes = salvaged_text slots certain doubtful skipped origin cow notes
salvaged_by Json slots certain doubtful skipped origin cow notes = salvaged_objects slots certain doubtful skipped origin cow notes

-- What `diff` prints of the spans in which a snapshot and its origin differ.
use Rattle.std.specs.Prelude.{ℕ, List, codes}
use Rattle.image_options.specs.declared.asked.Form.{Form}
use Rattle.image_options.specs.declared.asked.Form.TheVariants.{Lines, Json}
use Rattle.cow_salvage.specs.declared.span.Span.{Span}
use Rattle.cow_reports.specs.Json.{spans_objects}
use Rattle.cow_reports.specs.Salvage.{spans_text}

abbrev pub differing_by : Form → List Span → List ℕ
differing_by Lines spans = spans_text (codes "differs") spans
differing_by Json spans = spans_objects spans

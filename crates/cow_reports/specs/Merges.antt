-- What is printed of a merge, by the form that is asked for.
use Rattle.std.specs.Prelude.{ℕ, List, codes}
use Rattle.sector.specs.declared.pair.Pair.{Pair}
use Rattle.cow_image.specs.declared.map.CowMap.{CowMap}
use Rattle.image_options.specs.declared.asked.Form.{Form}
use Rattle.image_options.specs.declared.asked.Form.TheVariants.{Lines, Json}
use Rattle.cow_reports.specs.Items.{number_object, run_objects}
use Rattle.cow_reports.specs.Left.{left_text, left_object}
use Rattle.cow_reports.specs.Lines.{runs_text}
use Rattle.cow_reports.specs.Shows.{line_text}

-- how many bytes will be written to the origin
abbrev pub bytes_by : Form → ℕ → List ℕ
bytes_by Lines bytes = line_text (codes "bytes") bytes
bytes_by Json bytes = number_object (codes "bytes") bytes

-- the pairs, in runs
abbrev pub runs_by : Form → List Pair → List ℕ
runs_by Lines pairs = runs_text pairs
runs_by Json pairs = run_objects pairs

-- how many pairs are gone, how many are left, and the store's status
abbrev pub left_by : Form → ℕ → ℕ → CowMap → List ℕ
left_by Lines gone left map = left_text gone left map
left_by Json gone left map = left_object gone left map

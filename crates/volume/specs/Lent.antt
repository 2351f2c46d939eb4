-- A write of the origin whose bytes are lent, and where one is taken. This project's own.
use Rattle.std.specs.Prelude.{◌≡◌, ◌==◌, ◌&&◌, not, ℕ, ◌+◌, Bool, List, length}
use Rattle.std.specs.Option.{is_some}
use Rattle.sector.specs.declared.range.Range.{Range}
use Rattle.device.specs.Layers.{Layer}
use Rattle.plain_machine.specs.declared.request.Dev.TheVariants.{Origin}
use Rattle.plain_machine.specs.declared.request.Op.TheVariants.{Write}
use Rattle.plain_machine.specs.declared.request.Request.{Request}
use Rattle.in_flight.specs.declared.flights.Flight.{Flight}
use Rattle.in_flight.specs.declared.flights.Route.TheVariants.{Origin as ToDisk}
use Rattle.volume.specs.Leaving.{is_quiet_of}
use Rattle.volume.specs.Submitting.{entered_of}
use Rattle.volume.specs.Volumed.{Volumed}
use Rattle.volume.specs.Whole.{IsWhole}

-- whether there is no snapshot, no merge, and nothing to do
abbrev pub is_bare : {B : Type 0} → Volumed B → Bool
is_bare v = (length v.snaps == 0) && (not (is_some v.merge) && is_quiet_of v)

-- the request to write these bytes
abbrev pub origin_write : Range → List ℕ → Request
origin_write range bytes = record { dev = Origin; op = Write bytes; range = range }

-- a write of these sectors in flight to the origin disk, the next request that a volume takes
pub record IsNextWrite {B : Type 0} (contents : B → List ℕ) (layers : B → List Layer) (size : B → ℕ) (range : Range) (bytes : List ℕ) (f : Flight) (v : Volumed B) : Type 0 where
  pub op : f.request.op ≡ Write bytes
  pub range_is : f.request.range ≡ range
  pub route : f.route ≡ ToDisk
  pub next : f.number ≡ v.requests + 1
  pub whole : IsWhole contents layers size (entered_of f v)

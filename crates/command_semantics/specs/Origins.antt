-- To be believed: `run`'s output, a volume's steps or its attach are said in these words.
-- Origins: made over a stack that nothing uses, and taken away again. The line is the kernel's `snapshot-origin`; the order
-- of the refusals is this project's own.
use Rattle.std.specs.Prelude.{◌==◌, ◌||◌, ℕ, true, List, [], ◌∷◌, ◌++◌, length, nat_lt, is_some, if◌then◌else◌, None, Result, Ok, Err}
use Rattle.std.specs.List.{remove}
use Rattle.sector.specs.declared.refusal.Refusal.{Refusal}
use Rattle.sector.specs.declared.refusal.Refusal.TheVariants.{Busy, NotQuiet, BadTable}
use Rattle.device.specs.Layers.{is_loud}
use Rattle.words.specs.Given.{◌>>=◌}
use Rattle.whole_commands.specs.Devices.{sectors_of}
use Rattle.command_semantics.specs.State.{Stacked, Volume, Table}
use Rattle.command_semantics.specs.Places.{stack_at, volume_at}
use Rattle.command_semantics.specs.Layers.{top}

-- the sectors of a line are those that the device must have
abbrev pub same_size : ℕ → ℕ → Result (Unit {0}) Refusal
same_size line device = if line == device then Ok tt else Err BadTable

-- an origin without snapshots over a stack
abbrev pub origin_on : List ℕ → Stacked → Volume
origin_on name stacked = record {
  origin = name;
  under = stacked.names;
  stale = stacked.stale;
  snaps = [];
  merging = None;
  state = record { origin = stacked.device; snaps = [] };
  given = 0;
  asked = 0;
  sound = is_loud stacked.device.layers;
  quiet = true;
  flying = None;
}

-- stack i goes to a new volume
abbrev pub moved_under : ℕ → Volume → Table → Table
moved_under i volume table = record { stacks = remove table.stacks i; volumes = table.volumes ++ volume ∷ [] }

-- an origin takes over the stack that the device of a name is the top of
unfoldable pub origin_made : List ℕ → ℕ → List ℕ → Table → Result Table Refusal
origin_made name sectors device table = do
  i ← top device table
  stacked ← stack_at i table
  _ ← same_size sectors (sectors_of stacked.device)
  Ok (moved_under i (origin_on name stacked) table)

-- the stack under an origin, when the origin goes
abbrev pub stack_under : Volume → Stacked
stack_under volume = record { names = volume.under; device = volume.state.origin; stale = volume.stale }

-- nothing goes from a volume with requests in flight, or with events left to do
abbrev pub still : Volume → Result (Unit {0}) Refusal
still volume = if volume.quiet then Ok tt else Err NotQuiet

-- an origin without snapshots and without a merge goes, and nothing uses its stack any more
unfoldable pub closed : ℕ → Table → Result Table Refusal
closed v table = do
  volume ← volume_at v table
  if nat_lt 0 (length volume.snaps) || is_some volume.merging then Err Busy else
      still volume >>= λ _. Ok (record { stacks = table.stacks ++ stack_under volume ∷ []; volumes = remove table.volumes v })

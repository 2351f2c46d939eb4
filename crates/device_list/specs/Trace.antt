-- What a trace says of a volume with names.
use Rattle.std.specs.Prelude.{◌≡◌, ℕ, List, [], Option, Some, None}
use Rattle.layers.specs.declared.stack.Stack.{Stack}
use Rattle.layers.specs.Stack.{stack_contents, stack_layers}
use Rattle.plain_machine.specs.declared.event.Event.{Event}
use Rattle.volume.specs.Volumed.{Volumed}
use Rattle.counted_volume.specs.Trace.{IsAllDue}
use Rattle.command_semantics.specs.State.{Merging as Begun, Volume}
use Rattle.command_semantics.specs.Status.{merge_state}
use Rattle.volume_trace.specs.Merging.{merge_item}
use Rattle.volume_trace.specs.Trace.{trace_of}
use Rattle.device_list.specs.Flights.{IsBehind}

-- the item of a merge, if one is begun
abbrev pub merge_text : Option Begun → List ℕ
merge_text None = []
merge_text (Some g) = merge_item g.names.snapshot (merge_state g.merge)

-- A line says what is in flight in the volume of events behind a volume, how far its merge is, and which events are due: all of them,
-- and no other.
pub record IsTraced (text : List ℕ) (volume : Volume) : Type 0 where
  pub events : Volumed Stack
  pub behind : IsBehind events volume
  pub due : List Event
  pub all : IsAllDue stack_contents stack_layers events due
  pub is : text ≡ trace_of volume.origin volume.snaps events.snaps events.flights (merge_text volume.merging) due

-- A volume with the names of its devices, as contracts see it: what it shows, and the very volume of events that stands behind.
-- This project's own.
use Rattle.std.specs.Global.{Vec}
use Rattle.std.specs.Prelude.{◌≡◌, ◌≢◌, ◌+◌, ℕ, true, List, Result, Err, IfErr, IfOk}
use Rattle.sector.specs.declared.refusal.Refusal.{Refusal}
use Rattle.layers.specs.declared.stack.Stack.{Stack}
use Rattle.layers.specs.Stack.{stack_contents, stack_layers}
use Rattle.plain_machine.specs.declared.event.Event.{Event}
use Rattle.plain_machine.specs.declared.request.Replied.{Replied}
use Rattle.volume.specs.Volumed.{Volumed, is_due_of}
use Rattle.command_semantics.specs.Sectors.{asked_of}
use Rattle.command_semantics.specs.State.{Stacked, Volume}
use Rattle.command_semantics.specs.declared.place.Role.{Role}
use Rattle.device_list.specs.Flights.{IsBehind}

pub record Backed : Type 0 where
  pub shown : Volume
  pub events : Volumed Stack

-- this was done to the volume of events behind
pub record InBacked (holds : Volumed Stack → Volumed Stack → Type 0) (old new : Backed) : Type 0 where
  pub was : IsBehind old.events old.shown
  pub is : IsBehind new.events new.shown
  pub did : holds old.events new.events

-- an event is not due in it
pub record IsNotDueIn (event : Event) (volume : Backed) : Type 0 where
  pub behind : IsBehind volume.events volume.shown
  pub not_due : is_due_of stack_contents stack_layers volume.events event ≢ true

-- What is left to take of a volume that was stopped: the stacks as they show themselves, and their devices.
pub record Left : Type 0 where
  pub shown : List Stacked
  pub devices : List Stack

-- these sectors of a device must be such as may be asked for: where they are not, so is answered
abbrev pub MayAsk : {A : Type 0} → Role → ℕ → ℕ → Backed → Result A Refusal → Type 0
MayAsk role first count volume result = IfErr (asked_of role first count volume.shown) (λ e. result ≡ Err e)

-- where they are, they count among those that it was asked for
abbrev pub Counts : Role → ℕ → ℕ → Backed → Backed → Type 0
Counts role first count old new = IfOk (asked_of role first count old.shown) (λ _. new.shown.asked ≡ old.shown.asked + count)

-- where nothing is in flight, no reply is told of a request that was
abbrev pub TellsNone : Backed → Vec Replied → Vec Replied → Type 0
TellsNone old before after = old.shown.quiet ≡ true → after.items ≡ before.items

-- Why a stack is not taken as the store of a snapshot, whatever is in flight and whichever device drops writes. The reasons and
-- their order are those of the volume of events behind (`volume/specs/Taking`), and of the store's load (`store/specs/Opening`).
use Rattle.std.specs.Prelude.{◌≡◌, ◌⊎◌, ℕ, true, is_some, length}
use Rattle.sector.specs.declared.refusal.Refusal.{Refusal}
use Rattle.layers.specs.declared.stack.Stack.{Stack}
use Rattle.layers.specs.Stack.{stack_contents, stack_size}
use Rattle.whole_commands.specs.Refusals.{is_starved}
use Rattle.volume.specs.Volumed.{Volumed}
use Rattle.volume.specs.Leaving.{is_quiet_of}
use Rattle.volume.specs.Taking.{IsNotTaken}
use Rattle.command_semantics.specs.Stacks.{device_of}
use Rattle.command_semantics.specs.State.{Stacked, Volume}

-- The volume turned it away: a mark of the stack comes first, then a merge that is begun, then what is left to do, then the
-- limits, then the chunk size; and then what the load of its bytes says, a fault, or want of memory.
pub record IsTurnedDown (chunk : ℕ) (stacked : Stacked) (refusal : Refusal) (volume : Volume) : Type 0 where
  pub events : Volumed Stack
  pub origin : Stack
  pub store : Stack
  pub quiet : is_quiet_of events ≡ volume.quiet
  pub merge : is_some events.merge ≡ is_some volume.merging
  -- what the limits count: the snapshots that there are, and the numbers that were given
  pub snaps : length events.snaps ≡ length volume.state.snaps
  pub given : events.attached ≡ volume.given
  pub origin_is : device_of origin ≡ volume.state.origin
  pub store_is : device_of store ≡ stacked.device
  pub cause : IsNotTaken stacked.stale chunk (stack_size origin) (stack_size store) (stack_contents store) events refusal

-- or memory or the room of its journal ran out
abbrev pub IsNotMet : ℕ → Stacked → Refusal → Volume → Type 0
IsNotMet chunk stacked refusal volume = (is_starved refusal ≡ true) ⊎ IsTurnedDown chunk stacked refusal volume

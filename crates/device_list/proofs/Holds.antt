-- What holds of a volume with its names after a call of the volume.
use Rattle.std.proofs.Common.{◌≡◌, ◌≤◌, ℕ, Bool, List, length, sym, ap, ◌∙◌}
use Rattle.std.specs.Prelude.{Option}
use Rattle.std.proofs.lemmas.List.{length-map}
use Rattle.layers.specs.declared.stack.Stack.{Stack}
use Rattle.layers.specs.Stack.{stack_layers, stack_size}
use Rattle.volume_commands.specs.Rested.{Rested, Attached, numbers_of}
use Rattle.volume_commands.specs.Kept.{KeepsDevices}
use Rattle.command_semantics.specs.State.{Names}
use Rattle.device_list.specs.Held.{IsHeld}
use Rattle.device_list.proofs.Merges.{still_begun}

-- as many snapshots
same_many : (before after : Rested Stack) → numbers_of after ≡ numbers_of before → length after.snaps ≡ length before.snaps
same_many before after same =
    let number : Attached Stack → ℕ = λ s. s.number in
    sym (length-map after.snaps number) ∙ ap length same ∙ length-map before.snaps number

-- a call that gives no numbers to snapshots, and asks for so many at most
pub goes_held : (names : List Names) (merging : Option Names) (before after : Rested Stack) (asked more : ℕ) (sound : Bool) → IsHeld names merging before asked sound → KeepsDevices stack_layers stack_size before after → after.requests ≤ more → IsHeld names merging after more sound
goes_held names merging before after asked more sound held kept requests =
    record {
      many = held.many ∙ sym (same_many before after kept.numbers);
      begun = held.begun ∙ still_begun before after kept.merging;
      requests = requests;
      loud = λ is. kept.loud ∙ held.loud is;
    }

-- and where none is numbered
pub stays_held : (names : List Names) (merging : Option Names) (before after : Rested Stack) (asked : ℕ) (sound : Bool) → IsHeld names merging before asked sound → KeepsDevices stack_layers stack_size before after → after.requests ≡ before.requests → IsHeld names merging after asked sound
stays_held names merging before after asked sound held kept requests = goes_held names merging before after asked asked sound held kept (rw requests held.requests)

-- The snapshots of a volume over stacks in order, as the settled machine has them.
use Rattle.std.proofs.Common.{◌≡◌, ◌<◌, List, length, map, sym, ◌∙◌, subst}
use Rattle.std.specs.Prelude.{Option, AllPairs, is_some}
use Rattle.std.proofs.lemmas.List.{length-map}
use Rattle.layers.specs.declared.stack.Stack.{Stack}
use Rattle.whole_commands.specs.Snaps.{Snap}
use Rattle.whole_commands.specs.Merges.{Merge, Merged}
use Rattle.volume.proofs.Relayered.{map_twice}
use Rattle.volume_commands.specs.Rested.{Rested, numbers_of}
use Rattle.volume_commands.specs.Ordered.{IsOrdered}
use Rattle.command_semantics.specs.State.{Names, merge_in}
use Rattle.device_list.specs.Held.{merged_inside, merging_with, settled_in}
use Rattle.device_list.proofs.Merges.{merge_is}
use Rattle.device_list.proofs.Places.{stack_snap}

-- a name for each
pub named_each : (names : List Names) (v : Rested Stack) → length names ≡ length v.snaps → length names ≡ length (settled_in v).snaps
named_each names v many = many ∙ sym (length-map v.snaps stack_snap)

-- in order of their numbers
pub numbers_rise : (v : Rested Stack) → AllPairs (λ m n. m < n) (numbers_of v) → AllPairs (λ m n. m < n) (map (λ (s : Snap). s.number) (settled_in v).snaps)
numbers_rise v rise = subst (AllPairs (λ m n. m < n)) (sym (map_twice stack_snap (λ (s : Snap). s.number) v.snaps)) rise

-- with their merge
pub ordered_with : (names : Option Names) (v : Rested Stack) → is_some names ≡ is_some v.events.merge → IsOrdered (merged_inside v) → (let m : Merged = record { volume = settled_in v; merge = merge_in (merging_with names v) } in IsOrdered m)
ordered_with names v begun is =
    let P : Option Merge → Type 0 = λ o. (let m : Merged = record { volume = settled_in v; merge = o } in IsOrdered m) in
    subst P (sym (merge_is names v begun)) is

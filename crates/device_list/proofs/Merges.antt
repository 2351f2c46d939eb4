-- The merge of a volume over stacks, as the volume with names has it.
use Rattle.std.proofs.Common.{◌≡◌, ℕ, true, false, refl, sym, ap, ◌∙◌}
use Rattle.std.specs.Prelude.{Option, Some, None, IfSome, is_some}
use Rattle.layers.specs.declared.stack.Stack.{Stack}
use Rattle.layers.specs.Stack.{stack_contents, stack_layers}
use Rattle.whole_commands.specs.Merges.{Merge, Merged}
use Rattle.event_machine.specs.MergeRest.{merge_in as machine_merge_in}
use Rattle.event_machine.specs.MergeSeen.{held_in}
use Rattle.merge.specs.Merging.{Merging}
use Rattle.volume.specs.Asking.{merging_number}
use Rattle.volume.specs.Moved.{merge_seen}
use Rattle.volume_commands.specs.Rested.{Rested}
use Rattle.command_semantics.specs.Stacks.{device_of}
use Rattle.command_semantics.specs.State.{Names, Merging as Named, merge_in, names_in, with_merge}
use Rattle.device_list.specs.Held.{merged_inside, merging_with, settled_in, with_names}

-- a merge of the volume of events, as the settled machine has it
abbrev pub merge_by : Option (Merging Stack) → Option Merge
merge_by o = machine_merge_in (held_in (merge_seen stack_contents stack_layers o))

is_merge : (names : Names) (o : Option (Merging Stack)) → true ≡ is_some o → merge_in (with_names names (merge_by o)) ≡ merge_by o
is_merge names None same = absurd (cc)
is_merge names (Some m) same = refl

no_merge : (o : Option (Merging Stack)) → false ≡ is_some o → None ≡ merge_by o
no_merge None same = refl
no_merge (Some m) same = absurd (cc)

-- the merge that its names stand beside
pub merge_is : (names : Option Names) (v : Rested Stack) → is_some names ≡ is_some v.events.merge → merge_in (merging_with names v) ≡ (merged_inside v).merge
merge_is None v same = no_merge v.events.merge same
merge_is (Some names) v same = is_merge names v.events.merge same

are_names : (names : Names) (o : Option (Merging Stack)) → true ≡ is_some o → names_in (with_names names (merge_by o)) ≡ Some names
are_names names None same = absurd (cc)
are_names names (Some m) same = refl

-- and its names
pub names_are : (names : Option Names) (v : Rested Stack) → is_some names ≡ is_some v.events.merge → names_in (merging_with names v) ≡ names
names_are None v same = refl
names_are (Some names) v same = are_names names v.events.merge same

goes : (names : Names) (o p : Option (Merging Stack)) → true ≡ is_some o → true ≡ is_some p → with_merge (with_names names (merge_by o)) (merge_by p) ≡ with_names names (merge_by p)
goes names None p some same = absurd (cc)
goes names (Some m) None some same = absurd (cc)
goes names (Some m) (Some n) some same = refl

-- it goes on under the names that it has
pub goes_on : (names : Option Names) (before after : Rested Stack) → is_some names ≡ is_some before.events.merge → is_some names ≡ is_some after.events.merge → with_merge (merging_with names before) (merged_inside after).merge ≡ merging_with names after
goes_on None before after was is = refl
goes_on (Some names) before after was is = goes names before.events.merge after.events.merge was is

numbered : (o : Option (Merging Stack)) → is_some (merging_number o) ≡ is_some o
numbered None = refl
numbered (Some m) = refl

-- a call that keeps the number of the merge keeps whether one is begun
pub still_begun : (before after : Rested Stack) → merging_number after.events.merge ≡ merging_number before.events.merge → is_some before.events.merge ≡ is_some after.events.merge
still_begun before after same = sym (numbered before.events.merge) ∙ ap (λ (o : Option ℕ). is_some o) (sym same) ∙ numbered after.events.merge

-- there is a merge where there are names
pub begun_too : (names : Option Names) (v : Rested Stack) → is_some names ≡ is_some v.events.merge → is_some (merging_with names v) ≡ is_some names
begun_too None v same = refl
begun_too (Some names) v same = some names v.events.merge same
  where
    some : (names : Names) (o : Option (Merging Stack)) → true ≡ is_some o → is_some (with_names names (merge_by o)) ≡ true
    some names None same = absurd (cc)
    some names (Some m) same = refl

-- the settled machine's volume with its merge, as the volume with names has it
pub inside_is : (names : Option Names) (v : Rested Stack) → is_some names ≡ is_some v.events.merge → (let m : Merged = record { volume = settled_in v; merge = merge_in (merging_with names v) } in m) ≡ merged_inside v
inside_is names v same = ap (λ (g : Option Merge). let m : Merged = record { volume = settled_in v; merge = g } in m) (merge_is names v same)

some_by : (o : Option (Merging Stack)) → is_some (merge_by o) ≡ is_some o
some_by None = refl
some_by (Some m) = refl

-- where the merge is as it was, one is begun where one was
pub begun_as_before : (before after : Rested Stack) → (merged_inside after).merge ≡ (merged_inside before).merge → is_some before.events.merge ≡ is_some after.events.merge
begun_as_before before after same = sym (some_by before.events.merge) ∙ ap (λ (o : Option Merge). is_some o) (sym same) ∙ some_by after.events.merge

-- and stands under its names as it stood
pub merging_as_before : (names : Option Names) (before after : Rested Stack) → (merged_inside after).merge ≡ (merged_inside before).merge → merging_with names after ≡ merging_with names before
merging_as_before None before after same = refl
merging_as_before (Some names) before after same = ap (λ (o : Option Merge). with_names names o) same

-- the merge of the settled machine that a merge of the volume of events is
abbrev pub machine_merge : Merging Stack → Merge
machine_merge m = record {
  number = m.number;
  chunk = m.state.chunk;
  failed = m.failed;
  current = m.state.current;
  next = m.next;
  store = device_of m.device;
}

pub merge_of_one : (v : Rested Stack) (m : Merging Stack) → v.events.merge ≡ Some m → (g : Merge) × ((merged_inside v).merge ≡ Some g) × (device_of m.device ≡ g.store) × (m.state.chunk ≡ g.chunk)
merge_of_one v m is = (
  machine_merge m,
  ap (λ (o : Option (Merging Stack)). merge_by o) is,
  refl,
  refl,
)

-- its chunk size
pub chunk_of_one : (v : Rested Stack) (r : Option ℕ) → IfSome r (λ chunk. (m : Merging Stack) × (v.events.merge ≡ Some m) × (chunk ≡ m.state.chunk)) → IfSome r (λ chunk. (g : Merge) × ((merged_inside v).merge ≡ Some g) × (chunk ≡ g.chunk))
chunk_of_one v None some = tt
chunk_of_one v (Some chunk) some = (machine_merge some.0, ap (λ (o : Option (Merging Stack)). merge_by o) some.1, some.2)

-- and its store
pub store_of_one : {R : Type 0} (now : R → Stack) (v : Rested Stack) (r : Option R) → IfSome r (λ d. (m : Merging Stack) × (v.events.merge ≡ Some m) × (now d ≡ m.device)) → IfSome r (λ d. (g : Merge) × ((merged_inside v).merge ≡ Some g) × (device_of (now d) ≡ g.store))
store_of_one now v None some = tt
store_of_one now v (Some d) some = (machine_merge some.0, ap (λ (o : Option (Merging Stack)). merge_by o) some.1, ap device_of some.2)

-- no names stand beside none
pub no_names : (names : Option Names) (v : Rested Stack) → (merged_inside v).merge ≡ None → merging_with names v ≡ None
no_names None v none = refl
no_names (Some names) v none = ap (with_names names) none

-- names stand beside one
pub some_names : (names : Option Names) (v : Rested Stack) (g : Merge) → is_some names ≡ is_some v.events.merge → (merged_inside v).merge ≡ Some g → (h : Named) × (merging_with names v ≡ Some h) × (h.merge ≡ g)
some_names None v g same is = absurd (clash v.events.merge same is)
  where
    clash : (o : Option (Merging Stack)) → false ≡ is_some o → merge_by o ≡ Some g → ⊥
    clash None same is = absurd (cc)
    clash (Some m) same is = absurd (cc)
some_names (Some names) v g same is = (record { names = names; merge = g }, ap (with_names names) is, refl)

pub names_stand : (names : Names) (v : Rested Stack) → true ≡ is_some v.events.merge → (h : Named) × (merging_with (Some names) v ≡ Some h) × (h.names ≡ names)
names_stand names v same = stand v.events.merge same
  where
    stand : (o : Option (Merging Stack)) → true ≡ is_some o → (h : Named) × (with_names names (merge_by o) ≡ Some h) × (h.names ≡ names)
    stand None same = absurd (cc)
    stand (Some m) same = (record { names = names; merge = machine_merge m }, refl, refl)

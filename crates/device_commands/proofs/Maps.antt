-- What `map` tells of a device of the volume at a place.
use Rattle.std.proofs.Common.{◌≡◌, ℕ, ◌<◌, List, length, get_or}
use Rattle.std.specs.Prelude.{Option, Some, None, Result, Ok, Err, slice_get}
use Rattle.sector.specs.declared.refusal.Refusal.{Refusal}
use Rattle.words.specs.Given.{Gives}
use Rattle.layers.specs.declared.stack.Stack.{Stack}
use Rattle.snapshot.specs.Kept.{Kept}
use Rattle.volume.specs.Volumed.{Volumed}
use Rattle.command_semantics.specs.declared.place.Place.TheVariants.{In}
use Rattle.command_semantics.specs.declared.place.Role.{Role}
use Rattle.command_semantics.specs.declared.place.Role.TheVariants.{Origin, Under, Snapshot, Store, Merging, MergingStore}
use Rattle.command_semantics.specs.State.{Volume, Table}
use Rattle.command_semantics.specs.Places.{volume_at}
use Rattle.command_semantics.specs.Mapping.{map_at, map_in}
use Rattle.command_semantics.proofs.AtPlace.{volume_here}
use Rattle.device_list.specs.Mapping.{IsMapOf, kept_map_if, map_behind}
use Rattle.device_commands.specs.Mapping.{IsMapHeldIn}
use Rattle.device_commands.proofs.NeverFull.{IsNeverFull, answer_never, bad_table_never, either_never, no_device_never}
use Rattle.device_commands.proofs.RulesNeverFull.{gives_never}

pub mapped_in : (r : Result (List ℕ) Refusal) (v : ℕ) (role : Role) (table : Table) (old : Volume) → v < length table.volumes → old ≡ get_or table.volumes v old → Gives r (map_in role old) → Gives r (map_at (In v role) table)
unfolding map_at
mapped_in r v role table old lt at did = let there = volume_here table v old lt at in rw there did

pub map_held_in : (r : Result (List ℕ) Refusal) (role : Role) (v : ℕ) (table : Table) (old : Volume) → v < length table.volumes → old ≡ get_or table.volumes v old → IsMapOf r role old → IsMapHeldIn r role (volume_at v table)
map_held_in r role v table old lt at says = let there = volume_here table v old lt at in rw there says

-- no journal is asked
kept_never : (sectors : ℕ) (kept : Option (Kept Stack)) → IsNeverFull (kept_map_if sectors kept)
kept_never sectors None = no_device_never
kept_never sectors (Some s) = either_never s.live answer_never (record { other = λ h. cc })

behind_never : (k : ℕ) (volume : Volume) (events : Volumed Stack) → IsNeverFull (map_behind k volume events)
behind_never k volume events = kept_never _ (slice_get events.snaps k)

pub map_never : (result : Result (List ℕ) Refusal) (role : Role) (volume : Volume) → IsMapOf result role volume → IsNeverFull result
map_never result (Snapshot k) volume is = gives_never result _ is.2 (behind_never k volume is.0)
map_never result Origin volume is = rw is bad_table_never
map_never result (Under depth) volume is = rw is bad_table_never
map_never result (Store k depth) volume is = rw is bad_table_never
map_never result Merging volume is = rw is (record { other = λ h. cc })
map_never result (MergingStore depth) volume is = rw is bad_table_never

-- Once a merge is finished, what its origin shows stands on its device.
use Rattle.std.proofs.Common.{◌≡◌, ℕ, ◌<◌, List, ◌∷◌, [], ◌++◌, length, set, refl, sym, ap, ◌∙◌, arith}
use Rattle.std.specs.Prelude.{Option, Some, None, Ok, slice_set}
use Rattle.std.proofs.lemmas.List.{get_or-set_same, length-set}
use Rattle.command_semantics.specs.State.{Merging, Stacked, Volume, Table}
use Rattle.command_semantics.specs.Events.{origin_by}
use Rattle.command_semantics.specs.Origins.{still}
use Rattle.command_semantics.specs.Places.{volume_at}
use Rattle.command_semantics.specs.Merging.{all_merged, finished, finished_by, merge_finished}
use Rattle.command_semantics.proofs.AtPlace.{volume_here}
use Rattle.command_semantics.proofs.Keeping.{came_by, same_ok, volume_there}
use Rattle.commands_on_saved_arrays.specs.Undoing.{IsOnDisk}

-- no merge is begun any more
no_merge : (merging : Option Merging) (volume : Volume) (parts : Stacked × Volume) → finished_by merging volume ≡ Ok parts → parts.1.merging ≡ None
no_merge None volume parts is = absurd (cc)
no_merge (Some g) volume parts is =
    let a = came_by (all_merged g.merge) _ parts is in
    let b = came_by (still volume) _ parts a.2 in
    ap (λ (p : Stacked × Volume). p.1.merging) (sym (same_ok _ parts b.2))

unmerged : (volume : Volume) (parts : Stacked × Volume) → finished volume ≡ Ok parts → parts.1.merging ≡ None
unfolding finished
unmerged volume parts is = no_merge volume.merging volume parts is

pub finished_on_disk : (name : List ℕ) (table new : Table) → merge_finished name table ≡ Ok new → IsOnDisk name table new
unfolding merge_finished
finished_on_disk name table new is =
    let a = came_by (origin_by name table) _ new is in
    let b = came_by (volume_at a.0 table) _ new a.2 in
    let c = came_by (finished b.0) _ new b.2 in
    let v : ℕ = a.0 in
    let after : Volume = c.0.1 in
    let there = volume_there v table b.0 b.1 in
    let left : Table = record { stacks = table.stacks ++ c.0.0 ∷ []; volumes = slice_set table.volumes v after } in
    let len : length (set table.volumes v after) ≡ length table.volumes = length-set table.volumes v after in
    let lt : v < length table.volumes = there.0 in
    record {
      place = v;
      volume = after;
      origin = a.1;
      there = ap (volume_at v) (sym (same_ok left new c.2)) ∙ volume_here left v after (omega (arith, lt, len)) (sym (get_or-set_same table.volumes v after after lt));
      disk = let none = unmerged b.0 c.0 c.1 in rw none refl;
    }

-- A quiet volume, no device of which drops writes, is in order.
use Rattle.std.proofs.Common.{◌≡◌, ℕ, ◌<◌, ◌≤◌, true, List, [], ◌∷◌, map, refl, ap, sym, subst}
use Rattle.std.specs.Prelude.{AllPairs, Some, None}
use Rattle.std.specs.List.{All}
use Rattle.device.specs.Layers.{Layer}
use Rattle.chunk.specs.Sizes.{is_chunk}
use Rattle.whole_commands.specs.Merges.{Merged}
use Rattle.whole_commands.specs.MergeShown.{IsMerging, IsWell as IsOrderly}
use Rattle.whole_commands.proofs.Each.{Each, all_from}
use Rattle.whole_commands.proofs.Chunks.{HasChunks}
use Rattle.whole_commands.specs.Beside.{chunk_beside}
use Rattle.event_machine.specs.Held.{MergeHeld}
use Rattle.event_machine.specs.MergeRest.{IsBetween, in_big_steps}
use Rattle.snapshot.specs.Kept.{Kept}
use Rattle.snapshot_list.specs.Numbers.{number_of_snap}
use Rattle.volume.specs.Volumed.{Volumed, piece_with}
use Rattle.volume.specs.Moved.{moving_of}
use Rattle.volume_commands.specs.Rested.{rested_of, merged_of, attached_of, snap_of}
use Rattle.volume_commands.specs.Ordered.{IsOrdered}
use Rattle.volume_commands.specs.Serving.{IsAsLarge}
use Rattle.volume_commands.proofs.Rests.{IsWell, well_whole, well_orders}
use Rattle.volume_commands.proofs.PlainReads.{settled_well, IsUnder, under_by}
use Rattle.volume_commands.proofs.Going.{chunk_least}

module _ {B : Type 0} (contents : B → List ℕ) (layers : B → List Layer) (size : B → ℕ) where
  numbers_same : (snaps : List (Kept B)) → map (λ s. s.number) (map (snap_of contents layers) (map attached_of snaps)) ≡ map number_of_snap snaps
  numbers_same [] = refl
  numbers_same (s ∷ snaps) = ap (λ ns. s.number ∷ ns) (numbers_same snaps)

  pub ordered_by : (v : Volumed B) → AllPairs (λ a b. a < b) (map number_of_snap v.snaps) → All (IsAsLarge (piece_with v.merge v.snaps)) v.snaps × (is_chunk (piece_with v.merge v.snaps) ≡ true)
      → IsBetween (size v.origin) (moving_of contents layers None v) → ((h : MergeHeld) → (moving_of contents layers None v).merge ≡ Some h → IsMerging (size v.origin) (in_big_steps h (moving_of contents layers None v)))
      → IsOrdered (merged_of contents layers (rested_of v))
  ordered_by v numbers chunks between under =
      let m : Merged = merged_of contents layers (rested_of v) in
      let n : ℕ = piece_with v.merge v.snaps in
      let least : chunk_beside m ≡ n = chunk_least contents layers v in
      let ok : is_chunk n ≡ true = chunks.1 in
      let well : IsWell (size v.origin) n m.volume = settled_well contents layers size n v chunks.0 between in
      record {
        sectors = size v.origin;
        numbers = subst (AllPairs (λ a b. a < b)) (sym (numbers_same v.snaps)) numbers;
        is = record {
          allowed = subst (λ (k : ℕ). is_chunk k ≡ true) (sym least) ok;
          whole = well_whole (size v.origin) n ok m.volume well;
          snaps = all_from (IsOrderly (size v.origin)) m.volume.snaps (well_orders (size v.origin) n ok m.volume well);
          chunks = all_from (HasChunks (chunk_beside m)) m.volume.snaps (subst (λ (k : ℕ). Each (HasChunks k) m.volume.snaps) (sym least) well.chunks);
        };
        merge = λ g is. (let h : IsUnder contents layers size v under g = under_by contents layers size v under (moving_of contents layers None v).merge refl g is in (subst (λ (k : ℕ). k ≤ g.chunk) (sym least) h.1, h.0));
      }

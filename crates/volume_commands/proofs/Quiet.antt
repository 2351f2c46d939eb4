-- A volume of which nothing is left to do.
use Rattle.std.proofs.Common.{◌≡◌, ℕ, true, false, List, [], ◌∷◌, length, map, Option, Some, None, refl, ap, ◌∙◌}
use Rattle.std.specs.Prelude.{◌==◌, ◌&&◌, not}
use Rattle.std.specs.List.{All, list_all}
use Rattle.std.proofs.lemmas.List.Elements.{All-head, All-tail}
use Rattle.device.specs.Layers.{Layer}
use Rattle.volume_laws.specs.Waits.{IsDone, IsQuiet}
use Rattle.merge.specs.Due.{has_group_of}
use Rattle.merge.specs.Merging.{Merging}
use Rattle.snapshot.specs.Kept.{Kept, books_of as snap_books}
use Rattle.volume.specs.Asking.{IsMergeStill}
use Rattle.volume.specs.Volumed.{Volumed, books_of}
use Rattle.volume.specs.Leaving.{has_group_in, is_done_of, is_quiet_of}

is_none : {X : Type 0} (xs : List X) → xs ≡ [] → (length xs == 0) ≡ true
is_none xs e = ap (λ ys. length ys == 0) e

-- a merge that does nothing by itself has no group
pub still_free : {B : Type 0} (m : Option (Merging B)) → IsMergeStill m → has_group_in m ≡ false
still_free None still = refl
still_free (Some m) still = ap has_group_of still.0

module _ {B : Type 0} (contents : B → List ℕ) (layers : B → List Layer) (size : B → ℕ) where
  done_by : (s : Kept B) → s.copies ≡ [] → s.marks ≡ [] → s.untried ≡ false → is_done_of s ≡ true
  done_by s copies marks tried = ap (λ b. b && (length s.marks == 0) && not s.untried) (is_none s.copies copies) ∙ ap (λ b. b && not s.untried) (is_none s.marks marks) ∙ ap not tried

  done_is : (s : Kept B) → IsDone (snap_books contents layers s) → is_done_of s ≡ true
  done_is s done = done_by s done.copies done.marks done.tried

  all_done : (snaps : List (Kept B)) → All IsDone (map (snap_books contents layers) snaps) → list_all is_done_of snaps ≡ true
  all_done [] all = refl
  all_done (s ∷ snaps) all =
      ap (λ b. b && list_all is_done_of snaps) (done_is s (All-head IsDone (snap_books contents layers s) (map (snap_books contents layers) snaps) all))
      ∙ all_done snaps (All-tail IsDone (snap_books contents layers s) (map (snap_books contents layers) snaps) all)

  -- a volume with nothing in flight and no group is quiet where its snapshots are done
  pub free_quiet : (v : Volumed B) → has_group_in v.merge ≡ false → IsQuiet (books_of contents layers size v) → is_quiet_of v ≡ true
  free_quiet v free quiet =
      ap (λ b. b && (not (has_group_in v.merge) && list_all is_done_of v.snaps)) (is_none v.flights quiet.requests)
      ∙ ap (λ b. not b && list_all is_done_of v.snaps) free ∙ all_done v.snaps quiet.snaps

  pub quiet_is : (v : Volumed B) → v.merge ≡ None → IsQuiet (books_of contents layers size v) → is_quiet_of v ≡ true
  quiet_is v alone quiet = free_quiet v (ap has_group_in alone) quiet

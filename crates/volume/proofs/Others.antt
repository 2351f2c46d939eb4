-- The snapshot that is being merged is none of the others, by its number.
use Rattle.std.proofs.Common.{◌≡◌, ◌≢◌, ℕ, ◌<◌, Bool, false, List, Option, Some, None, length, get_or, refl, sym, ◌∙◌}
use Rattle.std.specs.Prelude.{◌==◌}
use Rattle.std.specs.List.{All}
use Rattle.std.proofs.lemmas.Bool.{false≢true}
use Rattle.std.proofs.lemmas.List.Folds.{list_any_none}
use Rattle.device.specs.Layers.{Layer}
use Rattle.merge.specs.Merging.{Merging}
use Rattle.snapshot.specs.Kept.{Kept}
use Rattle.snapshot_list.specs.Finding.{place_of_snap}
use Rattle.snapshot_list.proofs.Finds.{position_any}
use Rattle.volume.specs.Submitting.{is_merging}
use Rattle.volume.specs.Volumed.{Volumed}
use Rattle.volume.specs.Whole.{IsWhole}
use Rattle.volume.proofs.MergeDue.{merged}
use Rattle.volume.proofs.MovedDue.{unequal}

-- a number that no snapshot has is found nowhere
pub found_nowhere : {B : Type 0} (number : ℕ) (snaps : List (Kept B)) → All (λ s. s.number ≢ number) snaps → place_of_snap number snaps ≡ None
found_nowhere {B = B} number snaps apart = at (place_of_snap number snaps) refl
  where
    test : Kept B → Bool
    test s = s.number == number

    at : (r : Option ℕ) → place_of_snap number snaps ≡ r → place_of_snap number snaps ≡ None
    at None e = e
    at (Some j) e = absurd (false≢true (sym (list_any_none test snaps (λ k d lt. unequal (get_or snaps k d).number number (apart k d lt))) ∙ position_any test snaps j e))

module _ {B : Type 0} (contents : B → List ℕ) (layers : B → List Layer) (size : B → ℕ) (v : Volumed B) (whole : IsWhole contents layers size v) where
  -- the merge's number is none of the others'
  pub merging_apart : (m : Merging B) → v.merge ≡ Some m → place_of_snap m.number v.snaps ≡ None
  merging_apart m is = found_nowhere m.number v.snaps (merged contents layers size v whole m is).apart

  -- and another's number is not the merge's
  pub other_is : (k : ℕ) (d : Kept B) → k < length v.snaps → is_merging (get_or v.snaps k d).number v.merge ≡ false
  other_is k d within = at v.merge refl
    where
      at : (merge : Option (Merging B)) → v.merge ≡ merge → is_merging (get_or v.snaps k d).number merge ≡ false
      at None is = refl
      at (Some m) is = unequal m.number (get_or v.snaps k d).number (λ e. (merged contents layers size v whole m is).apart k d within (sym e))

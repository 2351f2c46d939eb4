-- The store that is merged, and its name.
use Rattle.std.proofs.Common.{◌≡◌, ◌⊎◌, inl, inr, ℕ, Bool, false, List, Option, Some, None, ap, refl, sym, slice_index_or, ◌∙◌, ◌∷◌, [], drop, length, min, arith}
use Rattle.std.proofs.lemmas.Grind.{common_steps}
use Rattle.chunk_alloc.specs.declared.usage.Usage.{Usage}
use Rattle.cow_header.specs.declared.found.Found.{Found}
use Rattle.cow_header.specs.declared.found.Found.TheVariants.{Header}
use Rattle.device.specs.Layers.{Layer}
use Rattle.snapshot.specs.Kept.{Kept}
use Rattle.snapshot_list.specs.Finding.{place_of_snap}
use Rattle.merge.specs.Merging.{Merging}
use Rattle.volume.specs.Asking.{HasNone, HoldsOf, merging_number, merging_usage}
use Rattle.volume.specs.Beginning.{IsMergeBegun}
use Rattle.volume.specs.Layering.{Measures}
use Rattle.volume.specs.Leaving.{usage_of}
use Rattle.volume.specs.Submitting.{is_merging}
use Rattle.volume.specs.Volumed.{Volumed}
use Rattle.volume_opening.specs.Loaded.{IsLoaded}
use Rattle.serve_commands.specs.Merging.{merging_name}

same_number : (a b : ℕ) → (let x : Option ℕ = Some a in x) ≡ Some b → a ≡ b
same_number a b e = cc

-- all behind the first, if there is one
pub behind_first : {A : Type 0} (xs : List A) → drop (min (length xs) 1) xs ≡ drop 1 xs
behind_first [] = refl
behind_first (x ∷ xs) = ap (λ k. drop k (x ∷ xs)) (let one : min (length (x ∷ xs)) 1 ≡ 1 = grind (arith, common_steps) in one)

module _ {B : Type 0} where
  -- a merge has its own number
  own_number : (merge : Option (Merging B)) (number : ℕ) → merging_number merge ≡ Some number → is_merging number merge ≡ false → ⊥
  own_number merge number e other = grind arith

  same_merge : (m n : Merging B) → (let x : Option (Merging B) = Some m in x) ≡ Some n → m ≡ n
  same_merge m n e = cc

  none_and_some : (m : Merging B) → (let x : Option (Merging B) = None in x) ≡ Some m → ⊥
  none_and_some m e = cc

  none_begun : (merge : Option (Merging B)) → merging_number merge ≡ None → merge ≡ None
  none_begun None e = refl
  none_begun (Some m) e = absurd (let no : ⊥ = cc in no)

  -- no number, no merge
  pub no_merge : (v : Volumed B) → merging_number v.merge ≡ None → v.merge ≡ None
  no_merge v e = none_begun v.merge e

  pub no_usage : (v : Volumed B) (m : Merging B) → merging_number v.merge ≡ None → v.merge ≡ Some m → (usage : Option Usage) → usage ≡ Some (merging_usage m)
  no_usage v m e is usage = absurd (none_and_some m (sym (none_begun v.merge e) ∙ is))

  -- the merge's own number is there
  pub not_none : (v : Volumed B) (number : ℕ) → merging_number v.merge ≡ Some number → HasNone number v → ⊥
  not_none v number e none = own_number v.merge number e none.merge

  -- the device under the merge's number is its own
  pub store_of_merge : (v : Volumed B) (number : ℕ) (device : B) (m : Merging B) → merging_number v.merge ≡ Some number
      → HoldsOf (λ m. device ≡ m.device) (λ s. device ≡ s.device) number v → v.merge ≡ Some m → device ≡ m.device
  store_of_merge v number device m e (inl h) is = h.3 ∙ ap (λ (n : Merging B). n.device) (same_merge h.0 m (sym h.1 ∙ is))
  store_of_merge v number device m e (inr h) is = absurd (own_number v.merge number e h.0)

  -- and so is the usage
  pub usage_of_merge : (v : Volumed B) (number : ℕ) (usage : Option Usage) (m : Merging B) → merging_number v.merge ≡ Some number
      → HoldsOf (λ m. usage ≡ Some (merging_usage m)) (λ s. usage ≡ usage_of s) number v → v.merge ≡ Some m → usage ≡ Some (merging_usage m)
  usage_of_merge v number usage m e (inl h) is = h.3 ∙ ap (λ (n : Merging B). Some (merging_usage n)) (same_merge h.0 m (sym h.1 ∙ is))
  usage_of_merge v number usage m e (inr h) is = absurd (own_number v.merge number e h.0)

  -- a merge of the number that was found by a name is of that name
  pub merged_name : (name : B → List ℕ) (number k : ℕ) (cow : List ℕ) (old new : Volumed B) → place_of_snap number old.snaps ≡ Some k
      → ((s : Kept B) → s ≡ slice_index_or old.snaps k s → name s.device ≡ cow) → IsMergeBegun number old new → merging_name name new.merge ≡ Some cow
  merged_name name number k cow old new found named begun =
      let same : begun.place ≡ k = same_number begun.place k (sym begun.found ∙ found) in
      ap (λ (v : Volumed B). merging_name name v.merge) begun.becomes ∙ ap Some (named begun.snap (begun.is ∙ ap (λ i. slice_index_or old.snaps i begun.snap) same))

  -- a snapshot that is loaded begins no merge
  pub loaded_keeps : (holds : B → ℕ → List ℕ → Type 0) (m : Measures B) (layers : B → List Layer) (failed : B → Bool) (chunk : ℕ) (overflow : Bool) (store : B) (number : ℕ) (found : Found) (old new : Volumed B)
      → IsLoaded holds m layers failed chunk overflow store number found old new → new.merge ≡ old.merge
  loaded_keeps holds m layers failed chunk overflow store number found old new loaded = ap (λ (v : Volumed B). v.merge) loaded.attached.gained.becomes

  pub written_keeps : (holds : B → ℕ → List ℕ → Type 0) (m : Measures B) (layers : B → List Layer) (failed : B → Bool) (chunk : ℕ) (overflow : Bool) (store : B) (number : ℕ) (old new : Volumed B)
      → (own : ℕ) × IsLoaded holds m layers failed chunk overflow store number (Header own) old new → new.merge ≡ old.merge
  written_keeps holds m layers failed chunk overflow store number old new loaded = ap (λ (v : Volumed B). v.merge) loaded.1.attached.gained.becomes

-- A snapshot that is not the one being merged, and the one that is.
use Rattle.std.proofs.Common.{◌≡◌, ◌≢◌, ◌⊎◌, inl, inr, ℕ, true, false, Option, Some, None, refl, sym, ◌∙◌, ap, subst}
use Rattle.std.specs.Prelude.{◌==◌, IfSome}
use Rattle.std.specs.Option.{option_eq}
use Rattle.std.proofs.lemmas.Bool.{eqb-true, eq-eqb}
use Rattle.snapshot_list.specs.Finding.{place_of_snap}
use Rattle.merge.specs.Merging.{Merging}
use Rattle.volume.specs.Asking.{merging_number}
use Rattle.volume.specs.Submitting.{is_merging}
use Rattle.volume.specs.Volumed.{Volumed}

pub is_number : (told : Option ℕ) (number : ℕ) → option_eq (λ (m n : ℕ). m == n) told (Some number) ≡ true → told ≡ Some number
is_number None number e = absurd (cc)
is_number (Some m) number e = ap (λ (n : ℕ). Some n) (eqb-true m number e)

pub not_number : (told : Option ℕ) (number : ℕ) → option_eq (λ (m n : ℕ). m == n) told (Some number) ≡ false → told ≢ Some number
not_number told number e is =
    let two : true ≡ false = sym (ap (λ (o : Option ℕ). option_eq (λ (m n : ℕ). m == n) o (Some number)) is ∙ eq-eqb number number refl) ∙ e in absurd (cc)

-- the one that is being merged is none of the snapshots
pub merging_apart : {B : Type 0} (number : ℕ) (v : Volumed B) (told : Option ℕ) → IfSome told (λ n. place_of_snap n v.snaps ≡ None) → told ≡ Some number → place_of_snap number v.snaps ≡ None
merging_apart number v told apart is = subst (λ (o : Option ℕ). IfSome o (λ n. place_of_snap n v.snaps ≡ None)) is apart

-- what holds of a snapshot that is not being merged holds of one of the others
pub holds_other : {B OfSnap : Type 0} (OfMerge : Merging B → Type 0) (number : ℕ) (v : Volumed B) (told : Option ℕ) → told ≡ merging_number v.merge → told ≢ Some number
    → ((m : Merging B) × (v.merge ≡ Some m) × (m.number ≡ number) × OfMerge m) ⊎ ((is_merging number v.merge ≡ false) × OfSnap) → OfSnap
holds_other OfMerge number v told is other (inl merging) = absurd (other (is ∙ ap merging_number merging.1 ∙ ap (λ (n : ℕ). Some n) merging.2))
holds_other OfMerge number v told is other (inr snap) = snap.1

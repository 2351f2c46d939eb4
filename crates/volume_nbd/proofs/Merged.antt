-- The device of the store that is being merged.
use Rattle.std.proofs.Common.{◌≡◌, ◌⊎◌, inl, inr, ℕ, Bool, false, Option, Some, ap, arith, sym, ◌∙◌}
use Rattle.merge.specs.Merging.{Merging}
use Rattle.volume.specs.Asking.{HasNone, HoldsOf, merging_number}
use Rattle.volume.specs.Submitting.{is_merging}
use Rattle.volume.specs.Volumed.{Volumed}
use Rattle.volume_nbd.specs.Faults.{is_merging_failed}

module _ {B : Type 0} (failed : B → Bool) where
  -- a merge has its own number
  own_number : (merge : Option (Merging B)) (number : ℕ) → merging_number merge ≡ Some number → is_merging number merge ≡ false → ⊥
  own_number merge number e other = grind arith

  pub failed_of_store : (v : Volumed B) (number : ℕ) (device : B) → merging_number v.merge ≡ Some number
      → HoldsOf (λ m. device ≡ m.device) (λ s. device ≡ s.device) number v → is_merging_failed failed v.merge ≡ failed device
  failed_of_store v number device e (inl h) = ap (is_merging_failed failed) h.1 ∙ ap failed (sym h.3)
  failed_of_store v number device e (inr h) = absurd (own_number v.merge number e h.0)

  pub none_of_store : (merge : Option (Merging B)) (number : ℕ) → merging_number merge ≡ Some number → is_merging number merge ≡ false → is_merging_failed failed merge ≡ false
  none_of_store merge number e other = absurd (own_number merge number e other)

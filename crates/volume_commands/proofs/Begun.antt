-- A merge that may be begun, by what is asked of it.
use Rattle.std.proofs.Common.{◌≡◌, inl, inr, ℕ, true, false, List, Option, Some, None, IfNone, IfSome, refl, sym, ◌∙◌, subst}
use Rattle.std.proofs.lemmas.Bool.{cond-false, eq-eqb}
use Rattle.device.specs.Layers.{Layer}
use Rattle.event_machine.specs.MergeSeen.{held_in}
use Rattle.merge.specs.Merging.{Merging}
use Rattle.chunk_alloc.specs.declared.usage.Usage.{Usage}
use Rattle.snapshot.specs.Kept.{Kept}
use Rattle.volume.specs.Asking.{HoldsOf, merging_chunk_of, merging_number, merging_usage}
use Rattle.volume.specs.Volumed.{Volumed}
use Rattle.volume.specs.Moved.{merge_seen}
use Rattle.volume.specs.Submitting.{is_merging}
use Rattle.volume.specs.Telling.{numbered_relayered}

-- none is begun, or one of this number
pub none_begun : {B : Type 0} (o : Option (Merging B)) → None ≡ merging_number o → o ≡ None
none_begun None e = refl
none_begun (Some m) e = absurd (cc)

pub one_begun : {B : Type 0} (o : Option (Merging B)) (n : ℕ) → Some n ≡ merging_number o → (m : Merging B) × (o ≡ Some m) × (m.number ≡ n)
one_begun None n e = absurd (cc)
one_begun (Some m) n e = (m, refl, cc)

-- a merge of another number keeps its store
pub other_keeps : {B : Type 0} (contents : B → List ℕ) (layers : B → List Layer) (n : ℕ) (f : List Layer → List Layer) (o : Option (Merging B)) → is_merging n o ≡ false
    → numbered_relayered n f (held_in (merge_seen contents layers o)) ≡ held_in (merge_seen contents layers o)
other_keeps contents layers n f None e = refl
other_keeps contents layers n f (Some m) e = cond-false _ _ _ e

-- the snapshot of the number that is merged is none of the others
pub merging_it : {B : Type 0} (o : Option (Merging B)) (n : ℕ) → Some n ≡ merging_number o → is_merging n o ≡ false → ⊥
merging_it None n e other = absurd (cc)
merging_it (Some m) n e other = (let same : m.number ≡ n = cc in let two : true ≡ false = sym (eq-eqb m.number n same) ∙ other in absurd (cc))

-- what holds of it holds of the merge
pub holds_merging : {B : Type 0} (OfMerge : Merging B → Type 0) (OfSnap : Kept B → Type 0) (n : ℕ) (v : Volumed B) → Some n ≡ merging_number v.merge → HoldsOf OfMerge OfSnap n v → (m : Merging B) × (v.merge ≡ Some m) × OfMerge m
holds_merging OfMerge OfSnap n v e (inl it) = (it.0, it.1, it.3)
holds_merging OfMerge OfSnap n v e (inr other) = absurd (merging_it v.merge n e other.0)

-- the size of its chunks
pub chunk_merging : {B : Type 0} (o : Option (Merging B)) (told : Option ℕ) → told ≡ merging_chunk_of o → IfSome told (λ chunk. (m : Merging B) × (o ≡ Some m) × (chunk ≡ m.state.chunk))
chunk_merging None None is = tt
chunk_merging None (Some n) is = absurd (cc)
chunk_merging (Some m) None is = tt
chunk_merging (Some m) (Some n) is = (m, refl, (let same : n ≡ m.state.chunk = cc in same))

pub chunk_of_none : {B : Type 0} (o : Option (Merging B)) (told : Option ℕ) → told ≡ merging_chunk_of o → IfNone told (o ≡ None)
chunk_of_none None None is = refl
chunk_of_none None (Some n) is = tt
chunk_of_none (Some m) None is = absurd (cc)
chunk_of_none (Some m) (Some n) is = tt

-- the numbers of its status line
pub used_merging : {B : Type 0} (o : Option (Merging B)) (usage : Option Usage) → (m : Merging B) × (o ≡ Some m) × (usage ≡ Some (merging_usage m)) → IfSome usage (λ u. (m : Merging B) × (o ≡ Some m) × (u ≡ merging_usage m))
used_merging o usage it = subst (λ u. IfSome u (λ x. (m : Merging _) × (o ≡ Some m) × (x ≡ merging_usage m))) (sym it.2) (it.0, it.1, refl)

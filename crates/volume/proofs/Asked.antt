-- What is asked of the snapshot with a number, which is being merged or not.
use Rattle.std.proofs.Common.{◌≡◌, inr, ℕ, ◌+◌, ◌*◌, true, false, Some, None, get_or, sym, ◌∙◌, ap, subst}
use Rattle.std.proofs.lemmas.Bool.{cond-true, cond-false}
use Rattle.chunk_alloc.specs.declared.usage.Usage.{Usage}
use Rattle.snapshot.specs.Kept.{Kept}
use Rattle.snapshot_list.specs.Finding.{place_of_snap}
use Rattle.merge.specs.Merging.{Merging}
use Rattle.volume.specs.Volumed.{Volumed}
use Rattle.volume.specs.Asking.{HoldsOf, merging_usage}
use Rattle.volume.specs.Leaving.{usage_of}
use Rattle.volume.specs.Submitting.{is_merging}

-- one that is not being merged is found by its place
pub holds_found : {B : Type 0} (of_merge : Merging B → Type 0) (of_snap : Kept B → Type 0) (number k : ℕ) (s : Kept B) (v w : Volumed B) → v ≡ w → is_merging number w.merge ≡ false → Some k ≡ place_of_snap number v.snaps → s ≡ get_or v.snaps k s → of_snap s → HoldsOf of_merge of_snap number w
holds_found of_merge of_snap number k s v w same other found at holds =
    inr (other, (k, s, sym (found ∙ ap (λ (x : Volumed _). place_of_snap number x.snaps) same), subst of_snap (at ∙ ap (λ (x : Volumed _). get_or x.snaps k s) same) holds))

-- the numbers of a status line
usage_is : (u : Usage) (allocated total metadata : ℕ) → u.allocated ≡ allocated → u.total ≡ total → u.metadata ≡ metadata → u ≡ record { allocated = allocated; total = total; metadata = metadata }
usage_is u allocated total metadata p q r =
    ap (λ (n : ℕ). let x : Usage = record { allocated = n; total = u.total; metadata = u.metadata } in x) p
    ∙ ap (λ (n : ℕ). let x : Usage = record { allocated = allocated; total = n; metadata = u.metadata } in x) q
    ∙ ap (λ (n : ℕ). let x : Usage = record { allocated = allocated; total = total; metadata = n } in x) r

pub merge_usage_is : {B : Type 0} (m : Merging B) (u : Usage) → u.allocated ≡ m.next * m.state.chunk → u.total ≡ m.state.size → u.metadata ≡ (m.state.current + 2) * m.state.chunk → Some u ≡ Some (merging_usage m)
merge_usage_is m u p q r = ap (λ (x : Usage). Some x) (usage_is u _ _ _ p q r)

pub live_usage : {B : Type 0} (s : Kept B) (u : Usage) → s.live ≡ true → u.allocated ≡ s.next * s.state.chunk → u.total ≡ s.state.size → u.metadata ≡ (s.state.current + 2) * s.state.chunk → Some u ≡ usage_of s
live_usage s u live p q r = ap (λ (x : Usage). Some x) (usage_is u _ _ _ p q r) ∙ sym (cond-true _ _ _ live)

pub no_usage : {B : Type 0} (s : Kept B) → s.live ≡ false → None ≡ usage_of s
no_usage s spoiled = sym (cond-false _ _ _ spoiled)

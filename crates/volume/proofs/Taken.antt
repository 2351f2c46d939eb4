-- The devices of a stopped volume, one after the other.
use Rattle.std.proofs.Common.{◌≡◌, ◌<◌, true, false, List, [], ◌∷◌, length, get_or, Option, Some, None, refl, sym, ◌∙◌, ap, arith}
use Rattle.std.specs.List.{remove}
use Rattle.snapshot.specs.Kept.{Kept}
use Rattle.merge.specs.Merging.{Merging}
use Rattle.volume.specs.Stopped.{devices_left, is_merge_next, stores_by}

merge_first : {B : Type 0} (snaps : List (Kept B)) (m : Merging B) → is_merge_next snaps (Some m) ≡ true → stores_by snaps (Some m) ≡ m.device ∷ stores_by snaps None
merge_first [] m next = refl
merge_first (s ∷ snaps) m next = rw next refl

snap_first : {B : Type 0} (s : Kept B) (snaps : List (Kept B)) (merge : Option (Merging B)) → is_merge_next (s ∷ snaps) merge ≡ false → stores_by (s ∷ snaps) merge ≡ s.device ∷ stores_by snaps merge
snap_first s snaps None other = refl
snap_first s snaps (Some m) other = rw other refl

none_left : {B : Type 0} (merge : Option (Merging B)) → is_merge_next [] merge ≡ false → stores_by [] merge ≡ []
none_left None other = refl
none_left (Some m) other = absurd (cc)

-- the origin is gone
stores_left : {B : Type 0} (origin : Option B) (snaps : List (Kept B)) (merge : Option (Merging B)) → origin ≡ None → devices_left origin snaps merge ≡ stores_by snaps merge
stores_left origin snaps merge gone = ap (λ o. devices_left o snaps merge) gone

pub merge_taken : {B : Type 0} (origin origin' : Option B) (snaps : List (Kept B)) (merge merge' : Option (Merging B)) (m : Merging B) → origin ≡ None → origin' ≡ None → merge ≡ Some m → merge' ≡ None → is_merge_next snaps merge ≡ true
    → devices_left origin snaps merge ≡ m.device ∷ devices_left origin' snaps merge'
merge_taken origin origin' snaps merge merge' m gone gone' is is' next =
    stores_left origin snaps merge gone ∙ ap (stores_by snaps) is ∙ merge_first snaps m (ap (is_merge_next snaps) (sym is) ∙ next)
    ∙ ap (λ (ds : List _). m.device ∷ ds) (ap (stores_by snaps) (sym is') ∙ sym (stores_left origin' snaps merge' gone'))

pub snap_taken : {B : Type 0} (origin origin' : Option B) (snaps : List (Kept B)) (merge : Option (Merging B)) (s : Kept B) → origin ≡ None → origin' ≡ None → is_merge_next snaps merge ≡ false → 0 < length snaps → s ≡ get_or snaps 0 s
    → devices_left origin snaps merge ≡ s.device ∷ devices_left origin' (remove snaps 0) merge
snap_taken origin origin' [] merge s gone gone' other some is = absurd (omega (arith, some))
snap_taken origin origin' (x ∷ snaps) merge s gone gone' other some is =
    stores_left origin (x ∷ snaps) merge gone ∙ snap_first x snaps merge other ∙ ap (λ (y : Kept _). y.device ∷ stores_by snaps merge) (sym is)
    ∙ ap (λ (ds : List _). s.device ∷ ds) (sym (stores_left origin' snaps merge gone'))

pub all_taken : {B : Type 0} (origin origin' : Option B) (snaps : List (Kept B)) (merge : Option (Merging B)) → origin ≡ None → origin' ≡ None → snaps ≡ [] → is_merge_next snaps merge ≡ false → (devices_left origin snaps merge ≡ []) × (devices_left origin' snaps merge ≡ [])
all_taken origin origin' snaps merge gone gone' bare other =
    let none = ap (λ ss. stores_by ss merge) bare ∙ none_left merge (ap (λ ss. is_merge_next ss merge) (sym bare) ∙ other) in
    (stores_left origin snaps merge gone ∙ none, stores_left origin' snaps merge gone' ∙ none)

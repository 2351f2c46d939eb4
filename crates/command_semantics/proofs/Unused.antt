-- A name that stands nowhere is no device's.
use Rattle.std.proofs.Common.{◌≡◌, ℕ, ◌+◌, Bool, true, false, List, [], ◌∷◌, get_or, refl, sym, ap, ◌∙◌, arith, inl, inr}
use Rattle.std.specs.Prelude.{Option, Some, None, position, is_some, slice_get, if◌then◌else◌}
use Rattle.std.specs.List.{sum_by}
use Rattle.std.specs.Str.{bytes_eq}
use Rattle.std.proofs.lemmas.Option.{slice_get_cases}
use Rattle.std.proofs.lemmas.List.Quantifiers.{position-Some}
use Rattle.command_semantics.specs.declared.place.Role.{Role}
use Rattle.command_semantics.specs.declared.place.Role.TheVariants.{Origin, Merging}
use Rattle.command_semantics.specs.declared.place.Place.{Place}
use Rattle.command_semantics.specs.State.{Stacked, Names, Volume, Table, names_in}
use Rattle.command_semantics.specs.Places.{depth_in, is_among, free_at_depth, named_free, in_first_stack, place_free, store_at_depth, named_store, in_first_store, store_among, snapshot_or_store, role_among, merging_at_depth, role_merging, among_or_merging, under_or_among, role_of, in_volume, named_in, in_first, place_among, free_or_among, place_of}
use Rattle.command_semantics.specs.Naming.{stack_sum, names_sum, merging_sum, volume_sum, uses}
use Rattle.command_semantics.proofs.Sums.{no_sum, none_passes}

-- 1 for a name, else 0
abbrev pub is : List ℕ → List ℕ → ℕ
is name n = if bytes_eq n name then 1 else 0

-- the first that passes is there, and has the name
first_none : {X P : Type 0} (p : X → Bool) (xs : List X) (named : Option X → Option P) (i : ℕ) → ((x : X) → p x ≡ true → named (Some x) ≡ None → ⊥) → position p xs ≡ Some i → named (slice_get xs i) ≡ None → ⊥
first_none p [] named i sure at none = absurd (cc)
first_none p (w ∷ ws) named i sure at none = elim (slice_get_cases (w ∷ ws) i).1 [
  | inl (x, lt, here, found) ↦ sure x (sym (ap p found) ∙ (position-Some p (w ∷ ws) i x at).1) (sym (ap named here) ∙ none)
  | inr (past, nothing) ↦ omega (arith, past, (position-Some p (w ∷ ws) i w at).0)
]

no_option : {A : Type 0} (o : Option A) → is_some o ≡ false → o ≡ None
no_option None empty = refl
no_option (Some x) empty = absurd (cc)

-- 1 for true
abbrev one_if : Bool → ℕ
one_if b = if b then 1 else 0

not_counted : (b : Bool) → b ≡ false → one_if b ≡ 0
not_counted b none = ap one_if none

-- not among names
none_among : (name : List ℕ) (names : List (List ℕ)) → depth_in name names ≡ None → sum_by (is name) names ≡ 0
none_among name names none =
    no_sum (is name) names (λ k d lt. not_counted (bytes_eq (get_or names k d) name) (none_passes (λ n. bytes_eq n name) names none k d lt))

-- in no stack that nothing uses
depth_found : (i : ℕ) (depth : Option ℕ) → is_some depth ≡ true → free_at_depth i depth ≡ None → ⊥
depth_found i None has none = absurd (cc)
depth_found i (Some depth) has none = absurd (cc)

no_stack : (name : List ℕ) (stacks : List Stacked) (o : Option ℕ) → position (λ s. is_among name s.names) stacks ≡ o → in_first_stack name stacks o ≡ None → o ≡ None
no_stack name stacks None at none = refl
no_stack name stacks (Some i) at none =
    absurd (first_none (λ (s : Stacked). is_among name s.names) stacks (named_free i name) i (λ s has. depth_found i (depth_in name s.names) has) at none)

unused_free : (name : List ℕ) (stacks : List Stacked) → place_free name stacks ≡ None → sum_by (stack_sum (is name)) stacks ≡ 0
unfolding place_free
unused_free name stacks none =
    let nowhere = no_stack name stacks (position (λ s. is_among name s.names) stacks) refl none in
    no_sum (stack_sum (is name)) stacks
    (λ k d lt. none_among name (get_or stacks k d).names (no_option _ (none_passes (λ (s : Stacked). is_among name s.names) stacks nowhere k d lt)))

-- in no store
store_found : (k : ℕ) (depth : Option ℕ) → is_some depth ≡ true → store_at_depth k depth ≡ None → ⊥
store_found k None has none = absurd (cc)
store_found k (Some depth) has none = absurd (cc)

no_store : (name : List ℕ) (snaps : List Names) (o : Option ℕ) → position (λ n. is_among name n.store) snaps ≡ o → in_first_store name snaps o ≡ None → o ≡ None
no_store name snaps None at none = refl
no_store name snaps (Some k) at none =
    absurd (first_none (λ (n : Names). is_among name n.store) snaps (named_store k name) k (λ n has. store_found k (depth_in name n.store) has) at none)

no_snapshot : (name : List ℕ) (snaps : List Names) (o : Option ℕ) → snapshot_or_store name snaps o ≡ None → (o ≡ None) × (store_among name snaps ≡ None)
no_snapshot name snaps None none = (refl, none)
no_snapshot name snaps (Some k) none = absurd (cc)

none_of : (a b : ℕ) → a ≡ 0 → b ≡ 0 → a + b ≡ 0
none_of a b p q = omega (arith, p, q)

unused_among : (name : List ℕ) (snaps : List Names) → role_among name snaps ≡ None → sum_by (names_sum (is name)) snaps ≡ 0
unfolding role_among store_among
unused_among name snaps none =
    let c = no_snapshot name snaps (position (λ n. bytes_eq n.snapshot name) snaps) none in
    let nowhere = no_store name snaps (position (λ n. is_among name n.store) snaps) refl c.1 in
    no_sum (names_sum (is name)) snaps
    (λ k d lt. none_of _ _ (not_counted (bytes_eq (get_or snaps k d).snapshot name) (none_passes (λ (n : Names). bytes_eq n.snapshot name) snaps c.0 k d lt))
    (none_among name (get_or snaps k d).store (no_option _ (none_passes (λ (n : Names). is_among name n.store) snaps nowhere k d lt))))

-- not of the snapshot that is being merged
no_depth : (depth : Option ℕ) → merging_at_depth depth ≡ None → depth ≡ None
no_depth None none = refl
no_depth (Some depth) none = absurd (cc)

not_merging : (b : Bool) (role : Role) (rest : Option Role) → (if b then Some role else rest) ≡ None → (b ≡ false) × (rest ≡ None)
not_merging true role rest none = absurd (cc)
not_merging false role rest none = (refl, none)

unused_merging : (name : List ℕ) (merging : Option Names) → role_merging name merging ≡ None → merging_sum (is name) merging ≡ 0
unfolding role_merging
unused_merging name None none = refl
unused_merging name (Some names) none =
    let c = not_merging (bytes_eq names.snapshot name) Merging (merging_at_depth (depth_in name names.store)) none in
    none_of _ _ (not_counted (bytes_eq names.snapshot name) c.0) (none_among name names.store (no_depth (depth_in name names.store) c.1))

-- in no volume
no_among : (name : List ℕ) (merging : Option Names) (role : Option Role) → among_or_merging name merging role ≡ None → (role ≡ None) × (role_merging name merging ≡ None)
no_among name merging None none = (refl, none)
no_among name merging (Some role) none = absurd (cc)

no_under : (name : List ℕ) (snaps : List Names) (merging : Option Names) (o : Option ℕ) → under_or_among name snaps merging o ≡ None → (o ≡ None) × (among_or_merging name merging (role_among name snaps) ≡ None)
no_under name snaps merging None none = (refl, none)
no_under name snaps merging (Some depth) none = absurd (cc)

no_origin : (origin : Bool) (rest : Option Role) → (if origin then Some Origin else rest) ≡ None → (origin ≡ false) × (rest ≡ None)
no_origin true rest none = absurd (cc)
no_origin false rest none = (refl, none)

unused_in : (name : List ℕ) (volume : Volume) → role_of name volume ≡ None → volume_sum (is name) volume ≡ 0
unfolding role_of
unused_in name volume none =
    let c = no_origin (bytes_eq volume.origin name) _ none in
    let u = no_under name volume.snaps (names_in volume.merging) (depth_in name volume.under) c.1 in
    let a = no_among name (names_in volume.merging) (role_among name volume.snaps) u.1 in
    let origin = not_counted (bytes_eq volume.origin name) c.0 in
    let under = none_among name volume.under u.0 in
    let snaps = unused_among name volume.snaps a.0 in
    let merging = unused_merging name (names_in volume.merging) a.1 in
    omega (arith, origin, under, snaps, merging)

role_found : (v : ℕ) (role : Option Role) → is_some role ≡ true → in_volume v role ≡ None → ⊥
role_found v None has none = absurd (cc)
role_found v (Some role) has none = absurd (cc)

no_volume : (name : List ℕ) (volumes : List Volume) (o : Option ℕ) → position (λ v. is_some (role_of name v)) volumes ≡ o → in_first name volumes o ≡ None → o ≡ None
no_volume name volumes None at none = refl
no_volume name volumes (Some v) at none =
    absurd (first_none (λ (w : Volume). is_some (role_of name w)) volumes (named_in v name) v (λ w has. role_found v (role_of name w) has) at none)

unused_volumes : (name : List ℕ) (volumes : List Volume) → place_among name volumes ≡ None → sum_by (volume_sum (is name)) volumes ≡ 0
unfolding place_among
unused_volumes name volumes none =
    let nowhere = no_volume name volumes (position (λ v. is_some (role_of name v)) volumes) refl none in
    no_sum (volume_sum (is name)) volumes
    (λ k d lt. unused_in name (get_or volumes k d) (no_option _ (none_passes (λ (v : Volume). is_some (role_of name v)) volumes nowhere k d lt)))

not_free : (name : List ℕ) (volumes : List Volume) (o : Option Place) → free_or_among name volumes o ≡ None → (o ≡ None) × (place_among name volumes ≡ None)
not_free name volumes (Some place) none = absurd (cc)
not_free name volumes None none = (refl, none)

-- no device has a name that stands nowhere
pub no_uses : (name : List ℕ) (table : Table) → place_of name table ≡ None → uses name table ≡ 0
unfolding place_of
no_uses name table none =
    let c = not_free name table.volumes (place_free name table.stacks) none in
    let stacks = unused_free name table.stacks c.0 in
    let volumes = unused_volumes name table.volumes c.1 in
    omega (arith, stacks, volumes)

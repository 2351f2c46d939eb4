-- The snapshot at the place of a name has that name.
use Rattle.std.proofs.Common.{◌≡◌, ℕ, zero, suc, Bool, true, false, List, [], ◌∷◌, map, refl, sym, ap, ◌∙◌, subst, inl, inr}
use Rattle.std.specs.Prelude.{Option, Some, None, position, is_some, slice_get, if◌then◌else◌}
use Rattle.std.specs.Str.{bytes_eq}
use Rattle.std.proofs.lemmas.Option.{slice_get_cases}
use Rattle.std.proofs.lemmas.List.Quantifiers.{position-Some}
use Rattle.std.proofs.lemmas.Slice.Eq.{bytes_eq-Decides}
use Rattle.whole_commands.specs.Snaps.{Snap}
use Rattle.command_semantics.specs.declared.place.Role.{Role}
use Rattle.command_semantics.specs.declared.place.Role.TheVariants.{Snapshot, Origin, Merging}
use Rattle.command_semantics.specs.declared.place.Place.{Place}
use Rattle.command_semantics.specs.declared.place.Place.TheVariants.{In}
use Rattle.command_semantics.specs.State.{Stacked, Names, Volume, Table, names_in}
use Rattle.command_semantics.specs.Places.{depth_in, is_among, free_at_depth, named_free, in_first_stack, place_free, store_at_depth, named_store, in_first_store, store_among, snapshot_or_store, role_among, merging_at_depth, role_merging, among_or_merging, under_or_among, role_of, in_volume, named_in, in_first, place_among, free_or_among, place_of}
use Rattle.commands_on_saved_arrays.specs.Arrays.{Named, Arrays, named_by, arrays_of, arrays_in}

-- names that are equal byte by byte are equal
same_name : (a b : List ℕ) → bytes_eq a b ≡ true → a ≡ b
same_name a b is = (bytes_eq-Decides a b).0 is

-- the first snapshot of a name has it
first_named : (name : List ℕ) (snaps : List Names) (k : ℕ) (n : Names) → position (λ m. bytes_eq m.snapshot name) snaps ≡ Some k → slice_get snaps k ≡ Some n → n.snapshot ≡ name
first_named name snaps k n at there = elim (slice_get_cases snaps k).1 [
  | inl (x, lt, here, found) ↦ (let same : x ≡ n = cc in
      let passes : bytes_eq x.snapshot name ≡ true = sym (ap (λ (m : Names). bytes_eq m.snapshot name) found) ∙ (position-Some (λ (m : Names). bytes_eq m.snapshot name) snaps k x at).1 in
      subst (λ (m : Names). m.snapshot ≡ name) same (same_name x.snapshot name passes))
  | inr (past, nothing) ↦ absurd (cc)
]

module _ (k : ℕ) where
  -- no store is a snapshot
  deep : (j : ℕ) (depth : Option ℕ) → store_at_depth j depth ≡ Some (Snapshot k) → ⊥
  deep j None is = absurd (cc)
  deep j (Some depth) is = absurd (cc)

  stored : (j : ℕ) (name : List ℕ) (names : Option Names) → named_store j name names ≡ Some (Snapshot k) → ⊥
  stored j name None is = absurd (cc)
  stored j name (Some names) is = deep j (depth_in name names.store) is

  in_store : (name : List ℕ) (snaps : List Names) (o : Option ℕ) → in_first_store name snaps o ≡ Some (Snapshot k) → ⊥
  in_store name snaps None is = absurd (cc)
  in_store name snaps (Some j) is = stored j name (slice_get snaps j) is

  a_store : (name : List ℕ) (snaps : List Names) → store_among name snaps ≡ Some (Snapshot k) → ⊥
  unfolding store_among
  a_store name snaps is = in_store name snaps (position (λ n. is_among name n.store) snaps) is

  -- a snapshot among the snapshots is the first of its name
  first_place : (name : List ℕ) (snaps : List Names) (o : Option ℕ) → snapshot_or_store name snaps o ≡ Some (Snapshot k) → o ≡ Some k
  first_place name snaps None is = absurd (a_store name snaps is)
  first_place name snaps (Some j) is = cc

  among_place : (name : List ℕ) (snaps : List Names) → role_among name snaps ≡ Some (Snapshot k) → position (λ m. bytes_eq m.snapshot name) snaps ≡ Some k
  unfolding role_among
  among_place name snaps is = first_place name snaps (position (λ m. bytes_eq m.snapshot name) snaps) is

  -- nor is what is merged, or what it stands on
  merging_deep : (depth : Option ℕ) → merging_at_depth depth ≡ Some (Snapshot k) → ⊥
  merging_deep None is = absurd (cc)
  merging_deep (Some depth) is = absurd (cc)

  merged_or : (b : Bool) (o : Option Role) → (if b then Some Merging else o) ≡ Some (Snapshot k) → o ≡ Some (Snapshot k)
  merged_or true o is = absurd (cc)
  merged_or false o is = is

  a_merging : (name : List ℕ) (merging : Option Names) → role_merging name merging ≡ Some (Snapshot k) → ⊥
  unfolding role_merging
  a_merging name None is = absurd (cc)
  a_merging name (Some names) is = merging_deep (depth_in name names.store) (merged_or (bytes_eq names.snapshot name) _ is)

  not_merging : (name : List ℕ) (merging : Option Names) (o : Option Role) → among_or_merging name merging o ≡ Some (Snapshot k) → o ≡ Some (Snapshot k)
  not_merging name merging None is = absurd (a_merging name merging is)
  not_merging name merging (Some role) is = is

  not_under : (name : List ℕ) (snaps : List Names) (merging : Option Names) (o : Option ℕ) → under_or_among name snaps merging o ≡ Some (Snapshot k) → role_among name snaps ≡ Some (Snapshot k)
  not_under name snaps merging None is = not_merging name merging (role_among name snaps) is
  not_under name snaps merging (Some depth) is = absurd (cc)

  not_origin : (b : Bool) (o : Option Role) → (if b then Some Origin else o) ≡ Some (Snapshot k) → o ≡ Some (Snapshot k)
  not_origin true o is = absurd (cc)
  not_origin false o is = is

  -- in a volume
  role_place : (name : List ℕ) (volume : Volume) → role_of name volume ≡ Some (Snapshot k) → position (λ m. bytes_eq m.snapshot name) volume.snaps ≡ Some k
  unfolding role_of
  role_place name volume is =
      among_place name volume.snaps (not_under name volume.snaps (names_in volume.merging) (depth_in name volume.under) (not_origin (bytes_eq volume.origin name) _ is))

module _ (v k : ℕ) where
  -- no stack that nothing uses is in a volume
  free_deep : (i : ℕ) (depth : Option ℕ) → free_at_depth i depth ≡ Some (In v (Snapshot k)) → ⊥
  free_deep i None is = absurd (cc)
  free_deep i (Some depth) is = absurd (cc)

  free_named : (i : ℕ) (name : List ℕ) (stacked : Option Stacked) → named_free i name stacked ≡ Some (In v (Snapshot k)) → ⊥
  free_named i name None is = absurd (cc)
  free_named i name (Some stacked) is = free_deep i (depth_in name stacked.names) is

  free_first : (name : List ℕ) (stacks : List Stacked) (o : Option ℕ) → in_first_stack name stacks o ≡ Some (In v (Snapshot k)) → ⊥
  free_first name stacks None is = absurd (cc)
  free_first name stacks (Some i) is = free_named i name (slice_get stacks i) is

  a_free : (name : List ℕ) (stacks : List Stacked) → place_free name stacks ≡ Some (In v (Snapshot k)) → ⊥
  unfolding place_free
  a_free name stacks is = free_first name stacks (position (λ s. is_among name s.names) stacks) is

  -- the volume that it is in
  role_there : (w : ℕ) (o : Option Role) → in_volume w o ≡ Some (In v (Snapshot k)) → (w ≡ v) × (o ≡ Some (Snapshot k))
  role_there w None is = absurd (cc)
  role_there w (Some role) is = (cc, cc)

  volume_there : (w : ℕ) (name : List ℕ) (volumes : List Volume) (o : Option Volume) → slice_get volumes w ≡ o → named_in w name o ≡ Some (In v (Snapshot k)) → (volume : Volume) × (slice_get volumes v ≡ Some volume) × (role_of name volume ≡ Some (Snapshot k))
  volume_there w name volumes None at is = absurd (cc)
  volume_there w name volumes (Some volume) at is =
      let both = role_there w (role_of name volume) is in
      (volume, ap (λ (n : ℕ). slice_get volumes n) (sym both.0) ∙ at, both.1)

  first_there : (name : List ℕ) (volumes : List Volume) (o : Option ℕ) → in_first name volumes o ≡ Some (In v (Snapshot k)) → (volume : Volume) × (slice_get volumes v ≡ Some volume) × (role_of name volume ≡ Some (Snapshot k))
  first_there name volumes None is = absurd (cc)
  first_there name volumes (Some w) is = volume_there w name volumes (slice_get volumes w) refl is

  among_there : (name : List ℕ) (volumes : List Volume) → place_among name volumes ≡ Some (In v (Snapshot k)) → (volume : Volume) × (slice_get volumes v ≡ Some volume) × (role_of name volume ≡ Some (Snapshot k))
  unfolding place_among
  among_there name volumes is = first_there name volumes (position (λ w. is_some (role_of name w)) volumes) is

  not_free : (name : List ℕ) (table : Table) (o : Option Place) → place_free name table.stacks ≡ o → free_or_among name table.volumes o ≡ Some (In v (Snapshot k)) → place_among name table.volumes ≡ Some (In v (Snapshot k))
  not_free name table None at is = is
  not_free name table (Some place) at is = absurd (a_free name table.stacks (at ∙ is))

  place_there : (name : List ℕ) (table : Table) → place_of name table ≡ Some (In v (Snapshot k)) → (volume : Volume) × (slice_get table.volumes v ≡ Some volume) × (role_of name volume ≡ Some (Snapshot k))
  unfolding place_of
  place_there name table is = among_there name table.volumes (not_free name table (place_free name table.stacks) refl is)

-- what a volume shows, by its place
arrays_there : (volumes : List Volume) (v : ℕ) (volume : Volume) (a : Arrays) → slice_get volumes v ≡ Some volume → slice_get (map arrays_of volumes) v ≡ Some a → arrays_of volume ≡ a
arrays_there [] v volume a at shown = absurd (cc)
arrays_there (x ∷ volumes) zero volume a at shown = let e : x ≡ volume = cc in let f : arrays_of x ≡ a = cc in ap arrays_of (sym e) ∙ f
arrays_there (x ∷ volumes) (suc v) volume a at shown = arrays_there volumes v volume a at shown

names_there : (disk : List ℕ) (names : List Names) (snaps : List Snap) (k : ℕ) (s : Named) → slice_get (named_by disk names snaps) k ≡ Some s → (n : Names) × (slice_get names k ≡ Some n) × (n.snapshot ≡ s.name)
names_there disk [] snaps k s at = absurd (cc)
names_there disk (n ∷ names) [] k s at = absurd (cc)
names_there disk (n ∷ names) (t ∷ snaps) zero s at = (n, refl, cc)
names_there disk (n ∷ names) (t ∷ snaps) (suc k) s at = names_there disk names snaps k s at

-- the snapshot at the place of a name has it
pub placed_named : (name : List ℕ) (table : Table) (v k : ℕ) (a : Arrays) (s : Named) → place_of name table ≡ Some (In v (Snapshot k)) → slice_get (arrays_in table) v ≡ Some a → slice_get a.snaps k ≡ Some s → s.name ≡ name
placed_named name table v k a s at shown there =
    let in_it = place_there v k name table at in
    let volume : Volume = in_it.0 in
    let is : arrays_of volume ≡ a = arrays_there table.volumes v volume a in_it.1 shown in
    let n = names_there volume.state.origin.bytes volume.snaps volume.state.snaps k s (ap (λ (b : Arrays). slice_get b.snaps k) is ∙ there) in
    sym n.2 ∙ first_named name volume.snaps k n.0 (role_place k name volume in_it.2) n.1

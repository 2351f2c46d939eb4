-- The volume that a name finds is in order.
use Rattle.std.proofs.Common.{◌≡◌, ℕ, true, List, refl, sym, ap, ◌∙◌, subst}
use Rattle.std.specs.Prelude.{Option, Some, None, Result, Ok, Err}
use Rattle.sector.specs.declared.refusal.Refusal.{Refusal}
use Rattle.command_semantics.specs.declared.place.Role.{Role}
use Rattle.command_semantics.specs.declared.place.Place.{Place}
use Rattle.command_semantics.specs.declared.place.Place.TheVariants.{Free, In}
use Rattle.command_semantics.specs.State.{Volume, Table}
use Rattle.command_semantics.specs.Places.{found, place_of, volume_at}
use Rattle.command_semantics.proofs.Keeping.{not_ok, same_ok}
use Rattle.commands_on_saved_arrays.specs.Well.{HoldsFor, IsNumbered, IsNumberedFor, IsWell, IsWellFor}
use Rattle.device_commands.specs.Order.{IsInOrder, IsInOrderAt, IsInOrderFor, IsInOrderIn}
use Rattle.device_commands.specs.Ruled.{is_sound_in, volume_for, volume_with}

numbered_of : (volume : Volume) → IsInOrder volume → IsNumbered volume
numbered_of volume order = record { named = order.named; numbers = order.numbers }

-- in which volume a place is
in_which : Option Place → ℕ
in_which None = 0
in_which (Some (Free i depth)) = 0
in_which (Some (In v role)) = v

same_volume : (v w : ℕ) (here there : Role) → Some (In v here) ≡ Some (In w there) → v ≡ w
unfolding in_which
same_volume v w here there e = ap in_which e

-- what holds of the volume at a place holds of the one that a name finds there
module _ (holds : Volume → Type 0) (name : List ℕ) (table : Table) where
  none_found : place_of name table ≡ None → HoldsFor holds name table
  none_found none = λ w other volume at here. absurd (let e : None ≡ Some (In w other) = sym none ∙ at in cc)

  free_found : (i depth : ℕ) → place_of name table ≡ Some (Free i depth) → HoldsFor holds name table
  free_found i depth free = λ w other volume at here. absurd (let e : Some (Free i depth) ≡ Some (In w other) = sym free ∙ at in cc)

  one_found : (v : ℕ) (role : Role) (r : Result Volume Refusal) → place_of name table ≡ Some (In v role) → volume_at v table ≡ r → ((volume : Volume) → r ≡ Ok volume → holds volume) → HoldsFor holds name table
  one_found v role r there is did = λ w other volume at here.
      let same : v ≡ w = same_volume v w role other (sym there ∙ at) in
      did volume (sym is ∙ ap (λ k. volume_at k table) same ∙ here)

-- it is numbered
numbered_in : (r : Result Volume Refusal) → IsInOrderIn r → (volume : Volume) → r ≡ Ok volume → IsNumbered volume
numbered_in (Err e) order volume is = absurd (not_ok e volume is)
numbered_in (Ok old) order volume is = subst IsNumbered (same_ok old volume is) (numbered_of old order)

numbered_by : (name : List ℕ) (table : Table) (o : Option Place) → place_of name table ≡ o → IsInOrderAt table o → IsNumberedFor name table
numbered_by name table None at order = none_found IsNumbered name table at
numbered_by name table (Some (Free i depth)) at order = free_found IsNumbered name table i depth at
numbered_by name table (Some (In v role)) at order = one_found IsNumbered name table v role (volume_at v table) at refl (numbered_in (volume_at v table) order)

pub numbered_for : (name : List ℕ) (table : Table) → IsInOrderFor name table → IsNumberedFor name table
numbered_for name table order = numbered_by name table (place_of name table) refl order

-- and well where its rule speaks
well_in : (r : Result Volume Refusal) → IsInOrderIn r → is_sound_in r ≡ true → (volume : Volume) → r ≡ Ok volume → IsWell volume
well_in (Err e) order sound volume is = absurd (not_ok e volume is)
well_in (Ok old) order sound volume is = subst IsWell (same_ok old volume is) (record { numbered = numbered_of old order; ordered = order.ordered sound })

well_by : (name : List ℕ) (table : Table) (o : Option Place) → place_of name table ≡ o → IsInOrderAt table o → is_sound_in (volume_with table (found o)) ≡ true → IsWellFor name table
well_by name table None at order sound = none_found IsWell name table at
well_by name table (Some (Free i depth)) at order sound = free_found IsWell name table i depth at
well_by name table (Some (In v role)) at order sound = one_found IsWell name table v role (volume_at v table) at refl (well_in (volume_at v table) order sound)

pub well_for : (name : List ℕ) (table : Table) → IsInOrderFor name table → is_sound_in (volume_for name table) ≡ true → IsWellFor name table
well_for name table order sound = well_by name table (place_of name table) refl order sound

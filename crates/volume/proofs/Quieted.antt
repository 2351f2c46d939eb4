-- What a quiet volume is.
use Rattle.std.proofs.Common.{◌≡◌, ◌∙◌, ap, sym, [], Bool, true, false, Option, Some, None, length, nat_eq, refl}
use Rattle.std.specs.Prelude.{◌&&◌, not}
use Rattle.std.specs.List.{list_all}
use Rattle.std.proofs.lemmas.Bool.{eqb-true, false≢true}
use Rattle.std.proofs.lemmas.List.{nil_from_length}
use Rattle.merge.specs.declared.group.Group.{Group}
use Rattle.merge.specs.Due.{has_group_of}
use Rattle.merge.specs.Merging.{Merging}
use Rattle.volume.specs.Volumed.{Volumed}
use Rattle.volume.specs.Leaving.{has_group_in, is_done_of, is_quiet_of}

first_true : (a b : Bool) → (a && b) ≡ true → a ≡ true
first_true true b e = refl
first_true false b e = e

rest_true : (a b : Bool) → (a && b) ≡ true → b ≡ true
rest_true true b e = e
rest_true false b e = absurd (false≢true e)

not_true : (a : Bool) → not a ≡ true → a ≡ false
not_true true e = absurd (false≢true e)
not_true false e = refl

-- no request is in flight
pub quiet_flights : {B : Type 0} (v : Volumed B) → is_quiet_of v ≡ true → v.flights ≡ []
quiet_flights v e = nil_from_length v.flights (eqb-true (length v.flights) 0 (first_true (nat_eq (length v.flights) 0) (not (has_group_in v.merge) && list_all is_done_of v.snaps) e))

-- no group of the merge is formed
pub quiet_free : {B : Type 0} (v : Volumed B) → is_quiet_of v ≡ true → has_group_in v.merge ≡ false
quiet_free v e = not_true (has_group_in v.merge) (first_true (not (has_group_in v.merge)) (list_all is_done_of v.snaps) (rest_true (nat_eq (length v.flights) 0) (not (has_group_in v.merge) && list_all is_done_of v.snaps) e))

-- each snapshot is done
pub quiet_done : {B : Type 0} (v : Volumed B) → is_quiet_of v ≡ true → list_all is_done_of v.snaps ≡ true
quiet_done v e = rest_true (not (has_group_in v.merge)) (list_all is_done_of v.snaps) (rest_true (nat_eq (length v.flights) 0) (not (has_group_in v.merge) && list_all is_done_of v.snaps) e)

-- a merge without a group
pub no_group : (group : Option Group) → has_group_of group ≡ false → group ≡ None
no_group None e = refl
no_group (Some g) e = absurd (false≢true (sym e))

pub free_merge : {B : Type 0} (merge : Option (Merging B)) (m : Merging B) → merge ≡ Some m → has_group_in merge ≡ false → m.group ≡ None
free_merge merge m is e = no_group m.group (ap has_group_in (sym is) ∙ e)

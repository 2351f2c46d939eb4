-- The names of a snapshot of which a merge was begun.
use Rattle.std.proofs.Common.{◌≡◌, ◌⊎◌, ℕ, ◌+◌, suc, get_or, ap, ◌<◌, ◌≤◌, Bool, true, false, cond, List, [], ◌∷◌, length, Option, Some, None, inl, inr, arith, refl}
use Rattle.std.specs.Prelude.{is_some, nat_lt, slice_get, sum_by}
use Rattle.std.specs.List.{remove}
use Rattle.std.proofs.lemmas.List.Sums.{sum_by-remove}
use Rattle.std.proofs.lemmas.Option.{get_or_from_slice_get}
use Rattle.command_semantics.specs.Naming.{merging_sum, names_sum, volume_sum}
use Rattle.device_list.proofs.Merges.{names_are}
use Rattle.layers.specs.declared.stack.Stack.{Stack}
use Rattle.merge.specs.Merging.{Merging}
use Rattle.volume.specs.Asking.{merging_number}
use Rattle.volume_commands.specs.Rested.{Attached, Rested}
use Rattle.command_semantics.specs.State.{Names}
use Rattle.device_list.specs.Parting.{Parts, named_with, parts_sum, place_begun}
use Rattle.device_list.specs.Stopping.{earlier, earlier_than}

earlier_within : (number : ℕ) (snaps : List (Attached Stack)) → earlier number snaps ≤ length snaps
earlier_within number [] = omega arith
earlier_within number (s ∷ snaps) = more (nat_lt number s.number) (earlier number snaps) (length snaps) (earlier_within number snaps)
  where
    more : (b : Bool) (n m : ℕ) → n ≤ m → cond b 0 (suc n) ≤ suc m
    more true n m le = omega arith
    more false n m le = omega (arith, le)

than_within : (number : Option ℕ) (snaps : List (Attached Stack)) → earlier_than number snaps ≤ length snaps
than_within None snaps = omega arith
than_within (Some number) snaps = earlier_within number snaps

-- its place is one of theirs and its own
pub place_within : (volume : Rested Stack) → place_begun volume ≤ length volume.snaps
place_within volume = than_within (merging_number volume.events.merge) volume.snaps

-- none was being merged, and one is
pub one_more : (names snaps : ℕ) (merging : Option Names) (merge : Option (Merging Stack)) → (((names ≡ snaps) × (is_some merging ≡ is_some merge)) ⊎ ((names ≡ suc snaps) × (merging ≡ None) × (is_some merge ≡ true))) → is_some merging ≡ false → is_some (merging_number merge) ≡ true → names ≡ suc snaps
one_more names snaps merging merge (inr (more, was, begun)) none some = more
one_more names snaps None None (inl (same, begun)) none some = absurd (let no : ⊥ = cc in no)
one_more names snaps None (Some m) (inl (same, begun)) none some = absurd (let no : ⊥ = cc in no)
one_more names snaps (Some n) merge (inl (same, begun)) none some = absurd (let no : ⊥ = cc in no)

-- one was being merged
pub still_all : (names snaps : ℕ) (merging : Option Names) (merge : Option (Merging Stack)) → (((names ≡ snaps) × (is_some merging ≡ is_some merge)) ⊎ ((names ≡ suc snaps) × (merging ≡ None) × (is_some merge ≡ true))) → is_some merging ≡ true → (names ≡ snaps) × (is_some merging ≡ is_some merge)
still_all names snaps merging merge (inl all) some = all
still_all names snaps None merge (inr (more, was, begun)) some = absurd (let no : ⊥ = cc in no)
still_all names snaps (Some n) merge (inr (more, was, begun)) some = absurd (let no : ⊥ = cc in no)

-- none is being merged
pub none_begun : (names snaps : ℕ) (merging : Option Names) (merge : Option (Merging Stack)) → (((names ≡ snaps) × (is_some merging ≡ is_some merge)) ⊎ ((names ≡ suc snaps) × (merging ≡ None) × (is_some merge ≡ true))) → is_some (merging_number merge) ≡ false → (names ≡ snaps) × (is_some merging ≡ is_some merge)
none_begun names snaps merging merge (inl all) none = all
none_begun names snaps merging None (inr (more, was, begun)) none = absurd (let no : ⊥ = cc in no)
none_begun names snaps merging (Some m) (inr (more, was, begun)) none = absurd (let no : ⊥ = cc in no)

-- the names of one of the snapshots are taken out
pub taken_sum : (f : List ℕ → ℕ) (names : List Names) (k : ℕ) (one : Names) → k < length names → slice_get names k ≡ Some one → sum_by (names_sum f) (remove names k) + names_sum f one ≡ sum_by (names_sum f) names
taken_sum f names k one within is =
    let less = sum_by-remove (names_sum f) names k one within in
    let same : names_sum f (get_or names k one) ≡ names_sum f one = ap (names_sum f) (get_or_from_slice_get names k one one is) in
    omega (arith, less, same)

-- none was being merged
pub none_sum : (f : List ℕ → ℕ) (merging : Option Names) → is_some merging ≡ false → merging_sum f merging ≡ 0
none_sum f None none = refl
none_sum f (Some n) none = absurd (let no : ⊥ = cc in no)

-- the names of a volume are those that it is made of
pub named_sum : (f : List ℕ → ℕ) (p : Parts) (v : Rested Stack) → is_some p.merging ≡ is_some v.events.merge → volume_sum f (named_with p v) ≡ parts_sum f p
named_sum f p v begun = ap (λ m. f p.origin + sum_by f p.under + sum_by (names_sum f) p.snaps + merging_sum f m) (names_are p.merging v begun)

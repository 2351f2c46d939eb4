-- A copy that is found in a snapshot, and is its only one, is alone there.
use Rattle.std.proofs.Common.{◌≡◌, ℕ, ◌<◌, Bool, true, List, [], ◌∷◌, length, get_or, Some, None, ap, ◌∙◌, sym}
use Rattle.std.specs.Prelude.{◌==◌}
use Rattle.std.specs.List.{list_any, position}
use Rattle.std.proofs.lemmas.Bool.{and_from}
use Rattle.std.proofs.lemmas.List.Folds.{list_any_at}
use Rattle.std.proofs.lemmas.List.Quantifiers.{position-Some}
use Rattle.in_flight.specs.declared.copies.Stage.TheVariants.{Read}
use Rattle.snapshot.specs.Kept.{Kept}
use Rattle.snapshot_list.specs.Finding.{has_copy_at, is_copy_of}
use Rattle.counted_volume.specs.Following.{is_alone}

-- what is found is there
pub position_any : {X : Type 0} (test : X → Bool) (xs : List X) (j : ℕ) → position test xs ≡ Some j → list_any test xs ≡ true
position_any test [] j found = (let e : None ≡ Some j = found in absurd (cc))
position_any test (x ∷ xs) j found = (let p = position-Some test (x ∷ xs) j x found in list_any_at test (x ∷ xs) j x p.0 p.1)

pub alone_at : {B : Type 0} (n k j : ℕ) (snaps : List (Kept B)) (s : Kept B) → k < length snaps → s ≡ get_or snaps k s → position (is_copy_of Read n) s.copies ≡ Some j → (length s.copies == 1) ≡ true → list_any (is_alone n) snaps ≡ true
alone_at n k j snaps s within is found one =
    list_any_at (is_alone n) snaps k s within (ap (is_alone n) (sym is) ∙ and_from (has_copy_at Read n s) (length s.copies == 1) (position_any (is_copy_of Read n) s.copies j found) one)

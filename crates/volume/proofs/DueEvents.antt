-- Which events are due, as the searches find it.
use Rattle.std.proofs.Common.{◌≡◌, ℕ, ◌<◌, Bool, true, List, [], ◌∷◌, Some, length, get_or, map, refl, sym, ◌∙◌, ap}
use Rattle.std.specs.Prelude.{◌||◌}
use Rattle.std.specs.List.{list_any, position}
use Rattle.std.proofs.lemmas.List.{get_or_default}
use Rattle.std.proofs.lemmas.List.Folds.{Any-from_list_any}
use Rattle.device.specs.Layers.{Layer}
use Rattle.in_flight.specs.declared.copies.Mark.{Mark}
use Rattle.in_flight.specs.declared.copies.Stage.{Stage}
use Rattle.in_flight.specs.declared.flights.Flight.{Flight}
use Rattle.volume_laws.specs.Due.{DueSnap}
use Rattle.snapshot.specs.Kept.{Kept, due_of_kept}
use Rattle.snapshot_list.specs.Finding.{is_copy_of, has_copy_at, is_mark_of, has_mark_at}
use Rattle.snapshot_list.proofs.Finds.{position_within, position_any, any_passes, any_of}

module _ {B : Type 0} (contents : B → List ℕ) (layers : B → List Layer) where
  -- a test of the snapshots is a test of what says which events are due
  pub due_by : (test : DueSnap → Bool) (found : Kept B → Bool) (snaps seen : List (Kept B)) (b : Bool) → seen ≡ snaps → ((s : Kept B) → test (due_of_kept contents layers s) ≡ found s) → list_any found seen ≡ b
      → list_any test (map (due_of_kept contents layers) snaps) ≡ b
  due_by test found snaps seen b same tests any = any_of test (due_of_kept contents layers) snaps ∙ same_any snaps ∙ ap (list_any found) (sym same) ∙ any
    where
      same_any : (xs : List (Kept B)) → list_any (λ s. test (due_of_kept contents layers s)) xs ≡ list_any found xs
      same_any [] = refl
      same_any (x ∷ xs) = ap (λ b. b || list_any (λ s. test (due_of_kept contents layers s)) xs) (tests x) ∙ ap (λ b. found x || b) (same_any xs)

-- a copy that was found in a snapshot that was found
pub copy_found : {B : Type 0} (stage : Stage) (number k j : ℕ) (snaps seen : List (Kept B)) (s : Kept B) → seen ≡ snaps → s ≡ get_or snaps k s → position (is_copy_of stage number) (get_or seen k s).copies ≡ Some j → position (is_copy_of stage number) s.copies ≡ Some j
copy_found stage number k j snaps seen s same is found = ap (λ (x : Kept _). position (is_copy_of stage number) x.copies) (is ∙ ap (λ xs. get_or xs k s) (sym same)) ∙ found

pub copy_due : {B : Type 0} (stage : Stage) (number k j : ℕ) (snaps : List (Kept B)) (s : Kept B) → k < length snaps → s ≡ get_or snaps k s → position (is_copy_of stage number) s.copies ≡ Some j → list_any (has_copy_at stage number) snaps ≡ true
copy_due stage number k j snaps s within is found = any_passes (has_copy_at stage number) snaps k s within is (position_any (is_copy_of stage number) s.copies j found)

-- a snapshot that was found by a test
pub snap_found : {B : Type 0} (test : Kept B → Bool) (k : ℕ) (snaps seen : List (Kept B)) (s : Kept B) → seen ≡ snaps → s ≡ get_or snaps k s → test (get_or seen k s) ≡ true → test s ≡ true
snap_found test k snaps seen s same is found = ap test (is ∙ ap (λ xs. get_or xs k s) (sym same)) ∙ found

pub snap_due : {B : Type 0} (test : Kept B → Bool) (k : ℕ) (snaps : List (Kept B)) (s : Kept B) → k < length snaps → s ≡ get_or snaps k s → test s ≡ true → list_any test snaps ≡ true
snap_due test k snaps s within is found = any_passes test snaps k s within is found

-- a mark that was found in a snapshot that was found
pub mark_found : {B : Type 0} (number k j : ℕ) (snaps seen : List (Kept B)) (flights met : List Flight) (s : Kept B) → seen ≡ snaps → met ≡ flights → s ≡ get_or snaps k s
    → position (is_mark_of (get_or seen k s) met number) (get_or seen k s).marks ≡ Some j → position (is_mark_of s flights number) s.marks ≡ Some j
mark_found number k j snaps seen flights met s same flown is found =
    ap (λ fs. position (is_mark_of s fs number) s.marks) (sym flown) ∙ ap (λ (x : Kept _). position (is_mark_of x met number) x.marks) (is ∙ ap (λ xs. get_or xs k s) (sym same)) ∙ found

pub mark_due : {B : Type 0} (number k j : ℕ) (snaps : List (Kept B)) (flights : List Flight) (s : Kept B) → k < length snaps → s ≡ get_or snaps k s → position (is_mark_of s flights number) s.marks ≡ Some j → list_any (has_mark_at flights number) snaps ≡ true
mark_due number k j snaps flights s within is found = any_passes (has_mark_at flights number) snaps k s within is (position_any (is_mark_of s flights number) s.marks j found)

-- the mark itself
pub mark_is : {B : Type 0} (number j : ℕ) (flights : List Flight) (s : Kept B) → position (is_mark_of s flights number) s.marks ≡ Some j → (m : Mark) × (m ≡ get_or s.marks j m)
mark_is number j flights s found =
    let (i, d, lt, at, passes) = Any-from_list_any (is_mark_of s flights number) s.marks (position_any (is_mark_of s flights number) s.marks j found) in
    (get_or s.marks j d, get_or_default s.marks j d (get_or s.marks j d) (position_within (is_mark_of s flights number) s.marks j found))

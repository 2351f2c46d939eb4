-- Where no device drops writes, the pairs that a merge has left are those of its store's bytes.
use Rattle.std.proofs.Common.{◌≡◌, ℕ, ◌<◌, Bool, true, List, Option, Some, None, length, refl, sym, ◌∙◌, ap, subst, arith, length-append}
use Rattle.std.specs.Prelude.{◌==◌, ◌&&◌, not}
use Rattle.device.specs.Layers.{Layer, is_loud}
use Rattle.plain_machine.specs.declared.event.Event.TheVariants.{MergeCommit}
use Rattle.plain_machine.specs.declared.event.Outcome.TheVariants.{Done}
use Rattle.volume_laws.specs.MergeSteps.{CommitsGroup}
use Rattle.volume_laws.specs.Whole.{OriginHolds}
use Rattle.volume_laws.proofs.MergeLeft.{some_pairs}
use Rattle.merge.specs.Due.{has_group_of}
use Rattle.merge.specs.Merging.{Merging, books_of as merging_books, due_of as merging_due}
use Rattle.snapshot_list.specs.Rooms.{merge_books}
use Rattle.volume.specs.Asking.{is_finished_in}
use Rattle.volume.specs.Stored.{pairs_left, pairs_stored, is_finished_on, RemovesPairs}
use Rattle.volume.specs.Volumed.{Volumed, books_of, is_loud_in_all}
use Rattle.volume.specs.Whole.{IsWhole}
use Rattle.volume.proofs.Shown.{loud_books}

module _ {B : Type 0} (contents : B → List ℕ) (layers : B → List Layer) (size : B → ℕ) (v : Volumed B) (h : IsWhole contents layers size v) where
  pub stored : is_loud_in_all layers v ≡ true → pairs_stored contents v.merge ≡ pairs_left v.merge
  stored loud = by v.merge refl
    where
      by : (merge : Option (Merging B)) → v.merge ≡ merge → pairs_stored contents merge ≡ pairs_left merge
      by None is = refl
      by (Some m) is =
          let one : Bool = is_loud (layers v.origin) && is_loud (layers m.device) in
          let books : (books_of contents layers size v).merge ≡ Some (merging_books contents one m) = ap (merge_books contents layers (is_loud (layers v.origin))) is in
          (subst (OriginHolds (contents v.origin) v.flights) books h.holds.merge).stored ((loud_books contents layers size v loud).merge (merging_books contents one m) books)

  pub finished : is_loud_in_all layers v ≡ true → is_finished_in v.merge ≡ is_finished_on contents v.merge
  finished loud = by v.merge (stored loud)
    where
      by : (merge : Option (Merging B)) → pairs_stored contents merge ≡ pairs_left merge → is_finished_in merge ≡ is_finished_on contents merge
      by None same = refl
      by (Some m) same = ap (λ ps. (length ps == 0) && not (has_group_of m.group)) (sym same)

-- a commit takes the group's pairs away
pub committed : {B : Type 0} (contents : B → List ℕ) (layers : B → List Layer) (size : B → ℕ) (v w : Volumed B) → IsWhole contents layers size v → IsWhole contents layers size w → is_loud_in_all layers w ≡ is_loud_in_all layers v
    → (m m' : Merging B) → v.merge ≡ Some m → w.merge ≡ Some m' → (loud : Bool) → CommitsGroup m'.pairs (contents m'.device) (merging_due contents loud m) (merging_due contents loud m') → RemovesPairs contents layers MergeCommit Done v w
committed contents layers size v w h k same m m' was is sound step =
    let less : length m'.pairs < length m.pairs = omega (arith, ap length step.ends, length-append m'.pairs (merging_books contents true m).copied, some_pairs (merging_books contents true m).copied step.some) in
    let old : pairs_left v.merge ≡ m.pairs = ap pairs_left was in
    let new : pairs_left w.merge ≡ m'.pairs = ap pairs_left is in (
      omega (arith, less, ap length old, ap length new),
      λ loud. (let a = stored contents layers size v h loud in let b = stored contents layers size w k (same ∙ loud) in omega (arith, less, ap length old, ap length new, ap length a, ap length b)),
    )

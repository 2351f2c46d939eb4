-- Where an event of the merge is due, beside the snapshots and requests.
use Rattle.std.proofs.Common.{◌≡◌, ℕ, Bool, true, false, List, Option, Some, None, ap, refl}
use Rattle.std.specs.Prelude.{not, IsSome}
use Rattle.std.specs.List.{list_any}
use Rattle.std.proofs.lemmas.Bool.{false≢true}
use Rattle.sector.specs.declared.pair.Pair.{Pair}
use Rattle.device.specs.Layers.{Layer}
use Rattle.plain_machine.specs.declared.event.Event.{Event}
use Rattle.plain_machine.specs.declared.event.Event.TheVariants.{MergeAreaRead, MergeCommit, MergeFlush, MergeRead, MergeRelease}
use Rattle.in_flight.specs.declared.flights.Flight.{Flight}
use Rattle.volume_laws.specs.Books.{MergeBooks}
use Rattle.volume_laws.specs.MergeDue.{is_none, is_using, is_readable, can_read, can_read_area, can_flush, can_commit_group, can_release, is_due_with}
use Rattle.merge.specs.declared.group.Group.{Group}
use Rattle.merge.specs.declared.group.Progress.{Progress}
use Rattle.merge.specs.declared.group.Progress.TheVariants.{Open, Full, Flushed, Committed}
use Rattle.merge.specs.Due.{has_group_of, can_read_area_of, last_in, next_of, next_read_of, read_at_progress, release_at, can_release_of}
use Rattle.merge.specs.Merging.{Merging, books_of as merging_books, due_of as merging_due}
use Rattle.volume.specs.Volumed.{Volumed, dues_of, merge_due, is_due_by, is_due_of}
use Rattle.volume.proofs.Shown.{and_left, and_right}

-- a chunk that may be read is that of a pair, the last that waits
pub read_pair : (rs : List Flight) (pair : Option Pair) → is_readable rs pair ≡ true → (q : Pair) × (pair ≡ Some q)
read_pair rs None e = absurd (false≢true e)
read_pair rs (Some q) e = (q, refl)

pub read_some : (rs : List Flight) (pair : Option Pair) → is_readable rs pair ≡ true → IsSome pair
read_some rs None e = absurd (false≢true e)
read_some rs (Some q) e = refl

at_progress : (p : Progress) (g : Group) (q : Pair) → read_at_progress p g ≡ Some q → last_in g ≡ Some q
at_progress Open g q e = e
at_progress Full g q e = absurd (cc)
at_progress Flushed g q e = absurd (cc)
at_progress Committed g q e = absurd (cc)

pub read_next : (group : Option Group) (q : Pair) → next_read_of group ≡ Some q → next_of group ≡ Some q
read_next None q e = absurd (cc)
read_next (Some g) q e = at_progress g.progress g q e

early_at : (p : Progress) (g : Group) (q : Pair) → read_at_progress p g ≡ Some q → release_at p ≡ false
early_at Open g q e = refl
early_at Full g q e = absurd (cc)
early_at Flushed g q e = absurd (cc)
early_at Committed g q e = absurd (cc)

pub read_early : (group : Option Group) (q : Pair) → next_read_of group ≡ Some q → can_release_of group ≡ false
read_early None q e = absurd (cc)
read_early (Some g) q e = early_at g.progress g q e

-- a group that may end is committed
pub release_ready : (rs : List Flight) (m : MergeBooks) → can_release rs m ≡ true → not (is_none m.released) ≡ true
release_ready rs m e = and_left (not (is_none m.released)) (not (list_any (is_using m.released) rs)) e

-- where an area may be read, no group is formed
pub area_free : {B : Type 0} (m : Merging B) → can_read_area_of m ≡ true → has_group_of m.group ≡ false
area_free m e = not_true (has_group_of m.group) (and_left (not (has_group_of m.group)) _ (and_right (not m.failed) _ e))
  where
    not_true : (b : Bool) → not b ≡ true → b ≡ false
    not_true true x = absurd (false≢true x)
    not_true false x = refl

module _ {B : Type 0} (contents : B → List ℕ) (layers : B → List Layer) (v : Volumed B) (m : Merging B) (was : v.merge ≡ Some m) where
  pub due_beside : (event : Event) → is_due_of contents layers v event ≡ is_due_with (dues_of contents layers v) v.flights (merging_due contents true m) event
  due_beside event = ap (λ (x : Option (Merging B)). is_due_by (dues_of contents layers v) v.flights (merge_due contents x) event) was

  pub area_due : is_due_of contents layers v MergeAreaRead ≡ can_read_area (merging_due contents true m)
  area_due = due_beside MergeAreaRead

  pub read_due : is_due_of contents layers v MergeRead ≡ can_read v.flights (merging_books contents true m)
  read_due = due_beside MergeRead

  pub flush_due : is_due_of contents layers v MergeFlush ≡ can_flush (merging_due contents true m)
  flush_due = due_beside MergeFlush

  pub commit_due : is_due_of contents layers v MergeCommit ≡ can_commit_group (merging_due contents true m)
  commit_due = due_beside MergeCommit

  pub release_due : is_due_of contents layers v MergeRelease ≡ can_release v.flights (merging_books contents true m)
  release_due = due_beside MergeRelease

-- An event of snapshots and requests is due beside a merge where it is due without one, and the event that is due first is due.
use Rattle.std.proofs.Common.{◌≡◌, ◌≢◌, ℕ, Bool, true, false, List, Option, Some, None, map, refl, ◌∙◌, ap}
use Rattle.std.specs.Prelude.{◌||◌, AllPairs}
use Rattle.device.specs.Layers.{Layer}
use Rattle.plain_machine.specs.declared.event.Event.{Event}
use Rattle.in_flight.specs.declared.flights.Flight.{Flight}
use Rattle.volume_laws.specs.Books.{SnapBooks}
use Rattle.volume_laws.specs.Due.{DueSnap, books_of, is_due}
use Rattle.volume_laws.specs.MergeDue.{DueMerge, is_merge_due}
use Rattle.volume_laws.proofs.Due.{due_is_due}
use Rattle.volume_laws.proofs.MergeDue.{due_with_is_due}
use Rattle.volume.specs.Volumed.{Volumed, dues_of, merge_due, due_by, is_due_by, next_of, is_due_of}

or_false : (b : Bool) → (b || false) ≡ b
or_false true = refl
or_false false = refl

own_by : (snaps : List DueSnap) (rs : List Flight) (merge : Option DueMerge) (event : Event) → ((xs : List SnapBooks) (d : DueMerge) → is_merge_due xs rs d event ≡ false) → is_due_by snaps rs merge event ≡ is_due snaps rs event
own_by snaps rs None event none = refl
own_by snaps rs (Some d) event none = ap (λ b. is_due snaps rs event || b) (none (map books_of snaps) d) ∙ or_false (is_due snaps rs event)

first_by : (snaps : List DueSnap) (rs : List Flight) (merge : Option DueMerge) (event : Event) → AllPairs (λ (f g : Flight). f.number ≢ g.number) rs → due_by snaps rs merge ≡ Some event → is_due_by snaps rs merge event ≡ true
first_by snaps rs None event apart is = due_is_due snaps rs event apart is
first_by snaps rs (Some d) event apart is = due_with_is_due snaps rs d event apart is

module _ {B : Type 0} (contents : B → List ℕ) (layers : B → List Layer) (v : Volumed B) (event : Event) where
  -- an event that is none of a merge
  pub own_due : ((xs : List SnapBooks) (d : DueMerge) → is_merge_due xs v.flights d event ≡ false) → is_due_of contents layers v event ≡ is_due (dues_of contents layers v) v.flights event
  own_due none = own_by (dues_of contents layers v) v.flights (merge_due contents v.merge) event none

  pub first_due : AllPairs (λ (f g : Flight). f.number ≢ g.number) v.flights → next_of contents layers v ≡ Some event → is_due_of contents layers v event ≡ true
  first_due apart is = first_by (dues_of contents layers v) v.flights (merge_due contents v.merge) event apart is

-- Snapshots after the copies are started that a merge waits for, after a mark is taken away, or after a copy is started for a
-- request: what losses speak of is left.
use Rattle.std.proofs.Common.{◌≡◌, inl, inr, ℕ, List, Option, None, Some, refl, sym, subst}
use Rattle.sector.specs.declared.pair.Pair.{Pair}
use Rattle.sector.specs.declared.refusal.Refusal.{Refusal}
use Rattle.plain_machine.specs.declared.request.Overflowing.{Overflowing}
use Rattle.plain_machine.specs.declared.request.Overflowing.TheVariants.{Did}
use Rattle.device.specs.Layers.{Layer}
use Rattle.in_flight.specs.declared.copies.Mark.{Mark}
use Rattle.in_flight.specs.declared.flights.Flight.{Flight}
use Rattle.merge.specs.Lists.{next_of_group}
use Rattle.merge.specs.Merging.{Merging}
use Rattle.snapshot_list.specs.MergeStarting.{IsNextSaved, IsNextSavedBeside, next_for}
use Rattle.snapshot.specs.Kept.{Kept}
use Rattle.snapshot_list.specs.Starting.{own_of}
use Rattle.volume.proofs.Lefts.{LeftBy, AllLeft, left_saved, all_same, all_next}
use Rattle.volume.proofs.SnapWrites.{IsRefusedFull}

-- a mark is taken away
pub left_marks : {B : Type 0} (s t : Kept B) (marks : List Mark) (merging : Option ℕ) → t ≡ record s { marks = marks; merging = merging } → LeftBy s t
left_marks s t marks merging e = subst (LeftBy s) (sym e) (refl, record { chunk = refl; current = refl; zeroed = refl; firm = refl; sure = refl; marked = refl; pairs = refl }, inl (refl, refl, refl, λ q r. r))

-- a full store is found, of one that may overflow
pub left_over : {B : Type 0} (s t : Kept B) (overflow : Overflowing) → t ≡ record s { overflow = overflow } → LeftBy s t
left_over s t overflow e = subst (LeftBy s) (sym e) (refl, record { chunk = refl; current = refl; zeroed = refl; firm = refl; sure = refl; marked = refl; pairs = refl }, inl (refl, refl, refl, λ q r. r))

module _ {B : Type 0} (contents : B → List ℕ) (layers : B → List Layer) where
  pub next_saved : (chunk sectors : ℕ) (q : Option Pair) (ss ts : List (Kept B)) (n m : ℕ) (fs gs : List Flight) → IsNextSaved contents layers chunk sectors q ss ts n m fs gs → AllLeft ss ts
  next_saved chunk sectors None ss ts n m fs gs e = all_same ss ts e.0
  next_saved chunk sectors (Some q) ss ts n m fs gs e = all_next contents layers (next_for chunk sectors q) ss ts n m fs gs e

  pub next_beside : (merge : Option (Merging B)) (ss ts : List (Kept B)) (n m : ℕ) (fs gs : List Flight) → IsNextSavedBeside contents layers merge ss ts n m fs gs → AllLeft ss ts
  next_beside None ss ts n m fs gs e = all_same ss ts e.0
  next_beside (Some x) ss ts n m fs gs e = next_saved x.state.chunk x.state.origin (next_of_group x.group) ss ts n m fs gs e

  -- a write of a snapshot that is refused for its full store
  pub left_why : (c : ℕ) (refusal : Refusal) (s t : Kept B) (m : ℕ) (fs gs : List Flight) → IsRefusedFull contents layers c refusal s t m fs gs → LeftBy s t
  left_why c refusal s t m fs gs e = elim e [ inl spoilt ↦ left_saved contents layers (own_of c s) s t m m fs gs spoilt.2 | inr over ↦ left_over s t Did over.3 ]

-- What the looks at a merge say of its books: they are those by which a volume tells which event is due.
use Rattle.std.specs.Prelude.{◌≡◌, not, ℕ, Bool, List, [], ◌∷◌, Option, Some, None}
use Rattle.sector.specs.declared.pair.Pair.{Pair}
use Rattle.in_flight.specs.declared.flights.Flight.{Flight}
use Rattle.volume_laws.specs.Books.{SnapBooks}
use Rattle.volume_laws.specs.MergeDue.{has_group, is_finished, can_group, can_read_area, can_read, can_write, can_flush, can_commit_group, is_none, is_readable, is_writable, last_of}
use Rattle.merge.specs.Due.{has_group_of, is_finished_of, can_group_of, can_read_area_of, next_of, next_read_of, full_of, can_flush_of, can_commit_of, can_release_of}
use Rattle.merge.specs.Lists.{waiting_of, released_of}
use Rattle.merge.specs.Merging.{Merging, books_of, due_of}

-- one pair, or none
abbrev pub option_pairs : Option Pair → List Pair
option_pairs None = []
option_pairs (Some q) = q ∷ []

pub record LooksAgree {B : Type 0} (contents : B → List ℕ) (loud : Bool) (m : Merging B) : Type 0 where
  pub present : has_group_of m.group ≡ has_group (books_of contents loud m)
  pub finished : is_finished_of m ≡ is_finished (books_of contents loud m)
  pub group : can_group_of m ≡ can_group (due_of contents loud m)
  pub area : can_read_area_of m ≡ can_read_area (due_of contents loud m)
  pub next : next_of m.group ≡ last_of (waiting_of m.group)
  pub read : (rs : List Flight) → can_read rs (books_of contents loud m) ≡ is_readable rs (next_read_of m.group)
  pub write : (snaps : List SnapBooks) → can_write snaps (books_of contents loud m) ≡ is_writable snaps m.state.chunk m.state.origin (option_pairs (full_of m.group))
  pub flush : can_flush_of m.group ≡ can_flush (due_of contents loud m)
  pub commit : can_commit_of m.group ≡ can_commit_group (due_of contents loud m)
  pub release : can_release_of m.group ≡ not (is_none (released_of m.group))

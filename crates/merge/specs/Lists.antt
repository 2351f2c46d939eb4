-- To be believed: `run`'s output, a volume's steps or its attach are said in these words.
-- The present group of a merge as lists of pairs: those that wait, the one in the buffer, those that are copied, and those
-- whose slots are cleared. This project's own.
use Rattle.std.specs.Prelude.{◌==◌, ℕ, ◌+◌, ◌-◌, Bool, true, false, List, [], ◌∷◌, ◌++◌, Option, Some, None}
use Rattle.std.specs.List.{list_any}
use Rattle.sector.specs.declared.pair.Pair.{Pair}
use Rattle.store.specs.Grouping.{shifted, run_at}
use Rattle.volume_laws.specs.MergeDue.{last_of}
use Rattle.merge.specs.declared.group.Group.{Group}
use Rattle.merge.specs.declared.group.Progress.{Progress}
use Rattle.merge.specs.declared.group.Progress.TheVariants.{Open, Full, Flushed, Committed}

-- how many chunks are in the buffer
abbrev pub buffered_count : Progress → ℕ
buffered_count Open = 0
buffered_count Full = 1
buffered_count Flushed = 0
buffered_count Committed = 0

-- whether all chunks are copied, and the origin is flushed
abbrev pub is_flushed : Progress → Bool
is_flushed Open = false
is_flushed Full = false
is_flushed Flushed = true
is_flushed Committed = true

-- whether the area is written without the group's slots
abbrev pub is_committed : Progress → Bool
is_committed Open = false
is_committed Full = false
is_committed Flushed = false
is_committed Committed = true

-- how many pairs a group has
abbrev pub total : Group → ℕ
total g = g.waiting + (buffered_count g.progress + g.copied)

-- all of them
abbrev pub all_in : Group → List Pair
all_in g = run_at g.first 0 (total g)

abbrev pub waiting_of : Option Group → List Pair
waiting_of None = []
waiting_of (Some g) = run_at g.first 0 g.waiting

abbrev pub reading_at : Progress → Group → List Pair
reading_at Open g = []
reading_at Full g = shifted g.first g.waiting ∷ []
reading_at Flushed g = []
reading_at Committed g = []

abbrev pub reading_of : Option Group → List Pair
reading_of None = []
reading_of (Some g) = reading_at g.progress g

abbrev pub copied_at : Progress → Group → List Pair
copied_at Open g = run_at g.first g.waiting g.copied
copied_at Full g = run_at g.first (g.waiting + 1) g.copied
copied_at Flushed g = run_at g.first g.waiting g.copied
copied_at Committed g = []

abbrev pub copied_of : Option Group → List Pair
copied_of None = []
copied_of (Some g) = copied_at g.progress g

abbrev pub released_at : Progress → Group → List Pair
released_at Open g = []
released_at Full g = []
released_at Flushed g = []
released_at Committed g = run_at g.first g.waiting g.copied

abbrev pub released_of : Option Group → List Pair
released_of None = []
released_of (Some g) = released_at g.progress g

-- all pairs of the present group, if there is one
abbrev pub group_pairs : Option Group → List Pair
group_pairs group = waiting_of group ++ (reading_of group ++ (copied_of group ++ released_of group))

-- the pair that is copied next: the one whose chunk is in the buffer, or else the last that waits
abbrev pub first_or : List Pair → Option Pair → Option Pair
first_or [] last = last
first_or (q ∷ pairs) last = Some q

abbrev pub next_of_group : Option Group → Option Pair
next_of_group group = first_or (reading_of group) (last_of (waiting_of group))

-- whether one of these pairs has its copy at a place of the store
abbrev pub has_place : List Pair → ℕ → Bool
has_place pairs place = list_any (λ q. q.new == place) pairs

-- What events make of a group: it is formed, its last waiting chunk is read, that is written, the origin is flushed, and
-- the area is written.
abbrev pub formed : Pair → ℕ → Group
formed first count = record { first = first; waiting = count; copied = 0; progress = Open }

abbrev pub taken_in : Group → Group
taken_in g = record g { waiting = g.waiting - 1; progress = Full }

abbrev pub written_in : Group → Group
written_in g = record g { copied = g.copied + 1; progress = Open }

abbrev pub flushed_in : Group → Group
flushed_in g = record g { progress = Flushed }

abbrev pub committed_in : Group → Group
committed_in g = record g { progress = Committed }

-- all chunks that wait are read and written
abbrev pub copied_in : Group → Group
copied_in g = record g { waiting = 0; copied = g.copied + g.waiting }

-- the present group, changed
abbrev pub changed : (Group → Group) → Option Group → Option Group
changed f None = None
changed f (Some g) = Some (f g)

-- how many of its chunks are copied
abbrev pub copied_count : Option Group → ℕ
copied_count None = 0
copied_count (Some g) = g.copied

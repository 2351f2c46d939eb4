-- What an event or a request looks for: a snapshot by its number, or a copy or a mark by its own.
use Rattle.std.specs.Prelude.{◌≡◌, ◌==◌, ◌<◌, ◌&&◌, ◌||◌, not, ℕ, Bool, true, false, IfNone, IfSome, List, Option, Some, length, slice_index_or}
use Rattle.std.specs.List.{list_any, position}
use Rattle.in_flight.specs.Due.{is_copy_at, is_publishable, front_ready, front_unflushed}
use Rattle.in_flight.specs.declared.copies.Stage.{Stage}
use Rattle.in_flight.specs.declared.copies.ChunkCopy.{ChunkCopy}
use Rattle.in_flight.specs.declared.copies.Mark.{Mark}
use Rattle.in_flight.specs.declared.flights.Flight.{Flight}
use Rattle.snapshot.specs.Kept.{Kept, needs_area, waits_area}
use Rattle.volume_laws.specs.Due.{is_unsafe}

-- the place of the snapshot with a number
abbrev pub place_of_snap : {B : Type 0} → ℕ → List (Kept B) → Option ℕ
place_of_snap number snaps = position (λ s. s.number == number) snaps

-- the copy of a number, at a stage
abbrev pub is_copy_of : Stage → ℕ → ChunkCopy → Bool
is_copy_of stage number copy = (copy.number == number) && is_copy_at stage copy

abbrev pub has_copy_at : {B : Type 0} → Stage → ℕ → Kept B → Bool
has_copy_at stage number s = list_any (is_copy_of stage number) s.copies

-- the mark of a number, which can be taken away
abbrev pub is_mark_of : {B : Type 0} → Kept B → List Flight → ℕ → Mark → Bool
is_mark_of s flights number mark = (mark.number == number) && is_publishable s.number s.state.chunk flights mark

abbrev pub has_mark_at : {B : Type 0} → List Flight → ℕ → Kept B → Bool
has_mark_at flights number s = list_any (is_mark_of s flights number) s.marks

-- the snapshot of a number, where its store's header is to be marked invalid
abbrev pub is_trying : {B : Type 0} → ℕ → Kept B → Bool
is_trying number s = (s.number == number) && (s.untried && not s.marked)

-- something waits for a flush of its store: that mark, its first copy, the area that is zeroed for the first copies, or a
-- publication
abbrev pub waits_for_flush : {B : Type 0} → Kept B → Bool
waits_for_flush s =
    (s.untried && s.marked) || front_unflushed s.copies || (front_ready s.copies && (waits_area s.state s.copies && not (needs_area s.state s.copies))) || list_any is_unsafe s.marks

abbrev pub is_flushing : {B : Type 0} → ℕ → Kept B → Bool
is_flushing number s = (s.number == number) && waits_for_flush s

-- where its first copies can be committed
abbrev pub is_committing : {B : Type 0} → ℕ → Kept B → Bool
is_committing number s = (s.number == number) && (front_ready s.copies && not (waits_area s.state s.copies))

-- where it needs its next area zeroed for its first copies
abbrev pub is_zeroing : {B : Type 0} → ℕ → Kept B → Bool
is_zeroing number s = (s.number == number) && (front_ready s.copies && needs_area s.state s.copies)

-- a search by a number finds the place of a snapshot that has one of its copies at this stage, and that copy's place; or none has
abbrev pub FindsCopy : {B : Type 0} → Stage → ℕ → Option (ℕ × ℕ) → List (Kept B) → Type 0
FindsCopy stage number result snaps = IfSome result (λ p. (p.0 < length snaps) × ((s : Kept _) → position (is_copy_of stage number) (slice_index_or snaps p.0 s).copies ≡ Some p.1))

abbrev pub LacksCopy : {A B : Type 0} → Stage → ℕ → Option A → List (Kept B) → Type 0
LacksCopy stage number result snaps = IfNone result (list_any (has_copy_at stage number) snaps ≡ false)

-- the place of one that waits for a flush; or none does
abbrev pub FindsFlushing : {B : Type 0} → ℕ → Option ℕ → List (Kept B) → Type 0
FindsFlushing number result snaps = IfSome result (λ k. (k < length snaps) × ((s : Kept _) → is_flushing number (slice_index_or snaps k s) ≡ true))

abbrev pub LacksFlushing : {A B : Type 0} → ℕ → Option A → List (Kept B) → Type 0
LacksFlushing number result snaps = IfNone result (list_any (is_flushing number) snaps ≡ false)

-- the place of one whose first copies can be committed; or of none they can
abbrev pub FindsCommitting : {B : Type 0} → ℕ → Option ℕ → List (Kept B) → Type 0
FindsCommitting number result snaps = IfSome result (λ k. (k < length snaps) × ((s : Kept _) → is_committing number (slice_index_or snaps k s) ≡ true))

abbrev pub LacksCommitting : {A B : Type 0} → ℕ → Option A → List (Kept B) → Type 0
LacksCommitting number result snaps = IfNone result (list_any (is_committing number) snaps ≡ false)

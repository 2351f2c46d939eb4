-- What a run of seats leaves of the volumes and the tasks that it was given. This project's own.
use Rattle.std.specs.Prelude.{◌≡◌, ◌<◌, ◌++◌, ℕ, List, [], length, slice_index_or}
use Rattle.device.specs.Layers.{Layer}
use Rattle.audited_volume.specs.declared.entry.Entry.{Entry}
use Rattle.audited_volume.specs.Books.{AuditShape}
use Rattle.audited_volume.specs.Entries.{entries_by}
use Rattle.locked_volume.specs.Fixed.{StaysFrom, fixed_of}
use Rattle.locked_volume.specs.AskedFor.{AddsAskedFor}
use Rattle.parallel_threads.specs.Tasks.{merges_among}
use Rattle.parallel_threads.specs.declared.task.Task.{Task}

-- Each is in its place, with no request in flight, and has stayed as it was but for a merge that began. Its journal begins
-- with the entries that it had.
pub record AreLeft {B : Type 0} (size : B → ℕ) (layers : B → List Layer) (old new : List (AuditShape B)) : Type 0 where
  pub many : length new ≡ length old
  pub quiet : (k : ℕ) (d : AuditShape B) → k < length new → (slice_index_or new k d).held ≡ []
  pub stays : (k : ℕ) (d : AuditShape B) → k < length new → StaysFrom (fixed_of size layers (slice_index_or old k d)) (fixed_of size layers (slice_index_or new k d))
  pub grows : (k : ℕ) (d : AuditShape B) → k < length new → (more : List Entry) × ((slice_index_or new k d).entries ≡ (slice_index_or old k d).entries ++ more)

-- Each journal has behind the entries that it had only what these tasks may ask for.
abbrev pub AllAddAskedFor : {B : Type 0} → (ℕ → List Task) → List (AuditShape B) → List (AuditShape B) → Type 0
AllAddAskedFor {B = B} tasks old new = (k : ℕ) (d : AuditShape B) → k < length old → AddsAskedFor (merges_among tasks k) (slice_index_or old k d).entries (slice_index_or new k d).entries

-- No task of a seat was begun, and no seat, of 1 to 8, has an entry more.
pub record NothingRan {B : Type 0} (old new : List (AuditShape B)) (asked told : ℕ → List Task) : Type 0 where
  pub tasks : (i : ℕ) → told i ≡ asked i
  pub entries : (seat k : ℕ) (d : AuditShape B) → 0 < seat → seat < 9 → k < length old → entries_by seat (slice_index_or new k d).entries ≡ entries_by seat (slice_index_or old k d).entries

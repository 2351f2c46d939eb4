-- What the seats of a block made at the volumes, and that it answers their lines. This project's own.
use Rattle.std.specs.Prelude.{◌≡◌, ◌<◌, ℕ, Bool, true, false, List, [], length, map, slice_index_or}
use Rattle.std.specs.List.{count_by}
use Rattle.audited_volume.specs.declared.entry.Entry.{Entry}
use Rattle.audited_volume.specs.Earned.{AreEarned}
use Rattle.audited_volume.specs.Entries.{answered_of, entries_by}
use Rattle.audited_volume.specs.Own.{MeetsOwn}
use Rattle.audited_volume.specs.Replay.{AllLawful, replay}
use Rattle.audited_volume.specs.Undone.{AllShow, AllUndone, left_of, taken_in}
use Rattle.plain_machine.specs.Plain.{Shown, shown_of}
use Rattle.layers.specs.declared.stack.Stack.{Stack}
use Rattle.locked_volume.specs.Keeping.{Begins}
use Rattle.layers.specs.Stack.{stack_contents, stack_layers, stack_size}
use Rattle.sector.specs.declared.refusal.Refusal.{Refusal}
use Rattle.command_semantics.specs.State.{Volume}
use Rattle.device_list.specs.Flights.{InEvents}
use Rattle.locked_volume.specs.Denying.{Wish, WasDenied}
use Rattle.locked_volume.specs.Fixed.{Fixed, piece_at}
use Rattle.locked_volume.specs.Names.{nothing_fixed}
use Rattle.volume_threads.specs.Rigs.{SeatShape, receipts_at, seen_at}
use Rattle.parallel_threads.specs.declared.task.Task.{Task}
use Rattle.parallel_threads.specs.Tasks.{IsEnded}
use Rattle.snapshot_list.specs.Numbers.{number_of_snap}
use Rattle.volume.specs.Stepping.{merged_of}
use Rattle.volume.specs.Volumed.{Volumed, is_loud_in_all, plain_of}
use Rattle.parallel_lines.specs.Asking.{place_among}

-- What was made at a volume: how it stood before, with the arrays that it showed, and the entries since then.
pub record Story : Type 0 where
  pub stood : Fixed
  pub entries : List Entry

abbrev pub no_story : Story
no_story = record { stood = nothing_fixed; entries = [] }

-- the arrays and states that a volume shows
abbrev pub shown_by : Volumed Stack → Shown
shown_by events = shown_of (plain_of stack_contents stack_layers events)

-- how a volume stands, no device of which ever dropped writes, where no entries are counted yet, and so many places of its journal
-- are taken
abbrev pub standing_of : ℕ → Volumed Stack → Fixed
standing_of taken v = record {
  attached = v.attached;
  sectors = stack_size v.origin;
  numbers = map number_of_snap v.snaps;
  chunks = map (λ s. s.state.chunk) v.snaps;
  merged = merged_of v.merge;
  sound = is_loud_in_all stack_layers v;
  loud = true;
  base = shown_by v;
  taken = taken;
  folded = [];
}

-- Entries that were made at a volume that stood so: each is lawful after those before it, and all of them give what the volume
-- shows; and a seat that reads a byte behind a write of its own gets what it wrote, or an entry between the two changed that. A snapshot
-- that no entry wrote shows what it showed before, or is lost, and if one began to merge it, the origin showed just that. No more
-- places of its journal were taken before than the requests that it was asked and the snapshots that it took had taken.
pub record IsPlayed (story : Story) (before after : Volumed Stack) : Type 0 where
  pub stood : story.stood ≡ standing_of story.stood.taken before
  pub earned : AreEarned story.stood.taken before
  pub lawful : AllLawful (shown_by before) story.entries
  pub gives : replay (shown_by before) story.entries ≡ shown_by after
  pub own : (seat : ℕ) → MeetsOwn seat story.entries
  pub undone : AllUndone (taken_in (shown_by before)) (shown_by before) story.entries
  pub keeps : AllShow (left_of (taken_in (shown_by before)) (shown_by before) story.entries) (shown_by after)

-- The same of a volume with names, no device of which ever dropped writes.
abbrev pub IsPlayedIn : Story → Volume → Volume → Type 0
IsPlayedIn story old new = old.sound ≡ true → InEvents (IsPlayed story) old new

-- The entries of each volume that is used, at its place among these.
pub record ArePlayed (used : List Bool) (played : List Story) (old new : List Volume) : Type 0 where
  pub many : length played ≡ count_by (λ is_used. is_used) used
  pub each : (v : ℕ) (o n : Volume) → v < length old → slice_index_or used v false ≡ true → IsPlayedIn (slice_index_or played (place_among used v) no_story) (slice_index_or old v o) (slice_index_or new v n)

-- what a volume of these denied, by its entries as far as a seat had seen them
abbrev pub denied_in : List Story → ℕ → List Entry → Wish → Refusal → Type 0
denied_in played k seen wish refusal = WasDenied [] (slice_index_or played k no_story).stood seen wish refusal

-- and the sectors of a piece of it
abbrev pub pieces_in : List Story → ℕ → ℕ
pieces_in played k = piece_at (slice_index_or played k no_story).stood

-- what a seat knows of a volume's entries: its receipts are its own, in their order, and what it has seen are the first
pub record IsToldOf (entries : List Entry) (number k : ℕ) (seat : SeatShape) : Type 0 where
  pub own : entries_by number entries ≡ map answered_of (receipts_at seat k)
  pub seen : Begins (seen_at seat k) entries

-- A seat did these tasks, or none of them, by its own entries, and what was denied was denied by what it saw.
abbrev pub IsPlayedBy : List Story → ℕ → List Task → List Task → Type 0
IsPlayedBy played number asked told =
    (seat : SeatShape) × IsEnded (denied_in played) (pieces_in played) asked told number seat
    × ((k : ℕ) → k < length played → IsToldOf (slice_index_or played k no_story).entries number k seat)

-- What a volume keeps true.
use Rattle.std.specs.Prelude.{◌≡◌, ◌≢◌, ℕ, ◌+◌, ◌-◌, ◌*◌, ◌<◌, ◌≤◌, Bool, true, false, List, [], Option, None, Some, length, map, AllPairs, sum_by, if◌then◌else◌}
use Rattle.std.specs.List.{All}
use Rattle.chunk.specs.Sizes.{is_chunk}
use Rattle.device.specs.Layers.{Layer}
use Rattle.in_flight.specs.Due.{number_of_flight}
use Rattle.volume_laws.specs.Whole.{Holds}
use Rattle.volume_laws.specs.Waits.{Waits}
use Rattle.volume_laws.specs.MergeWaits.{MergeGoes}
use Rattle.volume_laws.specs.MergeRooms.{KeepBack}
use Rattle.snapshot.specs.Kept.{Kept, books_of as snap_books}
use Rattle.snapshot_list.specs.Numbers.{number_of_snap, numbers_in, count_in}
use Rattle.merge.specs.Merging.{Merging, due_of as merging_due}
use Rattle.snapshot_list.specs.Rooms.{room_of}
use Rattle.volume.specs.Volumed.{Volumed, books_of}

-- numbers that were given one after another, the last of them `most`
pub record AreNumbers (most : ℕ) (numbers : List ℕ) : Type 0 where
  pub given : All (λ n. n ≤ most) numbers
  pub ascending : AllPairs (λ m n. m < n) numbers

-- no copy of one snapshot has the number of a copy of the other
abbrev pub SharesNone : {B : Type 0} → Kept B → Kept B → Type 0
SharesNone s t = All (λ m. All (λ n. m ≢ n) (numbers_in t)) (numbers_in s)

-- A snapshot of the volume: it is of this origin, its chunks have an allowed size, and its copies have their numbers from
-- the volume.
pub record IsAttached {B : Type 0} (copies sectors : ℕ) (s : Kept B) : Type 0 where
  pub origin : s.state.origin ≡ sectors
  pub allowed : is_chunk s.state.chunk ≡ true
  pub some : 0 < s.state.chunk
  pub numbers : AreNumbers copies (numbers_in s)

-- A snapshot's committed pairs fill the areas below the current one and its first slots; while it is live the current area
-- has an empty slot. One that is not live has no copies.
pub record IsCounted {B : Type 0} (s : Kept B) : Type 0 where
  pub some : 0 < s.state.chunk
  pub count : length s.pairs ≡ s.state.current * (32 * s.state.chunk) + s.state.filled
  pub fits : s.live ≡ true → s.state.filled < 32 * s.state.chunk
  pub idle : s.live ≡ false → s.copies ≡ []

-- How many copies a snapshot can still start, at most: each takes a place of its store, the next one or one after it.
abbrev pub starts_left : {B : Type 0} → Kept B → ℕ
starts_left s = if s.live then s.state.size - s.next else 0

-- What a volume keeps of the snapshot that it merges: its chunks have an allowed size, it is none of the others, and was
-- attached once, like them; the merge goes on among them, whatever writes are done, and they keep back what it will start.
pub record IsMerged {B : Type 0} (contents : B → List ℕ) (layers : B → List Layer) (size : B → ℕ) (m : Merging B) (v : Volumed B) : Type 0 where
  pub origin : m.state.origin ≡ size v.origin
  pub allowed : is_chunk m.state.chunk ≡ true
  pub apart : All (λ s. s.number ≢ m.number) v.snaps
  pub given : m.number ≤ v.attached
  pub few : length v.snaps ≤ 7
  pub goes : (loud : Bool) → MergeGoes (map (snap_books contents layers) v.snaps) (merging_due contents loud m)
  pub rooms : KeepBack m.state.chunk m.state.origin m.pairs (map (room_of contents layers) v.snaps)

-- and where none is begun, nothing
abbrev pub GoesOn : {B : Type 0} → (B → List ℕ) → (B → List Layer) → (B → ℕ) → Option (Merging B) → Volumed B → Type 0
GoesOn contents layers size None v = Unit {0}
GoesOn contents layers size (Some m) v = IsMerged contents layers size m v

-- numbers_left: a store has 2^31 sectors at most, so each snapshot that was ever attached starts fewer than 2^31 copies
pub record IsWhole {B : Type 0} (contents : B → List ℕ) (layers : B → List Layer) (size : B → ℕ) (v : Volumed B) : Type 0 where
  pub holds : Holds (books_of contents layers size v)
  pub waits : Waits (books_of contents layers size v)
  pub merge : GoesOn contents layers size v.merge v
  pub snaps : All (IsAttached v.copies (size v.origin)) v.snaps
  pub counted : All IsCounted v.snaps
  pub apart : AllPairs SharesNone v.snaps
  pub numbers : AreNumbers v.attached (map number_of_snap v.snaps)
  pub requests : AreNumbers v.requests (map number_of_flight v.flights)
  pub few : length v.snaps ≤ 8
  pub few_copies : sum_by count_in v.snaps ≤ 256
  pub few_requests : length v.flights ≤ 64
  pub numbers_left : v.copies + sum_by starts_left v.snaps ≤ 2_147_483_648 * v.attached

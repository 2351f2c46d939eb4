-- What is true of every audit. This project's own.
use Rattle.std.specs.Prelude.{◌≡◌, ℕ, ◌+◌, ◌<◌, ◌≤◌, Bool, true, List, Option, Some, None, length, map, slice_index_or}
use Rattle.std.specs.List.{All}
use Rattle.in_flight.specs.Kinds.{room_of}
use Rattle.plain_machine.specs.Plain.{Plain, InFlight, Entry as ShownEntry, Saved as State, Live, Invalid, Shown, shown_of}
use Rattle.volume.specs.Causes.{lives_of}
use Rattle.volume.specs.Volumed.{Volumed}
use Rattle.audited_volume.specs.declared.entry.Base.{Base}
use Rattle.audited_volume.specs.declared.entry.Saved.{Saved}
use Rattle.audited_volume.specs.declared.entry.HeldRequest.{HeldRequest}
use Rattle.audited_volume.specs.declared.entry.Entry.{Entry}
use Rattle.audited_volume.specs.Replay.{replay, AllLawful}
use Rattle.audited_volume.specs.Earned.{AreEarned}
use Rattle.audited_volume.specs.Entries.{entries_by}
use Rattle.audited_volume.specs.Inside.{IsAsked, AllInside}
use Rattle.audited_volume.specs.Noted.{is_live, is_open, kept_count, mays_of}
use Rattle.audited_volume.specs.Seats.{Seated}

abbrev pub state_in : Option (List ℕ) → State
state_in (Some array) = Live array
state_in None = Invalid

abbrev pub shown_in : Saved → ShownEntry
shown_in s = record { number = s.number; saved = state_in s.array; overflow = s.overflow }

abbrev pub shown_in_base : Base → Shown
shown_in_base b = record { origin = b.origin; begun = b.begun; saved = map shown_in b.saved.items }

-- What callers see of an audit. taken: how many places of the journal were taken before it began, since the last checkpoint.
-- lives: which snapshots were live when it looked last, in order of attaching, and may: which of their stores could still
-- overflow. loud: whether no device that its volume had
-- dropped writes. folded: of each seat, from 0 to 8, how many of its request entries checkpoints folded into the base.
pub record AuditShape (B : Type 0) : Type 0 where
  pub volume : Volumed B
  pub base : Shown
  pub taken : ℕ
  pub entries : List Entry
  pub held : List Seated
  pub lives : List Bool
  pub may : List Bool
  pub loud : Bool
  pub folded : List ℕ

-- a seat's count: the number of its request entries, with those that a checkpoint folded
abbrev pub count_of : {B : Type 0} → ℕ → AuditShape B → ℕ
count_of seat a = slice_index_or a.folded seat 0 + length (entries_by seat a.entries)

pub record Books : Type 0 where
  pub base : Shown
  pub taken : ℕ
  pub entries : List Entry
  pub held : List HeldRequest
  pub lives : List Bool
  pub may : List Bool
  pub counts : List ℕ
  pub folded : List ℕ
  pub room : ℕ

abbrev pub in_flight : HeldRequest → InFlight
in_flight h = record { number = h.number; request = h.for_entry }

-- the copies and the room of a request in flight fit it
pub record HeldFits (h : HeldRequest) : Type 0 where
  pub same : h.for_receipt ≡ h.for_entry
  pub entry_room : length h.entry_room ≡ room_of h.for_entry
  pub receipt_room : length h.receipt_room ≡ room_of h.for_entry
  pub seat : h.seat < 9

-- whatever the devices do: the requests in flight, each seat's count, and the room
pub record Counted (p : Plain) (v : Books) : Type 0 where
  pub fits : All HeldFits v.held
  pub held : map in_flight v.held ≡ p.requests
  pub counts : (s : ℕ) → s < 9 → slice_index_or v.counts s 0 ≡ slice_index_or v.folded s 0 + length (entries_by s v.entries)
  pub seats : length v.counts ≡ 9
  pub folds : length v.folded ≡ 9
  pub lives : length v.lives ≡ length p.saved
  pub may : length v.may ≡ length p.saved
  pub entries : v.taken + length v.entries + length v.held + kept_count v.lives v.may ≤ 65_536
  pub room : 65_536 ≤ v.room

-- the entries, replayed, give the plain machine's arrays and states
pub record Replays (p : Plain) (v : Books) : Type 0 where
  pub replay_is : replay v.base v.entries ≡ shown_of p
  pub lawful : AllLawful v.base v.entries
  pub lives : v.lives ≡ map is_live p.saved
  pub may : v.may ≡ map is_open p.saved

-- loud: whether no device drops writes now; told: whether none did
pub record IsAudit (loud told : Bool) (p : Plain) (v : Books) : Type 0 where
  pub counted : Counted p v
  pub loud_is : told ≡ true → loud ≡ true
  pub replays : told ≡ true → Replays p v

-- The requests in flight lie inside the origin; no seat has more entries and requests in flight than the volume gave numbers;
-- and what was written lies inside its array, where no device ever dropped writes.
pub record IsBounded (given : ℕ) (told : Bool) (p : Plain) (v : Books) : Type 0 where
  pub asked : All (λ r. IsAsked (length p.origin) r.request) p.requests
  pub made : (s : ℕ) → s < 9 → slice_index_or v.counts s 0 + length v.held ≤ given
  pub inside : told ≡ true → AllInside v.base v.entries

-- how many places are taken
abbrev pub places_in : Books → ℕ
places_in v = v.taken + length v.entries + length v.held + kept_count v.lives v.may

-- all of it, of a volume that this plain machine stands for
pub record IsKept {B : Type 0} (w : Volumed B) (loud told : Bool) (p : Plain) (v : Books) : Type 0 where
  pub audit : IsAudit loud told p v
  pub bounded : IsBounded w.requests told p v
  pub earned : AreEarned (places_in v) w
  pub lives : v.lives ≡ lives_of w
  pub may : v.may ≡ mays_of w

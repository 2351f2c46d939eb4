-- What callers see of a rig, of its seats and of what it is made from. This project's own.
use Rattle.std.specs.Prelude.{◌≡◌, ◌⊎◌, ◌+◌, ◌<◌, ◌≤◌, ℕ, List, [], ◌∷◌, ◌++◌, length, map, slice_index_or}
use Rattle.atomic_table.specs.Seated.{TableId}
use Rattle.thread_channels.specs.Passes.{Queue}
use Rattle.device.specs.Layers.{Layer}
use Rattle.audited_volume.specs.declared.entry.Entry.{Entry}
use Rattle.audited_volume.specs.declared.entry.Receipt.{Receipt}
use Rattle.audited_volume.specs.Books.{AuditShape}
use Rattle.audited_volume.specs.declared.entry.Verdict.TheVariants.{Agrees}
use Rattle.audited_volume.specs.Entries.{HasVerdict, answered_of, entries_by}
use Rattle.chunk.specs.Pieces.{Span}
use Rattle.plain_machine.specs.Failures.{refusal_of}
use Rattle.plain_machine.specs.declared.request.Dev.{Dev}
use Rattle.plain_machine.specs.declared.request.Failure.{Failure}
use Rattle.plain_machine.specs.declared.request.Op.{Op}
use Rattle.plain_machine.specs.declared.request.Reply.{Reply}
use Rattle.plain_machine.specs.declared.request.Request.{Request}
use Rattle.plain_machine.specs.declared.request.Reply.TheVariants.{Refused}
use Rattle.sector.specs.declared.refusal.Refusal.{Refusal}
use Rattle.locked_volume.specs.Keeping.{Begins}
use Rattle.volume_threads.specs.Served.{IsOf, IsRefused}
use Rattle.locked_volume.specs.Fixed.{Fixed, fixed_of}
use Rattle.thread_channels.specs.BoardPasses.{BoardId, Seen}
use Rattle.locked_volume.specs.Beside.{OpenedAt}
use Rattle.locked_volume.specs.Names.{no_table, nothing_fixed}
use Rattle.volume_threads.specs.Sittings.{AreCounted, SittingShape}

-- how many workers there are
pub record RigShape : Type 0 where
  pub workers : ℕ

-- What callers see of a seat: its number, from 1 to 8, how it sits at each volume, and its passes to each volume's boards.
pub record SeatShape : Type 0 where
  pub number : ℕ
  pub sittings : List SittingShape
  pub watches : List (List Seen)

-- a seat at a volume between two of its calls
pub record IsIdle (number k : ℕ) (s : SittingShape) : Type 0 where
  pub seat : s.seat ≡ number
  pub volume : s.volume ≡ k
  pub waits : s.waits ≡ []

-- it sits at each volume, the volume's place being its own
abbrev pub AreIdle : ℕ → List SittingShape → Type 0
AreIdle number sittings = (k : ℕ) (d : SittingShape) → k < length sittings → IsIdle number k (slice_index_or sittings k d)

-- the new histories and boards, the queue of tickets, and the parts of the right to it that are not dealt
pub record OpenedShape : Type 0 where
  pub volumes : List OpenedAt
  pub queue : Queue
  pub parts : ℕ

-- so many volumes were opened, and nobody was dealt a seat or a pass
pub record AreOpened (volumes : ℕ) (o : OpenedShape) : Type 0 where
  pub many : length o.volumes ≡ volumes
  pub nexts : (k : ℕ) (d : OpenedAt) → k < volumes → (slice_index_or o.volumes k d).next ≡ 1
  pub all_parts : o.parts ≡ 1024

-- The first volumes have dealt a seat more than the others, whose next one has this number.
pub record AreDealt (history : ℕ → TableId) (boards : ℕ → List BoardId) (volumes next front : ℕ) (opened : List OpenedAt) : Type 0 where
  pub many : length opened ≡ volumes
  pub tables : (k : ℕ) (d : OpenedAt) → k < volumes → (slice_index_or opened k d).table ≡ history k
  pub boards_are : (k : ℕ) (d : OpenedAt) → k < volumes → (slice_index_or opened k d).boards ≡ boards k
  pub firsts : (k : ℕ) (d : OpenedAt) → k < volumes → k < front → (slice_index_or opened k d).next ≡ next + 1
  pub others : (k : ℕ) (d : OpenedAt) → k < volumes → front ≤ k → (slice_index_or opened k d).next ≡ next

-- no receipts yet
abbrev pub HasNoReceipts : List SittingShape → Type 0
HasNoReceipts sittings = (k : ℕ) (d : SittingShape) → k < length sittings → (slice_index_or sittings k d).receipts ≡ []

abbrev pub histories_in : OpenedShape → ℕ → TableId
histories_in o k = (slice_index_or o.volumes k (record { table = no_table; boards = []; next = 0 })).table

abbrev pub boards_in : OpenedShape → ℕ → List BoardId
boards_in o k = (slice_index_or o.volumes k (record { table = no_table; boards = []; next = 0 })).boards

abbrev pub start_in : {B : Type 0} → List (AuditShape B) → ℕ → List Entry
start_in audits k = slice_index_or (map (λ a. a.entries) audits) k []

abbrev pub fixed_in : {B : Type 0} → (B → ℕ) → (B → List Layer) → List (AuditShape B) → ℕ → Fixed
fixed_in size layers audits k = slice_index_or (map (fixed_of size layers) audits) k nothing_fixed

-- an audit with no request in flight, as its volume was when the rig was made
pub record IsStart {B : Type 0} (start : List Entry) (fixed now : Fixed) (a : AuditShape B) : Type 0 where
  pub entries : a.entries ≡ start
  pub held : a.held ≡ []
  pub fixed_is : now ≡ fixed

-- The room is that of these audits and of what was opened for them.
pub record IsRoomOf {B : Type 0} (size : B → ℕ) (layers : B → List Layer) (audits : List (AuditShape B)) (opened : OpenedShape) (volumes : ℕ) (history : ℕ → TableId) (boards : ℕ → List BoardId) (start : ℕ → List Entry) (queue : Queue) (fixed : ℕ → Fixed) : Type 0 where
  pub is_opened : AreOpened (length audits) opened
  pub volumes_are : volumes ≡ length audits
  pub histories : history ≡ histories_in opened
  pub boards_are : boards ≡ boards_in opened
  pub starts : start ≡ start_in audits
  pub queue_is : queue ≡ opened.queue
  pub fixed_is : fixed ≡ fixed_in size layers audits

-- the receipts of the volume at a place
abbrev pub receipts_at : SeatShape → ℕ → List Receipt
receipts_at s k = (slice_index_or s.sittings k (record { volume = k; seat = s.number; receipts = []; waits = []; seen = []; room = 0 })).receipts

-- and its journal's entries since the rig was made, as far as the seat has seen them
abbrev pub seen_at : SeatShape → ℕ → List Entry
seen_at s k = (slice_index_or s.sittings k (record { volume = k; seat = s.number; receipts = []; waits = []; seen = []; room = 0 })).seen

-- A call added these receipts at one volume, and left the seat as it was at the others, but that it may have seen more.
pub record HasAdded (volume : ℕ) (more : List Receipt) (old new : SeatShape) : Type 0 where
  pub number : new.number ≡ old.number
  pub here : receipts_at new volume ≡ receipts_at old volume ++ more
  pub others : (k : ℕ) → (k ≡ volume → ⊥) → receipts_at new k ≡ receipts_at old k
  pub later : (k : ℕ) → Begins (seen_at old k) (seen_at new k)
  pub watches : new.watches ≡ old.watches

-- One piece was not done. There is a receipt of its failure; or of its being done, and then it was lost; or none, and it was
-- refused.
abbrev pub IsPieceCut : (List ℕ → Op) → (List ℕ → Reply) → (Refusal → Type 0) → (Request → Refusal → Type 0) → Dev → Span → Refusal → ℕ → SeatShape → SeatShape → Type 0
IsPieceCut op reply lost denies dev piece refusal volume old new =
    (HasAdded volume [] old new × IsRefused op dev denies piece refusal)
    ⊎ ((own : List ℕ) × (r : Receipt) × IsOf dev (op own) piece r × HasAdded volume (r ∷ []) old new
    × (((r.reply ≡ reply own) × lost refusal) ⊎ ((failure : Failure) × (r.reply ≡ Refused failure) × (refusal ≡ refusal_of failure))))

-- each receipt is for an entry of the journal, as `check` tells
abbrev pub AllAgree : {B : Type 0} → AuditShape B → List Receipt → Type 0
AllAgree audit receipts =
    (i : ℕ) (d : Receipt) → i < length receipts → HasVerdict (slice_index_or audit.folded (slice_index_or receipts i d).seat 0) audit.entries (slice_index_or receipts i d) Agrees

-- A seat's receipts of a volume are its entries in the journal after those that it had, in their order, and there are as
-- many; the count of each is the place of its entry among the seat's, and `check` agrees with it; and what it has seen are the
-- first entries after those.
pub record IsSettledAt {B : Type 0} (start : List Entry) (audit : AuditShape B) (k : ℕ) (s : SeatShape) : Type 0 where
  pub own : entries_by s.number audit.entries ≡ entries_by s.number start ++ map answered_of (receipts_at s k)
  pub counts : AreCounted s.number (slice_index_or audit.folded s.number 0 + length (entries_by s.number start)) (receipts_at s k)
  pub agree : AllAgree audit (receipts_at s k)
  pub seen : (more : List Entry) × (audit.entries ≡ start ++ (seen_at s k ++ more))

-- seat i, from 0, has number i + 1 and no receipts
pub record AreNewSeats (seats : ℕ) (all : List SeatShape) : Type 0 where
  pub many : length all ≡ seats
  pub numbers : (i : ℕ) (d : SeatShape) → i < seats → (slice_index_or all i d).number ≡ i + 1
  pub none : (i : ℕ) (d : SeatShape) (k : ℕ) → i < seats → receipts_at (slice_index_or all i d) k ≡ []

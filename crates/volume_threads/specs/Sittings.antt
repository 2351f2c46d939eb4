-- A seat at one volume: its pass and its receipts. This project's own.
use Rattle.std.specs.Prelude.{◌≡◌, ◌+◌, ℕ, true, List, [], ◌∷◌, ◌++◌, map}
use Rattle.atomic_table.specs.Seated.{TableId}
use Rattle.atomic_table.specs.declared.badge.Badge.{Badge}
use Rattle.plain_machine.specs.declared.request.Reply.{Reply}
use Rattle.plain_machine.specs.declared.request.Request.{Request}
use Rattle.volume.specs.Flying.{Fits}
use Rattle.audited_volume.specs.declared.entry.Receipt.{Receipt}
use Rattle.audited_volume.specs.Entries.{answered_of}
use Rattle.audited_volume.specs.declared.entry.Entry.{Entry}
use Rattle.audited_volume.specs.Seats.{Seated}
use Rattle.locked_volume.specs.Keeping.{Begins}
use Rattle.locked_volume.specs.declared.rule.View.{View}
use Rattle.locked_volume.specs.Denying.{Wish, WasDenied}
use Rattle.locked_volume.specs.Fixed.{Fixed}
use Rattle.sector.specs.declared.refusal.Refusal.{Refusal}

-- What callers see of a seat at one volume: the volume's place in the rig, from 0, the seat's number, the receipts since the
-- rig was made, the requests in flight, and the journal's entries since then, as far as the seat has seen them. room: for how many
-- receipts.
pub record SittingShape : Type 0 where
  pub volume : ℕ
  pub seat : ℕ
  pub receipts : List Receipt
  pub waits : List Seated
  pub seen : List Entry
  pub room : ℕ

-- Receipts of a seat for its entries one by one, after so many that it had: their counts go on from that number.
abbrev pub AreCounted : ℕ → ℕ → List Receipt → Type 0
AreCounted seat first [] = Unit {0}
AreCounted seat first (r ∷ rs) = (r.seat ≡ seat) × (r.count ≡ first + 1) × AreCounted seat (first + 1) rs

abbrev pub waits_of : List View → List Seated
waits_of [] = []
waits_of (v ∷ vs) = v.waits

abbrev pub seen_of : List View → List Entry
seen_of [] = []
seen_of (v ∷ vs) = v.seen

-- the pass knows just the entries of the receipts, whose counts go on from those that the seat had at first
pub record SittingHolds (history : TableId) (first seat : ℕ) (pass : Badge View) (receipts : List Receipt) : Type 0 where
  pub view : View
  pub has : pass.views ≡ view ∷ []
  pub table : pass.table_id ≡ history
  pub sits : view.sits ≡ true
  pub number : view.seat ≡ seat
  pub old : view.old ≡ []
  pub mine : view.mine ≡ map answered_of receipts
  pub counts : AreCounted seat first receipts

-- nothing changed but the room, and that more may be seen
pub record IsSameSitting (old new : SittingShape) : Type 0 where
  pub volume : new.volume ≡ old.volume
  pub seat : new.seat ≡ old.seat
  pub receipts : new.receipts ≡ old.receipts
  pub waits : new.waits ≡ old.waits
  pub later : Begins old.seen new.seen

-- what was asked is denied, by what is seen then
pub record IsTurnedAway (start : List Entry) (fixed : Fixed) (wish : Wish) (refusal : Refusal) (old new : SittingShape) : Type 0 where
  pub same : IsSameSitting old new
  pub denied : WasDenied start fixed new.seen wish refusal

-- a request is in flight
pub record IsWaiting (number : ℕ) (request : Request) (old new : SittingShape) : Type 0 where
  pub volume : new.volume ≡ old.volume
  pub seat : new.seat ≡ old.seat
  pub receipts : new.receipts ≡ old.receipts
  pub waits : new.waits ≡ record { number = number; seat = old.seat; request = request } ∷ []
  pub room : new.room ≡ old.room
  pub later : Begins old.seen new.seen

-- the request that was in flight is answered as it asks, and there is a receipt of it
pub record IsAnswered (reply : Reply) (receipt : Receipt) (old new : SittingShape) : Type 0 where
  pub volume : new.volume ≡ old.volume
  pub seat : new.seat ≡ old.seat
  pub receipts : new.receipts ≡ old.receipts ++ receipt ∷ []
  pub waits : new.waits ≡ []
  pub answer : receipt.reply ≡ reply
  pub fits : Fits receipt.request.op receipt.request.range reply
  pub by : receipt.seat ≡ old.seat
  pub asked : (x : Seated) → old.waits ≡ x ∷ [] → receipt.request ≡ x.request
  pub later : Begins old.seen new.seen

-- a request was made and answered as it asks, and there is a receipt of it
pub record IsPerformed (request : Request) (reply : Reply) (receipt : Receipt) (old new : SittingShape) : Type 0 where
  pub volume : new.volume ≡ old.volume
  pub seat : new.seat ≡ old.seat
  pub receipts : new.receipts ≡ old.receipts ++ receipt ∷ []
  pub waits : new.waits ≡ []
  pub answer : receipt.reply ≡ reply
  pub fits : Fits receipt.request.op receipt.request.range reply
  pub by : receipt.seat ≡ old.seat
  pub asked : receipt.request ≡ request
  pub later : Begins old.seen new.seen

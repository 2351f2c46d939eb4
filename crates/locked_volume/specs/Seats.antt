-- The pass of a seat to a volume's history, and what the calls under its lock make of it. This project's own.
use Rattle.std.specs.Prelude.{◌≡◌, ℕ, ◌+◌, true, [], ◌∷◌, ◌++◌, Some, length}
use Rattle.atomic_table.specs.Seated.{TableId}
use Rattle.atomic_table.specs.declared.shared.Seat.{Seat}
use Rattle.plain_machine.specs.declared.request.Reply.{Reply}
use Rattle.plain_machine.specs.declared.request.Request.{Request}
use Rattle.volume.specs.Flying.{Fits}
use Rattle.audited_volume.specs.declared.entry.Receipt.{Receipt}
use Rattle.audited_volume.specs.Entries.{answered_of, entries_by}
use Rattle.audited_volume.specs.Seats.{seated_under, without_seated}
use Rattle.locked_volume.specs.Keeping.{Begins}
use Rattle.locked_volume.specs.declared.rule.View.{View}
use Rattle.locked_volume.specs.declared.told.Told.{Told}

-- the pass of a seat to a history
pub record IsSeat (history : TableId) (seat : ℕ) (me : Seat Told View) : Type 0 where
  pub table : me.table_id ≡ history
  pub bare : me.me.1 ≡ []
  pub sits : me.me.0.sits ≡ true
  pub number : me.me.0.seat ≡ seat

-- the same seat, which knows the same, and may have seen more
pub record IsSameSeat (history : TableId) (seat : ℕ) (before after : Seat Told View) : Type 0 where
  pub is_seat : IsSeat history seat after
  pub old : after.me.0.old ≡ before.me.0.old
  pub mine : after.me.0.mine ≡ before.me.0.mine
  pub waits : after.me.0.waits ≡ before.me.0.waits
  pub later : Begins before.me.0.seen after.me.0.seen

-- one request more is in flight for the seat
pub record IsAsked (history : TableId) (seat number : ℕ) (request : Request) (before after : Seat Told View) : Type 0 where
  pub is_seat : IsSeat history seat after
  pub old : after.me.0.old ≡ before.me.0.old
  pub mine : after.me.0.mine ≡ before.me.0.mine
  pub waits : after.me.0.waits ≡ before.me.0.waits ++ record { number = number; seat = seat; request = request } ∷ []
  pub later : Begins before.me.0.seen after.me.0.seen

-- The seat has one entry more, which the receipt is for: it answers the request that the seat waited for, as that asks. Its count is the entry's
-- place among the seat's, of which there were so many at first, before those of its pass.
pub record IsReceipted (history : TableId) (first seat : ℕ) (before after : Seat Told View) (answer : Reply) (receipt : Receipt) : Type 0 where
  pub is_seat : IsSeat history seat after
  pub old : after.me.0.old ≡ before.me.0.old
  pub mine : after.me.0.mine ≡ before.me.0.mine ++ answered_of receipt ∷ []
  pub reply : receipt.reply ≡ answer
  pub fits : Fits receipt.request.op receipt.request.range receipt.reply
  pub by : receipt.seat ≡ seat
  pub count : receipt.count ≡ first + length (entries_by seat before.me.0.old ++ before.me.0.mine) + 1
  pub number : ℕ
  pub asked : seated_under number before.me.0.waits ≡ Some (record { number = number; seat = seat; request = receipt.request })
  pub waits : after.me.0.waits ≡ without_seated number before.me.0.waits
  pub later : Begins before.me.0.seen after.me.0.seen

-- What is true of all that lies under a volume's lock. This project's own.
use Rattle.std.specs.Prelude.{◌≡◌, ◌++◌, ℕ, Bool, true, false, List, []}
use Rattle.atomic_table.specs.Seated.{TableId}
use Rattle.atomic_table.specs.declared.shared.Seat.{Seat}
use Rattle.thread_channels.specs.BoardPasses.{Seen}
use Rattle.device.specs.Layers.{Layer}
use Rattle.plain_machine.specs.declared.event.Event.{Event}
use Rattle.plain_machine.specs.declared.event.Event.TheVariants.{Issue, CopyRead, CopyWrite, ZeroNext, WriteArea, Publish, WriteInvalid, FlushStore, MergeGroup, MergeAreaRead, MergeRead, MergeWrite, MergeFlush, MergeCommit, MergeRelease}
use Rattle.audited_volume.specs.declared.entry.Entry.{Entry}
use Rattle.audited_volume.specs.Books.{AuditShape}
use Rattle.locked_volume.specs.Boards.{AreKeptUp}
use Rattle.locked_volume.specs.declared.rule.View.{View}
use Rattle.locked_volume.specs.declared.told.Told.{Told}
use Rattle.locked_volume.specs.Fixed.{Fixed, StaysFrom, fixed_of}

-- volume: the place of the volume in the rig, from 0; told: what was published on the board of each of its places
pub record PostShape (B : Type 0) : Type 0 where
  pub volume : ℕ
  pub audit : AuditShape B
  pub told : List Seen

-- each usage that changed is told on its board
abbrev pub TellsUsages : {B : Type 0} → PostShape B → PostShape B → Type 0
TellsUsages old new = AreKeptUp new.audit.volume old.told new.told

-- a keeper's pass
pub record IsKeeper (history : TableId) (keeper : Seat Told View) : Type 0 where
  pub table : keeper.table_id ≡ history
  pub bare : keeper.me.1 ≡ []
  pub keeps : keeper.me.0.keeps ≡ true
  pub stands : keeper.me.0.sits ≡ false

-- The keeper's pass knows the journal's entries after those that it had when the rig was made, and the requests in flight.
pub record PostHolds {B : Type 0} (size : B → ℕ) (layers : B → List Layer) (history : TableId) (start : List Entry) (fixed : Fixed) (a : AuditShape B) (keeper : Seat Told View) : Type 0 where
  pub is_keeper : IsKeeper history keeper
  pub knows : a.entries ≡ start ++ keeper.me.0.all
  pub flying : keeper.me.0.flying ≡ a.held
  pub stays : StaysFrom fixed (fixed_of size layers a)

-- the view of the keeper with these entries more
abbrev pub with_more : List Entry → View → View
with_more more v = record { keeps = v.keeps; all = v.all ++ more; flying = v.flying; dealt = v.dealt; sits = v.sits; seat = v.seat; old = v.old; mine = v.mine; waits = v.waits; seen = v.seen }

-- an event that not any thread may do: a request's, which its seat does, or a copy's, which the worker does that has its ticket
abbrev pub is_apart : Event → Bool
is_apart (Issue n) = true
is_apart (CopyRead n) = true
is_apart (CopyWrite n) = true
is_apart (ZeroNext n) = false
is_apart (WriteArea n) = false
is_apart (Publish n) = false
is_apart (WriteInvalid n) = false
is_apart (FlushStore n) = false
is_apart MergeGroup = false
is_apart MergeAreaRead = false
is_apart MergeRead = false
is_apart MergeWrite = false
is_apart MergeFlush = false
is_apart MergeCommit = false
is_apart MergeRelease = false

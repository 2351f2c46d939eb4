-- That what was written lies inside its array, and how many arrays the entries bring. This project's own.
use Rattle.std.specs.Prelude.{◌≡◌, ℕ, ◌+◌, ◌*◌, ◌≤◌, List, [], ◌∷◌, length, suc}
use Rattle.plain_machine.specs.declared.request.Dev.{Dev}
use Rattle.plain_machine.specs.declared.request.Op.{Op}
use Rattle.plain_machine.specs.declared.request.Op.TheVariants.{Read, Write, Flush}
use Rattle.plain_machine.specs.declared.request.Reply.{Reply}
use Rattle.plain_machine.specs.declared.request.Reply.TheVariants.{Data, Written, Flushed, Refused}
use Rattle.plain_machine.specs.declared.request.Request.{Request}
use Rattle.plain_machine.specs.Serves.{Shows}
use Rattle.plain_machine.specs.Plain.{Shown}
use Rattle.audited_volume.specs.declared.entry.Entry.{Entry}
use Rattle.audited_volume.specs.declared.entry.Entry.TheVariants.{Answered, Spoiled, Overflowed, Attached, Detached, Begun, Finished}
use Rattle.audited_volume.specs.Replay.{plain_in, after}

-- a write that was done lies inside the array that its device shows
abbrev pub LiesInside : Shown → Dev → Op → ℕ → Reply → Type 0
LiesInside s dev Read first reply = Unit {0}
LiesInside s dev Flush first reply = Unit {0}
LiesInside s dev (Write bytes) first (Data read) = Unit {0}
LiesInside s dev (Write bytes) first Written = (array : List ℕ) → Shows (plain_in s) dev array → 512 * first + length bytes ≤ length array
LiesInside s dev (Write bytes) first Flushed = Unit {0}
LiesInside s dev (Write bytes) first (Refused failure) = Unit {0}

abbrev pub IsInside : Shown → Entry → Type 0
IsInside s (Answered a) = LiesInside s a.request.dev a.request.op a.request.range.first a.reply
IsInside s (Spoiled number) = Unit {0}
IsInside s (Overflowed number) = Unit {0}
IsInside s (Attached number array overflow fresh) = Unit {0}
IsInside s (Detached number) = Unit {0}
IsInside s (Begun number) = Unit {0}
IsInside s Finished = Unit {0}

-- all of them, in their order
abbrev pub AllInside : Shown → List Entry → Type 0
AllInside s [] = Unit {0}
AllInside s (e ∷ es) = IsInside s e × AllInside (after s e) es

-- a request inside an origin of so many bytes; a write has bytes for its range
pub record IsAsked (size : ℕ) (r : Request) : Type 0 where
  pub inside : 512 * (r.range.first + r.range.count) ≤ size
  pub whole : (bytes : List ℕ) → r.op ≡ Write bytes → length bytes ≡ 512 * r.range.count

-- how many snapshots are taken
abbrev pub attached_count : List Entry → ℕ
attached_count [] = 0
attached_count (Answered a ∷ es) = attached_count es
attached_count (Spoiled number ∷ es) = attached_count es
attached_count (Overflowed number ∷ es) = attached_count es
attached_count (Attached number array overflow fresh ∷ es) = suc (attached_count es)
attached_count (Detached number ∷ es) = attached_count es
attached_count (Begun number ∷ es) = attached_count es
attached_count (Finished ∷ es) = attached_count es

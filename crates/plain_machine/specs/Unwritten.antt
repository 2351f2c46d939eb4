-- To be believed: `run`'s output, a volume's steps or its attach are said in these words.
-- What a snapshot shows while nobody writes to it: its array stays, or it is lost (its store fills up, or a device fails).
-- It is what the admin-guide page on snapshots means by a snapshot of which the origin may change; the words are this project's own.
use Rattle.std.specs.Prelude.{◌==◌, ◌≡◌, ◌⊎◌, ℕ, Bool, false, List, Some}
use Rattle.std.specs.List.{list_any}
use Rattle.plain_machine.specs.declared.request.Dev.{Dev}
use Rattle.plain_machine.specs.declared.request.Dev.TheVariants.{Origin, Snap}
use Rattle.plain_machine.specs.declared.request.Op.{Op}
use Rattle.plain_machine.specs.declared.request.Op.TheVariants.{Read, Write, Flush}
use Rattle.plain_machine.specs.Plain.{Plain, InFlight, Live, Invalid, saved_under}

-- whether it is a write of that snapshot
abbrev pub writes : ℕ → Dev → Op → Bool
writes number Origin op = false
writes number (Snap n) Read = false
writes number (Snap n) (Write bytes) = n == number
writes number (Snap n) Flush = false

-- whether one of these requests is
abbrev pub is_written : ℕ → List InFlight → Bool
is_written number requests = list_any (λ r. writes number r.request.dev r.request.op) requests

-- the snapshot shows this array, or is lost
abbrev pub StillShows : ℕ → List ℕ → Plain → Type 0
StillShows number array plain = (saved_under number plain.saved ≡ Some (Live array)) ⊎ (saved_under number plain.saved ≡ Some Invalid)

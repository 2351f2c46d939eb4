-- How a journal of a volume would go on: which entries a call comes to. This project's own.
use Rattle.std.specs.Prelude.{◌≡◌, ◌⊎◌, Err, ℕ, Ok, Result, List, [], ◌∷◌, ◌++◌, Some, map}
use Rattle.plain_machine.specs.declared.event.Outcome.{Outcome}
use Rattle.plain_machine.specs.declared.event.Outcome.TheVariants.{Done, Fault, Reply as Replied}
use Rattle.plain_machine.specs.declared.request.Request.{Request}
use Rattle.plain_machine.specs.declared.request.Dev.TheVariants.{Snap}
use Rattle.plain_machine.specs.Plain.{Plain, Shown, asked_under, shown_of}
use Rattle.sector.specs.declared.refusal.Refusal.{Refusal}
use Rattle.sector.specs.declared.refusal.Refusal.TheVariants.{Overflow}
use Rattle.audited_volume.specs.declared.entry.Entry.{Entry}
use Rattle.audited_volume.specs.declared.entry.Entry.TheVariants.{Answered, Overflowed, Spoiled}
use Rattle.audited_volume.specs.Replay.{AllLawful, replay}

-- Whatever lawful entries gave what callers saw of a volume before, from whatever arrays and states: these behind them are
-- lawful too, and give what callers see then.
pub record GoesOn (old : Plain) (entries : List Entry) (new : Plain) : Type 0 where
  pub lawful : (base : Shown) (past : List Entry) → AllLawful base past → replay base past ≡ shown_of old → AllLawful base (past ++ entries)
  pub gives : (base : Shown) (past : List Entry) → replay base past ≡ shown_of old → replay base (past ++ entries) ≡ shown_of new

-- the entries of snapshots that were spoiled, and no others; that these were live is said of lawful entries
abbrev pub AreSpoils : List Entry → Type 0
AreSpoils entries = (which : List ℕ) × (entries ≡ map Spoiled which)

-- What an event comes to: the reply to the request that was in flight under its number, for the first seat, or spoils alone.
abbrev pub ComesTo : Plain → Outcome → List Entry → Type 0
ComesTo old (Replied number reply) entries = (request : Request) × (asked_under number old.requests ≡ Some request) × (entries ≡ Answered (record { seat = 1; request = request; reply = reply }) ∷ [])
ComesTo old Done entries = AreSpoils entries
ComesTo old Fault entries = AreSpoils entries

-- What a request comes to that is submitted: spoils alone, or, where it is refused with Overflow, the mark of its snapshot, if the
-- store overflowed by it.
abbrev pub IsSubmitNoted : Request → Result ℕ Refusal → List Entry → Type 0
IsSubmitNoted request (Ok number) entries = AreSpoils entries
IsSubmitNoted request (Err refusal) entries = AreSpoils entries ⊎ ((refusal ≡ Overflow) × ((number : ℕ) × (request.dev ≡ Snap number) × (entries ≡ Overflowed number ∷ [])))

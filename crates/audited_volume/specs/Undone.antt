-- Snapshots that no request wrote since they were taken, or since a journal began. One that was taken over a fresh store is remembered
-- with what the origin showed when it was taken, any other with what it showed itself; each shows that, or is lost, and the merge of one of
-- them makes the origin show just that. So the merge of one over a fresh store undoes all that was written to the origin since.
-- This project's own.
use Rattle.std.specs.Prelude.{◌≡◌, ◌==◌, ℕ, Bool, true, false, List, [], ◌∷◌, Option, Some, None, if◌then◌else◌}
use Rattle.std.specs.List.{flat_map}
use Rattle.plain_machine.specs.declared.request.Reply.{Reply}
use Rattle.plain_machine.specs.declared.request.Reply.TheVariants.{Data, Written, Flushed, Refused}
use Rattle.plain_machine.specs.Unwritten.{writes, StillShows}
use Rattle.plain_machine.specs.Plain.{Saved, Live, Invalid, saved_under, Shown}
use Rattle.audited_volume.specs.declared.entry.Entry.{Entry}
use Rattle.audited_volume.specs.declared.entry.Entry.TheVariants.{Answered, Spoiled, Overflowed, Attached, Detached, Begun, Finished}
use Rattle.audited_volume.specs.Replay.{after, plain_in}

-- a snapshot that was taken, and what its merge gives the origin
pub record Taken : Type 0 where
  pub number : ℕ
  pub array : List ℕ

-- whether a request that was answered so has written something
abbrev pub wrote : Reply → Bool → Bool
wrote Written asked = asked
wrote (Data bytes) asked = false
wrote Flushed asked = false
wrote (Refused failure) asked = false

-- whether an entry writes the snapshot of a number, or takes it from the others
abbrev pub ends : Entry → ℕ → Bool
ends (Answered a) number = wrote a.reply (writes number a.request.dev a.request.op)
ends (Spoiled n) number = false
ends (Overflowed n) number = false
ends (Attached n array overflow fresh) number = n == number
ends (Detached n) number = n == number
ends (Begun n) number = n == number
ends Finished number = false

-- those of which an entry does neither
abbrev pub still : Entry → List Taken → List Taken
still e [] = []
still e (t ∷ taken) = if ends e t.number then still e taken else t ∷ still e taken

-- of a snapshot over a fresh store what the origin shows, of another what it shows itself
abbrev pub held_back : Bool → List ℕ → List ℕ → List ℕ
held_back true origin array = origin
held_back false origin array = array

-- those after an entry, which met an origin that shows so
abbrev pub noted : List ℕ → Entry → List Taken → List Taken
noted origin (Attached n array overflow fresh) taken = record { number = n; array = held_back fresh origin array } ∷ still (Attached n array overflow fresh) taken
noted origin (Answered a) taken = still (Answered a) taken
noted origin (Spoiled n) taken = taken
noted origin (Overflowed n) taken = taken
noted origin (Detached n) taken = still (Detached n) taken
noted origin (Begun n) taken = still (Begun n) taken
noted origin Finished taken = taken

-- the origin shows what is remembered of the snapshot of a number, if it is one of these
abbrev pub ShowsTaken : ℕ → List ℕ → List Taken → Type 0
ShowsTaken n origin [] = Unit {0}
ShowsTaken n origin (t ∷ taken) = (t.number ≡ n → origin ≡ t.array) × ShowsTaken n origin taken

-- what holds right after an entry: one by which a merge begins gives the origin its old array back
abbrev pub IsUndone : List Taken → Entry → Shown → Type 0
IsUndone taken (Answered a) s = Unit {0}
IsUndone taken (Spoiled n) s = Unit {0}
IsUndone taken (Overflowed n) s = Unit {0}
IsUndone taken (Attached n array overflow fresh) s = Unit {0}
IsUndone taken (Detached n) s = Unit {0}
IsUndone taken (Begun n) s = ShowsTaken n s.origin taken
IsUndone taken Finished s = Unit {0}

-- after each of these entries
abbrev pub AllUndone : List Taken → Shown → List Entry → Type 0
AllUndone taken s [] = Unit {0}
AllUndone taken s (e ∷ es) = IsUndone taken e (after s e) × AllUndone (noted s.origin e taken) (after s e) es

-- the snapshots that are live as a journal begins, each with what it shows
abbrev pub live_of : ℕ → Option Saved → List Taken
live_of number (Some (Live array)) = record { number = number; array = array } ∷ []
live_of number (Some Invalid) = []
live_of number None = []

abbrev pub taken_in : Shown → List Taken
taken_in s = flat_map (λ e. live_of e.number (saved_under e.number s.saved)) s.saved

-- those that are left of some after these entries
abbrev pub left_of : List Taken → Shown → List Entry → List Taken
left_of taken s [] = taken
left_of taken s (e ∷ es) = left_of (noted s.origin e taken) (after s e) es

-- each of these shows its array, or is lost
abbrev pub AllShow : List Taken → Shown → Type 0
AllShow [] s = Unit {0}
AllShow (t ∷ taken) s = StillShows t.number t.array (plain_in s) × AllShow taken s

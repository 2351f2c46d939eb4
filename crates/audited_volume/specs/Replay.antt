-- Replay: the base arrays and states, then the entries in order, each by the plain machine's rule for it. This project's own.
use Rattle.std.specs.Prelude.{◌≡◌, ◌≢◌, ℕ, false, true, Any, List, [], ◌∷◌, ◌++◌, Option, Some, None, map}
use Rattle.std.specs.List.{All}
use Rattle.sector.specs.Bytes.{with_sectors}
use Rattle.plain_machine.specs.declared.request.Dev.{Dev}
use Rattle.plain_machine.specs.declared.request.Dev.TheVariants.{Origin, Snap}
use Rattle.plain_machine.specs.declared.request.Op.{Op}
use Rattle.plain_machine.specs.declared.request.Op.TheVariants.{Read, Write, Flush}
use Rattle.plain_machine.specs.declared.request.Reply.{Reply}
use Rattle.plain_machine.specs.declared.request.Reply.TheVariants.{Data, Written, Flushed, Refused}
use Rattle.plain_machine.specs.Plain.{Plain, Saved, Live, Invalid, saved_under, with_saved, without_saved, spoiled_entry, did_overflow, marked_in, Shown}
use Rattle.plain_machine.specs.Legal.{Overflows}
use Rattle.plain_machine.specs.Serves.{Serves}
use Rattle.audited_volume.specs.declared.entry.Entry.{Entry}
use Rattle.audited_volume.specs.declared.entry.Entry.TheVariants.{Answered, Spoiled, Overflowed, Attached, Detached, Begun, Finished}

-- what is shown, with no request in flight
abbrev pub plain_in : Shown → Plain
plain_in s = record { origin = s.origin; begun = s.begun; saved = s.saved; requests = [] }

-- the array of a state
abbrev pub array_in : Option Saved → List ℕ
array_in (Some (Live array)) = array
array_in (Some Invalid) = []
array_in None = []

-- a write to one array
abbrev pub put : Dev → ℕ → List ℕ → Shown → Shown
put Origin first bytes s = record s { origin = with_sectors s.origin first bytes }
put (Snap number) first bytes s = record s { saved = with_saved number (Live (with_sectors (array_in (saved_under number s.saved)) first bytes)) s.saved }

abbrev pub put_op : Dev → Op → ℕ → Shown → Shown
put_op dev Read first s = s
put_op dev Flush first s = s
put_op dev (Write bytes) first s = put dev first bytes s

-- what a reply does
abbrev pub served : Dev → Op → ℕ → Reply → Shown → Shown
served dev op first (Data bytes) s = s
served dev op first Written s = put_op dev op first s
served dev op first Flushed s = s
served dev op first (Refused failure) s = s

-- what an entry does
abbrev pub after : Shown → Entry → Shown
after s (Answered a) = served a.request.dev a.request.op a.request.range.first a.reply s
after s (Spoiled number) = record s { saved = map (spoiled_entry (number ∷ [])) s.saved }
after s (Overflowed number) = record s { saved = marked_in number s.saved }
after s (Attached number array overflow fresh) = record s { saved = s.saved ++ record { number = number; saved = Live array; overflow = overflow } ∷ [] }
after s (Detached number) = record s { saved = without_saved number s.saved }
after s (Begun number) = record { origin = array_in (saved_under number s.saved); begun = Some number; saved = without_saved number s.saved }
after s Finished = record s { begun = None }

-- all of them, in their order
abbrev pub replay : Shown → List Entry → Shown
replay s [] = s
replay s (e ∷ es) = replay (after s e) es

-- An entry that the plain machine allows there: each reply is lawful, a snapshot that is spoiled is there and was not spoiled
-- before, a store that overflowed is that of a live snapshot which could, a snapshot that is taken has a number of its own, did not
-- overflow, and shows the origin where its store was fresh, one that is taken away is there, one that begins to be merged is live and
-- alone in that, and a merge that is taken out was begun.
abbrev pub IsLawful : Shown → Entry → Type 0
IsLawful s (Answered a) = Serves (plain_in s) a.request.dev a.request.op a.request.range a.reply (plain_in (after s (Answered a)))
IsLawful s (Spoiled number) = Any (λ e. (e.number ≡ number) × (e.saved ≢ Invalid)) s.saved
IsLawful s (Overflowed number) = Overflows number (plain_in s) (plain_in (after s (Overflowed number)))
IsLawful s (Attached number array overflow fresh) = All (λ e. e.number ≢ number) s.saved × (did_overflow overflow ≡ false) × (fresh ≡ true → array ≡ s.origin)
IsLawful s (Detached number) = (saved : Saved) × (saved_under number s.saved ≡ Some saved)
IsLawful s (Begun number) = (s.begun ≡ None) × ((array : List ℕ) × (saved_under number s.saved ≡ Some (Live array)))
IsLawful s Finished = (number : ℕ) × (s.begun ≡ Some number)

abbrev pub AllLawful : Shown → List Entry → Type 0
AllLawful s [] = Unit {0}
AllLawful s (e ∷ es) = IsLawful s e × AllLawful (after s e) es

-- Volumes that are taken out of the table while their seats run. This project's own.
use Rattle.std.specs.Prelude.{◌≡◌, ◌+◌, Bool, true, ℕ, List, [], ◌∷◌, ◌++◌, length}
use Rattle.std.specs.List.{All}
use Rattle.layers.specs.declared.stack.Stack.{Stack}
use Rattle.layers.specs.Stack.{stack_layers, stack_size}
use Rattle.audited_volume.specs.declared.entry.Entry.{Entry}
use Rattle.audited_volume.specs.Books.{AuditShape}
use Rattle.audited_volume.specs.Earned.{AreEarned}
use Rattle.audited_volume.specs.Entries.{entries_by}
use Rattle.audited_volume.specs.Inside.{AllInside}
use Rattle.audited_volume.specs.PlacesTaken.{KeepsBase, OnlySpoils}
use Rattle.audited_volume.specs.Replay.{AllLawful, replay}
use Rattle.command_semantics.specs.State.{Volume}
use Rattle.device_list.specs.Parting.{IsParted, Parts, named_with}
use Rattle.volume_commands.specs.Kept.{KeepsDevices}
use Rattle.volume_commands.specs.Rested.{rested_of}
use Rattle.locked_volume.specs.AskedFor.{AddsAskedFor, IsAskedFor}
use Rattle.locked_volume.specs.Keeping.{Begins}
use Rattle.locked_volume.specs.Denying.{Wish, WasDenied}
use Rattle.locked_volume.specs.Fixed.{StaysFrom, fixed_of, piece_at}
use Rattle.sector.specs.declared.refusal.Refusal.{Refusal}
use Rattle.parallel_lines.specs.Played.{IsPlayedIn, Story, shown_by}
use Rattle.parallel_lines.specs.Running.{IsRun}
use Rattle.parallel_lines.specs.declared.taking.Slot.{Slot}
use Rattle.parallel_lines.specs.declared.taking.Slot.TheVariants.{Stays, Out}

-- While no device of an audit's volume ever dropped writes, its entries are lawful, what they write lies inside its arrays, and
-- they give what the volume shows.
pub record IsTrue (audit : AuditShape Stack) : Type 0 where
  pub lawful : audit.loud ≡ true → AllLawful audit.base audit.entries
  pub inside : audit.loud ≡ true → AllInside audit.base audit.entries
  pub gives : audit.loud ≡ true → replay audit.base audit.entries ≡ shown_by audit.volume

-- The names of a volume that is taken out, its audit, in which no request is in flight, and the volume that both are of.
pub record IsOut (parts : Parts) (audit : AuditShape Stack) (old : Volume) : Type 0 where
  pub named : old ≡ named_with parts (rested_of audit.volume)
  pub parted : IsParted parts (rested_of audit.volume)
  pub held : audit.held ≡ []
  pub earned : AreEarned (audit.taken + length audit.entries) audit.volume
  pub truth : IsTrue audit
  pub loud : parts.sound ≡ true → audit.loud ≡ true

-- What seats leave of an audit: no request is in flight, and its entries go on from those that it had.
pub record IsLeft (old new : AuditShape Stack) : Type 0 where
  pub held : new.held ≡ []
  pub stays : StaysFrom (fixed_of stack_size stack_layers old) (fixed_of stack_size stack_layers new)
  pub more : List Entry
  pub grows : new.entries ≡ old.entries ++ more

-- The same once its seats ran, with the audit that it had.
pub record IsBack (before : AuditShape Stack) (parts : Parts) (audit : AuditShape Stack) (old : Volume) : Type 0 where
  pub out : IsOut parts before old
  pub left : IsLeft before audit

-- What was left to do in an audit's volume was done: snapshots may be spoiled, and nothing else changes.
pub record IsRested (old new : AuditShape Stack) : Type 0 where
  pub held : new.held ≡ []
  pub base : KeepsBase old new
  pub spoils : OnlySpoils old new
  pub kept : KeepsDevices stack_layers stack_size (rested_of old.volume) (rested_of new.volume)

-- What seats made of a volume, by its audits before and as they left it: these entries lead from the one volume to the other,
-- each seat's among them are those that it added, the first of them are those that the audit was left with, and what was denied
-- by these is denied by them; its pieces are the same; and where those that the audit was left with were asked for, all were.
pub record IsMade (before audit : AuditShape Stack) (story : Story) (old new : Volume) : Type 0 where
  pub run : IsRun old new
  pub played : IsPlayedIn story old new
  pub added : (seat : ℕ) → entries_by seat audit.entries ≡ entries_by seat before.entries ++ entries_by seat story.entries
  pub first : (seen : List Entry) → Begins (before.entries ++ seen) audit.entries → Begins seen story.entries
  pub denied : (seen : List Entry) (wish : Wish) (refusal : Refusal)
      → WasDenied before.entries (fixed_of stack_size stack_layers before) seen wish refusal → WasDenied [] story.stood seen wish refusal
  pub piece : piece_at (fixed_of stack_size stack_layers before) ≡ piece_at story.stood
  pub asked : (merges : ℕ → Bool) → AddsAskedFor merges before.entries audit.entries → All (IsAskedFor merges) story.entries

-- What a place of the table has: its volume, or the names of one that lines use, whose audit is the last of all.
abbrev pub IsSlot : Bool → Slot → List (AuditShape Stack) → List (AuditShape Stack) → Volume → Type 0
IsSlot used (Stays volume) audits others old = (volume.shown ≡ old) × (audits ≡ others)
IsSlot used (Out parts) audits others old = (used ≡ true) × (audit : AuditShape Stack) × (audits ≡ others ++ audit ∷ []) × IsOut parts audit old

-- What all places have, the last of the table first, with the audits in the same order.
abbrev pub AreSlots : List Bool → List Slot → List (AuditShape Stack) → List Volume → Type 0
AreSlots [] slots audits [] = (slots ≡ []) × (audits ≡ [])
AreSlots [] slots audits (old ∷ olds) = ⊥
AreSlots (used ∷ uses) slots audits [] = ⊥
AreSlots (used ∷ uses) slots audits (old ∷ olds) =
    (first : List Slot) × (slot : Slot) × (others : List (AuditShape Stack))
    × (slots ≡ first ++ slot ∷ []) × IsSlot used slot audits others old × AreSlots uses first others olds

-- What a place has once seats ran, by the audits before and as they left them.
abbrev pub IsBackAt : Bool → Slot → List (AuditShape Stack) → List (AuditShape Stack) → List (AuditShape Stack) → List (AuditShape Stack) → Volume → Type 0
IsBackAt used (Stays volume) befores audits first others old = (volume.shown ≡ old) × (befores ≡ first) × (audits ≡ others)
IsBackAt used (Out parts) befores audits first others old =
    (used ≡ true) × (before : AuditShape Stack) × (audit : AuditShape Stack) × (befores ≡ first ++ before ∷ []) × (audits ≡ others ++ audit ∷ []) × IsBack before parts audit old

-- what is put back into it
abbrev pub IsPutAt : Slot → List (AuditShape Stack) → List (AuditShape Stack) → List (AuditShape Stack) → List (AuditShape Stack) → Volume → Volume → Type 0
IsPutAt (Stays volume) befores audits first others old new = new ≡ old
IsPutAt (Out parts) befores audits first others old new =
    (before : AuditShape Stack) × (audit : AuditShape Stack) × (story : Story) × (befores ≡ first ++ before ∷ []) × (audits ≡ others ++ audit ∷ []) × IsMade before audit story old new

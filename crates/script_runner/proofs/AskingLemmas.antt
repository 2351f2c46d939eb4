-- Lines that are refused before any volume is asked.
use Rattle.std.proofs.Common.{◌≡◌, ◌≢◌, ◌⊎◌, ℕ, List, [], ◌∷◌, Option, Some, None, refl, sym, ap, ◌∙◌, inl, inr, subst}
use Rattle.std.specs.Prelude.{IfErr, IfSome, Result, Ok, Err}
use Rattle.sector.specs.declared.refusal.Refusal.{Refusal}
use Rattle.sector.specs.declared.refusal.Refusal.TheVariants.{NoSuchDevice, OutOfRange, Busy, NotQuiet, NoMemory, Invalid, MergingSnapshot, Io, TooMany, BadTable, BadChunk, BadHeader, BadVersion, Damaged, StoreTooSmall, Stale, MergeInProgress, NotMerging, NotDue, JournalFull, ChunkMismatch, NotFinished, Overflow}
use Rattle.command.specs.Line.{said_of}
use Rattle.command.specs.declared.grammar.Command.{Command}
use Rattle.command_replies.specs.declared.command_reply.CommandReply.{CommandReply}
use Rattle.command_replies.specs.declared.command_reply.CommandReply.TheVariants.{Number, Refused}
use Rattle.plain_machine.specs.declared.request.Replied.{Replied}
use Rattle.command_semantics.specs.State.{Table}
use Rattle.script_runner.specs.Asking.{refusal_in, first_refusal, said_first, line_first, IsFirst}
use Rattle.script_runner.specs.Ended.{line_replies}
use Rattle.script_runner.specs.Output.{answered, told}
use Rattle.script_runner.specs.Steps.{reworded}

-- a refusal is want of memory, or it isn't
pub memory_or_not : (e : Refusal) → (e ≡ NoMemory) ⊎ (e ≢ NoMemory)
memory_or_not NoMemory = inl refl
memory_or_not NoSuchDevice = inr (λ h. cc)
memory_or_not OutOfRange = inr (λ h. cc)
memory_or_not Busy = inr (λ h. cc)
memory_or_not NotQuiet = inr (λ h. cc)
memory_or_not Invalid = inr (λ h. cc)
memory_or_not MergingSnapshot = inr (λ h. cc)
memory_or_not Io = inr (λ h. cc)
memory_or_not TooMany = inr (λ h. cc)
memory_or_not BadTable = inr (λ h. cc)
memory_or_not BadChunk = inr (λ h. cc)
memory_or_not BadHeader = inr (λ h. cc)
memory_or_not BadVersion = inr (λ h. cc)
memory_or_not Damaged = inr (λ h. cc)
memory_or_not StoreTooSmall = inr (λ h. cc)
memory_or_not Stale = inr (λ h. cc)
memory_or_not MergeInProgress = inr (λ h. cc)
memory_or_not NotMerging = inr (λ h. cc)
memory_or_not NotDue = inr (λ h. cc)
memory_or_not JournalFull = inr (λ h. cc)
memory_or_not ChunkMismatch = inr (λ h. cc)
memory_or_not NotFinished = inr (λ h. cc)
memory_or_not Overflow = inr (λ h. cc)

-- want of memory may be answered in any case
pub memory_first : (first : Option Refusal) → IsFirst first (Refused NoMemory ∷ [])
memory_first None = tt
memory_first (Some e) = inr refl

-- what is so in any case is so where there is a refusal
pub same_still : {P : Type 0} (first : Option Refusal) → P → IfSome first (λ _. P)
same_still None p = tt
same_still (Some e) p = p

-- a request that is not started
pub numbered_first : {A : Type 0} (asks : Result A Refusal) (call : Result ℕ Refusal) (reply : Result CommandReply Refusal) → IfErr asks (λ e. call ≡ Err e) → reply ≡ reworded Number call → IsFirst (refusal_in asks) (told (reworded Some reply))
numbered_first (Ok x) call reply same is = tt
numbered_first (Err e) call reply same is = inl (ap (λ r. told (reworded Some r)) (is ∙ ap (reworded Number) same))

-- a line that says nothing
pub silent_first : (line : List ℕ) (table : Table) (replies : List CommandReply) → said_of 65536 line ≡ Ok None → IsFirst (line_first line table) replies
unfolding line_first
silent_first line table replies is =
    let P : Result (Option Command) Refusal → Type 0 = λ said. IsFirst (said_first table said) replies in subst P (sym is) tt

-- a line that is refused for its words, or for which there is no memory
pub worded_first : (line : List ℕ) (table : Table) (e : Refusal) → (e ≢ NoMemory → said_of 65536 line ≡ Err e) → IsFirst (line_first line table) (Refused e ∷ [])
unfolding line_first
worded_first line table e is = elim (memory_or_not e) [
  | inl memory ↦ let P : Refusal → Type 0 = λ r. IsFirst (said_first table (said_of 65536 line)) (Refused r ∷ []) in subst P (sym memory) (memory_first (said_first table (said_of 65536 line)))
  | inr other ↦ let P : Result (Option Command) Refusal → Type 0 = λ said. IsFirst (said_first table said) (Refused e ∷ []) in subst P (sym (is other)) (inl refl)
]

-- a line that says a command
pub command_first : (line : List ℕ) (command : Command) (table : Table) → said_of 65536 line ≡ Ok (Some command) → first_refusal command table ≡ line_first line table
unfolding line_first
command_first line command table is = sym (ap (said_first table) is)

-- no request ended in such a line
pub first_lines : (first : Option Refusal) (ended : List Replied) (own : Option CommandReply) → IsFirst first (answered own) → IfSome first (λ _. ended ≡ []) → IsFirst first (line_replies ended own)
first_lines None ended own asks none = tt
first_lines (Some e) ended own asks none =
    let P : List Replied → Type 0 = λ es. IsFirst (Some e) (line_replies es own) in subst P (sym none) asks

-- what is known where there is a first refusal, apart
pub first_none : (P : Type 0) (first : Option Refusal) (before ended now : List Replied) → IfSome first (λ _. P × (ended ≡ before)) → before ≡ now → IfSome first (λ _. ended ≡ now)
first_none P None before ended now h none = tt
first_none P (Some e) before ended now h none = h.1 ∙ none

pub first_stays : (P Q : Type 0) (first : Option Refusal) → IfSome first (λ _. P × Q) → IfSome first (λ _. P)
first_stays P Q None h = tt
first_stays P Q (Some e) h = h.0

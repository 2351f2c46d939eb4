-- What the program has no room for.
use Rattle.std.proofs.Common.{◌≡◌, ◌≢◌, inl, inr, true, false, refl, sym, ◌∙◌, ap}
use Rattle.std.specs.Prelude.{◌⊎◌}
use Rattle.std.proofs.lemmas.Bool.{true≢false}
use Rattle.sector.specs.declared.refusal.Refusal.{Refusal}
use Rattle.sector.specs.declared.refusal.Refusal.TheVariants.{NoSuchDevice, OutOfRange, Busy, NotQuiet, NoMemory, Invalid, MergingSnapshot, Io, TooMany, BadTable, BadChunk, BadHeader, BadVersion, Damaged, StoreTooSmall, Stale, MergeInProgress, NotMerging, NotDue, JournalFull, ChunkMismatch, NotFinished, Overflow}
use Rattle.whole_commands.specs.Refusals.{is_starved}

-- it is one of two
pub starved_by : (e : Refusal) → is_starved e ≡ true → (e ≡ NoMemory) ⊎ (e ≡ JournalFull)
starved_by NoSuchDevice h = absurd (cc)
starved_by OutOfRange h = absurd (cc)
starved_by Busy h = absurd (cc)
starved_by NotQuiet h = absurd (cc)
starved_by NoMemory h = inl refl
starved_by Invalid h = absurd (cc)
starved_by MergingSnapshot h = absurd (cc)
starved_by Io h = absurd (cc)
starved_by TooMany h = absurd (cc)
starved_by BadTable h = absurd (cc)
starved_by BadChunk h = absurd (cc)
starved_by BadHeader h = absurd (cc)
starved_by BadVersion h = absurd (cc)
starved_by Damaged h = absurd (cc)
starved_by StoreTooSmall h = absurd (cc)
starved_by Stale h = absurd (cc)
starved_by MergeInProgress h = absurd (cc)
starved_by NotMerging h = absurd (cc)
starved_by NotDue h = absurd (cc)
starved_by JournalFull h = inr refl
starved_by ChunkMismatch h = absurd (cc)
starved_by NotFinished h = absurd (cc)
starved_by Overflow h = absurd (cc)

pub memory_starved : (e : Refusal) → e ≡ NoMemory → is_starved e ≡ true
memory_starved e is = ap is_starved is

pub full_starved : (e : Refusal) → e ≡ JournalFull → is_starved e ≡ true
full_starved e is = ap is_starved is

-- what is refused for another reason
pub other_memory : (e : Refusal) → is_starved e ≡ false → e ≢ NoMemory
other_memory e other is = true≢false (sym (memory_starved e is) ∙ other)

pub other_full : (e : Refusal) → is_starved e ≡ false → e ≢ JournalFull
other_full e other is = true≢false (sym (full_starved e is) ∙ other)

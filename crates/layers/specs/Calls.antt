-- What a call does to a stack, or to one of its layers, in phrases over what was there before and after. This project's own.
use Rattle.std.specs.Prelude.{◌≡◌, ◌⊎◌, ℕ, ◌+◌, ◌*◌, ◌-◌, ◌<◌, ◌≤◌, IfErr, IsTrue, List, OnErr, OnOk, Result, if◌then◌else◌, is_ok, slice_index}
use Rattle.sector.specs.Bytes.{next_count, sector_at, sectors_at, with_sectors}
use Rattle.sector.specs.declared.range.Range.{Range}
use Rattle.sector.specs.declared.refusal.Refusal.{Refusal}
use Rattle.sector.specs.declared.refusal.Refusal.TheVariants.{NoMemory}
use Rattle.device.specs.declared.operation.Fate.TheVariants.{Drop, Pass}
use Rattle.device.specs.declared.operation.Operation.TheVariants.{Flushes, Reads, Writes}
use Rattle.device.specs.Layers.{fate, is_answered, is_loud, is_passed, layers_after}
use Rattle.layers.specs.Counts.{counts_after, counts_of}
use Rattle.layers.specs.Disk.{disk_of, with_disk}
use Rattle.layers.specs.Layer.{dust_layer}
use Rattle.layers.specs.Stack.{stack_contents, stack_done, stack_durable, stack_faults, stack_layers, stack_may_hold, stack_size}
use Rattle.layers.specs.Windows.{without_windows}
use Rattle.layers.specs.declared.dust.Dust.{Dust}
use Rattle.layers.specs.declared.flakey.Flakey.{Flakey}
use Rattle.layers.specs.declared.stack.Stack.{Stack}

-- the answer to a read, a write or a flush is that of the layers' fate for it
abbrev pub AnswersRead : {A E : Type 0} → Range → Result A E → Stack → Type 0
AnswersRead range result old = is_ok result ≡ is_answered (fate (stack_layers old) (Reads range.first range.count))

abbrev pub AnswersWrite : {A E : Type 0} → Range → Result A E → Stack → Type 0
AnswersWrite range result old = is_ok result ≡ is_answered (fate (stack_layers old) (Writes range.first range.count))

abbrev pub AnswersFlush : {A E : Type 0} → Result A E → Stack → Type 0
AnswersFlush result old = is_ok result ≡ is_answered (fate (stack_layers old) Flushes)

-- the layers are those after it
abbrev pub ReadsLayers : Range → Stack → Stack → Type 0
ReadsLayers range old new = stack_layers new ≡ layers_after (stack_layers old) (Reads range.first range.count)

abbrev pub WritesLayers : Range → Stack → Stack → Type 0
WritesLayers range old new = stack_layers new ≡ layers_after (stack_layers old) (Writes range.first range.count)

abbrev pub FlushesLayers : Stack → Stack → Type 0
FlushesLayers old new = stack_layers new ≡ layers_after (stack_layers old) Flushes

-- and so are the counts of each device
abbrev pub CountsRead : Range → Stack → Stack → Type 0
CountsRead range old new = counts_of new ≡ counts_after old (Reads range.first range.count)

abbrev pub CountsWrite : Range → Stack → Stack → Type 0
CountsWrite range old new = counts_of new ≡ counts_after old (Writes range.first range.count)

abbrev pub CountsFlush : Stack → Stack → Type 0
CountsFlush old new = counts_of new ≡ counts_after old Flushes

-- its own counts: one operation more, and one fault more where the call fails; or both as they were
abbrev pub CountsOne : Stack → Stack → Type 0
CountsOne old new = stack_done new ≡ next_count (stack_done old)

abbrev pub CountsFault : {A E : Type 0} → Result A E → Stack → Stack → Type 0
CountsFault result old new = stack_faults new ≡ (if is_ok result then stack_faults old else next_count (stack_faults old))

abbrev pub KeepsCounts : Stack → Stack → Type 0
KeepsCounts old new = (stack_faults new ≡ stack_faults old) × (stack_done new ≡ stack_done old)

-- its layers do all that they answer where they did so before, and only there
abbrev pub StaysAsLoud : Stack → Stack → Type 0
StaysAsLoud old new = is_loud (stack_layers new) ≡ is_loud (stack_layers old)

-- a read gives the sectors that are there
abbrev pub GivesSectors : {A E : Type 0} → Range → Result A E → List ℕ → Stack → Type 0
GivesSectors range result bytes old = OnOk result (bytes ≡ sectors_at (stack_contents old) range.first range.count)

-- the bytes are as they were; those that a loss leaves are; they are where the call fails; other sectors than these are
abbrev pub KeepsContents : Stack → Stack → Type 0
KeepsContents old new = stack_contents new ≡ stack_contents old

abbrev pub KeepsDurable : Stack → Stack → Type 0
KeepsDurable old new = stack_durable new ≡ stack_durable old

abbrev pub SameOnErr : {A E : Type 0} → Result A E → Stack → Stack → Type 0
SameOnErr result old new = OnErr result (stack_contents new ≡ stack_contents old)

abbrev pub ChangesOnly : Range → Stack → Stack → Type 0
ChangesOnly range old new = (i : ℕ) → (i < 512 * range.first) ⊎ (512 * (range.first + range.count) ≤ i) → slice_index (stack_contents new) i ≡ slice_index (stack_contents old) i

-- a write that the layers pass is done, and one that they drop is not
abbrev pub Passes : Range → List ℕ → Stack → Stack → Type 0
Passes range bytes old new = fate (stack_layers old) (Writes range.first range.count) ≡ Pass → stack_contents new ≡ with_sectors (stack_contents old) range.first bytes

abbrev pub Drops : Range → Stack → Stack → Type 0
Drops range old new = fate (stack_layers old) (Writes range.first range.count) ≡ Drop → stack_contents new ≡ stack_contents old

-- a flush that the layers pass makes the bytes last through a loss, and any other changes nothing of that
abbrev pub IsFlushed : Stack → Stack → Type 0
IsFlushed old new = stack_durable new ≡ (if is_passed (fate (stack_layers old) Flushes) then stack_contents old else stack_durable old)

-- a stop may leave nothing but what it might before; nothing else where the call fails; or what was written; or, after a flush of
-- layers that do all that they answer, nothing but what is there
abbrev pub HoldsNoMore : Stack → Stack → Type 0
HoldsNoMore old new = (s : ℕ) (v : List ℕ) → stack_may_hold new s v → stack_may_hold old s v

abbrev pub NoMoreOnErr : {A E : Type 0} → Result A E → Stack → Stack → Type 0
NoMoreOnErr result old new = OnErr result ((s : ℕ) (v : List ℕ) → stack_may_hold new s v → stack_may_hold old s v)

abbrev pub AddsOnly : Range → List ℕ → Stack → Stack → Type 0
AddsOnly range bytes old new = (s : ℕ) (v : List ℕ) → stack_may_hold new s v → stack_may_hold old s v ⊎ ((range.first ≤ s) × (s < range.first + range.count) × (v ≡ sector_at bytes (s - range.first)))

abbrev pub FirmOnOk : {A E : Type 0} → Result A E → Stack → Stack → Type 0
FirmOnOk result old new = OnOk result (IsTrue (is_loud (stack_layers old)) → (s : ℕ) (v : List ℕ) → s < stack_size new → stack_may_hold new s v → v ≡ sector_at (stack_contents new) s)

-- nothing changes but the disk at the bottom, and of the layers nothing but what their windows show
abbrev pub ChangesOnlyDisk : Stack → Stack → Type 0
ChangesOnlyDisk old new = new ≡ with_disk old (disk_of new)

abbrev pub KeepsLayers : Stack → Stack → Type 0
KeepsLayers old new = without_windows (stack_layers new) ≡ without_windows (stack_layers old)

-- a stack is given back, for want of memory
abbrev pub GivesBack : {A : Type 0} → Stack → Result A (Refusal × Stack) → Type 0
GivesBack stack result = IfErr result (λ e. (e.0 ≡ NoMemory) × (e.1 ≡ stack))

-- what a dust layer does with operations is as it was, where the call fails; and its sectors and counts are, or a flakey layer's
abbrev pub LeavesDust : {A E : Type 0} → Result A E → Dust → Dust → Type 0
LeavesDust result old new = OnErr result (dust_layer new ≡ dust_layer old)

abbrev pub DustKeepsCounts : Dust → Dust → Type 0
DustKeepsCounts old new = (new.sectors ≡ old.sectors) × (new.faults ≡ old.faults) × (new.done ≡ old.done)

abbrev pub FlakeyKeepsCounts : Flakey → Flakey → Type 0
FlakeyKeepsCounts old new = (new.sectors ≡ old.sectors) × (new.faults ≡ old.faults) × (new.done ≡ old.done)

-- What a seat's tasks answer, by the receipts of its calls. This project's own.
use Rattle.std.specs.Prelude.{◌≡◌, ◌≢◌, ◌⊎◌, ◌==◌, ◌&&◌, ◌<◌, ◌≤◌, ℕ, Bool, true, false, List, [], ◌∷◌, Option, None, Some, drop, length, map, slice_index_or, take}
use Rattle.std.specs.List.{list_any, range_with_len}
use Rattle.std.specs.Global.{Vec}
use Rattle.chunk.specs.Pieces.{span_of}
use Rattle.sector.specs.declared.range.Range.{Range}
use Rattle.plain_machine.specs.declared.request.Dev.{Dev}
use Rattle.device.specs.Layers.{Layer}
use Rattle.sector.specs.declared.refusal.Refusal.{Refusal}
use Rattle.audited_volume.specs.declared.entry.Entry.{Entry}
use Rattle.audited_volume.specs.declared.entry.Receipt.{Receipt}
use Rattle.locked_volume.specs.Denying.{Wish, Serve, Begin, WasBegun, WasDenied}
use Rattle.locked_volume.specs.Fixed.{Fixed, piece_at}
use Rattle.audited_volume.specs.Books.{AuditShape}
use Rattle.command_replies.specs.declared.seated.SeatAnswer.{SeatAnswer}
use Rattle.command_replies.specs.declared.seated.SeatAnswer.TheVariants as answered
use Rattle.command_replies.specs.Runs.{data_words}
use Rattle.volume_threads.specs.Rigs.{HasAdded, IsSettledAt, SeatShape, fixed_in, receipts_at, seen_at, start_in}
use Rattle.volume_threads.specs.Served.{IsReadBy, IsReadCut, IsWriteCut, IsWrittenBy}
use Rattle.parallel_threads.specs.declared.task.Job.{Job}
use Rattle.parallel_threads.specs.declared.task.Job.TheVariants.{Read, Write, Merge, RefusedRead, Refused}
use Rattle.parallel_threads.specs.declared.task.Task.{Task}

-- whether a job merges the snapshot with a number of a volume
abbrev pub is_merge_of : ℕ → ℕ → Job → Bool
is_merge_of volume number (Read v dev range) = false
is_merge_of volume number (Write v dev range bytes) = false
is_merge_of volume number (Merge v snap) = v == volume && snap == number
is_merge_of volume number (RefusedRead refusal) = false
is_merge_of volume number (Refused refusal) = false

abbrev pub is_merge_in : ℕ → ℕ → Option Job → Bool
is_merge_in volume number None = false
is_merge_in volume number (Some job) = is_merge_of volume number job

-- Whether one of these tasks does: those of seat 1 are at place 0, and so on.
abbrev pub merges_among : (ℕ → List Task) → ℕ → ℕ → Bool
merges_among tasks volume number = list_any (λ i. list_any (λ task. is_merge_in volume number task.job) (tasks i)) (range_with_len 0 8)

-- What a task merges may be merged.
abbrev pub MayMerge : (ℕ → ℕ → Bool) → Task → Type 0
MayMerge merges task = (volume number : ℕ) → is_merge_in volume number task.job ≡ true → merges volume number ≡ true

-- no receipts of any volume
abbrev pub IsNew : SeatShape → Type 0
IsNew seat = (k : ℕ) → receipts_at seat k ≡ []

-- a seat that made no request, and its tasks as they were given
abbrev pub IsUnbegun : List Task → List Task → SeatShape → Type 0
IsUnbegun asked tasks seat = (tasks ≡ asked) × IsNew seat

-- denies: what a volume denied, by its entries, as far as the seat had seen them; pieces: the sectors of a piece of each volume
module _ (denies : ℕ → List Entry → Wish → Refusal → Type 0) (pieces : ℕ → ℕ) where
  -- A read answers the bytes of the receipts that it added, in words, or it is cut short by what it answers.
  abbrev pub IsReadAs : ℕ → Dev → Range → SeatAnswer → SeatShape → SeatShape → Type 0
  IsReadAs volume dev range answered.Done old new = ⊥
  IsReadAs volume dev range (answered.Data words) old new = (more : List Receipt) × (bytes : List ℕ) × HasAdded volume more old new × IsReadBy (pieces volume) dev (span_of range) more bytes × (words ≡ data_words bytes)
  IsReadAs volume dev range (answered.Refused refusal) old new = (more : List Receipt) × HasAdded volume more old new × IsReadCut (λ request r. denies volume (seen_at new volume) (Serve request) r) (pieces volume) dev (span_of range) more refusal

  -- A write is done by the receipts that it added, or cut short.
  abbrev pub IsWrittenAs : ℕ → Dev → Range → List ℕ → SeatAnswer → SeatShape → SeatShape → Type 0
  IsWrittenAs volume dev range bytes answered.Done old new = (more : List Receipt) × HasAdded volume more old new × IsWrittenBy (pieces volume) dev (span_of range) more bytes
  IsWrittenAs volume dev range bytes (answered.Data words) old new = ⊥
  IsWrittenAs volume dev range bytes (answered.Refused refusal) old new = (more : List Receipt) × HasAdded volume more old new × IsWriteCut (λ request r. denies volume (seen_at new volume) (Serve request) r) (pieces volume) dev (span_of range) more refusal

  -- A merge adds no receipt, and answers no bytes: it began, after all that the seat had seen before, or was denied.
  abbrev pub IsMergedAs : ℕ → ℕ → SeatAnswer → SeatShape → SeatShape → Type 0
  IsMergedAs volume snap answered.Done old new = HasAdded volume [] old new × WasBegun snap (seen_at old volume) (seen_at new volume)
  IsMergedAs volume snap (answered.Data words) old new = ⊥
  IsMergedAs volume snap (answered.Refused refusal) old new = HasAdded volume [] old new × denies volume (seen_at new volume) (Begin snap) refusal

  -- what a job answered, and what its call changed of the seat
  abbrev pub IsCall : Job → SeatAnswer → SeatShape → SeatShape → Type 0
  IsCall (Read volume dev range) answer old new = IsReadAs volume dev range answer old new
  IsCall (Write volume dev range bytes) answer old new = IsWrittenAs volume dev range bytes answer old new
  IsCall (Merge volume snap) answer old new = IsMergedAs volume snap answer old new
  IsCall (RefusedRead refusal) answer old new = (answer ≡ answered.Refused refusal) × (new ≡ old)
  IsCall (Refused refusal) answer old new = (answer ≡ answered.Refused refusal) × (new ≡ old)

  -- A job is called once, and its answer kept; where there is none, nothing is done.
  abbrev pub IsDoneAs : Option Job → Task → Task → SeatShape → SeatShape → Type 0
  IsDoneAs None before after old new = (after ≡ before) × (new ≡ old)
  IsDoneAs (Some job) before after old new = (answer : SeatAnswer) × (after ≡ record { job = None; answer = Some answer }) × IsCall job answer old new

  abbrev pub IsDone : Task → Task → SeatShape → SeatShape → Type 0
  IsDone before after old new = IsDoneAs before.job before after old new

  -- tasks that were done one after the other
  abbrev pub AreDone : List Task → List Task → SeatShape → SeatShape → Type 0
  AreDone [] [] old new = new ≡ old
  AreDone [] (a ∷ after) old new = ⊥
  AreDone (b ∷ before) [] old new = ⊥
  AreDone (b ∷ before) (a ∷ after) old new = (between : SeatShape) × IsDone b a old between × AreDone before after between new

  -- The seat, which began with no receipts, did these tasks and no others.
  abbrev pub AreCalled : List Task → List Task → SeatShape → Type 0
  AreCalled asked tasks seat = ∥ ((start : SeatShape) × IsNew start × AreDone asked tasks start seat) ∥₁

  -- the first tasks are done: so many; and the others are as they were asked
  pub record AreUnderWay (asked tasks : List Task) (done : ℕ) (seat : SeatShape) : Type 0 where
    pub many : length tasks ≡ length asked
    pub few : done ≤ length asked
    pub firsts : AreCalled (take done asked) (take done tasks) seat
    pub others : drop done tasks ≡ drop done asked

  -- What a seat of this number leaves of its tasks: all are done, or none was begun.
  abbrev pub IsEnded : List Task → List Task → ℕ → SeatShape → Type 0
  IsEnded asked tasks number seat = (seat.number ≡ number) × (AreCalled asked tasks seat ⊎ ((tasks ≡ asked) × AreCalled [] [] seat))

-- what was denied by a volume whose journal had these entries, and which stayed so, when the seats began
abbrev pub denied_of : (ℕ → List Entry) → (ℕ → Fixed) → ℕ → List Entry → Wish → Refusal → Type 0
denied_of start fixed k seen wish refusal = WasDenied (start k) (fixed k) seen wish refusal

-- and the sectors of a piece of it
abbrev pub pieces_at : (ℕ → Fixed) → ℕ → ℕ
pieces_at fixed k = piece_at (fixed k)

-- The tasks that a seat of this number leaves, by entries that it made in the journals: its receipts of a volume are its entries
-- there after those that it had, in their order, and there are as many.
abbrev pub AreTold : {B : Type 0} → (B → ℕ) → (B → List Layer) → List (AuditShape B) → List (AuditShape B) → ℕ → List Task → List Task → Type 0
AreTold {B = B} size layers old new number asked tasks =
    (seat : SeatShape) × IsEnded (denied_of (start_in old) (fixed_in size layers old)) (pieces_at (fixed_in size layers old)) asked tasks number seat
    × ((k : ℕ) (d : AuditShape B) → k < length old → IsSettledAt (start_in old k) (slice_index_or new k d) k seat)

-- the tasks at a place; none behind the last
abbrev pub tasks_at : List (Vec Task) → ℕ → List Task
tasks_at all i = slice_index_or (map (λ tasks. tasks.items) all) i []

-- there are as many places; and at each but one the tasks stay
abbrev pub AreAsMany : Vec (Vec Task) → Vec (Vec Task) → Type 0
AreAsMany old new = length new.items ≡ length old.items

abbrev pub StayBut : ℕ → Vec (Vec Task) → Vec (Vec Task) → Type 0
StayBut i old new = (k : ℕ) → k ≢ i → tasks_at new.items k ≡ tasks_at old.items k

-- those behind the places of eight seats stay
abbrev pub StayBehind : Vec (Vec Task) → Vec (Vec Task) → Type 0
StayBehind old new = (i : ℕ) → 8 ≤ i → tasks_at new.items i ≡ tasks_at old.items i

abbrev pub StayBeside : Vec (Vec Task) → Vec (Vec Task) → Type 0
StayBeside old new = AreAsMany old new × StayBehind old new

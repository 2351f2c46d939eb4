-- To be believed: `run`'s output, a volume's steps or its attach are said in these words.
-- Calls of a volume, one after another: what each does and answers, and what callers see of a whole list. This project's own.
use Rattle.std.specs.Prelude.{◌≡◌, ◌⊎◌, ◌==◌, ℕ, ◌*◌, Bool, true, false, List, [], ◌∷◌, length, Option, Some, None, Result, MatchResult, is_ok}
use Rattle.std.specs.List.{list_any}
use Rattle.sector.specs.declared.refusal.Refusal.{Refusal}
use Rattle.sector.specs.declared.refusal.Refusal.TheVariants.{NotMerging}
use Rattle.device.specs.Layers.{Layer}
use Rattle.layers.specs.declared.message.Answer.{Answer}
use Rattle.layers.specs.declared.message.Message.{Message}
use Rattle.plain_machine.specs.Plain.{Plain, Live, saved_under}
use Rattle.plain_machine.specs.Legal.{IsBegun}
use Rattle.plain_machine.specs.Runs.{MayStep, MaySubmit}
use Rattle.plain_machine.specs.Unwritten.{writes, is_written, StillShows}
use Rattle.plain_machine.specs.declared.event.Event.{Event}
use Rattle.plain_machine.specs.declared.event.NotDue.{NotDue}
use Rattle.plain_machine.specs.declared.event.Outcome.{Outcome}
use Rattle.plain_machine.specs.declared.request.Dev.{Dev}
use Rattle.plain_machine.specs.declared.request.Op.TheVariants.{Write}
use Rattle.plain_machine.specs.declared.request.Reply.{Reply}
use Rattle.plain_machine.specs.declared.request.Request.{Request}
use Rattle.event_machine.specs.Merging.{begun, resumed}
use Rattle.volume.specs.declared.calls.Call.{Call}
use Rattle.volume.specs.declared.calls.Call.TheVariants.{Submit, Step, Tick, Message as Tell, BeginMerge, ResumeMerge}
use Rattle.volume.specs.declared.calls.Returned.{Returned}
use Rattle.volume.specs.declared.calls.Returned.TheVariants.{Submitted, Stepped, Ticked, Told, Begun, Resumed}
use Rattle.volume.specs.Volumed.{Volumed, is_due_of, is_loud_in_all, plain_of}
use Rattle.volume.specs.Beginning.{IsMergeBegun, IsNotBegun, IsResumed, begin_refusal}
use Rattle.volume.specs.Exact.{IsExact}
use Rattle.volume.specs.Layering.{Measures, IsTicked}
use Rattle.volume.specs.Moved.{moving_of}
use Rattle.volume.specs.Stepping.{IsStepped}
use Rattle.volume.specs.Submitting.{submit_refusal, IsAcceptedAs, IsRefusedAs}
use Rattle.volume.specs.Telling.{IsTold, IsNotTold}

-- what is asked of a call: a write brings as many bytes as its range has
abbrev pub IsFitCall : Call → Type 0
IsFitCall (Submit request) = (bytes : List ℕ) → request.op ≡ Write bytes → length bytes ≡ 512 * request.range.count
IsFitCall (Step event) = Unit {0}
IsFitCall (Tick seconds) = Unit {0}
IsFitCall (Tell dev depth message) = Unit {0}
IsFitCall (BeginMerge number) = Unit {0}
IsFitCall ResumeMerge = Unit {0}

-- a request was accepted or refused
abbrev pub IsSubmitReturned : {B : Type 0} → Measures B → (B → List Layer) → Request → Result ℕ Refusal → Volumed B → Volumed B → Type 0
IsSubmitReturned m layers request result old new =
    MatchResult result (λ number. IsAcceptedAs m.contents layers request number old new × (submit_refusal m.size request old ≡ None)) (λ refusal. IsRefusedAs m.contents layers m.size request refusal old new)

-- an event was done, or was not due
abbrev pub IsStepReturned : {B : Type 0} → Measures B → (B → List Layer) → Event → Result Outcome NotDue → Volumed B → Volumed B → Type 0
IsStepReturned m layers event result old new =
    MatchResult result (λ outcome. IsStepped m.contents layers m.size m.faults m.done event outcome old new × IsExact m.contents layers event outcome old new) (λ early. new ≡ old)
    × (is_ok result ≡ is_due_of m.contents layers old event)

-- a layer was told something, or was not
abbrev pub IsMessageReturned : {B : Type 0} → Measures B → (B → List Layer) → Dev → ℕ → Message → Result Answer Refusal → Volumed B → Volumed B → Type 0
IsMessageReturned m layers dev depth message result old new =
    MatchResult result (λ answer. IsTold m layers dev depth message answer old new) (λ refusal. IsNotTold m layers dev depth message refusal old new)

-- A merge began: where no device drops writes, the origin shows from then on what the snapshot showed.
pub record IsBegunAs {B : Type 0} (m : Measures B) (layers : B → List Layer) (number : ℕ) (old new : Volumed B) : Type 0 where
  pub admitted : begin_refusal number old ≡ None
  pub becomes : IsMergeBegun number old new
  pub legal : is_loud_in_all layers old ≡ true → IsBegun (plain_of m.contents layers old) number (plain_of m.contents layers new)
  pub exact : (replied : Option Reply) → begun number (moving_of m.contents layers replied old) ≡ moving_of m.contents layers replied new

-- it did not, and nothing is seen of that
pub record IsBeginRefused {B : Type 0} (m : Measures B) (layers : B → List Layer) (number : ℕ) (refusal : Refusal) (old new : Volumed B) : Type 0 where
  pub why : IsNotBegun number refusal old new
  pub still : (replied : Option Reply) → moving_of m.contents layers replied new ≡ moving_of m.contents layers replied old

abbrev pub IsBeginReturned : {A B : Type 0} → Measures B → (B → List Layer) → ℕ → Result A Refusal → Volumed B → Volumed B → Type 0
IsBeginReturned m layers number result old new =
    MatchResult result (λ done. IsBegunAs m layers number old new) (λ refusal. IsBeginRefused m layers number refusal old new)
    × (is_loud_in_all layers new ≡ is_loud_in_all layers old)

-- a merge goes on
pub record IsResumedAs {B : Type 0} (m : Measures B) (layers : B → List Layer) (old new : Volumed B) : Type 0 where
  pub becomes : IsResumed old new
  pub exact : (replied : Option Reply) → resumed (moving_of m.contents layers replied old) ≡ moving_of m.contents layers replied new
  pub plain : plain_of m.contents layers new ≡ plain_of m.contents layers old

-- or there is none
abbrev pub IsResumeReturned : {A B : Type 0} → Measures B → (B → List Layer) → Result A Refusal → Volumed B → Volumed B → Type 0
IsResumeReturned m layers result old new =
    MatchResult result (λ done. IsResumedAs m layers old new) (λ refusal. (refusal ≡ NotMerging) × (old.merge ≡ None) × (new ≡ old))
    × (is_loud_in_all layers new ≡ is_loud_in_all layers old)

-- a call was done, with this answer
abbrev pub IsReturned : {B : Type 0} → Measures B → (B → List Layer) → Call → Returned → Volumed B → Volumed B → Type 0
IsReturned m layers (Submit request) (Submitted result) old new = IsSubmitReturned m layers request result old new
IsReturned m layers (Step event) (Stepped result) old new = IsStepReturned m layers event result old new
IsReturned m layers (Tick seconds) Ticked old new = IsTicked m layers seconds old new
IsReturned m layers (Tell dev depth message) (Told result) old new = IsMessageReturned m layers dev depth message result old new
IsReturned m layers (BeginMerge number) (Begun result) old new = IsBeginReturned m layers number result old new
IsReturned m layers ResumeMerge (Resumed result) old new = IsResumeReturned m layers result old new
IsReturned m layers call returned old new = ⊥

-- all of these calls were done, in their order
abbrev pub AreReturned : {B : Type 0} → Measures B → (B → List Layer) → List Call → List Returned → Volumed B → Volumed B → Type 0
AreReturned m layers [] [] old new = new ≡ old
AreReturned m layers [] (r ∷ rs) old new = ⊥
AreReturned m layers (c ∷ cs) [] old new = ⊥
AreReturned {B} m layers (c ∷ cs) (r ∷ rs) old new = (mid : Volumed B) × IsReturned m layers c r old mid × AreReturned m layers cs rs mid new

-- a merge that began, or did not
abbrev pub MayBegin : ℕ → Plain → Plain → Type 0
MayBegin number old new = IsBegun old number new ⊎ (new ≡ old)

-- what callers see of a call: neither the time nor a message is seen, nor that a merge goes on
abbrev pub MayCall : Call → Plain → Plain → Type 0
MayCall (Submit request) old new = MaySubmit request old new
MayCall (Step event) old new = MayStep event old new
MayCall (Tick seconds) old new = new ≡ old
MayCall (Tell dev depth message) old new = new ≡ old
MayCall (BeginMerge number) old new = MayBegin number old new
MayCall ResumeMerge old new = new ≡ old

-- whether a call asks for a write of that snapshot, or takes it from the others to merge it
abbrev pub writes_or_merges : ℕ → Call → Bool
writes_or_merges number (Submit request) = writes number request.dev request.op
writes_or_merges number (Step event) = false
writes_or_merges number (Tick seconds) = false
writes_or_merges number (Tell dev depth message) = false
writes_or_merges number (BeginMerge merged) = merged == number
writes_or_merges number ResumeMerge = false

-- A live snapshot that none of the calls and no request in flight writes, and that none of the calls begins to merge, shows
-- the array that it showed, or is lost.
abbrev pub KeepsUnwritten : List Call → Plain → Plain → Type 0
KeepsUnwritten calls old new = (number : ℕ) → (array : List ℕ) → saved_under number old.saved ≡ Some (Live array)
    → is_written number old.requests ≡ false → list_any (writes_or_merges number) calls ≡ false → StillShows number array new

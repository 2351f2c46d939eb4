-- How far each job is by the calls of the array.
use Rattle.std.specs.Prelude.{◌≡◌, ℕ, ◌<◌, ◌≤◌, true, List, [], ◌∷◌, length, replicate, slice_index_or, None}
use Rattle.nbd_messages.specs.declared.request.Request.{Request}
use Rattle.nbd_jobs.specs.Held.{Held}
use Rattle.nbd_jobs.specs.Steps.{JobState, a_flush, is_read}
use Rattle.nbd_jobs.specs.declared.job.Stage.{Stage}
use Rattle.nbd_jobs.specs.declared.job.Stage.TheVariants.{Moving, Lasting, Flushing, Done}
use Rattle.nbd_backend.specs.Calls.{Call}
use Rattle.nbd_write_session.specs.Owed.{brought_by}
use Rattle.nbd_write_session.specs.Pieces.{AreMoved, AreSent, Deal, IsDone, choices, deals_of, error_in, is_lasting, is_moved, laid, out_of, Taken}

-- the stage of a job without an error
abbrev pub IsAtStage : ℕ → Request → ℕ → List ℕ → List Deal → Stage → Type 0
IsAtStage chunk request serial brought deals (Moving sent) = (is_moved request.command ≡ true) × AreSent chunk request serial brought sent deals
IsAtStage chunk request serial brought deals Lasting = (is_lasting request ≡ true) × AreMoved chunk request serial brought deals
IsAtStage chunk request serial brought deals Flushing =
    (is_lasting request ≡ true) × ((before : List Deal) × (deals ≡ Taken (a_flush serial) [] ∷ before) × AreMoved chunk request serial brought before)
IsAtStage chunk request serial brought deals Done = IsDone chunk request serial brought deals

-- a job, by what was done of its request
pub record IsOf (chunk : ℕ) (deals : List Deal) (job : JobState) : Type 0 where
  pub read : is_read job.request.command ≡ true → job.bytes ≡ laid (replicate job.request.length 0) deals
  pub error : job.error ≡ error_in deals
  pub stage : job.error ≡ None → IsAtStage chunk job.request job.serial (brought_by job.request.command job.bytes) deals job.stage

-- All jobs, and the pieces that are out. Each job has a number of its own, and nothing was asked of the array under another number. The
-- export stays the one that was chosen.
pub record IsKept (chunk : ℕ) (held : Held) (calls : List Call) : Type 0 where
  pub out : held.out ≡ out_of calls
  pub jobs : (k : ℕ) (d : JobState) → k < length held.jobs → IsOf chunk (deals_of (slice_index_or held.jobs k d).serial calls) (slice_index_or held.jobs k d)
  pub apart : (i k : ℕ) (d : JobState) → i < length held.jobs → k < length held.jobs → (slice_index_or held.jobs i d).serial ≡ (slice_index_or held.jobs k d).serial → i ≡ k
  pub below : (k : ℕ) (d : JobState) → k < length held.jobs → (slice_index_or held.jobs k d).serial ≤ held.given
  pub above : (k : ℕ) (d : JobState) → k < length held.jobs → 0 < (slice_index_or held.jobs k d).serial
  pub fresh : (serial : ℕ) → held.given < serial → deals_of serial calls ≡ []
  pub none : deals_of 0 calls ≡ []
  pub once : choices calls ≡ 1

-- a number that was given, of which no job is left
pub record IsSpent (held : Held) (serial : ℕ) : Type 0 where
  pub given : serial ≤ held.given
  pub left : (k : ℕ) (d : JobState) → k < length held.jobs → (slice_index_or held.jobs k d).serial ≡ serial → ⊥

-- A job that goes on keeps its request.
use Rattle.std.proofs.Common.{◌≡◌, ℕ, List, ap, ◌∙◌, get_or, set, map}
use Rattle.std.proofs.Math.Seq.{map-set_same}
use Rattle.nbd_messages.specs.declared.request.Request.{Request}
use Rattle.nbd_jobs.specs.Held.{asked_by}
use Rattle.nbd_jobs.specs.Steps.{JobState}

-- the job at a place becomes another one of the same request
pub asked_kept : (jobs : List JobState) (place : ℕ) (after before : JobState) → before ≡ get_or jobs place before → after.request ≡ before.request → asked_by (set jobs place after) ≡ asked_by jobs
asked_kept jobs place after before was same = map-set_same (λ (j : JobState). j.request) jobs place after before (same ∙ ap (λ (j : JobState). j.request) was)

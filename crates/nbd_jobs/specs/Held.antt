-- The jobs of a connection, and the pieces of them that are out, as contracts see them; and what becomes of both.
use Rattle.std.specs.Prelude.{◌≡◌, ◌==◌, ◌<◌, ℕ, List, [], ◌∷◌, ◌++◌, length, map, Option, Some, None, IfSome, MatchOption, slice_index_or, slice_set}
use Rattle.std.specs.List.{position, remove}
use Rattle.nbd_messages.specs.declared.errors.ErrorValue.{ErrorValue}
use Rattle.nbd_messages.specs.declared.request.Request.{Request}
use Rattle.nbd_jobs.specs.declared.jobs.Piece.{Piece}
use Rattle.nbd_jobs.specs.Steps.{JobState, beginning, failed, filled, handed, is_out, settled}

-- the jobs in the order in which they arrived, the pieces that are out, and how many numbers of jobs were given
pub record Held : Type 0 where
  pub jobs : List JobState
  pub out : List Piece
  pub given : ℕ

-- the requests of jobs, in the order in which they arrived
abbrev pub asked_by : List JobState → List Request
asked_by jobs = map (λ j. j.request) jobs

-- the requests that are not answered
abbrev pub requests_of : Held → List Request
requests_of held = asked_by held.jobs

-- these stay
abbrev pub KeepsAsked : List JobState → List JobState → Type 0
KeepsAsked old new = asked_by new ≡ asked_by old

abbrev pub KeepsRequests : Held → Held → Type 0
KeepsRequests old new = requests_of new ≡ requests_of old

-- a place that is told is one of a list
abbrev pub IsPlaceIn : {A : Type 0} → Option ℕ → List A → Type 0
IsPlaceIn told list = IfSome told (λ k. k < length list)

-- a job that begins
abbrev pub opened : Request → ℕ → List ℕ → JobState
opened request serial bytes = record { request = request; serial = serial; stage = beginning request.command; error = None; bytes = bytes }

-- the job at a place became another
abbrev pub Became : ℕ → (JobState → JobState) → List JobState → List JobState → Type 0
Became place f old new = (d : JobState) → new ≡ slice_set old place (f (slice_index_or old place d))

-- a job that failed, where there is an error
abbrev pub failed_by : Option ErrorValue → JobState → JobState
failed_by None job = job
failed_by (Some error) job = failed error job

-- A job of which a piece is back with these bytes or an error, where these pieces are out yet.
abbrev pub taken_back : List Piece → Piece → List ℕ → Option ErrorValue → JobState → JobState
taken_back out piece part error job = settled (is_out out piece.serial) (failed_by error (filled piece.at part job))

-- The piece at a place is back: its job, if it is there, takes it in.
abbrev pub IsBackAt : Piece → List ℕ → Option ErrorValue → List Piece → List JobState → List JobState → Type 0
IsBackAt piece part error out old new =
    MatchOption (position (λ j. j.serial == piece.serial) old) (new ≡ old) (λ place. Became place (taken_back out piece part error) old new)

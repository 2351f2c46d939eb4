-- What an event does to a volume that holds: it holds again, and the plain machine takes the step that the outcome tells.
use Rattle.std.specs.Prelude.{ℕ, List, []}
use Rattle.plain_machine.specs.declared.request.Request.{Request}
use Rattle.plain_machine.specs.declared.request.Reply.{Reply}
use Rattle.plain_machine.specs.Legal.{Spoils, IsAnswered, IsSubmitted}
use Rattle.volume_laws.specs.Books.{Books}
use Rattle.volume_laws.specs.Whole.{Holds, IsLoud, plain_of}

-- nothing is seen of it
pub record IsSilent (v w : Books) : Type 0 where
  pub holds : Holds w
  pub step : IsLoud v → Spoils [] (plain_of v) (plain_of w)

-- these snapshots are spoiled
pub record IsSpoil (which : List ℕ) (v w : Books) : Type 0 where
  pub holds : Holds w
  pub step : IsLoud v → Spoils which (plain_of v) (plain_of w)

-- a request is answered
pub record IsReply (number : ℕ) (reply : Reply) (v w : Books) : Type 0 where
  pub holds : Holds w
  pub step : IsLoud v → IsAnswered (plain_of v) number reply (plain_of w)

-- a request is accepted
pub record IsAccepted (which : List ℕ) (number : ℕ) (request : Request) (v w : Books) : Type 0 where
  pub holds : Holds w
  pub step : IsLoud v → IsSubmitted which (plain_of v) number request (plain_of w)

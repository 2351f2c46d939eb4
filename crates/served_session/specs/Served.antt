-- To be believed: what a session promises of stops is said in these words.
-- A client is served from a volume that was opened. Every call of the volume is on one list, the client's and then a merge's, so each
-- moment of the session is: whatever a stop then leaves of all files together shows what was made last, or what a write since gives; and a
-- snapshot that the client wrote nothing of is as it was opened, or is lost. What was made last is, to begin with, each array as it was
-- opened, and what is carried over from the sessions before; and then each array as a flush of it found it that was answered. Where the
-- session ends well, what was said to the client are the replies to its requests, as the calls have them. holds: what a file may hold in a
-- sector after a stop. This project's own.
use Rattle.std.specs.Prelude.{ℕ, ◌++◌, Bool, List, [], ◌∷◌, Option, Result, IfOk, IfSome}
use Rattle.std.specs.Io.KnownBytes.{Appends}
use Rattle.device.specs.Layers.{Layer}
use Rattle.volume.specs.Layering.{Measures}
use Rattle.volume.specs.Volumed.{plain_of}
use Rattle.volume_lifetime.specs.Flushed.{Flushed, History}
use Rattle.nbd_options.specs.declared.export.Export.{Export}
use Rattle.nbd_backend.specs.Calls.{Call, Called, Choose, Submit, Step}
use Rattle.nbd_write_session.specs.Session.{IsSession}
use Rattle.nbd_write_session.specs.declared.ended.Ended.{Ended}
use Rattle.nbd_write_session.specs.declared.ended.Finish.{Finish}
use Rattle.volume_nbd.specs.Served.{Served}
use Rattle.served_session_laws.specs.Carrying.{AreShown}
use Rattle.served_session_laws.specs.Sessions.{LosesThrough, known_first}

-- An array came from one state to another by some steps, the last of which stands first, and by nothing else.
abbrev pub AreSteps : List Call → Type 0
AreSteps [] = Unit {0}
AreSteps (Step told ∷ calls) = AreSteps calls
AreSteps (Choose place told ∷ calls) = ⊥
AreSteps (Submit work part told ∷ calls) = ⊥

abbrev pub StepsTo : {S : Type 0} → (Call → S → S → Type 0) → S → S → Type 0
StepsTo does old new = (calls : List Call) × Called does old calls new × AreSteps calls

-- Bytes that a client said, and those that were said to it before and after, where they are known.
pub record Heard : Type 0 where
  pub client : Option (List ℕ)
  pub before : Option (List ℕ)
  pub after : Option (List ℕ)

pub record IsServed {B : Type 0} (holds : B → ℕ → List ℕ → Type 0) (m : Measures B) (layers : B → List Layer) (failed unanswered : B → Bool) (exports : List Export) (start new : Served B) (ended : Result Finish Ended) (heard : Heard) : Type 0 where
  pub calls : List Call
  pub says : IfOk ended (λ finish. IfSome heard.client (λ bytes. (said : List ℕ) × IsSession exports finish calls bytes said × Appends heard.before heard.after said))
  -- and behind the client a merge goes on, by steps
  pub more : List Call
  pub steps : AreSteps more
  -- whatever is carried over from the sessions before
  pub loses : (carried : List Flushed) → AreShown (plain_of m.contents layers start.volume) (m.size start.volume.origin) carried
      → (known : History) × LosesThrough holds m layers failed unanswered (known_first m layers carried start.volume) start (more ++ calls) new known

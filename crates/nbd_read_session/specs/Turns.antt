-- One message of a session, as it is read and answered.
use Rattle.std.specs.Prelude.{◌≡◌, ℕ, ◌+◌, List, length, Option, Some, IfSome}
use Rattle.std.specs.Io.KnownBytes.{Consumes}
use Rattle.nbd_options.specs.declared.export.Export.{Export}
use Rattle.nbd_read_session.specs.declared.served.Fault.{Fault}
use Rattle.nbd_options.specs.declared.session.Stage.TheVariants.{Opening}
use Rattle.nbd_options.specs.declared.session.Session.{Session}
use Rattle.nbd_messages.specs.Requests.{asked_in, request_in}
use Rattle.nbd_messages.specs.declared.asked.Asked.{Asked}
use Rattle.nbd_messages.specs.declared.request.Request.{Request}
use Rattle.nbd_options.specs.declared.session.Place.{Place}
use Rattle.nbd_options.specs.Haggled.{IsReaction, haggled_any}
use Rattle.nbd_read_session.specs.Blocks.{Array}
use Rattle.nbd_read_session.specs.Replied.{reply_to, HasCause}
use Rattle.nbd_read_session.specs.Talk.{IsWhole, NoneIsWhole, IsCaused, chosen, opened, reaction, served}

-- a whole message was read, and this is its answer
abbrev pub IsTurn : List Export → (ℕ → Array) → (ℕ → ℕ → ℕ → Type 0) → Option (List ℕ) → Option (List ℕ) → Session → Session → List ℕ → Type 0
IsTurn exports arrays may_fail old new before after answer =
    (message : List ℕ) × (fault : Option Fault) × Consumes old new message × IsWhole before.stage message × IsReaction answer after (reaction exports arrays before fault message) × IsCaused may_fail before.stage message fault

-- the client's flags were read, which have no answer
abbrev pub IsOpened : Option (List ℕ) → Option (List ℕ) → Session → Session → Type 0
IsOpened old new before after = (message : List ℕ) × Consumes old new message × IsWhole Opening message × (after ≡ (opened before message).after)

-- no whole message comes
abbrev pub IsEnd : Option (List ℕ) → Session → Type 0
IsEnd old session = IfSome old (NoneIsWhole session.stage)

-- an option's header was read
abbrev pub IsAsked : Option (List ℕ) → Option (List ℕ) → Asked → Type 0
IsAsked old new asked = (head : List ℕ) × (length head ≡ 16) × (asked_in head ≡ Some asked) × Consumes old new head

-- a request's header was read
abbrev pub IsRequested : Option (List ℕ) → Option (List ℕ) → Request → Type 0
IsRequested old new request = (head : List ℕ) × (length head ≡ 28) × (request_in head ≡ Some request) × Consumes old new head

-- an option's data were read, and this is its answer
abbrev pub IsHaggledFor : List Export → Option (List ℕ) → Option (List ℕ) → Asked → Session → Session → List ℕ → Type 0
IsHaggledFor exports old new asked before after answer =
    (text : List ℕ) × (length text ≡ asked.length) × Consumes old new text × IsReaction answer after (haggled_any exports before asked.option text)

-- an option was read, and this is its answer
abbrev pub IsAskedTurn : List Export → Option (List ℕ) → Option (List ℕ) → Session → Session → List ℕ → Type 0
IsAskedTurn exports old new before after answer =
    (middle : Option (List ℕ)) × (asked : Asked) × IsAsked old middle asked × IsHaggledFor exports middle new asked before after answer

-- a request is answered, and the session is then so
abbrev pub IsReplied : (ℕ → Option Array) → (ℕ → ℕ → ℕ → Type 0) → Place → Request → Session → Session → List ℕ → Type 0
IsReplied shows may_fail place request before after answer =
    ((b : Array) → shows place.export ≡ Some b → (fault : Option Fault) × HasCause may_fail place.export fault request × (answer ≡ reply_to (chosen before.described place.export) before.structured fault place.size b request)) × (after ≡ served before request.command)

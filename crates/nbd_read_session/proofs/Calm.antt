-- What may fail later might before.
use Rattle.std.proofs.Common.{◌≡◌, ℕ, ◌++◌, List, [], ◌∷◌, Option, None, Some}
use Rattle.nbd_messages.specs.declared.request.Request.{Request}
use Rattle.nbd_options.specs.declared.export.Export.{Export}
use Rattle.nbd_read_session.specs.declared.served.Fault.{Fault}
use Rattle.nbd_options.specs.declared.session.Session.{Session}
use Rattle.nbd_options.specs.declared.session.Stage.{Stage}
use Rattle.nbd_options.specs.declared.session.Stage.TheVariants.{Opening, Haggling, Serving, Over}
use Rattle.nbd_read_session.specs.Replied.{HasCause}
use Rattle.nbd_read_session.specs.Talk.{Talk, Turn, IsCaused, reaction}
use Rattle.nbd_read_session.specs.Turns.{IsTurn}
use Rattle.nbd_read_session.specs.Blocks.{Array}

cause_calm : (f f' : ℕ → ℕ → ℕ → Type 0) (export : ℕ) (fault : Option Fault) (request : Request) → ((k from count : ℕ) → f k from count → f' k from count) → HasCause f export fault request → HasCause f' export fault request
cause_calm f f' export fault request calm cause = λ is. let (at, n, from, to, fails) = cause is in (at, n, from, to, calm export at n fails)

caused_calm : (f f' : ℕ → ℕ → ℕ → Type 0) (stage : Stage) (message : List ℕ) (fault : Option Fault) → ((k from count : ℕ) → f k from count → f' k from count) → IsCaused f stage message fault → IsCaused f' stage message fault
caused_calm f f' Opening message fault calm cause = cause
caused_calm f f' Haggling message fault calm cause = cause
caused_calm f f' (Serving place) message fault calm (request, is, cause) = (request, is, cause_calm f f' place.export fault request calm cause)
caused_calm f f' Over message fault calm cause = cause

pub turn_calm : (exports : List Export) (arrays : ℕ → Array) (f f' : ℕ → ℕ → ℕ → Type 0) (old new : Option (List ℕ)) (before after : Session) (answer : List ℕ) → ((k from count : ℕ) → f k from count → f' k from count) → IsTurn exports arrays f old new before after answer → IsTurn exports arrays f' old new before after answer
turn_calm exports arrays f f' old new before after answer calm (message, fault, consumes, whole, reacts, cause) = (message, fault, consumes, whole, reacts, caused_calm f f' before.stage message fault calm cause)

-- the same of a session
pub talk_calm : (exports : List Export) (arrays : ℕ → Array) (f f' : ℕ → ℕ → ℕ → Type 0) (session : Session) (heard said : List ℕ) (turns : List Turn) → ((k from count : ℕ) → f k from count → f' k from count) → Talk exports arrays f session heard said turns → Talk exports arrays f' session heard said turns
talk_calm exports arrays f f' session heard said [] calm talk = talk
talk_calm exports arrays f f' session heard said (turn ∷ turns) calm (rest, more, whole, heard_is, said_is, later, cause) =
    (rest, more, whole, heard_is, said_is, talk_calm exports arrays f f' (reaction exports arrays session turn.fault turn.message).after rest more turns calm later, caused_calm f f' session.stage turn.message turn.fault calm cause)

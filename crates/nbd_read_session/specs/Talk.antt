-- To be believed: a whole session with a client, by doc/proto.md of the NBD project: "Newstyle negotiation", "Option
-- haggling", "Transmission". What a client sends is a list of messages, and each is answered before the next is read.
use Rattle.std.specs.Prelude.{◌≡◌, ◌==◌, ℕ, ◌+◌, ◌<◌, Bool, true, false, List, [], ◌∷◌, ◌++◌, length, drop, nat_le, Option, Some, None, ⊤, if◌then◌else◌}
use Rattle.nbd_messages.specs.Layout.{number_at}
use Rattle.nbd_messages.specs.Requests.{request_in, asked_in}
use Rattle.nbd_messages.specs.declared.asked.Asked.{Asked}
use Rattle.nbd_messages.specs.declared.command.Command.{Command}
use Rattle.nbd_messages.specs.declared.command.Command.TheVariants.{Read, Write, Disconnect, Flush, Trim, WriteZeroes, BlockStatus, Other}
use Rattle.nbd_messages.specs.declared.request.Request.{Request}
use Rattle.nbd_options.specs.declared.export.Export.{Export}
use Rattle.nbd_read_session.specs.declared.served.Fault.{Fault}
use Rattle.nbd_read_session.specs.declared.served.Fault.TheVariants.{Io, NoMemory}
use Rattle.nbd_options.specs.declared.session.Place.{Place}
use Rattle.nbd_options.specs.declared.session.Stage.{Stage}
use Rattle.nbd_options.specs.declared.session.Stage.TheVariants.{Opening, Haggling, Serving, Over}
use Rattle.nbd_options.specs.declared.session.Session.{Session}
use Rattle.nbd_options.specs.declared.session.Contexts.{Contexts}
use Rattle.nbd_options.specs.declared.session.Described.{Described}
use Rattle.nbd_messages.specs.Writing.{payload}
use Rattle.nbd_options.specs.Haggled.{Reaction, moved, haggled_any}
use Rattle.nbd_read_session.specs.Blocks.{Array}
use Rattle.nbd_read_session.specs.Replied.{reply_to, HasCause}

-- Bytes that are one whole message: first the client's flags, of which there are two; then options with their data; then
-- requests, a WRITE with its bytes; and none once a session is over.
abbrev pub IsWhole : Stage → List ℕ → Type 0
IsWhole Opening message = (length message ≡ 4) × (number_at message 0 4 < 4)
IsWhole Haggling message = (asked : Asked) × (asked_in message ≡ Some asked) × (length message ≡ 16 + asked.length)
IsWhole (Serving place) message = (request : Request) × (request_in message ≡ Some request) × (length message ≡ 28 + payload request)
IsWhole Over message = ⊥

-- no front of the bytes is a message
abbrev pub NoneIsWhole : Stage → List ℕ → Type 0
NoneIsWhole stage heard = (message : List ℕ) → (rest : List ℕ) → heard ≡ message ++ rest → IsWhole stage message → ⊥

-- the flags of the client, of which the second declines zeros
abbrev pub opened : Session → List ℕ → Reaction
opened session message = record {
  answer = [];
  after = record { no_zeroes = nat_le 2 (number_at message 0 4); structured = session.structured; described = session.described; stage = Haggling };
}

abbrev pub option_reaction : List Export → Session → Option Asked → List ℕ → Reaction
option_reaction exports session None message = record { answer = []; after = session }
option_reaction exports session (Some asked) message = haggled_any exports session asked.option (drop 16 message)

-- a client that disconnects is heard no more
abbrev pub served : Session → Command → Session
served session Read = session
served session Write = session
served session Disconnect = moved session Over
served session Flush = session
served session Trim = session
served session WriteZeroes = session
served session BlockStatus = session
served session Other = session

-- the contexts in which an export's blocks may be asked about
abbrev pub no_contexts : Contexts
no_contexts = record { allocation = false; bitmap = false }

abbrev pub chosen : Option Described → ℕ → Contexts
chosen None export = no_contexts
chosen (Some described) export = if described.export == export then described.contexts else no_contexts

abbrev pub request_reaction : (ℕ → Array) → Session → Place → Option Fault → Option Request → Reaction
request_reaction arrays session place fault None = record { answer = []; after = session }
request_reaction arrays session place fault (Some request) = record {
  answer = reply_to (chosen session.described place.export) session.structured fault place.size (arrays place.export) request;
  after = served session request.command;
}

-- What a message is answered, where these are the arrays, or a read of them has this fault.
abbrev pub reaction_at : Stage → List Export → (ℕ → Array) → Session → Option Fault → List ℕ → Reaction
reaction_at Opening exports arrays session fault message = opened session message
reaction_at Haggling exports arrays session fault message = option_reaction exports session (asked_in message) message
reaction_at (Serving place) exports arrays session fault message = request_reaction arrays session place fault (request_in message)
reaction_at Over exports arrays session fault message = record { answer = []; after = session }

abbrev pub reaction : List Export → (ℕ → Array) → Session → Option Fault → List ℕ → Reaction
reaction exports arrays session fault message = reaction_at session.stage exports arrays session fault message

-- a message, and the fault that a read for its answer had
pub record Turn : Type 0 where
  pub message : List ℕ
  pub fault : Option Fault

-- The fault of a message is one of a request, and where it is an input error a read of the bytes that are asked for may fail.
abbrev pub IsCaused : (ℕ → ℕ → ℕ → Type 0) → Stage → List ℕ → Option Fault → Type 0
IsCaused may_fail Opening message fault = fault ≡ None
IsCaused may_fail Haggling message fault = fault ≡ None
IsCaused may_fail (Serving place) message fault = (request : Request) × (request_in message ≡ Some request) × HasCause may_fail place.export fault request
IsCaused may_fail Over message fault = fault ≡ None

-- What is heard begins with these messages, in turn, and no other comes after them; what is said are their answers.
abbrev pub Talk : List Export → (ℕ → Array) → (ℕ → ℕ → ℕ → Type 0) → Session → List ℕ → List ℕ → List Turn → Type 0
Talk exports arrays may_fail session heard said [] = NoneIsWhole session.stage heard × (said ≡ [])
Talk exports arrays may_fail session heard said (turn ∷ turns) =
    (rest : List ℕ) × (more : List ℕ) × IsWhole session.stage turn.message
    × (heard ≡ turn.message ++ rest)
    × (said ≡ (reaction exports arrays session turn.fault turn.message).answer ++ more)
    × Talk exports arrays may_fail (reaction exports arrays session turn.fault turn.message).after rest more turns
    × IsCaused may_fail session.stage turn.message turn.fault

-- how a session begins
abbrev pub beginning : Session
beginning = record { no_zeroes = false; structured = false; described = None; stage = Opening }

-- the arrays that are served
abbrev pub AreArrays : (ℕ → Option Array) → (ℕ → Array) → Type 0
AreArrays shows arrays = (k : ℕ) → shows k ≡ Some (arrays k)

-- no answer lacked memory
abbrev pub HaveMemory : List Turn → Type 0
HaveMemory [] = ⊤
HaveMemory (turn ∷ turns) = (turn.fault ≡ Some NoMemory → ⊥) × HaveMemory turns

-- no read of the arrays may fail
abbrev pub NoneFails : (ℕ → ℕ → ℕ → Type 0) → Type 0
NoneFails may_fail = (k : ℕ) (at : ℕ) (n : ℕ) → may_fail k at n → ⊥

-- The length of a reply, and the replies that an outcome brings.
use Rattle.std.specs.Prelude.{◌≡◌, ℕ, List, [], ◌∷◌, length}
use Rattle.plain_machine.specs.declared.event.Outcome.{Outcome}
use Rattle.plain_machine.specs.declared.event.Outcome.TheVariants.{Done, Fault, Reply as Answered}
use Rattle.plain_machine.specs.declared.request.Replied.{Replied}
use Rattle.plain_machine.specs.declared.request.Reply.{Reply}
use Rattle.plain_machine.specs.declared.request.Reply.TheVariants.{Data, Written, Flushed, Refused}

-- a reply with bytes has n of them
abbrev pub FitsReply : ℕ → Reply → Type 0
FitsReply n (Data bytes) = n ≡ length bytes
FitsReply n Written = Unit {0}
FitsReply n Flushed = Unit {0}
FitsReply n (Refused failure) = Unit {0}

-- the replies that an event gave
abbrev pub reply_in : Outcome → List Replied
reply_in Done = []
reply_in Fault = []
reply_in (Answered number reply) = record { number = number; reply = reply } ∷ []

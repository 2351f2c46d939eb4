-- To be believed: what lines do to what volumes show is said in these words.
-- What a line does to what volumes show, by the reply that it prints (`commands_on_saved_arrays`).
use Rattle.std.specs.Prelude.{◌≡◌, ℕ, List, [], ◌∷◌, Option, Some, None, Result, Ok, Err}
use Rattle.sector.specs.declared.refusal.Refusal.{Refusal}
use Rattle.command.specs.Line.{said_of}
use Rattle.command.specs.declared.grammar.Command.{Command}
use Rattle.command_replies.specs.declared.command_reply.CommandReply.{CommandReply}
use Rattle.command_replies.specs.declared.command_reply.CommandReply.TheVariants.{Done, Data, Said, Number, Fault, Ended, Seat, Gate, Refused}
use Rattle.command_semantics.specs.State.{Table}
use Rattle.commands_on_saved_arrays.specs.Arrays.{Arrays, arrays_in}
use Rattle.commands_on_saved_arrays.specs.Commands.{IsShown}
use Rattle.script_runner.specs.Output.{LineOutcome}

-- whether a reply is a refusal
abbrev pub refusal_in : CommandReply → Result (Unit {0}) Refusal
refusal_in Done = Ok tt
refusal_in (Data bytes) = Ok tt
refusal_in (Said text) = Ok tt
refusal_in (Number number) = Ok tt
refusal_in Fault = Ok tt
refusal_in (Ended ended) = Ok tt
refusal_in (Seat seated) = Ok tt
refusal_in (Gate opened) = Ok tt
refusal_in (Refused refusal) = Err refusal

-- whether a line was refused, of which these are the replies
abbrev pub answer_in : List CommandReply → Result (Unit {0}) Refusal
answer_in [] = Ok tt
answer_in (reply ∷ replies) = refusal_in reply

abbrev pub IsSaidShown : Result (Option Command) Refusal → Table → Result (Unit {0}) Refusal → List Arrays → List Arrays → Type 0
IsSaidShown (Ok None) table answer old new = new ≡ old
IsSaidShown (Ok (Some command)) table answer old new = IsShown command table answer old new
IsSaidShown (Err refusal) table answer old new = new ≡ old

-- what is shown after the line is what its command leaves of what was shown
unfoldable pub IsLineShown : List ℕ → Table → LineOutcome → Type 0
IsLineShown line old done = IsSaidShown (said_of 65536 line) old (answer_in done.replies) (arrays_in old) (arrays_in done.table)

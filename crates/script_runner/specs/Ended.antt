-- The lines of requests that were started by one command and ended in another, each before that other's own line.
use Rattle.std.specs.Prelude.{List, ◌++◌, map, Option}
use Rattle.plain_machine.specs.declared.request.Reply.{Reply as Answered}
use Rattle.plain_machine.specs.declared.request.Reply.TheVariants as answers
use Rattle.command_replies.specs.declared.command_reply.CommandReply.{CommandReply}
use Rattle.command_replies.specs.declared.command_reply.CommandReply.TheVariants.{Ended}
use Rattle.command_replies.specs.declared.ended.Ending.{Ending}
use Rattle.command_replies.specs.declared.ended.Ending.TheVariants.{Data, Written, Flushed, Refused}
use Rattle.plain_machine.specs.declared.request.Replied.{Replied}
use Rattle.plain_machine.specs.Failures.{refusal_of}
use Rattle.script_runner.specs.Output.{answered}

-- how a request ended, by what its volume replied
abbrev pub ending_of : Answered → Ending
ending_of (answers.Data bytes) = Data bytes
ending_of answers.Written = Written
ending_of answers.Flushed = Flushed
ending_of (answers.Refused failure) = Refused (refusal_of failure)

-- its line
abbrev pub ended_line : Replied → CommandReply
ended_line replied = Ended (record { request = replied.number; ending = ending_of replied.reply })

-- the lines of the requests that ended, in the order in which they ended
abbrev pub ended_lines : List Replied → List CommandReply
ended_lines ended = map ended_line ended

-- all that a line answers: first those, then its command's own line
abbrev pub line_replies : List Replied → Option CommandReply → List CommandReply
line_replies ended own = ended_lines ended ++ answered own

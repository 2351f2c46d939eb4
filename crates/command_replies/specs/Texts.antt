-- To be believed: `run`'s output, a volume's steps or its attach are said in these words.
-- The line that each reply prints. The forms are this project's own choice.
use Rattle.std.specs.Prelude.{ℕ, List, ◌++◌, codes, decimal}
use Rattle.command_replies.specs.declared.command_reply.CommandReply.{CommandReply}
use Rattle.command_replies.specs.declared.command_reply.CommandReply.TheVariants.{Done, Data, Said, Number, Fault, Ended, Seat, Gate, Refused}
use Rattle.command_replies.specs.Runs.{data_words}
use Rattle.command_replies.specs.Refusals.{refusal_text}
use Rattle.command_replies.specs.Ended.{ended_text}
use Rattle.command_replies.specs.Seated.{gate_text, seated_text}

-- the line, with its end
abbrev pub text_of : CommandReply → List ℕ
text_of Done = codes "ok\n"
text_of (Data bytes) = codes "ok" ++ data_words bytes ++ codes "\n"
text_of (Said text) = codes "ok " ++ text ++ codes "\n"
text_of (Number n) = codes "ok " ++ decimal n ++ codes "\n"
text_of Fault = codes "ok fault\n"
text_of (Ended ended) = ended_text ended
text_of (Seat seated) = seated_text seated
text_of (Gate opened) = gate_text opened
text_of (Refused refusal) = refusal_text refusal ++ codes "\n"

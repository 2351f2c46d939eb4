-- To be believed: `run`'s output, a volume's steps or its attach are said in these words.
-- The line of a request that was started by one command and ended in another. The form is this project's own choice.
use Rattle.std.specs.Prelude.{ℕ, List, ◌++◌, codes, decimal}
use Rattle.command_replies.specs.declared.ended.Ended.{Ended}
use Rattle.command_replies.specs.declared.ended.Ending.{Ending}
use Rattle.command_replies.specs.declared.ended.Ending.TheVariants.{Data, Written, Flushed, Refused}
use Rattle.command_replies.specs.Runs.{data_words}
use Rattle.command_replies.specs.Refusals.{refusal_text}

-- how it ended, a space before each word
abbrev pub ending_words : Ending → List ℕ
ending_words (Data bytes) = data_words bytes
ending_words Written = codes " written"
ending_words Flushed = codes " flushed"
ending_words (Refused refusal) = codes " " ++ refusal_text refusal

-- the line, with its end
abbrev pub ended_text : Ended → List ℕ
ended_text ended = codes "reply " ++ decimal ended.request ++ ending_words ended.ending ++ codes "\n"

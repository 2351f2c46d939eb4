-- To be believed: `run`'s output, a volume's steps or its attach are said in these words.
-- The lines of a block of seats. The forms are this project's own choice.
use Rattle.std.specs.Prelude.{ℕ, Bool, List, ◌++◌, codes, decimal, if◌then◌else◌}
use Rattle.command_replies.specs.declared.seated.SeatAnswer.{SeatAnswer}
use Rattle.command_replies.specs.declared.seated.SeatAnswer.TheVariants.{Done, Data, Refused}
use Rattle.command_replies.specs.declared.seated.Seated.{Seated}
use Rattle.command_replies.specs.Refusals.{refusal_text}

-- what a line of it answers, a space before each word; data comes in words already
abbrev pub answer_words : SeatAnswer → List ℕ
answer_words Done = codes " ok"
answer_words (Data words) = codes " ok" ++ words
answer_words (Refused refusal) = codes " " ++ refusal_text refusal

-- the line of a seat's answer, with its end
abbrev pub seated_text : Seated → List ℕ
seated_text seated = decimal seated.seat ++ answer_words seated.answer ++ codes "\n"

-- how its gate ended
abbrev pub gate_text : Bool → List ℕ
gate_text opened = if opened then codes "gate ok\n" else codes "gate limit\n"

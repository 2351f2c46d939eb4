-- To be believed: `run`'s output, a volume's steps or its attach are said in these words.
-- What a message to a layer is answered. The messages are those of the kernel's page on dm-dust; the texts of the
-- answers are this project's own.
use Rattle.std.specs.Prelude.{codes, decimal}
use Rattle.layers.specs.declared.message.Answer.{Answer}
use Rattle.layers.specs.declared.message.Answer.TheVariants as answers
use Rattle.command_replies.specs.declared.command_reply.CommandReply.{CommandReply}
use Rattle.command_replies.specs.declared.command_reply.CommandReply.TheVariants.{Done, Said}

-- `ok`, or what there is to say
abbrev pub reply_to : Answer → CommandReply
reply_to answers.Done = Done
reply_to answers.Already = Said (codes "already")
reply_to answers.Absent = Said (codes "absent")
reply_to answers.Bad = Said (codes "bad")
reply_to answers.Good = Said (codes "good")
reply_to (answers.Count n) = Said (decimal n)

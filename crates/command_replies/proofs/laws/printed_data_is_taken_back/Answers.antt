use Rattle.command_replies.proofs.DataAgain.{payload_again}
use Rattle.command_replies.proofs.laws.printed_data_is_taken_back.Goals as goal

pub returns : goal.returns
returns c = payload_again

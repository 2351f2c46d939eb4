use Rattle.option_parser.proofs.Strips.{strips}
use Rattle.option_parser.proofs.splitting.behind.Goals as goal

pub returns : goal.returns
returns c = strips c.args.front.now c.args.word.now c.strip_prefix.result c.strip_prefix.ensures.cases

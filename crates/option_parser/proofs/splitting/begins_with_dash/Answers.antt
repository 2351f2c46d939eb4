use Rattle.std.proofs.Common.{codes}
use Rattle.std.proofs.lemmas.Str.Pattern.{starts_text}
use Rattle.option_parser.proofs.splitting.begins_with_dash.Goals as goal

pub returns : goal.returns
returns c = starts_text c.starts_with.result (codes "-") c.args.word.now c.starts_with.ensures.cases

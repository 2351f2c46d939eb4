use Rattle.std.proofs.Common.{rules}
use Rattle.script_runner.specs.Numbered.{numbered}
use Rattle.words.proofs.Written.{ends}
use Rattle.script_runner.proofs.NumberLemmas.{line_printed, none_printed}
use Rattle.script_runner.proofs.numbering.print_lines.Goals as goal

pub loop-rest-preserved : goal.loop-rest-preserved
loop-rest-preserved g c = line_printed c.args.number (numbered c.args.number c.args.text.now) _ _ _ c.loop-rest.rest.now c.first_line.result.0.now c.first_line.result.1.now c.loop-rest.invariant c.first_line.ensures.cut (search rules)

pub returns : goal.returns
returns g c = ends _ _ (numbered c.args.number c.loop-rest.rest.now) _ c.loop-rest.invariant (none_printed c.args.number c.loop-rest.rest.now (search rules))

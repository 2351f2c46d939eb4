use Rattle.std.proofs.Common.{◌≡◌, drop}
use Rattle.std.specs.Prelude.{find}
use Rattle.words.specs.Texts.{texts}
use Rattle.explain_syntax.specs.Near.{is_nearest}
use Rattle.explain_syntax.proofs.near.nearest.Given as goal

abbrev pub invariant-loop-command : goal.invariant-loop-command
invariant-loop-command l = find (is_nearest (texts l.all) l.word) (texts (drop l.command-index l.all)) ≡ find (is_nearest (texts l.all) l.word) (texts l.all)

use Rattle.std.proofs.Common.{◌≡◌, drop}
use Rattle.std.specs.Prelude.{◌&&◌}
use Rattle.std.specs.List.{list_all}
use Rattle.command.specs.Line.{is_printable}
use Rattle.command.proofs.line.is_text.Given as goal

abbrev pub invariant-loop-byte : goal.invariant-loop-byte
invariant-loop-byte l = (l.is_all && list_all is_printable (drop l.byte-index l.line)) ≡ list_all is_printable l.line

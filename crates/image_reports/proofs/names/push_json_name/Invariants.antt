use Rattle.std.proofs.Common.{◌≡◌, ◌++◌, take}
use Rattle.image_reports.specs.Names.{json_name}
use Rattle.image_reports.proofs.names.push_json_name.Given as goal

abbrev pub invariant-loop-byte : goal.invariant-loop-byte
invariant-loop-byte l = l.text.items ≡ l.initial.text.items ++ json_name (take l.byte-index l.name)

-- To be believed: `run`'s output, a volume's steps or its attach are said in these words.
-- A request as a volume keeps it. A flush is of a whole device, and its range is not looked at: the first sector stands for it,
-- so that every request in flight has a range of one sector at least. This project's own.
use Rattle.std.proofs.Common.{le_refl}
use Rattle.sector.specs.declared.range.Range.{Range}
use Rattle.plain_machine.specs.declared.request.Op.{Op}
use Rattle.plain_machine.specs.declared.request.Op.TheVariants.{Read, Write, Flush}
use Rattle.plain_machine.specs.declared.request.Request.{Request}

abbrev pub kept_range : Op → Range → Range
kept_range Read range = range
kept_range (Write bytes) range = range
kept_range Flush range = record { first = 0; count = 1; size = 1; inside = le_refl 1 }

abbrev pub kept : Request → Request
kept request = record request { range = kept_range request.op request.range }

-- To be believed: `run`'s output, a volume's steps or its attach are said in these words.
-- What a flush of the store makes of a snapshot's lists: what was written counts as written, and what was committed may be
-- published.
use Rattle.std.specs.Prelude.{true}
use Rattle.in_flight.specs.declared.copies.Stage.{Stage}
use Rattle.in_flight.specs.declared.copies.Stage.TheVariants.{Waiting, Read, Written, Flushed}
use Rattle.in_flight.specs.declared.copies.ChunkCopy.{ChunkCopy}
use Rattle.in_flight.specs.declared.copies.Mark.{Mark}

abbrev pub flushed_stage : Stage → Stage
flushed_stage Waiting = Waiting
flushed_stage Read = Read
flushed_stage Written = Flushed
flushed_stage Flushed = Flushed

abbrev pub flushed_copy : ChunkCopy → ChunkCopy
flushed_copy copy = record copy { stage = flushed_stage copy.stage }

abbrev pub safe_mark : Mark → Mark
safe_mark mark = record mark { safe = true }

-- The copy of the chunk is started.
use Rattle.std.proofs.Common.{sym}
use Rattle.snapshot_list.proofs.NextStarts.{saved_started, not_given}
use Rattle.snapshot_list.proofs.saving_next.save_chunk.Goals as goal

pub start_merging-requires-clause-kept : goal.start_merging-requires-clause-kept
start_merging-requires-clause-kept g c = c.requires.room.some (sym c.if-not-is_lacking_chunk.ensures)

pub start_merging-requires-clause-spare : goal.start_merging-requires-clause-spare
start_merging-requires-clause-spare g c = c.requires.room.spare (sym c.if-not-is_lacking_chunk.ensures)

pub start_merging-requires-clause-alone : goal.start_merging-requires-clause-alone
start_merging-requires-clause-alone g c = c.requires.room.idle (sym c.if-not-is_lacking_chunk.ensures)

pub start_merging-requires-clause-own : goal.start_merging-requires-clause-own
start_merging-requires-clause-own g c = not_given c.args.copies c.args.snap.now.copies c.requires.room.given

pub returns-then-start_merging : goal.returns-then-start_merging
returns-then-start_merging g c = let (buffer, at) = c.if-start_merging.ensures.started in record {
  saved = saved_started g.B.Block.contents g.B.Block.layers c.args.chunk c.args.snap.now c.start_merging.new.self c.args.copies c.args.flights.now buffer (sym c.if-not-is_lacking_chunk.ensures) c.if-start_merging.ensures.place at;
}

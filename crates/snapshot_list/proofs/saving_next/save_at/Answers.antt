-- One snapshot is saved, and the others lack nothing.
use Rattle.std.proofs.Common.{get_or}
use Rattle.snapshot_list.specs.Starting.{next_chunk_of}
use Rattle.snapshot_list.proofs.NextStarts.{saved_only}
use Rattle.snapshot_list.proofs.Starts.{element_is}
use Rattle.snapshot_list.proofs.saving_next.save_at.Goals as goal

pub save_behind-requires-clause-begins : goal.save_behind-requires-clause-begins
save_behind-requires-clause-begins g c = c.requires.begins c.args.place c.index-snaps-place.result c.requires.within

pub save_behind-requires-clause-room : goal.save_behind-requires-clause-room
save_behind-requires-clause-room g c = c.requires.room c.args.place c.index-snaps-place.result c.requires.within

pub save_behind-requires-clause-behind : goal.save_behind-requires-clause-behind
save_behind-requires-clause-behind g c = c.requires.behind c.index-snaps-place.result

pub returns : goal.returns
returns g c = record {
  saved = saved_only g.B.Block.contents g.B.Block.layers (next_chunk_of c.args.first c.args.count) c.args.place c.args.snaps.now (get_or c.args.snaps.now c.args.place c.index-snaps-place.result) c.save_behind.new.snap c.args.copies c.save_behind.result c.args.flights.now c.save_behind.new.flights c.requires.within
      (element_is c.args.snaps.now c.args.place c.index-snaps-place.result c.requires.within) c.requires.others c.save_behind.ensures.saved;
}

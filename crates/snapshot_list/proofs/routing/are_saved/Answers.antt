-- One snapshot has not published its chunk.
use Rattle.std.proofs.Common.{◌-◌, sym, ◌∙◌, arith}
use Rattle.volume_laws.specs.Published.{is_saved}
use Rattle.snapshot.specs.Kept.{books_of}
use Rattle.snapshot_list.proofs.Finds.{one_fails}
use Rattle.snapshot_list.proofs.routing.are_saved.Goals as goal

pub returns-then-not-is_saved : goal.returns-then-not-is_saved
returns-then-not-is_saved g c =
    sym (one_fails (is_saved c.args.first) (books_of g.B.Block.contents g.B.Block.layers) c.args.snaps.now (c.loop-k.k - 1) c.index-snaps-k.result (omega (arith, c.loop-k-test.true, c.loop-k.auto.k)) c.index-snaps-k.is (sym c.is_saved.ensures ∙ c.if-not-is_saved.true))

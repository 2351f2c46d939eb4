-- The session's calls, and those behind it.
use Rattle.std.proofs.Common.{[], subst, sym}
use Rattle.volume.specs.Layering.{Measures}
use Rattle.volume_nbd.specs.Calls.{does_by}
use Rattle.volume_nbd.specs.Looked.{IsLookedAt}
use Rattle.served_session.specs.Served.{StepsTo}
use Rattle.served_session.proofs.Serves.{is_served}
use Rattle.served_session.proofs.ready.ReadyArray.serve.Goals as goal
use Rattle.served_session.proofs.ready.ReadyArray.serve.Goals.{in-Ok-Client, in-Ok+in-Array-1, in-Err-1}

pub returns : goal.returns
returns g c =
    let m : Measures g.row.B.Denot = record { contents = g.B.Block.contents; durable = g.B.Block.durable; size = g.B.Block.size; faults = g.B.Block.fault_count; done = g.B.Block.done_count } in
    let goes : StepsTo (does_by g.B.Block.may_hold g.B.Block.contents g.B.Block.layers g.B.Block.size g.B.Block.fault_count g.B.Block.done_count g.B.Ahead.failed g.B.Ahead.unanswered) c.serve-ended.new.array c.match-ended.array = elim c.match-ended.branch [
      | in-Ok-Client w ↦ subst (StepsTo (does_by g.B.Block.may_hold g.B.Block.contents g.B.Block.layers g.B.Block.size g.B.Block.fault_count g.B.Block.done_count g.B.Ahead.failed g.B.Ahead.unanswered) c.serve-ended.new.array) (sym w.array-is) w.go_on.ensures
      | in-Ok+in-Array-1 w ↦ ([], w.array-is, tt)
      | in-Err-1 w ↦ ([], w.array-is, tt)
    ] in
    rw (← c.self.view_is) (is_served g.B.Block.may_hold m g.B.Block.layers g.B.Ahead.failed g.B.Ahead.unanswered g.met.B.Block.whole g.met.B.Block.holds_now c.args.exports.now c.self.inside.array c.serve-ended.new.array c.match-ended.array
    (subst (IsLookedAt g.B.Block.may_hold g.B.Block.contents g.B.Block.layers g.B.Block.size) c.volume.ensures c.look_at.ensures) c.self.invariant c.serve-ended.result
    (record { client = g.R.Read.remaining c.args.reader.now; before = g.W.Write.contents c.args.writer.now; after = g.W.Write.contents c.serve-ended.new.writer }) c.serve-ended.ensures.session c.serve-ended.ensures.called goes)

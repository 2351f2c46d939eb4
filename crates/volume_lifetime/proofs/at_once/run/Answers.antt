-- By the law.
use Rattle.std.proofs.lemmas.Result.{IfOk-weaker}
use Rattle.volume.specs.Layering.{Measures}
use Rattle.volume_lifetime.proofs.AtOnce.{all_answered, calls_lived}
use Rattle.volume_lifetime.proofs.at_once.run.Goals as goal

pub returns : goal.returns
returns g c =
    let m : Measures g.row.B.Denot = record { contents = g.B.Block.contents; durable = g.B.Block.durable; size = g.B.Block.size; faults = g.B.Block.fault_count; done = g.B.Block.done_count } in
    record {
      lived = IfOk-weaker c.run.result _ _ (λ returned are loud. calls_lived g.B.Block.may_hold m g.B.Block.layers c.args.calls.items returned.items c.args.volume.now c.run.new.self are loud) c.run.ensures.ok;
      answered = IfOk-weaker c.run.result _ _ (λ returned are. all_answered g.B.Block.may_hold m g.B.Block.layers c.args.calls.items returned.items c.args.volume.now c.run.new.self are) c.run.ensures.ok;
      err = c.run.ensures.err;
    }

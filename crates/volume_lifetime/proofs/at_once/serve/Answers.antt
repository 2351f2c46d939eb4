-- By the law.
use Rattle.volume.specs.Layering.{Measures}
use Rattle.volume_lifetime.proofs.AtOnce.{served_answered, served_lived}
use Rattle.volume_lifetime.proofs.at_once.serve.Goals as goal

pub returns : goal.returns
returns g c =
    let m : Measures g.row.B.Denot = record { contents = g.B.Block.contents; durable = g.B.Block.durable; size = g.B.Block.size; faults = g.B.Block.fault_count; done = g.B.Block.done_count } in
    let all = served_answered g.B.Block.may_hold m g.B.Block.layers c.args.request c.serve.result c.args.volume.now c.serve.new.self c.serve.ensures.does c.serve.ensures.refused in
    record {
      lived = λ taken loud. served_lived g.B.Block.may_hold m g.B.Block.layers taken c.args.request c.serve.result c.args.volume.now c.serve.new.self all loud;
      answered = all;
    }

-- By the law.
use Rattle.std.specs.Prelude.{◌+◌}
use Rattle.volume.specs.Layering.{Measures}
use Rattle.volume.specs.Lent.{origin_write}
use Rattle.volume_lifetime.specs.AtOnce.{lent_as}
use Rattle.volume_lifetime.proofs.AtOnce.{lent_answered, served_lived}
use Rattle.volume_lifetime.proofs.at_once.write_lent.Goals as goal

pub returns : goal.returns
returns g c =
    let m : Measures g.row.B.Denot = record { contents = g.B.Block.contents; durable = g.B.Block.durable; size = g.B.Block.size; faults = g.B.Block.fault_count; done = g.B.Block.done_count } in
    let request = origin_write c.args.range c.args.bytes.now in
    let number = c.args.volume.now.requests + 1 in
    let all = lent_answered g.B.Block.may_hold m g.B.Block.layers request number c.write_lent.result c.args.volume.now c.write_lent.new.self c.write_lent.ensures.does c.write_lent.ensures.refused in
    record {
      lived = λ taken loud. served_lived g.B.Block.may_hold m g.B.Block.layers taken request (lent_as number c.write_lent.result) c.args.volume.now c.write_lent.new.self all loud;
      answered = all;
    }

-- By the law.
use Rattle.volume.specs.Layering.{Measures}
use Rattle.volume_lifetime.specs.AtOnce.{copied_chunks}
use Rattle.volume_lifetime.proofs.AtOnce.{copied_lived, group_answered}
use Rattle.volume_lifetime.proofs.at_once.copy_group.Goals as goal

pub returns : goal.returns
returns g c =
    let m : Measures g.row.B.Denot = record { contents = g.B.Block.contents; durable = g.B.Block.durable; size = g.B.Block.size; faults = g.B.Block.fault_count; done = g.B.Block.done_count } in
    let all = group_answered g.B.Block.may_hold m g.B.Block.layers g.B.Block.copies_runs c.copy_group.result c.args.volume.now c.copy_group.new.self c.copy_group.ensures.answer c.copy_group.ensures.copied c.copy_group.ensures.same in
    record {
      lived = λ taken loud. copied_lived g.B.Block.may_hold m g.B.Block.layers taken (copied_chunks c.copy_group.result c.args.volume.now.merge) c.args.volume.now c.copy_group.new.self all loud;
      answered = all;
    }

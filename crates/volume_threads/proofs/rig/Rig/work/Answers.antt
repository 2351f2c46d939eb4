use Rattle.std.proofs.Common.{◌∙◌}
use Rattle.volume_threads.proofs.Answering.{worked_queue}
use Rattle.volume_threads.proofs.rig.Rig.work.Goals as goal

pub invariant_of-worker : goal.invariant_of-worker
invariant_of-worker g c = record { of_room = worked_queue _ c.work.result _ _ _ _ c.work.ensures ∙ c.args.worker.now.pass.of_room }

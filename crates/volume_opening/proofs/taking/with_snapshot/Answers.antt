use Rattle.volume_opening.proofs.Attached.{attached_from}
use Rattle.volume_opening.proofs.taking.with_snapshot.Goals as goal

pub returns-in-Ok-attach : goal.returns-in-Ok-attach
returns-in-Ok-attach g c = attached_from _ _ _ _ _ _ _ _ _ c.in-Ok.ensures.ok c.in-Ok-attach.ensures.does

-- The merge's look is what its books say.
use Rattle.std.proofs.Common.{◌∙◌, true}
use Rattle.snapshot_list.proofs.due_in_merge.is_flush_due.Goals as goal

pub returns : goal.returns
returns g c = c.can_flush.ensures ∙ (c.has_group.ensures.looks true).flush

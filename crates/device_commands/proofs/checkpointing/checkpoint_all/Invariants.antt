use Rattle.std.proofs.Common.{◌≡◌}
use Rattle.device_list.specs.Tables.{table_of}
use Rattle.device_commands.proofs.checkpointing.checkpoint_all.Given as goal

abbrev pub invariant-loop-v : goal.invariant-loop-v
invariant-loop-v l = table_of l.held ≡ table_of l.initial.held

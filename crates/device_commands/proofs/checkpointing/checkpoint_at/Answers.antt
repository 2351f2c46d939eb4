use Rattle.std.proofs.Common.{ap}
use Rattle.device_list.specs.Tables.{table_of}
use Rattle.device_list.specs.Backed.{Backed}
use Rattle.device_list.proofs.Showing.{shown_at, shown_inside, shown_set}
use Rattle.device_commands.proofs.Folds.{folds}
use Rattle.device_commands.proofs.InVolume.{idle_in}
use Rattle.device_commands.proofs.checkpointing.checkpoint_at.Goals as goal

pub returns : goal.returns
returns c =
    let table = table_of c.args.held.now in
    let volumes = c.args.held.now.volumes.items in
    let was = c.index_mut.result.now in
    let now = c.checkpoint.new.self in
    let old = was.shown in
    let new = now.shown in
    let lt = c.requires in
    let at = shown_at volumes c.args.v was (shown_inside volumes c.args.v lt) c.index_mut.ensures.value in
    rw (shown_set volumes c.args.v now) (record {
      done = folds c.checkpoint.result c.args.v table old new at (ap (λ (v : Backed). v.shown) c.checkpoint.ensures.same) c.checkpoint.ensures.err;
      same = idle_in c.args.v table old new at (ap (λ (v : Backed). v.shown) c.checkpoint.ensures.same);
    })

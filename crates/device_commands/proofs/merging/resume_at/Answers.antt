use Rattle.device_list.specs.Tables.{table_of}
use Rattle.device_list.proofs.Showing.{shown_at, shown_inside, shown_set}
use Rattle.device_commands.proofs.Begins.{goes_named, goes_on, goes_sound}
use Rattle.device_commands.proofs.merging.resume_at.Goals as goal

pub returns : goal.returns
returns c =
    let table = table_of c.args.held.now in
    let volumes = c.args.held.now.volumes.items in
    let was = c.index_mut.result.now in
    let now = c.resume_merge.new.self in
    let old = was.shown in
    let new = now.shown in
    let lt = c.requires in
    let at = shown_at volumes c.args.v was (shown_inside volumes c.args.v lt) c.index_mut.ensures.value in
    rw (shown_set volumes c.args.v now) (record {
      done = goes_on c.resume_merge.result c.args.v table old new lt at c.resume_merge.ensures.done;
      sound = goes_sound c.resume_merge.result c.args.v table old new lt at c.resume_merge.ensures.done;
      named = goes_named c.resume_merge.result c.args.v table old new lt at c.resume_merge.ensures.done;
    })

use Rattle.device_list.specs.Tables.{table_of}
use Rattle.device_list.proofs.Showing.{shown_at, shown_inside, shown_set}
use Rattle.device_commands.proofs.Begins.{begins, begins_named, begun_in, not_begun, same_sound}
use Rattle.device_commands.proofs.Ruled.{sound_here}
use Rattle.device_commands.proofs.Fills.{full_in}
use Rattle.device_commands.proofs.merging.begin_at.Goals as goal

pub returns : goal.returns
returns c =
    let table = table_of c.args.held.now in
    let volumes = c.args.held.now.volumes.items in
    let was = c.index_mut.result.now in
    let now = c.begin_merge.new.self in
    let old = was.shown in
    let new = now.shown in
    let lt = c.requires.0 in
    let at = shown_at volumes c.args.v was (shown_inside volumes c.args.v lt) c.index_mut.ensures.value in
    let r = c.begin_merge.result in
    rw (shown_set volumes c.args.v now) (record {
      done = λ sound. begins r c.args.v c.args.k table old new lt at (c.begin_merge.ensures.done (sound_here table c.args.v old sound lt at).0);
      refused = not_begun r c.args.v c.args.k table old new lt at c.begin_merge.ensures.err;
      begun = begun_in r c.args.v c.args.k table old new lt at c.begin_merge.ensures.named;
      sound = same_sound c.args.v table old new lt at c.begin_merge.ensures.sound c.begin_merge.ensures.quiet;
      named = begins_named r c.args.v c.args.k table old new lt at c.begin_merge.ensures.named c.begin_merge.ensures.err;
      full = full_in r c.args.v table new lt c.begin_merge.ensures.full;
    })

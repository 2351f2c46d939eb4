use Rattle.std.specs.Prelude.{not}
use Rattle.volume.specs.EventKinds.{is_of_merge}
use Rattle.device_list.specs.Tables.{table_of}
use Rattle.command_semantics.proofs.NamedFrames.{put_volume_named}
use Rattle.device_list.specs.Names.{KeepsNames}
use Rattle.device_list.proofs.Showing.{none_due, same_shown, shown_at, shown_inside, shown_set, steps_done}
use Rattle.device_commands.proofs.InVolume.{changed_in, not_due_in, same_in, step_sound, stepped_did}
use Rattle.device_commands.proofs.Ruled.{quiet_here}
use Rattle.device_commands.proofs.flights.step_at.Goals as goal

pub returns : goal.returns
returns c =
    let table = table_of c.args.held.now in
    let volumes = c.args.held.now.volumes.items in
    let was = c.index_mut.result.now in
    let now = c.step.new.self in
    let old = was.shown in
    let new = now.shown in
    let lt = c.requires in
    let at = shown_at volumes c.args.v was (shown_inside volumes c.args.v lt) c.index_mut.ensures.value in
    rw (shown_set volumes c.args.v now) (record {
      idle = λ quiet apart. c.step.ensures.idle (quiet_here table c.args.v old quiet lt at) apart;
      stepped = stepped_did c.args.event c.step.result c.args.v table old new lt at (steps_done c.args.event c.step.result was now c.step.ensures.stepped);
      due = not_due_in (not (is_of_merge c.args.event)) c.args.event c.step.result c.args.v table old lt at (λ apart. none_due c.args.event c.step.result was (c.step.ensures.due apart));
      same = same_in c.step.result c.args.v table old new at (same_shown c.step.result was now c.step.ensures.same);
      one = changed_in KeepsNames c.args.v table old new lt at c.step.ensures.kept;
      sound = λ apart. step_sound c.step.result c.args.v table old new lt at (λ quiet. c.step.ensures.idle quiet apart) (same_shown c.step.result was now c.step.ensures.same);
      named = λ named.
          put_volume_named table c.args.v old new lt at
          c.step.ensures.kept.origin c.step.ensures.kept.under c.step.ensures.kept.snaps c.step.ensures.kept.merging named;
    })

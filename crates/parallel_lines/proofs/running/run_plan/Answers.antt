-- The replies of all seats, and then the gate's.
use Rattle.std.proofs.Common.{◌++◌, Bool, List, ap, subst, ◌∙◌, arith}
use Rattle.device_list.specs.Tables.{table_of}
use Rattle.command_replies.specs.declared.command_reply.CommandReply.{CommandReply}
use Rattle.parallel_threads.specs.Tasks.{tasks_at}
use Rattle.parallel_lines.specs.Answering.{gate_replies}
use Rattle.parallel_lines.specs.Played.{ArePlayed}
use Rattle.parallel_lines.proofs.Tells.{ended_many}
use Rattle.parallel_lines.proofs.running.run_plan.Goals as goal

pub tell_seats-requires-clause-room : goal.tell_seats-requires-clause-room
tell_seats-requires-clause-room g c =
    let played = c.in_ok-at_once.ensures.played in
    let many = ended_many played.0 (tasks_at c.args.plan.tasks.items) (tasks_at c.at_once.new.tasks.items) played.2 in
    omega (arith, many, c.requires.room)

pub returns-clause-told : goal.returns-clause-told
returns-clause-told g c =
    let played = c.in_ok-at_once.ensures.played in (
      played.0,
      subst (λ (us : List Bool). ArePlayed us played.0 (table_of c.args.held.now).volumes (table_of c.at_once.new.held).volumes) c.deref.ensures.value played.1,
      record {
        told = tasks_at c.at_once.new.tasks.items;
        opened = c.opened.result;
        ended = played.2;
        for_tasks = played.3;
        replies_are = c.tell_gate.ensures.told ∙ ap (λ (l : List CommandReply). l ++ gate_replies c.args.ticket c.opened.result) c.tell_seats.ensures.told;
      },
    )

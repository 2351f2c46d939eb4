use Rattle.device_list.specs.Tables.{table_of}
use Rattle.command_semantics.proofs.InTable.{told_in_at}
use Rattle.device_list.proofs.Showing.{shown_at, shown_inside, shown_set}
use Rattle.device_commands.proofs.messages.tell_in.Goals as goal

pub returns : goal.returns
returns c =
    let volumes = c.args.held.now.volumes.items in
    let was = c.index_mut.result.now in
    rw (shown_set volumes c.args.v c.tell.new.self)
    (told_in_at c.args.v c.args.role c.args.message.now (table_of c.args.held.now) was.shown c.tell.new.self.shown c.tell.result
    c.requires.0 (shown_at volumes c.args.v was (shown_inside volumes c.args.v c.requires.0) c.index_mut.ensures.value) c.tell.ensures)

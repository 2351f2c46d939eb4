use Rattle.device_list.specs.Tables.{table_of}
use Rattle.command_semantics.proofs.InTable.{told_free_at}
use Rattle.device_commands.proofs.messages.tell_free.Goals as goal

pub returns : goal.returns
returns c =
    told_free_at c.args.i c.args.depth c.args.message.now (table_of c.args.held.now) c.index_mut.result.now c.tell.new.self c.tell.result
    c.requires c.index_mut.ensures.value c.tell.ensures

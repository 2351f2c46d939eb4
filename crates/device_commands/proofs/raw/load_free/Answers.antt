use Rattle.device_list.specs.Tables.{table_of}
use Rattle.command_semantics.proofs.InTable.{loaded_at_free}
use Rattle.device_commands.proofs.raw.load_free.Goals as goal

pub returns : goal.returns
returns c =
    loaded_at_free c.args.i c.args.depth c.args.first c.args.count c.args.bytes.now (table_of c.args.held.now) c.index_mut.result.now c.load.new.self c.load.result
    c.requires.place.0 c.index_mut.ensures.value c.load.ensures

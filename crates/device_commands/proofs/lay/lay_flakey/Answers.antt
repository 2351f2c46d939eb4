use Rattle.std.proofs.Common.{sym}
use Rattle.device_list.specs.Tables.{table_of}
use Rattle.layers.specs.Layer.{flakey_layer}
use Rattle.command_semantics.proofs.InTable.{laid_at}
use Rattle.device_commands.proofs.lay.lay_flakey.Goals as goal

pub returns : goal.returns
returns c =
    laid_at c.args.name (flakey_layer c.args.flakey) c.args.flakey.offset c.args.flakey.sectors c.args.below.now (table_of c.args.held.now) c.in_ok-i.i c.index_mut.result.now c.add_flakey.new.self c.add_flakey.result
    (sym c.in_ok-i.ensures.value) c.in_ok-i.ensures.within c.index_mut.ensures.value c.add_flakey.ensures

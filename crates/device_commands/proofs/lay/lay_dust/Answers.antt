use Rattle.std.proofs.Common.{sym}
use Rattle.std.specs.Prelude.{false, []}
use Rattle.device.specs.Layers.{Dusty}
use Rattle.device_list.specs.Tables.{table_of}
use Rattle.command_semantics.proofs.InTable.{laid_at}
use Rattle.device_commands.proofs.lay.lay_dust.Goals as goal

pub returns : goal.returns
returns c =
    laid_at c.args.name (Dusty c.args.sectors c.args.block false []) 0 c.args.sectors c.args.below.now (table_of c.args.held.now) c.in_ok-i.i c.index_mut.result.now c.add_dust.new.self c.add_dust.result
    (sym c.in_ok-i.ensures.value) c.in_ok-i.ensures.within c.index_mut.ensures.value c.add_dust.ensures

use Rattle.std.proofs.Common.{sym, ap, ◌∙◌, List}
use Rattle.std.specs.Prelude.{Result, Ok}
use Rattle.sector.specs.declared.refusal.Refusal.{Refusal}
use Rattle.command_semantics.specs.State.{Stacked, Table}
use Rattle.device_list.specs.Tables.{table_of}
use Rattle.device_stacks.proofs.Below.{lowered_some, lowered_none, nothing_left}
use Rattle.device_list.proofs.Showing.{shown_in}
use Rattle.device_commands.proofs.remove.take_top.Goals as goal

pub returns-then-is_layered : goal.returns-then-is_layered
returns-then-is_layered c =
    lowered_some c.args.i (table_of c.args.held.now) c.index_mut.result.now c.uncover.new.self c.requires.0 c.index_mut.ensures.value c.uncover.ensures

pub returns-else-is_layered : goal.returns-else-is_layered
returns-else-is_layered c =
    let left : List Stacked → Result Table Refusal = λ stacks. Ok (record { stacks = stacks; volumes = shown_in c.args.held.now.volumes.items }) in
    lowered_none c.args.i (table_of c.args.held.now) c.index.result.now c.requires.0 c.index.ensures (nothing_left c.index.result.now (sym c.is_layered.ensures ∙ c.if-is_layered.false))
    ∙ ap left (sym c.remove.ensures.items)

use Rattle.std.proofs.Common.{◌≡◌, rules}
use Rattle.std.specs.Prelude.{Err}
use Rattle.sector.specs.declared.refusal.Refusal.TheVariants.{NoMemory}
use Rattle.device_list.specs.Tables.{table_of}
use Rattle.script_runner.proofs.LeftLemmas.{step_starved}
use Rattle.script_runner.proofs.events.step_volume.Goals as goal

pub returns-in_err-map_err-clause-left : goal.returns-in_err-map_err-clause-left
returns-in_err-map_err-clause-left c =
    let is : c.from_residual.result ≡ Err NoMemory = search rules in
    let same : c.reserve.new.self.items ≡ c.args.ended.now.items = search rules in
    step_starved c.args.name.now c.args.event.now c.from_residual.result (table_of c.args.held.now) c.args.ended.now.items c.reserve.new.self.items is same

use Rattle.device_list.specs.Tables.{table_of}
use Rattle.device_commands.proofs.Loses.{asked_origin, durable_as, losing_as, stays_losing}
use Rattle.device_commands.proofs.stopping.stop_losing.Goals as goal

pub returns-clause-done : goal.returns-clause-done
returns-clause-done c =
    let table = table_of c.args.held.now in
    losing_as c.lose_at.result c.args.name.now c.in_ok-v.v table (table_of c.lose_at.new.held) (asked_origin c.args.name.now table c.in_ok-place.place c.in_ok-v.v c.in_ok-place.ensures.place c.in_ok-v.ensures.value) c.lose_at.ensures.done

pub returns-clause-durable : goal.returns-clause-durable
returns-clause-durable c =
    durable_as c.lose_at.result c.args.name.now c.in_ok-v.v c.args.held.now c.lose_at.new.held (asked_origin c.args.name.now (table_of c.args.held.now) c.in_ok-place.place c.in_ok-v.v c.in_ok-place.ensures.place c.in_ok-v.ensures.value) c.lose_at.ensures.durable

pub returns-clause-stays : goal.returns-clause-stays
returns-clause-stays c = stays_losing c.lose_at.result c.in_ok-v.v (table_of c.args.held.now) (table_of c.lose_at.new.held) c.lose_at.ensures.done

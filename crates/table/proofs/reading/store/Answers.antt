use Rattle.std.proofs.Common.{sym}
use Rattle.table.proofs.Short.{short_store}
use Rattle.table.proofs.reading.store.Goals as goal

pub returns-in_default-clause-reads : goal.returns-in_default-clause-reads
returns-in_default-clause-reads c = sym (short_store c.args.words.now c.in_default.len_below)

use Rattle.std.proofs.Common.{sym}
use Rattle.table.proofs.Short.{short_line}
use Rattle.table.proofs.reading.parse_words.Goals as goal

pub returns-in_default-clause-reads : goal.returns-in_default-clause-reads
returns-in_default-clause-reads c = sym (short_line c.args.words.now c.in_default.len_below)

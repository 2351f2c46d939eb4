-- The pair whose chunk may be read is the last that waits, where no chunk is in the buffer.
use Rattle.std.proofs.Common.{◌∙◌, true, sym, ap}
use Rattle.std.specs.Prelude.{not}
use Rattle.volume_laws.specs.MergeDue.{is_readable}
use Rattle.snapshot_list.proofs.due_in_merge.is_read_due.Goals as goal

pub returns-in-Some : goal.returns-in-Some
returns-in-Some g c =
    ap not c.is_any_writing.ensures ∙ ap (is_readable c.args.flights.now) (sym c.in-Some.is ∙ c.next_read.ensures) ∙ sym ((c.has_group.ensures.looks true).read c.args.flights.now)

pub returns-in-None : goal.returns-in-None
returns-in-None g c = ap (is_readable c.args.flights.now) (sym c.in-None.is ∙ c.next_read.ensures) ∙ sym ((c.has_group.ensures.looks true).read c.args.flights.now)

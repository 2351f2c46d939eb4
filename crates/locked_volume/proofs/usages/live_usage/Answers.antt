-- Its store overflowed, or is in use.
use Rattle.std.proofs.Common.{ap, sym, ◌∙◌}
use Rattle.plain_machine.specs.Plain.{did_overflow}
use Rattle.locked_volume.proofs.Shown.{live_shown, marked_shown}
use Rattle.locked_volume.proofs.usages.live_usage.Goals as goal

pub returns-then-is_marked-clause-is : goal.returns-then-is_marked-clause-is
returns-then-is_marked-clause-is g c =
    c.out_of_use.ensures.is ∙ marked_shown c.args.snap.now (sym c.requires) (sym c.if-is_marked.true ∙ c.is_marked.ensures ∙ ap did_overflow c.overflow.ensures)

pub returns-else-is_marked-clause-is : goal.returns-else-is_marked-clause-is
returns-else-is_marked-clause-is g c =
    c.in_use.ensures.is
    ∙ live_shown c.args.snap.now c.usage.result (sym c.requires) (sym c.if-is_marked.false ∙ c.is_marked.ensures ∙ ap did_overflow c.overflow.ensures) c.usage.ensures.allocated c.usage.ensures.total c.usage.ensures.metadata

use Rattle.std.proofs.Common.{◌+◌, ◌*◌, ◌≤◌, ◌++◌, length, arith, ap, ◌∙◌}
use Rattle.std.specs.List.{range_with_len}
use Rattle.device.specs.declared.mark.Mark.TheVariants.{Same}
use Rattle.device.specs.Listed.{listed}
use Rattle.device.specs.Marks.{flushed_at}
use Rattle.device.proofs.Marked.{mark_is}
use Rattle.device.proofs.Aside.{sectors_long, kept_flushed}
use Rattle.device.proofs.undo.Undo.keep_run.Goals as goal

pub returns-in-Same-clause-flushed : goal.returns-in-Same-clause-flushed
returns-in-Same-clause-flushed c t =
    let was = mark_is c.args.self.now.marks.items c.args.first _ Same (omega (arith, c.requires.some, c.requires.inside)) c.index.ensures c.in-Same.is in
    let fits : 512 * (c.args.first + c.args.count) ≤ length c.args.now.now = omega (arith, c.requires.inside, c.requires.whole) in
    ap (λ k. flushed_at c.args.now.now k c.take_aside.new.self.aside.items c.take_aside.new.self.marks.items t) c.take_aside.ensures.kept
    ∙ ap (λ a. flushed_at c.args.now.now (listed c.args.self.now.kept.items ++ range_with_len c.args.first c.args.count) a c.take_aside.new.self.marks.items t) c.take_aside.ensures.aside
    ∙ kept_flushed c.args.now.now (listed c.args.self.now.kept.items) c.args.self.now.aside.items c.sectors_of.result.now c.args.first c.args.count c.args.self.now.marks.items c.take_aside.new.self.marks.items c.args.self.now.whole c.args.self.now.are_kept (λ u lo hi. c.requires.same u lo hi ∙ was) c.take_aside.ensures.set c.take_aside.ensures.others c.sectors_of.ensures (ap length c.sectors_of.ensures ∙ sectors_long c.args.now.now c.args.first c.args.count fits) fits t

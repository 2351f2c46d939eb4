use Rattle.std.proofs.Common.{arith, sym, subst}
use Rattle.device.specs.Listed.{listed}
use Rattle.device.specs.Marks.{AreZeroed}
use Rattle.device.proofs.Spans.{spans_few}
use Rattle.device.proofs.Marked.{zeroed_room, zeroed_more}
use Rattle.device.proofs.Aside.{kept_beside}
use Rattle.device.proofs.undo.Undo.note_zero.Goals as goal

pub list-requires-clause-room : goal.list-requires-clause-room
list-requires-clause-room c =
    omega (arith, c.requires.some, spans_few c.args.self.now.zeroed.items, c.args.self.now.zeroed_room, zeroed_room c.args.self.now.marks.items (listed c.args.self.now.zeroed.items) c.args.first c.args.count c.args.self.now.are_zeroed c.requires.inside c.requires.fresh)

pub invariant_of-self-clause-are_zeroed : goal.invariant_of-self-clause-are_zeroed
invariant_of-self-clause-are_zeroed c =
    subst (AreZeroed c.mark_all.new.marks.items) (sym c.list.ensures.listed) (zeroed_more c.args.self.now.marks.items c.mark_all.new.marks.items (listed c.args.self.now.zeroed.items) c.args.first c.args.count c.mark_all.ensures.len c.requires.inside c.args.self.now.are_zeroed c.requires.fresh c.mark_all.ensures.set c.mark_all.ensures.others)

pub invariant_of-self-clause-are_kept : goal.invariant_of-self-clause-are_kept
invariant_of-self-clause-are_kept c = kept_beside c.args.self.now.marks.items c.mark_all.new.marks.items (listed c.args.self.now.kept.items) c.args.first c.args.count c.requires.fresh c.mark_all.ensures.set c.mark_all.ensures.others c.args.self.now.are_kept

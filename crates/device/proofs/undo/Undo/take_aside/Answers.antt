use Rattle.std.proofs.Common.{◌≡◌, ◌*◌, length, arith, ap, sym, subst, length-append}
use Rattle.std.specs.List.{range_with_len}
use Rattle.std.proofs.lemmas.List.FromFn.{length-range_with_len}
use Rattle.device.specs.Listed.{listed}
use Rattle.device.specs.Marks.{AreKept}
use Rattle.device.proofs.Spans.{spans_few}
use Rattle.device.proofs.Marked.{kept_room, kept_more}
use Rattle.device.proofs.Aside.{zeroed_beside}
use Rattle.device.proofs.undo.Undo.take_aside.Goals as goal

pub append-requires : goal.append-requires
append-requires c =
    omega (arith, c.requires.whole, c.args.self.now.whole, c.args.self.now.aside_room, kept_room c.args.self.now.marks.items (listed c.args.self.now.kept.items) c.args.first c.args.count c.args.self.now.are_kept c.requires.inside c.requires.same)

pub list-requires-clause-room : goal.list-requires-clause-room
list-requires-clause-room c =
    omega (arith, c.requires.some, spans_few c.args.self.now.kept.items, c.args.self.now.kept_room, kept_room c.args.self.now.marks.items (listed c.args.self.now.kept.items) c.args.first c.args.count c.args.self.now.are_kept c.requires.inside c.requires.same)

pub invariant_of-self-clause-whole : goal.invariant_of-self-clause-whole
invariant_of-self-clause-whole c =
    let g : length c.append.new.all.items ≡ 512 * length (listed c.list.new.spans.items) = omega (arith, ap length c.append.ensures.items, length-append c.args.self.now.aside.items c.args.values.now, c.requires.whole, c.args.self.now.whole, ap length c.list.ensures.listed, length-append (listed c.args.self.now.kept.items) (range_with_len c.args.first c.args.count), length-range_with_len c.args.first c.args.count) in g

pub invariant_of-self-clause-are_zeroed : goal.invariant_of-self-clause-are_zeroed
invariant_of-self-clause-are_zeroed c = zeroed_beside c.args.self.now.marks.items c.mark_all.new.marks.items (listed c.args.self.now.zeroed.items) c.args.first c.args.count c.mark_all.ensures.len c.mark_all.ensures.set c.mark_all.ensures.others c.args.self.now.are_zeroed

pub invariant_of-self-clause-are_kept : goal.invariant_of-self-clause-are_kept
invariant_of-self-clause-are_kept c =
    subst (AreKept c.mark_all.new.marks.items) (sym c.list.ensures.listed) (kept_more c.args.self.now.marks.items c.mark_all.new.marks.items (listed c.args.self.now.kept.items) c.args.first c.args.count c.args.self.now.are_kept c.requires.same c.mark_all.ensures.set c.mark_all.ensures.others)

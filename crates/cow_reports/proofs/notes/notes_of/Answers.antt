use Rattle.cow_reports.proofs.Fronts.{notes_are}
use Rattle.cow_reports.proofs.notes.notes_of.Goals as goal

pub returns : goal.returns
returns c =
    notes_are c.args.used.now.areas c.args.slots c.front_of-front.result c.args.taken c.args.used.now.slots.items c.as_slice.result.now c.as_slice-2.result.now c.lacks_after-lacks.result c.behind_in-behind.result
    c.as_slice.ensures.value c.as_slice-2.ensures.value c.front_of-front.ensures.few c.front_of-front.ensures.each c.front_of-front.ensures.ends c.lacks_after-lacks.ensures c.behind_in-behind.ensures

-- The event was due, and so the one that is due first; no event of a merge is answered.
use Rattle.std.proofs.Common.{◌≡◌, true, refl, sym}
use Rattle.plain_machine.specs.declared.event.Outcome.TheVariants.{Done, Fault}
use Rattle.volume.specs.Volumed.{is_due_of}
use Rattle.counted_volume.proofs.Steps.{step_is}
use Rattle.counted_volume.proofs.MergeFollows.{merged_one}
use Rattle.counted_volume.proofs.following_merge.merge_on.Goals as goal

pub returns-in-Ok-Done-clause-merged : goal.returns-in-Ok-Done-clause-merged
returns-in-Ok-Done-clause-merged g c =
    let due : is_due_of g.B.Block.contents g.B.Block.layers c.args.volume.now.volume c.args.event ≡ true = sym c.in-Ok-Done.ensures.does.due in
    let step = step_is g.B.Block.may_hold g.B.Block.contents g.B.Block.layers g.B.Block.fault_count g.B.Block.size c.args.event _ Done c.args.volume.now.volume c.step_here.new.self.volume
    (sym (c.is_only_merging.ensures.event c.if-not-is_only_merging.false c.args.event c.requires.merges due)) (c.is_only_merging.ensures.machine c.if-not-is_only_merging.false c.args.event c.requires.merges due) c.in-Ok-Done.field-0-is
    c.in-Ok-Done.ensures.does.exact c.in-Ok-Done.ensures.does.legal c.in-Ok-Done.ensures.does.kept c.in-Ok-Done.ensures.does.loud c.in-Ok-Done.ensures.does.counts.0 c.in-Ok-Done.ensures.does.flown c.in-Ok-Done.ensures.does.cause c.in-Ok-Done.ensures.does.closes c.in-Ok-Done.ensures.does.stops in
    merged_one c.args.event Done c.args.volume.now c.step_here.new.self step c.requires.merges refl c.in-Ok-Done.ensures.does.lower c.in-Ok-Done.ensures.taken

pub returns-in-Ok-Fault-clause-merged : goal.returns-in-Ok-Fault-clause-merged
returns-in-Ok-Fault-clause-merged g c =
    let due : is_due_of g.B.Block.contents g.B.Block.layers c.args.volume.now.volume c.args.event ≡ true = sym c.in-Ok-Fault.ensures.does.due in
    let step = step_is g.B.Block.may_hold g.B.Block.contents g.B.Block.layers g.B.Block.fault_count g.B.Block.size c.args.event _ Fault c.args.volume.now.volume c.step_here.new.self.volume
    (sym (c.is_only_merging.ensures.event c.if-not-is_only_merging.false c.args.event c.requires.merges due)) (c.is_only_merging.ensures.machine c.if-not-is_only_merging.false c.args.event c.requires.merges due) c.in-Ok-Fault.field-0-is
    c.in-Ok-Fault.ensures.does.exact c.in-Ok-Fault.ensures.does.legal c.in-Ok-Fault.ensures.does.kept c.in-Ok-Fault.ensures.does.loud c.in-Ok-Fault.ensures.does.counts.0 c.in-Ok-Fault.ensures.does.flown c.in-Ok-Fault.ensures.does.cause c.in-Ok-Fault.ensures.does.closes c.in-Ok-Fault.ensures.does.stops in
    merged_one c.args.event Fault c.args.volume.now c.step_here.new.self step c.requires.merges refl c.in-Ok-Fault.ensures.does.lower c.in-Ok-Fault.ensures.taken

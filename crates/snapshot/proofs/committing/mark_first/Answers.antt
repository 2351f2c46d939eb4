use Rattle.std.proofs.Common.{ap, ◌∙◌, drop, take}
use Rattle.std.specs.Prelude.{◌||◌}
use Rattle.std.specs.Option.{is_some}
use Rattle.std.proofs.lemmas.List.{drop-drop}
use Rattle.volume_laws.specs.Steps.{mark_of}
use Rattle.std.proofs.Common.{map, ◌++◌}
use Rattle.snapshot.specs.Kept.{is_among}
use Rattle.snapshot.proofs.Spared.{spare_more, marks_more}
use Rattle.snapshot.proofs.committing.mark_first.Goals as goal

pub loop-i-preserved : goal.loop-i-preserved
loop-i-preserved c =
    let copies = c.args.copies.now.items in
    let i = c.loop-i._i in
    let e = c.mark_one.ensures in
    let was = c.loop-i.invariant in (
      e.copies ∙ ap (drop 1) was.0 ∙ drop-drop 1 i copies,
      e.marks ∙ ap (λ ms. ms ++ map mark_of (take 1 c.loop-i.copies.items)) was.1 ∙ ap (λ cs. (c.args.marks.now.items ++ map mark_of (take i copies)) ++ map mark_of (take 1 cs)) was.0 ∙ marks_more c.args.marks.now.items copies i,
      spare_more (is_some c.args.spare.now) (is_some c.loop-i.spare) (is_some c.mark_one.new.spare) c.args.merging copies i was.2 (e.spare ∙ ap (λ cs. is_some c.loop-i.spare || is_among c.args.merging (take 1 cs)) was.0),
      λ chunk h. e.spared chunk (was.3 chunk h),
      e.copies_capacity ∙ was.4,
      e.marks_capacity ∙ was.5,
    )

use Rattle.std.proofs.Common.{arith, sym, ap, subst, ◌∙◌}
use Rattle.std.proofs.lemmas.Result.{on_ok_weaker}
use Rattle.snapshot_extents.specs.Ranges.{Cover, with_range}
use Rattle.snapshot_extents.proofs.Joins.{cover_last, with_last}
use Rattle.snapshot_extents.proofs.adding.add.Goals as goal

pub add_behind-requires : goal.add_behind-requires
add_behind-requires c =
    let small = c.requires.small in
    let ends = cover_last c.pop.new.self.items c.in-Some.last 0 c.args.range.start (subst (Cover 0 c.args.range.start) c.in-Some.ensures.items c.requires.behind) in
    omega arith

pub returns-in-Some : goal.returns-in-Some
returns-in-Some c =
    on_ok_weaker c.add_behind.result (λ items. items ∙ sym (ap (λ rs. with_range rs c.args.range) c.in-Some.ensures.items ∙ with_last c.pop.new.self.items c.in-Some.last c.args.range)) c.add_behind.ensures

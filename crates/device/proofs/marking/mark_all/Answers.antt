use Rattle.std.proofs.Common.{rules, length, ap, ◌∙◌}
use Rattle.device.specs.Marks.{mark_at}
use Rattle.device.proofs.Marked.{marks_back}
use Rattle.device.proofs.marking.mark_all.Goals as goal

pub returns-clause-len : goal.returns-clause-len
returns-clause-len c = ap length (marks_back _ c.fill.new.marks c.args.marks.now.items (search rules)) ∙ c.fill.ensures.len ∙ ap length c.deref_mut.ensures.value

pub returns-clause-set : goal.returns-clause-set
returns-clause-set c t lo hi = ap (λ ms. mark_at ms t) (marks_back _ c.fill.new.marks c.args.marks.now.items (search rules)) ∙ c.fill.ensures.set t lo hi

pub returns-clause-others : goal.returns-clause-others
returns-clause-others c t out = ap (λ ms. mark_at ms t) (marks_back _ c.fill.new.marks c.args.marks.now.items (search rules)) ∙ c.fill.ensures.others t out ∙ ap (λ ms. mark_at ms t) c.deref_mut.ensures.value

use Rattle.std.proofs.Common.{ap, sym, ◌∙◌}
use Rattle.volume_laws.specs.Again.{has_chunk}
use Rattle.merge.specs.Lists.{group_pairs}
use Rattle.merge.specs.Merging.{Merging}
use Rattle.merge.proofs.Groups.{group_all}
use Rattle.merge.proofs.merge.Merge.in_group.Goals as goal

pub returns-in-Some : goal.returns-in-Some
returns-in-Some g c =
    c.is_in.ensures ∙ ap (λ x. has_chunk x c.args.chunk) (sym (group_all c.in-Some.group))
    ∙ ap (λ x. has_chunk (group_pairs x) c.args.chunk) (sym c.in-Some.is) ∙ ap (λ (m : Merging g.row.B.Denot). has_chunk (group_pairs m.group) c.args.chunk) c.self.view_is

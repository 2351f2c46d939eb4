use Rattle.std.proofs.Common.{ap, sym, ◌∙◌}
use Rattle.merge.specs.Lists.{has_place as has_place_in, group_pairs}
use Rattle.merge.specs.Merging.{Merging}
use Rattle.merge.proofs.Groups.{group_all}
use Rattle.merge.proofs.merge.Merge.has_place.Goals as goal

pub returns-in-Some : goal.returns-in-Some
returns-in-Some g c =
    c.is_placed.ensures ∙ ap (λ x. has_place_in x c.args.place) (sym (group_all c.in-Some.group))
    ∙ ap (λ x. has_place_in (group_pairs x) c.args.place) (sym c.in-Some.is) ∙ ap (λ (m : Merging g.row.B.Denot). has_place_in (group_pairs m.group) c.args.place) c.self.view_is

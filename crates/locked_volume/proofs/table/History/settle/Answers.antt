use Rattle.std.proofs.Common.{rules, ap, ◌∙◌}
use Rattle.locked_volume.proofs.Moves.{joins, parts, checks}
use Rattle.locked_volume.proofs.table.History.settle.Goals as goal

pub join_seat-requires : goal.join_seat-requires
join_seat-requires c = (search rules, search rules, search rules, search rules, joins _ _ _ _ c.requires.seat.1)

pub load-requires : goal.load-requires
load-requires c = (search rules, search rules, checks _ _ _ (λ n. n))

pub split_seat-requires : goal.split_seat-requires
split_seat-requires c =
    let same = c.load.ensures.2.0 in
    (search rules, search rules, parts _ _ (ap (λ m. m.0.keeps) same ∙ ap (λ m. m.0.keeps) c.join_seat.ensures.2 ∙ c.requires.keeper.1))

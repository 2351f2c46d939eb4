use Rattle.std.proofs.Common.{rules, ap, ◌∙◌}
use Rattle.locked_volume.proofs.Moves.{joins, looks, same_keeps}
use Rattle.locked_volume.proofs.table.History.tell_for.Goals as goal

pub join_seat-requires : goal.join_seat-requires
join_seat-requires c = (search rules, search rules, search rules, search rules, joins _ _ _ _ c.requires.seat.1)

pub split_seat-requires : goal.split_seat-requires
split_seat-requires c = (search rules, search rules, looks _ _ (ap (λ v. v.keeps) c.tell.ensures.is ∙ same_keeps _ _ ∙ ap (λ m. m.0.keeps) c.join_seat.ensures.2 ∙ c.requires.keeper.1))

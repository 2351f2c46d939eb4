use Rattle.std.proofs.Common.{◌∷◌, [], ap, arith, reverse, ◌∙◌}
use Rattle.audited_volume.specs.Inside.{attached_count}
use Rattle.audited_volume.proofs.Cut.{all_left, count_both, count_reversed, left_last, left_next, reverse_twice}
use Rattle.audited_volume.proofs.fold.fold_all.Goals as goal

pub loop-entry-init : goal.loop-entry-init
loop-entry-init c =
    let es = c.args.entries.now.items in (
      λ lawful inside. all_left _ _ _ (ap reverse c.reverse.ensures.items ∙ reverse_twice es) lawful inside,
      omega (arith, c.requires.room, ap attached_count c.reverse.ensures.items ∙ count_reversed es),
      c.reverse.ensures.capacity,
    )

pub fold-requires : goal.fold-requires
fold-requires c = record { room = omega (arith, c.loop-entry.invariant.1, ap attached_count c.in-Some.ensures.items ∙ count_both c.pop.new.self.items (c.in-Some.entry ∷ [])) }

pub loop-entry-preserved : goal.loop-entry-preserved
loop-entry-preserved c =
    let inv = c.loop-entry.invariant in (
      λ lawful inside. left_next _ _ _ c.in-Some.entry _ _ (left_last _ _ c.in-Some.entry c.pop.new.self.items c.loop-entry.entries.items _ c.in-Some.ensures.items (inv.0 lawful inside)) c.fold.ensures.after,
      omega (arith, inv.1, c.fold.ensures.len, c.fold.ensures.capacity, ap attached_count c.in-Some.ensures.items ∙ count_both c.pop.new.self.items (c.in-Some.entry ∷ [])),
      c.pop.ensures.capacity ∙ inv.2,
    )

use Rattle.std.proofs.Common.{rules, ◌<◌, length, sym, ◌∙◌, arith}
use Rattle.plain_machine.specs.Plain.{Entry as ShownEntry, Invalid}
use Rattle.plain_machine.specs.declared.request.Overflowing.TheVariants.{Never}
use Rattle.audited_volume.proofs.Lost.{noted_kept, noted_lost, noted_room, both_true}
use Rattle.audited_volume.proofs.noting.note_spoils.Goals as goal
use Rattle.audited_volume.proofs.noting.note_spoils.Goals.{then-is_lost, else-is_lost}

pub push_reserved-requires : goal.push_reserved-requires
push_reserved-requires g c =
    let inv = c.loop-k.invariant in
    let d : ShownEntry = record { number = 0; saved = Invalid; overflow = Never } in
    let lost = rw c.as_slice.ensures.value at c.is_lost.ensures d in
    let bits = both_true _ _ (sym lost ∙ c.if-is_lost.true) in
    omega (arith, noted_room _ _ _ _ _ _ c.loop-k.k inv.0 bits.0, c.requires.room, inv.1, c.loop-k.entries.ok.0, c.args.entries.now.ok.0)

pub loop-k-preserved : goal.loop-k-preserved
loop-k-preserved g c =
    let inv = c.loop-k.invariant in
    let d : ShownEntry = record { number = 0; saved = Invalid; overflow = Never } in
    let lost = rw c.as_slice.ensures.value at c.is_lost.ensures in
    let low : c.loop-k.k < length c.args.lives.now.items = search rules in
    elim c.if-is_lost.branch [
      | then-is_lost w ↦
          rw (w.lives-is, w.entries-is, w.push_reserved.ensures.items, w.push_reserved.ensures.capacity)
          (noted_lost _ _ c.loop-k.k _ _ _ inv.0 w.number_at.result low (both_true _ _ (sym (lost d) ∙ w.if-is_lost.true)).0 (λ e. (both_true _ _ (sym (lost e) ∙ w.if-is_lost.true)).1) w.number_at.ensures.number w.number_at.ensures.first, inv.1)
      | else-is_lost w ↦
          rw (w.lives-is, w.entries-is) (noted_kept _ _ c.loop-k.k _ _ _ inv.0 (λ e. sym (lost e) ∙ w.if-is_lost.false), inv.1)
    ]

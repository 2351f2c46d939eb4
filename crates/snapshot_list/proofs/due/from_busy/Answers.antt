-- One snapshot more only waits.
use Rattle.std.proofs.Common.{◌≡◌, ◌<◌, ◌+◌, length, map, drop, refl, sym, ◌∙◌, ap, arith}
use Rattle.in_flight.specs.Due.{least}
use Rattle.in_flight.specs.declared.copies.Stage.TheVariants.{Waiting}
use Rattle.volume_laws.specs.Due.{copy_of, least_of}
use Rattle.snapshot.specs.Kept.{due_of_kept}
use Rattle.snapshot_list.proofs.Alike.{alike_all, alike_front, idle_first, idle_none}
use Rattle.snapshot_list.proofs.Firsts.{least_more, least_right}
use Rattle.snapshot_list.proofs.due.from_busy.Goals as goal
use Rattle.snapshot_list.proofs.due.from_busy.Goals.{in-empty, in-len1-up}

pub loop-k-init : goal.loop-k-init
loop-k-init g c = (alike_all (map (due_of_kept g.B.Block.contents g.B.Block.layers) c.args.snaps.now), refl)

pub loop-k-preserved : goal.loop-k-preserved
loop-k-preserved g c =
    let f = due_of_kept g.B.Block.contents g.B.Block.layers in
    let snaps = c.args.snaps.now in
    let s = c.index-snaps-k.result in
    let within : c.loop-k.k < length snaps = omega (arith, c.loop-k-test.true, c.loop-k.auto.k-end) in
    let rest = least_of (copy_of Waiting) (map f (drop (c.loop-k.k + 1) snaps)) in
    let idle = sym c.is_busy.ensures ∙ c.if-is_busy.false in
    let waits : c.if-copies-lt1.waiting ≡ least c.loop-k.waiting (copy_of Waiting (f s)) = elim c.if-copies-lt1.branch [
      | in-empty w ↦ w.waiting-is ∙ sym (least_right c.loop-k.waiting) ∙ ap (least c.loop-k.waiting) (sym (idle_none (f s) c.copies.result.now c.copies.ensures w.in-empty.len_below))
      | in-len1-up w ↦ w.waiting-is ∙ w.least-waiting.ensures ∙ ap (least c.loop-k.waiting) (sym (idle_first (f s) c.copies.result.now w.first-item.result idle c.copies.ensures w.in-len1-up.len_at_least w.first-item.is))
    ] in (
      alike_front f snaps c.loop-k.k s within c.index-snaps-k.is idle c.loop-k.invariant.0,
      c.loop-k.invariant.1 ∙ sym (least_more f snaps c.loop-k.k (copy_of Waiting) c.loop-k.waiting s within)
          ∙ ap (λ x. least x rest) (sym (waits ∙ ap (λ x. least c.loop-k.waiting (copy_of Waiting (f x))) c.index-snaps-k.is)),
    )

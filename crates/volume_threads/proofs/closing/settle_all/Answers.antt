use Rattle.std.proofs.Common.{List, set, slice_index_or, sym, ap, ◌∙◌, subst, arith, below_more}
use Rattle.std.proofs.lemmas.List.{get_or_default, set-get_or}
use Rattle.volume_threads.specs.Rigs.{IsSettledAt, SeatShape}
use Rattle.volume_threads.proofs.closing.settle_all.Goals as goal

pub returns-clause-settled : goal.returns-clause-settled
returns-clause-settled g c i s low =
    subst (λ (ss : List SeatShape). IsSettledAt (g.J.Room.start c.args.volume) c.args.post.now.audit c.args.volume (slice_index_or ss i s)) (sym c.loop-i.invariant.0)
    (c.loop-i.invariant.2 i s (omega (arith, low, c.loop-i.auto.seats, c.loop-i-test.false)))

pub loop-i-preserved : goal.loop-i-preserved
loop-i-preserved g c =
    let i = c.loop-i.i in
    let one = c.index-seats-i.result in
    let all = c.args.seats.now in (
      ap (set c.loop-i.seats i) c.settle.ensures.seat ∙ set-get_or c.loop-i.seats i one ∙ c.loop-i.invariant.0,
      c.settle.ensures.post ∙ c.loop-i.invariant.1,
      λ j s.
          below_more (λ m. IsSettledAt (g.J.Room.start c.args.volume) c.args.post.now.audit c.args.volume (slice_index_or all m s)) i (λ m low. c.loop-i.invariant.2 m s low)
          (subst (λ a. IsSettledAt (g.J.Room.start c.args.volume) a c.args.volume (slice_index_or all i s)) (ap (λ p. p.audit) c.loop-i.invariant.1)
          (subst (IsSettledAt (g.J.Room.start c.args.volume) c.loop-i.post.audit c.args.volume)
          (c.settle.ensures.seat ∙ ap (λ (ss : List SeatShape). slice_index_or ss i one) c.loop-i.invariant.0 ∙ get_or_default all i one s c.loop-i-test.true) c.settle.ensures.settled))
          j,
    )

-- The chunks that the sectors touch are looked at in order.
use Rattle.std.proofs.Common.{◌≡◌, ◌∙◌, ◌<◌, ◌+◌, ◌-◌, ◌/◌, true, false, sym, ap, subst, arith}
use Rattle.std.proofs.lemmas.List.Elements.{All-weaker}
use Rattle.std.specs.Prelude.{not}
use Rattle.chunk.specs.Pieces.{chunks_over}
use Rattle.chunk.proofs.Limits.{is_chunk-some}
use Rattle.volume_laws.specs.Published.{is_published}
use Rattle.snapshot_list.proofs.Unpublished.{first_until, until_here, until_next, until_from}
use Rattle.snapshot_list.proofs.routing.first_unpublished_from.Goals as goal

pub loop-chunk-init : goal.loop-chunk-init
loop-chunk-init g c =
    let s = c.args.snap.now in
    let is = c.chunk-sectors.ensures.is in
    let some : 0 < s.state.chunk = subst (λ n. 0 < n) is (is_chunk-some c.chunk-sectors.result c.chunk-sectors.ensures.allowed) in
    until_from (λ n. not (is_published s.pairs s.marks n)) s.state.chunk c.args.first c.args.count c.args.from some (omega (arith, c.if-count-eq0.false)) c.requires.begins
    (All-weaker (λ n. n < c.args.from → is_published s.pairs s.marks n ≡ true) (λ n. n < c.args.from → not (is_published s.pairs s.marks n) ≡ false) (λ n published lt. ap not (published lt)) (chunks_over s.state.chunk c.args.first c.args.count) c.requires.before)
    ∙ ap (λ n. first_until (λ m. not (is_published s.pairs s.marks m)) ((c.args.first + (c.args.count - 1)) / n) c.args.from) (sym is)

pub returns-then-not-is_published : goal.returns-then-not-is_published
returns-then-not-is_published g c =
    let s = c.args.snap.now in
    sym (c.loop-chunk.invariant ∙ until_here (λ n. not (is_published s.pairs s.marks n)) ((c.args.first + (c.args.count - 1)) / c.chunk-sectors.result) c.loop-chunk.chunk c.loop-chunk-test.true
    (ap not (sym c.is_published.ensures ∙ c.if-not-is_published.true)))

pub loop-chunk-preserved : goal.loop-chunk-preserved
loop-chunk-preserved g c =
    let s = c.args.snap.now in
    c.loop-chunk.invariant ∙ until_next (λ n. not (is_published s.pairs s.marks n)) ((c.args.first + (c.args.count - 1)) / c.chunk-sectors.result) c.loop-chunk.chunk c.loop-chunk-test.true
    (ap not (sym c.is_published.ensures ∙ c.if-not-is_published.false))

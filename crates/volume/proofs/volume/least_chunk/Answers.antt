-- One snapshot more is looked at.
use Rattle.std.proofs.Common.{◌≡◌, ℕ, suc, ◌+◌, drop, get_or, sym, ◌∙◌, ap, subst, arith, true}
use Rattle.std.specs.Prelude.{min}
use Rattle.chunk.specs.Sizes.{is_chunk}
use Rattle.snapshot.specs.Kept.{Kept}
use Rattle.volume.specs.Volumed.{piece_of}
use Rattle.volume.proofs.Least.{chunk_min, largest, least_first, least_next}
use Rattle.volume.proofs.Looked.{each_more}
use Rattle.volume.proofs.volume.least_chunk.Goals as goal

pub loop-snap-init : goal.loop-snap-init
loop-snap-init g c = (least_first c.args.snaps.now, largest, λ i d below. absurd (omega (arith, below)))

pub loop-snap-preserved : goal.loop-snap-preserved
loop-snap-preserved g c =
    let (so_far, allowed, each) = c.loop-snap.invariant in
    let k : ℕ = c.loop-snap.snap-index in
    let s : Kept g.row.B.Denot = c.snap-item.result in
    let here : c.chunk.result ≡ (get_or c.args.snaps.now c.loop-snap.snap-index s).state.chunk = c.chunk.ensures.is ∙ ap (λ (x : Kept g.row.B.Denot). x.state.chunk) c.snap-item.is in
    let e : suc c.loop-snap.snap-index ≡ c.loop-snap.snap-index + 1 = omega arith in
    let least : c.min-least.result ≡ min c.loop-snap.least c.chunk.result = c.min-least.ensures in
    let own : is_chunk s.state.chunk ≡ true = subst (λ n. is_chunk n ≡ true) c.chunk.ensures.is c.chunk.ensures.allowed in (
      subst (λ i. min c.min-least.result (piece_of (drop i c.args.snaps.now)) ≡ piece_of c.args.snaps.now) e
          (ap (λ n. min n (piece_of (drop (suc c.loop-snap.snap-index) c.args.snaps.now))) least ∙ least_next c.args.snaps.now c.loop-snap.snap-index c.loop-snap.least c.chunk.result s c.loop-snap-test.true here ∙ so_far),
      subst (λ n. is_chunk n ≡ true) (sym least) (chunk_min c.loop-snap.least c.chunk.result allowed c.chunk.ensures.allowed),
      each_more (λ (x : Kept g.row.B.Denot). is_chunk x.state.chunk ≡ true) c.args.snaps.now c.loop-snap.snap-index s c.loop-snap-test.true c.snap-item.is each own,
    )

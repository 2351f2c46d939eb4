use Rattle.std.proofs.Common.{◌≡◌, false, true, rules, sym, arith}
use Rattle.audited_volume.proofs.Beginning.{is_live_too, live_here, live_there, not_live, spoilt_here}
use Rattle.audited_volume.proofs.bases.saved_at.Goals as goal

pub returns-then-not-is_live : goal.returns-then-not-is_live
returns-then-not-is_live g c = λ loud d.
    let s = c.snap-snap.result.now in
    let spoilt : s.live ≡ false = first_of (search rules, grind (arith, not_live), search (rules, not_live)) in
    rw c.overflow-overflow.ensures (spoilt_here g.B.Block.contents g.B.Block.layers c.args.volume.now c.args.k s c.requires (c.snap-snap.ensures.value s) c.number-number.result (sym c.number-number.ensures) spoilt d)

pub whole-requires : goal.whole-requires
whole-requires g c =
    let s = c.snap-snap.result.now in
    let live : s.live ≡ true = first_of (search rules, grind (arith, is_live_too), search (rules, is_live_too)) in
    record { there = live_there g.B.Block.contents g.B.Block.layers c.args.volume.now c.args.k s c.requires (c.snap-snap.ensures.value s) live c.number-number.result (sym c.number-number.ensures) c.snap-snap.ensures.first c.snap-snap.ensures.other }

pub returns : goal.returns
returns g c = λ loud d.
    let s = c.snap-snap.result.now in
    let live : s.live ≡ true = first_of (search rules, grind (arith, is_live_too), search (rules, is_live_too)) in
    rw c.overflow-overflow.ensures (live_here g.B.Block.contents g.B.Block.layers c.args.volume.now c.args.k s c.requires (c.snap-snap.ensures.value s) live c.number-number.result (sym c.number-number.ensures) c.snap-snap.ensures.first c.in_ok-array.array (c.in_ok-array.ensures loud) d)

-- The snapshot at the place waits alone, and what comes first was found.
use Rattle.std.proofs.Common.{◌<◌, ◌∙◌, List, arith, length, map, sym, ap, subst}
use Rattle.in_flight.specs.declared.flights.Flight.{Flight}
use Rattle.snapshot.specs.Kept.{Kept, due_of_kept}
use Rattle.snapshot_list.specs.Busy.{waiting_due}
use Rattle.counted_volume.specs.Following.{StandsAt}
use Rattle.counted_volume.specs.Places.{Counted}
use Rattle.counted_volume.proofs.NextRead.{if_any, if_is}
use Rattle.counted_volume.proofs.following.next_due.Goals as goal

pub returns-then-not-is_busy-clause-there : goal.returns-then-not-is_busy-clause-there
returns-then-not-is_busy-clause-there g c =
    let s = c.index-snaps-place.result in
    let k = c.args.place in
    let snaps = c.snaps-snaps.result.now in
    let within : k < length snaps = omega (arith, c.if-place-snaps.true) in
    let same = ap (λ (x : Counted g.row.B.Denot). x.volume.snaps) (sym c.volume.view_is) ∙ sym c.snaps-snaps.ensures in
    if_any c.waiting_due.result (s, subst (λ (xs : List (Kept g.row.B.Denot)). StandsAt k xs s) (sym same) (within, c.index-snaps-place.is), sym c.if-not-is_busy.ensures)

pub returns-then-not-is_busy-clause-waiting : goal.returns-then-not-is_busy-clause-waiting
returns-then-not-is_busy-clause-waiting g c =
    let v = c.args.volume.now.volume in
    let inside = c.volume.inside.volume in
    let seen = map (due_of_kept g.B.Block.contents g.B.Block.layers) in
    let same = ap (λ (x : Counted g.row.B.Denot). waiting_due (seen x.volume.snaps) x.volume.flights) (sym c.volume.view_is) in
    let snaps = ap (λ (xs : List (Kept g.row.B.Denot)). waiting_due (seen xs) inside.flights) (sym c.snaps-snaps.ensures) in
    let flights = ap (λ (fs : List Flight). waiting_due (seen c.snaps-snaps.result.now) fs) (sym c.flights.ensures.is) in
    if_is c.waiting_due.result (waiting_due (seen v.snaps) v.flights) (same ∙ snaps ∙ flights ∙ sym c.waiting_due.ensures)

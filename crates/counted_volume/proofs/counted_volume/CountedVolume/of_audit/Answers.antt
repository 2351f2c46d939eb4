-- There is a place for each live snapshot, and nothing is in flight.
use Rattle.std.proofs.Common.{◌≤◌, ◌∙◌, length, ap, arith}
use Rattle.volume.specs.Volumed.{Volumed}
use Rattle.audited_volume.specs.Earned.{AreEarned}
use Rattle.counted_volume.proofs.Fewer.{none_flying, quiet_have, quiet_places}
use Rattle.counted_volume.proofs.counted_volume.CountedVolume.of_audit.Goals as goal

pub invariant_of-result : goal.invariant_of-result
invariant_of-result g c =
    let counted = c.into_counted-volume.ensures in
    let few : length c.into_counted-volume.result.0.snaps ≤ 8 = omega (arith, c.len.ensures.len, c.len.ensures.few) in
    let earned : AreEarned c.into_counted-volume.result.1 c.into_counted-volume.result.0 = rw counted.places (rw counted.volume c.look_at_places.ensures.earned) in
    rw c.max.ensures (quiet_have c.into_counted-volume.result.0 c.into_counted-volume.result.1 c.count_live-live.result c.count_may-may.result
    (ap (λ (v : Volumed _). v.flights) counted.volume ∙ none_flying c.args.audit.held c.args.audit.volume.flights c.look_at_requests.ensures c.requires.none) c.count_live-live.ensures.count c.count_live-live.ensures.few c.count_may-may.ensures.count c.count_may-may.ensures.few few counted.few earned)

pub returns-clause-taken : goal.returns-clause-taken
returns-clause-taken g c =
    let counted = c.into_counted-volume.ensures in
    rw c.max.ensures (quiet_places c.args.audit.volume c.into_counted-volume.result.0 c.into_counted-volume.result.1 _ c.count_live-live.result c.count_may-may.result counted.volume counted.places c.count_live-live.ensures.count c.count_may-may.ensures.count)

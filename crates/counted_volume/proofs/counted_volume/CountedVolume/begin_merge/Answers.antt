-- Its entry is noted, in its own place.
use Rattle.std.proofs.Common.{◌+◌, ◌≤◌, arith}
use Rattle.counted_volume.specs.Places.{kept_for_marks, kept_for_snaps}
use Rattle.counted_volume.proofs.Fewer.{begun_or_have}
use Rattle.counted_volume.proofs.JournalGoing.{begun_or_goes_on}
use Rattle.counted_volume.proofs.Takings.{begun_takes, full_takes}
use Rattle.counted_volume.proofs.counted_volume.CountedVolume.begin_merge.Goals as goal

pub invariant_of-self : goal.invariant_of-self
invariant_of-self g c = begun_or_have c.self.inside.volume c.begin_merge.new.self c.args.number c.self.inside.places c.begin_merge.result c.begin_merge.ensures.does.begun c.begin_merge.ensures.refused c.self.invariant

pub returns-clause-goes_on : goal.returns-clause-goes_on
returns-clause-goes_on g c =
    rw (← c.self.view_is) (begun_or_goes_on g.B.Block.contents g.B.Block.layers c.self.inside.volume c.begin_merge.new.self c.args.number c.begin_merge.result c.begin_merge.ensures.does.begun c.begin_merge.ensures.does.legal)

pub returns-clause-does : goal.returns-clause-does
returns-clause-does g c = rw (← c.self.view_is) c.begin_merge.ensures.does

pub returns-then-self-count_may-gt-MAX_ENTRIES-clause-places : goal.returns-then-self-count_may-gt-MAX_ENTRIES-clause-places
returns-then-self-count_may-gt-MAX_ENTRIES-clause-places g c =
    rw (← c.self.view_is) (full_takes 1 c.self.inside.places c.count_may.result kept_for_snaps c.self.inside.volume c.count_may.ensures.count (omega (arith, c.if-self-count_may-gt-MAX_ENTRIES.true)))

pub returns-clause-places : goal.returns-clause-places
returns-clause-places g c =
    let within : c.self.inside.places + kept_for_marks c.self.inside.volume + 1 ≤ 65_536 = omega (arith, c.if-self-count_may-gt-MAX_ENTRIES.false, c.count_may.ensures.count) in
    rw (← c.self.view_is) (begun_takes c.self.inside.volume c.begin_merge.new.self c.args.number c.self.inside.places c.begin_merge.result within c.begin_merge.ensures.does.begun c.begin_merge.ensures.does.admitted c.begin_merge.ensures.refused)

-- Its entry is noted, in one place more.
use Rattle.std.proofs.Common.{◌+◌, ap, arith}
use Rattle.counted_volume.specs.Places.{kept_for_marks, kept_for_snaps}
use Rattle.counted_volume.proofs.Fewer.{finished_have}
use Rattle.counted_volume.proofs.JournalGoing.{finished_goes_on}
use Rattle.counted_volume.proofs.Full.{unfinished_other}
use Rattle.counted_volume.proofs.Takings.{done_takes, finished_live, full_takes, refused_takes}
use Rattle.counted_volume.proofs.counted_volume.CountedVolume.finish_merge.Goals as goal

pub returns-in-Ok-clause-goes_on : goal.returns-in-Ok-clause-goes_on
returns-in-Ok-clause-goes_on g c =
    rw (← c.self.view_is) (λ loud. finished_goes_on g.B.Block.contents g.B.Block.layers c.self.inside.volume c.finish_merge.new.self (c.in-Ok.ensures.does.legal loud))

pub invariant_of-self : goal.invariant_of-self
invariant_of-self g c = finished_have c.self.inside.volume c.finish_merge.new.self c.in-Ok.store c.self.inside.places c.in-Ok.ensures.does.taken (omega (arith, c.if-self-count_may-gt-MAX_ENTRIES.false, c.count_may.ensures.count)) c.self.invariant

pub returns-in-Ok-clause-does : goal.returns-in-Ok-clause-does
returns-in-Ok-clause-does g c = rw (← c.self.view_is) c.in-Ok.ensures.does

pub returns-then-self-count_may-gt-MAX_ENTRIES-clause-places : goal.returns-then-self-count_may-gt-MAX_ENTRIES-clause-places
returns-then-self-count_may-gt-MAX_ENTRIES-clause-places g c =
    rw (← c.self.view_is) (full_takes 1 c.self.inside.places c.count_may.result kept_for_snaps c.self.inside.volume c.count_may.ensures.count (omega (arith, c.if-self-count_may-gt-MAX_ENTRIES.true)))

pub returns-in-Ok-clause-places : goal.returns-in-Ok-clause-places
returns-in-Ok-clause-places g c =
    let live = finished_live c.self.inside.volume c.finish_merge.new.self c.in-Ok.store c.in-Ok.ensures.does.taken in
    rw (← c.self.view_is) (done_takes 1 c.self.inside.places (c.self.inside.places + 1) c.count_may.result kept_for_snaps c.self.inside.volume c.finish_merge.new.self c.in-Ok.store c.count_may.ensures.count (omega (arith, c.if-self-count_may-gt-MAX_ENTRIES.false)) (omega (arith, live)))

pub returns-in-Err-clause-places : goal.returns-in-Err-clause-places
returns-in-Err-clause-places g c =
    rw (← c.self.view_is) (refused_takes 1 c.self.inside.places c.self.inside.places c.count_may.result kept_for_snaps c.self.inside.volume c.finish_merge.new.self c.in-Err.refusal c.count_may.ensures.count (omega (arith, c.if-self-count_may-gt-MAX_ENTRIES.false))
    (unfinished_other c.self.inside.volume c.in-Err.refusal c.in-Err.ensures.err.0) (ap (λ v. c.self.inside.places + kept_for_marks v) c.in-Err.ensures.err.1))

-- The read of a copy, and what follows it, go on from what was reached so far; and the read that is due next was due first.
use Rattle.std.proofs.Common.{[], ◌∷◌, sym, subst}
use Rattle.plain_machine.specs.declared.event.Event.{Event}
use Rattle.counted_volume.specs.Following.{AreCarried}
use Rattle.counted_volume.proofs.Carrying.{so_then}
use Rattle.counted_volume.proofs.Runs.{next_goes, next_read, read_goes}
use Rattle.counted_volume.proofs.following.follow_reads.Goals as goal

pub returns-then-not-carry_one : goal.returns-then-not-carry_one
returns-then-not-carry_one g c =
    let was = c.loop-next.invariant in
    let followed = c.follow_read.ensures.did in
    let carried = c.carry_one.ensures.ends in
    let so = subst (λ (e : Event). AreCarried g.B.Block.contents g.B.Block.layers (e ∷ []) c.follow_read.new.reply c.carry_one.new.reply c.follow_read.new.volume.volume c.carry_one.new.volume.volume) (sym c.in-CopyRead.is) carried.so in
    so_then _ was.did (so_then (Unit {0}) followed carried tt)
    (λ first v on. next_goes g.B.Block.contents g.B.Block.layers g.B.Block.size c.loop-next.number c.loop-next.volume.volume was.first c.in-Some.next c.follow_read.new.volume.volume c.in-Some.ensures.next
    c.loop-next.reply c.follow_read.new.reply c.carry_one.new.reply c.carry_one.new.volume.volume followed.so so first v (was.did.so first v on))

pub loop-next-preserved : goal.loop-next-preserved
loop-next-preserved g c =
    let was = c.loop-next.invariant in
    let followed = c.follow_read.ensures.did in
    let carried = c.carry_one.ensures.ends in
    let so = subst (λ (e : Event). AreCarried g.B.Block.contents g.B.Block.layers (e ∷ []) c.follow_read.new.reply c.carry_one.new.reply c.follow_read.new.volume.volume c.carry_one.new.volume.volume) (sym c.in-CopyRead.is) carried.so in
    record {
      did = so_then _ was.did (so_then (Unit {0}) followed carried tt)
          (λ first v on. next_goes g.B.Block.contents g.B.Block.layers g.B.Block.size c.loop-next.number c.loop-next.volume.volume was.first c.in-Some.next c.follow_read.new.volume.volume c.in-Some.ensures.next
          c.loop-next.reply c.follow_read.new.reply c.carry_one.new.reply c.carry_one.new.volume.volume followed.so so first v (was.did.so first v on));
      first = next_read g.B.Block.contents g.B.Block.layers g.B.Block.size c.loop-next.number c.loop-next.volume.volume was.first c.in-Some.next c.follow_read.new.volume.volume c.in-Some.ensures.next c.in-CopyRead.read
          c.loop-next.reply c.follow_read.new.reply c.carry_one.new.volume.volume c.in-CopyRead.is followed.so followed.loud (c.carry_one.ensures.goes_on c.if-not-carry_one.false).1 carried.loud;
    }

pub returns-in-Issue : goal.returns-in-Issue
returns-in-Issue g c =
    let was = c.loop-next.invariant in
    let followed = c.follow_read.ensures.did in
    let carried = c.carry_one-in-Issue.ensures.ends in
    let so = subst (λ (e : Event). AreCarried g.B.Block.contents g.B.Block.layers (e ∷ []) c.follow_read.new.reply c.carry_one-in-Issue.new.reply c.follow_read.new.volume.volume c.carry_one-in-Issue.new.volume.volume) (sym c.in-Issue.is) carried.so in
    so_then _ was.did (so_then (Unit {0}) followed carried tt)
    (λ first v on. next_goes g.B.Block.contents g.B.Block.layers g.B.Block.size c.loop-next.number c.loop-next.volume.volume was.first c.in-Some.next c.follow_read.new.volume.volume c.in-Some.ensures.next
    c.loop-next.reply c.follow_read.new.reply c.carry_one-in-Issue.new.reply c.carry_one-in-Issue.new.volume.volume followed.so so first v (was.did.so first v on))

pub returns-in_default-next : goal.returns-in_default-next
returns-in_default-next g c =
    let was = c.loop-next.invariant in
    let followed = c.follow_read.ensures.did in
    so_then _ was.did followed (λ first v on. read_goes g.B.Block.contents g.B.Block.layers g.B.Block.size c.loop-next.number c.loop-next.volume.volume was.first c.loop-next.reply c.follow_read.new.reply c.follow_read.new.volume.volume followed.so first v (was.did.so first v on))

pub returns : goal.returns
returns g c =
    let was = c.loop-next.invariant in
    let followed = c.follow_read.ensures.did in
    so_then _ was.did followed (λ first v on. read_goes g.B.Block.contents g.B.Block.layers g.B.Block.size c.loop-next.number c.loop-next.volume.volume was.first c.loop-next.reply c.follow_read.new.reply c.follow_read.new.volume.volume followed.so first v (was.did.so first v on))

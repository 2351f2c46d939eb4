-- The events of the snapshot that has the copy, as many as were done, or none; and what is due next after all.
use Rattle.std.proofs.Common.{ℕ, List, [], ◌∷◌, inl, refl}
use Rattle.plain_machine.specs.declared.event.Event.{Event}
use Rattle.plain_machine.specs.declared.event.Event.TheVariants.{FlushStore, WriteArea, Publish}
use Rattle.counted_volume.proofs.Carrying.{alone_followed, none_so, out_after, out_at, read_followed}
use Rattle.counted_volume.proofs.NextRead.{if_both}
use Rattle.counted_volume.proofs.Takings.{takes_none}
use Rattle.counted_volume.proofs.following.follow_read.Goals as goal

-- those that come after each
abbrev after_area : ℕ → List Event → List Event
after_area s last = FlushStore s ∷ last

abbrev after_flush : ℕ → List Event → List Event
after_flush s last = WriteArea s ∷ after_area s last

abbrev after_write : ℕ → List Event → List Event
after_write s last = FlushStore s ∷ after_flush s last

pub returns-in_default-clause-did : goal.returns-in_default-clause-did
returns-in_default-clause-did g c = none_so g.B.Block.may_hold g.B.Block.contents g.B.Block.layers g.B.Block.fault_count g.B.Block.size _ c.args.reply.now c.args.volume.now c.args.volume.now refl (takes_none c.args.volume.now) (inl (0, inl (refl, refl)))

pub returns-then-not-carry_one-clause-did : goal.returns-then-not-carry_one-clause-did
returns-then-not-carry_one-clause-did g c = read_followed c.args.number c.in-Some.snap (out_at (after_write c.in-Some.snap []) c.carry_one.ensures)

pub returns-then-not-carry_one-2-clause-did : goal.returns-then-not-carry_one-2-clause-did
returns-then-not-carry_one-2-clause-did g c = read_followed c.args.number c.in-Some.snap (out_after (after_write c.in-Some.snap []) c.if-not-carry_one.false c.carry_one.ensures (out_at (after_flush c.in-Some.snap []) c.carry_one-2.ensures))

pub returns-then-not-carry_one-3-clause-did : goal.returns-then-not-carry_one-3-clause-did
returns-then-not-carry_one-3-clause-did g c = read_followed c.args.number c.in-Some.snap (out_after (after_write c.in-Some.snap []) c.if-not-carry_one.false c.carry_one.ensures (out_after (after_flush c.in-Some.snap []) c.if-not-carry_one-2.false c.carry_one-2.ensures (out_at (after_area c.in-Some.snap []) c.carry_one-3.ensures)))

pub returns-then-not-carry_one-4-clause-did : goal.returns-then-not-carry_one-4-clause-did
returns-then-not-carry_one-4-clause-did g c = read_followed c.args.number c.in-Some.snap (out_after (after_write c.in-Some.snap []) c.if-not-carry_one.false c.carry_one.ensures (out_after (after_flush c.in-Some.snap []) c.if-not-carry_one-2.false c.carry_one-2.ensures (out_after (after_area c.in-Some.snap []) c.if-not-carry_one-3.false c.carry_one-3.ensures (out_at [] c.carry_one-4.ensures))))

pub returns-then-not-alone-clause-did : goal.returns-then-not-alone-clause-did
returns-then-not-alone-clause-did g c = read_followed c.args.number c.in-Some.snap (out_after (after_write c.in-Some.snap []) c.if-not-carry_one.false c.carry_one.ensures (out_after (after_flush c.in-Some.snap []) c.if-not-carry_one-2.false c.carry_one-2.ensures (out_after (after_area c.in-Some.snap []) c.if-not-carry_one-3.false c.carry_one-3.ensures (out_at [] c.carry_one-4.ensures))))

pub returns-then-not-carry_one-5-clause-did : goal.returns-then-not-carry_one-5-clause-did
returns-then-not-carry_one-5-clause-did g c = alone_followed c.args.number c.in-Some.snap (c.in-Some.ensures.alone c.if-not-alone.false) (out_after (after_write c.in-Some.snap (Publish c.args.number ∷ [])) c.if-not-carry_one.false c.carry_one.ensures (out_after (after_flush c.in-Some.snap (Publish c.args.number ∷ [])) c.if-not-carry_one-2.false c.carry_one-2.ensures (out_after (after_area c.in-Some.snap (Publish c.args.number ∷ [])) c.if-not-carry_one-3.false c.carry_one-3.ensures (out_after (Publish c.args.number ∷ []) c.if-not-carry_one-4.false c.carry_one-4.ensures (out_at [] c.carry_one-5.ensures)))))

pub returns-clause-did : goal.returns-clause-did
returns-clause-did g c = alone_followed c.args.number c.in-Some.snap (c.in-Some.ensures.alone c.if-not-alone.false) (out_after (after_write c.in-Some.snap (Publish c.args.number ∷ [])) c.if-not-carry_one.false c.carry_one.ensures (out_after (after_flush c.in-Some.snap (Publish c.args.number ∷ [])) c.if-not-carry_one-2.false c.carry_one-2.ensures (out_after (after_area c.in-Some.snap (Publish c.args.number ∷ [])) c.if-not-carry_one-3.false c.carry_one-3.ensures (out_after (Publish c.args.number ∷ []) c.if-not-carry_one-4.false c.carry_one-4.ensures (out_at [] c.carry_one-5.ensures)))))

pub returns-clause-next : goal.returns-clause-next
returns-clause-next g c = if_both c.next_due.result c.next_due.ensures.there c.next_due.ensures.waiting (λ next there waiting. record {
  snap = c.in-Some.snap;
  place = c.in-Some.place;
  alone = c.in-Some.ensures.alone c.if-not-alone.false;
  here = c.in-Some.ensures.here;
  done = (
    c.carry_one.new.volume.volume,
    (c.carry_one.ensures.goes_on c.if-not-carry_one.false).1,
    c.carry_one.ensures.ends.loud,
    (
      c.carry_one-2.new.volume.volume,
      (c.carry_one-2.ensures.goes_on c.if-not-carry_one-2.false).1,
      c.carry_one-2.ensures.ends.loud,
      (
        c.carry_one-3.new.volume.volume,
        (c.carry_one-3.ensures.goes_on c.if-not-carry_one-3.false).1,
        c.carry_one-3.ensures.ends.loud,
        (
          c.carry_one-4.new.volume.volume,
          (c.carry_one-4.ensures.goes_on c.if-not-carry_one-4.false).1,
          c.carry_one-4.ensures.ends.loud,
          (c.carry_one-5.new.volume.volume, (c.carry_one-5.ensures.goes_on c.if-not-carry_one-5.false).1, c.carry_one-5.ensures.ends.loud, refl),
        ),
      ),
    ),
  );
  there = there;
  waiting = waiting;
})

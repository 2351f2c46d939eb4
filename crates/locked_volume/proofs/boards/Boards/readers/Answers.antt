-- One pass more, and those that publish stay.
use Rattle.std.proofs.Common.{set, sym, ap, ◌∙◌, subst, arith}
use Rattle.std.proofs.lemmas.Grind.{common_steps}
use Rattle.std.proofs.lemmas.List.{set-get_or}
use Rattle.crossbeam_utils.specs.Padded.{padded_value}
use Rattle.locked_volume.specs.Boards.{ArePublishers}
use Rattle.locked_volume.proofs.Passes.{own_pass, own_reader, reader_more}
use Rattle.locked_volume.proofs.boards.Boards.readers.Goals as goal

pub another-requires : goal.another-requires
another-requires c =
    (own_pass padded_value c.self.inside.padded.items c.args.self.now c.loop-place.publishers-inside.passes.items c.loop-place.place c.index.result.now c.deref.result.now c.index_mut.result.now
    c.self.view_is c.self.invariant c.loop-place-test.true (subst (ArePublishers c.args.self.now) (sym c.loop-place.invariant.same) c.requires) c.index.ensures c.deref.ensures c.index_mut.ensures.value).of_board

pub loop-place-preserved : goal.loop-place-preserved
loop-place-preserved c =
    let was = c.loop-place.invariant in
    let own = own_reader padded_value c.self.inside.padded.items c.args.self.now c.loop-place.publishers-inside.passes.items c.loop-place.place c.index.result.now c.deref.result.now c.index_mut.result.now
    c.self.view_is c.self.invariant c.loop-place-test.true (subst (ArePublishers c.args.self.now) (sym was.same) c.requires) c.index.ensures c.deref.ensures c.index_mut.ensures.value in
    record {
      same = ap (λ p. set c.loop-place.publishers-inside.passes.items c.loop-place.place p) (c.another.ensures.same ∙ c.index_mut.ensures.value)
          ∙ set-get_or c.loop-place.publishers-inside.passes.items c.loop-place.place c.index_mut.result.now ∙ was.same;
      many = grind (arith, common_steps);
      each = rw c.in_ok-push.ensures.items
          (reader_more c.loop-place.place c.loop-place.passes.items c.args.self.now c.another.result was.many
          (omega (arith, c.loop-place-test.true, c.requires.boards_many)) was.each (λ b. ap (λ p. p.board) c.another.ensures.other ∙ own b));
    }

pub returns-clause-readers : goal.returns-clause-readers
returns-clause-readers c = record {
  boards_many = c.requires.boards_many;
  many = c.loop-place.invariant.many ∙ omega (arith, c.loop-place-test.false, c.loop-place.auto.place-end);
  each = λ k b d low. c.loop-place.invariant.each k d b (omega (arith, low, c.loop-place-test.false));
}

-- The pass of each place publishes on its board.
use Rattle.std.proofs.Common.{ap, subst, get_or, arith}
use Rattle.crossbeam_utils.specs.Padded.{padded_value}
use Rattle.locked_volume.specs.Boards.{IsPublished}
use Rattle.locked_volume.specs.Usages.{usage_at}
use Rattle.locked_volume.proofs.Passes.{published_ends, one_done, own_pass}
use Rattle.locked_volume.proofs.boards.Boards.publish_all.Goals as goal

pub publish-requires-clause-pass : goal.publish-requires-clause-pass
publish-requires-clause-pass g c =
    let own = own_pass padded_value c.self.inside.padded.items c.args.self.now c.loop-place.publishers-inside.passes.items c.loop-place.place c.index.result.now c.deref.result.now c.index_mut.result.now
    c.self.view_is c.self.invariant c.loop-place-test.true c.loop-place.invariant.publish c.index.ensures c.deref.ensures c.index_mut.ensures.value in
    (own.of_board, own.may)

pub loop-place-preserved : goal.loop-place-preserved
loop-place-preserved g c =
    one_done (λ k. IsPublished (usage_at k c.args.volume.now)) c.args.self.now c.args.publishers.now c.loop-place.publishers-inside.passes.items c.loop-place.place c.index_mut.result.now c.publish.new.pass
    c.loop-place-test.true c.loop-place.invariant c.index_mut.ensures.value (ap (λ s. s.board) c.publish.ensures) (ap (λ s. s.publishes) c.publish.ensures) (subst (λ u. IsPublished u c.index_mut.result.now c.publish.new.pass) c.usage_at-usage.ensures.is (ap (λ s. s.seen) c.publish.ensures))

pub returns-clause-shown : goal.returns-clause-shown
returns-clause-shown g c = record {
  publish = c.loop-place.invariant.publish;
  last = λ k d low. published_ends (usage_at k c.args.volume.now) (get_or c.args.publishers.now k d) (get_or c.loop-place.publishers-inside.passes.items k d) (c.loop-place.invariant.done k d (omega (arith, low)));
}

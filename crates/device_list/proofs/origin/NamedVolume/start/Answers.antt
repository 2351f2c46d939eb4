use Rattle.layers.specs.Stack.{stack_contents, stack_layers}
use Rattle.std.proofs.Common.{◌≤◌, refl, ◌∙◌, arith}
use Rattle.device_list.proofs.Events.{behind, started, not_started}
use Rattle.device_list.proofs.Flies.{start_flies}
use Rattle.device_list.proofs.Merges.{merge_is, still_begun}
use Rattle.device_list.proofs.Filled.{asked_first}
use Rattle.device_list.proofs.origin.NamedVolume.start.Goals as goal

pub returns-clause-flies : goal.returns-clause-flies
returns-clause-flies c =
    start_flies stack_contents stack_layers _ _ _ c.start.result c.start.ensures.does.ok

pub returns-clause-started : goal.returns-clause-started
returns-clause-started c =
    let requests = c.self.invariant.requests in
    let more = c.in-Ok.ensures.more.0 in
    let some = c.requires.some in
    let taken = c.start.ensures.seen.requests in
    let fewer : c.start.new.self.rested.requests ≤ c.ask.new.asked = omega (arith, requests, more, some, taken) in
    rw (← c.self.view_is)
    (started c.self.inside.volume.rested c.start.new.self.rested _ _ (behind c.self.inside.volume.rested _ c.start.ensures.whole.0 refl (merge_is _ c.self.inside.volume.rested c.self.invariant.begun) refl refl c.self.invariant.requests) (behind c.start.new.self.rested _ c.start.ensures.whole.1 refl (merge_is _ c.start.new.self.rested (c.self.invariant.begun ∙ still_begun c.self.inside.volume.rested c.start.new.self.rested c.start.ensures.seen.kept.merging)) refl refl fewer) c.in-Ok.asks.0 c.in-Ok.asks.1 _ (c.in-Ok.ensures.ok _ refl refl) c.args.op c.start.result c.start.ensures.does.ok)

pub returns-clause-refused : goal.returns-clause-refused
returns-clause-refused c =
    let requests = c.self.invariant.requests in
    let more = c.in-Ok.ensures.more.0 in
    let some = c.requires.some in
    let taken = c.start.ensures.seen.requests in
    let fewer : c.start.new.self.rested.requests ≤ c.ask.new.asked = omega (arith, requests, more, some, taken) in
    rw (← c.self.view_is)
    (not_started c.self.inside.volume.rested c.start.new.self.rested _ _ (behind c.self.inside.volume.rested _ c.start.ensures.whole.0 refl (merge_is _ c.self.inside.volume.rested c.self.invariant.begun) refl refl c.self.invariant.requests) (behind c.start.new.self.rested _ c.start.ensures.whole.1 refl (merge_is _ c.start.new.self.rested (c.self.invariant.begun ∙ still_begun c.self.inside.volume.rested c.start.new.self.rested c.start.ensures.seen.kept.merging)) refl refl fewer) c.in-Ok.asks.0 c.in-Ok.asks.1 _ (c.in-Ok.ensures.ok _ refl refl) c.args.op c.start.result c.start.ensures.refused)

pub returns-clause-full : goal.returns-clause-full
returns-clause-full c =
    let was = c.self.inside.volume in
    let requests = c.self.invariant.requests in
    let more = c.in-Ok.ensures.more.0 in
    let fewer : was.rested.requests ≤ c.ask.new.asked = omega (arith, requests, more) in
    asked_first c.start.result was.taken was.rested.requests was.rested.attached c.ask.new.asked c.start.new.self.rested.attached c.look_at_places.ensures fewer c.start.ensures.seen.kept.attached c.start.ensures.places.full

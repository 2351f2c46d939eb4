use Rattle.std.proofs.Common.{◌≤◌, refl, sym, ◌∙◌, arith}
use Rattle.chunk.specs.Pieces.{span_of}
use Rattle.device_list.proofs.Events.{behind, flush_rested, flush_served}
use Rattle.device_list.proofs.Serves.{flush_refused, flush_denied, flush_does}
use Rattle.device_list.proofs.Merges.{goes_on, inside_is, merge_is, still_begun}
use Rattle.device_list.proofs.Filled.{asked_last}
use Rattle.device_list.proofs.Holds.{goes_held}
use Rattle.device_list.proofs.origin.NamedVolume.flush.Goals as goal

pub invariant_of-self-then-is_quiet : goal.invariant_of-self-then-is_quiet
invariant_of-self-then-is_quiet c =
    let requests = c.self.invariant.requests in
    let more = c.in-Ok.ensures.more.0 in
    let taken = c.flush-did.ensures.requests in
    goes_held _ _ c.self.inside.volume.rested c.flush-did.new.self.rested _ _ _ c.self.invariant c.flush-did.ensures.kept (omega (arith, requests, more, taken))

pub invariant_of-self-2 : goal.invariant_of-self-2
invariant_of-self-2 c =
    let requests = c.self.invariant.requests in
    let more = c.in-Ok.ensures.more.0 in
    let taken = c.flush_among-did.ensures.requests in
    goes_held _ _ c.self.inside.volume.rested c.flush_among-did.new.self.rested _ _ _ c.self.invariant c.flush_among-did.ensures.kept (omega (arith, requests, more, taken))

pub returns-in-Err-clause-done : goal.returns-in-Err-clause-done
returns-in-Err-clause-done c =
    rw (← c.self.view_is) (λ sound quiet.
    flush_refused c.args.role _ _ c.in-Err.refusal (c.in-Err.ensures.err _ refl refl) (rw c.in-Err.ensures.same refl))

pub returns-then-is_quiet-clause-done : goal.returns-then-is_quiet-clause-done
returns-then-is_quiet-clause-done c =
    rw (← c.self.view_is) (λ sound quiet.
    flush_does c.args.role _ _ c.in-Ok.asks.0 (span_of c.in-Ok.asks.1) c.self.inside.volume.rested c.flush-did.new.self.rested (c.in-Ok.ensures.ok _ refl refl) (inside_is _ c.self.inside.volume.rested c.self.invariant.begun) (rw (goes_on _ c.self.inside.volume.rested c.flush-did.new.self.rested c.self.invariant.begun (c.self.invariant.begun ∙ still_begun c.self.inside.volume.rested c.flush-did.new.self.rested c.flush-did.ensures.kept.merging)) (rw c.flush-did.ensures.kept.attached (rw c.in-Ok.ensures.more.0 (rw c.flush-did.ensures.quiet (rw (sym c.is_quiet.ensures.value ∙ c.if-is_quiet.true) refl)))))
    (c.is_quiet.ensures.rest c.if-is_quiet.true (c.self.invariant.loud sound)) c.in-Ok.ensures.there c.flush-did.result c.flush-did.ensures.done c.flush-did.ensures.refused)

pub returns-clause-among : goal.returns-clause-among
returns-clause-among c =
    let requests = c.self.invariant.requests in
    let more = c.in-Ok.ensures.more.0 in
    let taken = c.flush_among-did.ensures.requests in
    let fewer : c.flush_among-did.new.self.rested.requests ≤ c.ask.new.asked = omega (arith, requests, more, taken) in
    rw (← c.self.view_is) (λ busy.
    flush_served c.self.inside.volume.rested c.flush_among-did.new.self.rested _ _ (behind c.self.inside.volume.rested _ c.flush_among-did.ensures.whole.0 refl (merge_is _ c.self.inside.volume.rested c.self.invariant.begun) refl refl c.self.invariant.requests) (behind c.flush_among-did.new.self.rested _ c.flush_among-did.ensures.whole.1 refl (merge_is _ c.flush_among-did.new.self.rested (c.self.invariant.begun ∙ still_begun c.self.inside.volume.rested c.flush_among-did.new.self.rested c.flush_among-did.ensures.kept.merging)) refl refl fewer) c.in-Ok.asks.0 c.in-Ok.asks.1 _ (c.in-Ok.ensures.ok _ refl refl)
    c.flush_among-did.ensures.whole.0 c.flush_among-did.ensures.whole.1 c.args.ended.now.items c.flush_among-did.new.ended.items c.flush_among-did.result c.flush_among-did.ensures.flushed c.flush_among-did.ensures.refused)

pub returns-then-is_quiet-clause-denied : goal.returns-then-is_quiet-clause-denied
returns-then-is_quiet-clause-denied c =
    rw (← c.self.view_is) (λ quiet. flush_denied c.in-Ok.asks.0 c.self.inside.volume.rested c.flush-did.new.self.rested c.in-Ok.ensures.there _ c.flush-did.result c.flush-did.ensures.refused)

pub returns-then-is_quiet-clause-at_rest : goal.returns-then-is_quiet-clause-at_rest
returns-then-is_quiet-clause-at_rest c =
    let requests = c.self.invariant.requests in
    let more = c.in-Ok.ensures.more.0 in
    let taken = c.flush-did.ensures.requests in
    let fewer : c.flush-did.new.self.rested.requests ≤ c.ask.new.asked = omega (arith, requests, more, taken) in
    rw (← c.self.view_is) (λ quiet.
    flush_rested c.self.inside.volume.rested c.flush-did.new.self.rested _ _ (behind c.self.inside.volume.rested _ c.flush-did.ensures.whole.0 refl (merge_is _ c.self.inside.volume.rested c.self.invariant.begun) refl refl c.self.invariant.requests) (behind c.flush-did.new.self.rested _ c.flush-did.ensures.whole.1 refl (merge_is _ c.flush-did.new.self.rested (c.self.invariant.begun ∙ still_begun c.self.inside.volume.rested c.flush-did.new.self.rested c.flush-did.ensures.kept.merging)) refl refl fewer) c.in-Ok.asks.0 c.in-Ok.asks.1 _ (c.in-Ok.ensures.ok _ refl refl)
    c.flush-did.result c.flush-did.ensures.answered (c.flush-did.ensures.undone c.in-Ok.ensures.there) c.flush-did.ensures.closes)

pub returns-then-is_quiet-clause-full : goal.returns-then-is_quiet-clause-full
returns-then-is_quiet-clause-full c =
    let now = c.flush-did.new.self in
    let requests = c.self.invariant.requests in
    let more = c.in-Ok.ensures.more.0 in
    let taken = c.flush-did.ensures.requests in
    let fewer : now.rested.requests ≤ c.ask.new.asked = omega (arith, requests, more, taken) in
    asked_last c.flush-did.result now.taken now.rested.requests now.rested.attached c.ask.new.asked c.look_at_places.ensures fewer c.flush-did.ensures.full

pub returns-clause-full : goal.returns-clause-full
returns-clause-full c =
    let now = c.flush_among-did.new.self in
    let requests = c.self.invariant.requests in
    let more = c.in-Ok.ensures.more.0 in
    let taken = c.flush_among-did.ensures.requests in
    let fewer : now.rested.requests ≤ c.ask.new.asked = omega (arith, requests, more, taken) in
    asked_last c.flush_among-did.result now.taken now.rested.requests now.rested.attached c.ask.new.asked c.look_at_places-2.ensures fewer c.flush_among-did.ensures.full

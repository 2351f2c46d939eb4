use Rattle.std.proofs.Common.{◌≡◌, List, ℕ, refl, sym, ap, ◌∙◌, subst}
use Rattle.std.specs.Prelude.{IfOk}
use Rattle.layers.specs.declared.stack.Stack.{Stack}
use Rattle.plain_machine.specs.declared.event.Event.{Event}
use Rattle.in_flight.specs.declared.flights.Flight.{Flight}
use Rattle.snapshot.specs.Kept.{Kept}
use Rattle.command_semantics.specs.State.{Names}
use Rattle.volume_trace.specs.Trace.{trace_of}
use Rattle.device_list.specs.Backed.{Backed}
use Rattle.device_list.specs.Held.{merging_with}
use Rattle.device_list.specs.Trace.{merge_text}
use Rattle.device_list.proofs.Events.{behind}
use Rattle.device_list.proofs.Merges.{merge_is}
use Rattle.device_list.proofs.Traces.{traced}
use Rattle.device_list.proofs.origin.NamedVolume.trace.Goals as goal

pub returns : goal.returns
returns c =
    let v = c.self.inside.volume.rested.events in
    let names = c.self.inside.snaps.items in
    let origin = c.self.inside.origin in
    let due = c.in_ok-due.due.items in
    let merge : List ℕ = merge_text (merging_with c.self.inside.merging c.self.inside.volume.rested) in
    let told : c.as_slice.result.now ≡ merge = c.as_slice.ensures ∙ c.in_ok-merge.ensures ∙ sym (ap (λ (w : Backed). merge_text w.shown.merging) c.self.view_is) in
    let seen : trace_of origin c.as_slice-names.result.now c.snaps-snaps.result.now c.flights.result.now c.as_slice.result.now c.deref.result.now ≡ trace_of origin names v.snaps v.flights merge due =
    ap (λ (ns : List Names). trace_of origin ns c.snaps-snaps.result.now c.flights.result.now c.as_slice.result.now c.deref.result.now) c.as_slice-names.ensures.value
    ∙ ap (λ (ss : List (Kept Stack)). trace_of origin names ss c.flights.result.now c.as_slice.result.now c.deref.result.now) c.snaps-snaps.ensures.is
    ∙ ap (λ (fs : List Flight). trace_of origin names v.snaps fs c.as_slice.result.now c.deref.result.now) c.flights.ensures.is
    ∙ ap (λ (bs : List ℕ). trace_of origin names v.snaps v.flights bs c.deref.result.now) told
    ∙ ap (λ (es : List Event). trace_of origin names v.snaps v.flights merge es) c.deref.ensures.value in
    rw (← c.self.view_is)
    (traced v _ due (behind c.self.inside.volume.rested _ c.snaps-snaps.ensures.whole refl (merge_is _ c.self.inside.volume.rested c.self.invariant.begun) refl refl c.self.invariant.requests) c.in_ok-due.ensures.all c.trace_line.result
    (subst (λ (t : List ℕ). IfOk c.trace_line.result (λ text. text ≡ t)) seen c.trace_line.ensures))

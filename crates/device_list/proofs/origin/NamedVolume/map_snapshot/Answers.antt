use Rattle.std.proofs.Common.{◌≡◌, ap, ◌∙◌, refl, arith}
use Rattle.layers.specs.declared.stack.Stack.{Stack}
use Rattle.whole_commands.specs.Devices.{sectors_of}
use Rattle.command_semantics.specs.Stacks.{device_of}
use Rattle.device_list.proofs.Events.{behind}
use Rattle.device_list.proofs.Mapped.{kept_told, loud_kept, stored_told}
use Rattle.device_list.proofs.Merges.{merge_is}
use Rattle.device_list.proofs.origin.NamedVolume.map_snapshot.Goals as goal

pub returns-clause-done : goal.returns-clause-done
returns-clause-done c =
    let rested = c.self.inside.volume.rested in
    let size : c.sectors_of.result ≡ sectors_of (device_of rested.origin) = c.sectors_of.ensures ∙ ap (λ (s : Stack). sectors_of (device_of s)) c.origin.ensures in
    let lt = rw (← c.self.view_is) at c.requires in
    let many = c.self.invariant.many in
    let whole = c.snap_at-snap.ensures.whole in
    rw (← c.self.view_is) (λ sound.
    stored_told rested whole c.args.k (omega (arith, lt, many)) c.snap_at-snap.result.now c.snap_at-snap.ensures.is c.map_of.result c.sectors_of.result _ refl size
    (c.look_at_store.ensures.in_step.pairs (loud_kept rested whole c.args.k (omega (arith, lt, many)) c.snap_at-snap.result.now c.snap_at-snap.ensures.is (c.self.invariant.loud sound))) c.map_of.ensures
    )

pub returns-clause-held : goal.returns-clause-held
returns-clause-held c =
    let rested = c.self.inside.volume.rested in
    let size : c.sectors_of.result ≡ sectors_of (device_of rested.origin) = c.sectors_of.ensures ∙ ap (λ (s : Stack). sectors_of (device_of s)) c.origin.ensures in
    let lt = rw (← c.self.view_is) at c.requires in
    let many = c.self.invariant.many in
    let whole = c.snap_at-snap.ensures.whole in
    rw (← c.self.view_is) (
      rested.events,
      behind rested _ whole refl (merge_is _ rested c.self.invariant.begun) refl refl c.self.invariant.requests,
      kept_told rested whole c.args.k (omega (arith, lt, many)) c.snap_at-snap.result.now c.snap_at-snap.ensures.is c.map_of.result c.sectors_of.result (device_of rested.origin) size c.map_of.ensures,
    )

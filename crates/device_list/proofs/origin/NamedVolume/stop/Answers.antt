-- A volume is stopped.
use Rattle.std.proofs.Common.{◌∷◌, sym, ap, ◌∙◌}
use Rattle.volume.specs.Asking.{merging_number}
use Rattle.volume.specs.Stopped.{devices_of}
use Rattle.device_list.specs.Backed.{Backed}
use Rattle.device_list.specs.Stopping.{earlier_than, freed_by, names_with}
use Rattle.device_list.proofs.Stops.{freed_count, stopped_is, stopped_count, stopped_loud}
use Rattle.device_list.proofs.origin.NamedVolume.stop.Goals as goal

pub invariant_of-result : goal.invariant_of-result
invariant_of-result c = stopped_count c.earlier-before.result c.self.inside.snaps.items c.self.inside.merging c.self.inside.volume.rested c.stop.result c.stop.ensures.whole c.self.invariant.many c.self.invariant.begun c.stop.ensures.devices

pub returns-clause-left : goal.returns-clause-left
returns-clause-left c =
    let names = c.self.inside.snaps.items in
    let merging = c.self.inside.merging in
    let v = c.self.inside.volume.rested in
    let is = c.self.view_is in
    ap (λ ds. freed_by (c.self.inside.under.items ∷ names_with c.earlier-before.result merging names) ds) c.stop.ensures.devices
    ∙ ap (λ k. freed_by (c.self.inside.under.items ∷ names_with k merging names) (devices_of v.events)) c.earlier-before.ensures
    ∙ ap (λ under. freed_by (under ∷ names_with (earlier_than (merging_number v.events.merge) v.snaps) merging names) (devices_of v.events)) (ap (λ (w : Backed). w.shown.under) is)
    ∙ stopped_is c.args.self.shown names merging v c.stop.ensures.whole c.self.invariant.many c.self.invariant.begun (sym (ap (λ (w : Backed). w.shown.snaps) is)) (sym (ap (λ (w : Backed). w.shown.merging) is)) (sym (ap (λ (w : Backed). w.shown.state) is))

pub returns-clause-sound : goal.returns-clause-sound
returns-clause-sound c = λ sound. stopped_loud (c.self.inside.under.items ∷ names_with c.earlier-before.result c.self.inside.merging c.self.inside.snaps.items) c.self.inside.volume.rested c.stop.result c.stop.ensures.whole c.stop.ensures.devices (c.self.invariant.loud (ap (λ (v : Backed). v.shown.sound) c.self.view_is ∙ sound))

pub returns-clause-devices : goal.returns-clause-devices
returns-clause-devices c = c.stop.ensures.devices ∙ ap (λ (w : Backed). devices_of w.events) c.self.view_is

pub returns-clause-many : goal.returns-clause-many
returns-clause-many c = freed_count (c.self.inside.under.items ∷ names_with c.earlier-before.result c.self.inside.merging c.self.inside.snaps.items) c.stop.result (invariant_of-result c)

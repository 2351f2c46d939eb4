-- The event that is due first is due, and what a stop within an event leaves is by what the looks say before and after it.
use Rattle.std.proofs.Common.{◌∙◌, sym, ap}
use Rattle.volume.specs.Volumed.{Volumed, is_due_of, next_of}
use Rattle.volume.proofs.DueBeside.{first_due}
use Rattle.volume.proofs.LastBoth.{volume_stops}
use Rattle.volume.proofs.Stepped.{both_of, stepped_by}
use Rattle.volume.proofs.volume.Volume.step.Goals as goal

pub returns : goal.returns
returns g c =
    let v : Volumed g.row.B.Denot = record { origin = c.self.inside.origin; snaps = c.self.inside.snaps.items; merge = c.self.inside.merge; flights = c.self.inside.flights.items; requests = c.self.inside.requests; copies = c.self.inside.copies; attached = c.self.inside.attached } in
    let by = c.step_by_kind-result in
    let does = stepped_by g.B.Block.may_hold g.B.Block.contents g.B.Block.layers g.B.Block.size g.B.Block.fault_count g.B.Block.done_count c.args.event by.result c.args.self.now by.new.self by.ensures.due
    (λ next. ap (λ (x : Volumed _). is_due_of g.B.Block.contents g.B.Block.layers x c.args.event) (sym c.self.view_is) ∙ first_due g.B.Block.contents g.B.Block.layers v c.args.event c.self.invariant.whole.waits.numbers (ap (λ (x : Volumed _). next_of g.B.Block.contents g.B.Block.layers x) c.self.view_is ∙ next))
    by.ensures.step by.ensures.exact by.ensures.removes by.ensures.closes
    (both_of by.result by.ensures.stops_snaps by.ensures.stops_origin (λ snaps origin loud. volume_stops g.B.Block.may_hold g.B.Block.contents g.B.Block.layers g.B.Block.size g.met.B.Block.whole g.met.B.Block.holds_now _ c.args.self.now by.new.self loud snaps origin))
    (both_of by.result by.ensures.stops_snaps by.ensures.stops_origin (λ snaps origin. record { snaps = snaps; origin = origin }))
    c.look_at_merge.ensures.finished by.ensures.same in
    record { does = does }

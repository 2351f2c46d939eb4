-- The store that was found is asked.
use Rattle.std.proofs.Common.{◌≡◌, ◌<◌, true, false, refl, sym, ◌∙◌, ap, length, arith}
use Rattle.std.proofs.lemmas.Bool.{false≢true}
use Rattle.plain_machine.specs.declared.event.Event.TheVariants.{WriteInvalid}
use Rattle.snapshot_list.specs.Finding.{is_trying}
use Rattle.volume.specs.Volumed.{Volumed}
use Rattle.volume.proofs.AsksEvents.{element, mark_asks}
use Rattle.volume.proofs.DueBeside.{own_due}
use Rattle.volume.proofs.DueEvents.{due_by, snap_found}
use Rattle.volume.proofs.volume.Volume.asked_by_mark.Goals as goal

pub returns-in-Some : goal.returns-in-Some
returns-in-Some g c =
    let v : Volumed g.row.B.Denot = record { origin = c.self.inside.origin; snaps = c.self.inside.snaps.items; merge = c.self.inside.merge; flights = c.self.inside.flights.items; requests = c.self.inside.requests; copies = c.self.inside.copies; attached = c.self.inside.attached } in
    let k = c.in-Some.place in
    let within : k < length v.snaps = omega (arith, c.in-Some.ensures.found.0, ap length c.deref.ensures.value) in
    let it = element v.snaps k within in
    let found : is_trying c.args.number it.0 ≡ true = snap_found (is_trying c.args.number) k v.snaps c.deref.result.now it.0 c.deref.ensures.value it.1 (c.in-Some.ensures.found.1 it.0) in
    rw (c.some_write.ensures, ← c.self.view_is) (λ due. mark_asks g.B.Block.may_hold g.B.Block.contents g.B.Block.layers g.B.Block.size g.B.Block.fault_count g.B.Block.done_count g.met.B.Block.whole v c.self.invariant c.args.number k it.0 within it.1 found)

pub returns-in-None : goal.returns-in-None
returns-in-None g c =
    let v : Volumed g.row.B.Denot = record { origin = c.self.inside.origin; snaps = c.self.inside.snaps.items; merge = c.self.inside.merge; flights = c.self.inside.flights.items; requests = c.self.inside.requests; copies = c.self.inside.copies; attached = c.self.inside.attached } in
    rw (← c.self.view_is) (λ due. absurd (false≢true (
    sym (own_due g.B.Block.contents g.B.Block.layers v (WriteInvalid c.args.number) (λ xs d. refl) ∙ due_by g.B.Block.contents g.B.Block.layers _ (is_trying c.args.number) v.snaps c.deref.result.now false c.deref.ensures.value (λ s. refl) c.in-None.ensures.none) ∙ due)))

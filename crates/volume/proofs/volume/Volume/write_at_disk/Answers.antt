-- A write is answered at the origin disk.
use Rattle.std.proofs.Common.{◌≡◌, ◌*◌, ◌+◌, ◌<◌, ◌≤◌, ◌∙◌, [], None, true, ap, subst, sym}
use Rattle.sector.specs.declared.range.Range.{Range}
use Rattle.in_flight.specs.Due.{is_routed}
use Rattle.in_flight.specs.declared.flights.Flight.{Flight}
use Rattle.volume.specs.Submitting.{entered_of}
use Rattle.volume.specs.Volumed.{Volumed}
use Rattle.volume.specs.Whole.{IsWhole}
use Rattle.volume.proofs.AtOnce.{asked_alone, unwritten_at_once, written_at_once}
use Rattle.volume.proofs.volume.Volume.write_at_disk.Goals.{in-Ok, in-Err}
use Rattle.volume.proofs.volume.Volume.write_at_disk.Goals as goal

pub write-requires-clause-some : goal.write-requires-clause-some
write-requires-clause-some g c =
    let f : Flight = c.requires.next.0 in
    let n = c.requires.next.1 in
    let v : Volumed g.row.B.Denot = record { origin = c.self.inside.origin; snaps = c.self.inside.snaps.items; merge = c.self.inside.merge; flights = c.self.inside.flights.items; requests = c.self.inside.requests; copies = c.self.inside.copies; attached = c.self.inside.attached } in
    let h : IsWhole g.B.Block.contents g.B.Block.layers g.B.Block.size (entered_of f v) = subst (λ (x : Volumed g.row.B.Denot). IsWhole g.B.Block.contents g.B.Block.layers g.B.Block.size (entered_of f x)) (sym c.self.view_is) n.whole in
    let none : v.flights ≡ [] = ap (λ (x : Volumed g.row.B.Denot). x.flights) c.self.view_is ∙ c.requires.still in
    let alone : v.merge ≡ None = ap (λ (x : Volumed g.row.B.Denot). x.merge) c.self.view_is ∙ c.requires.alone in
    let goes : is_routed f.route ≡ true = ap is_routed n.route in
    subst (λ (r : Range). 0 < r.count) n.range_is (asked_alone g.B.Block.may_hold g.B.Block.contents g.B.Block.layers g.B.Block.size g.B.Block.fault_count g.B.Block.done_count g.met.B.Block.whole g.met.B.Block.holds_now v f none alone h c.self.invariant.lasting goes).some

pub write-requires-clause-inside : goal.write-requires-clause-inside
write-requires-clause-inside g c =
    let f : Flight = c.requires.next.0 in
    let n = c.requires.next.1 in
    let v : Volumed g.row.B.Denot = record { origin = c.self.inside.origin; snaps = c.self.inside.snaps.items; merge = c.self.inside.merge; flights = c.self.inside.flights.items; requests = c.self.inside.requests; copies = c.self.inside.copies; attached = c.self.inside.attached } in
    let h : IsWhole g.B.Block.contents g.B.Block.layers g.B.Block.size (entered_of f v) = subst (λ (x : Volumed g.row.B.Denot). IsWhole g.B.Block.contents g.B.Block.layers g.B.Block.size (entered_of f x)) (sym c.self.view_is) n.whole in
    let none : v.flights ≡ [] = ap (λ (x : Volumed g.row.B.Denot). x.flights) c.self.view_is ∙ c.requires.still in
    let alone : v.merge ≡ None = ap (λ (x : Volumed g.row.B.Denot). x.merge) c.self.view_is ∙ c.requires.alone in
    let goes : is_routed f.route ≡ true = ap is_routed n.route in
    subst (λ (r : Range). r.first + r.count ≤ g.B.Block.size v.origin) n.range_is (asked_alone g.B.Block.may_hold g.B.Block.contents g.B.Block.layers g.B.Block.size g.B.Block.fault_count g.B.Block.done_count g.met.B.Block.whole g.met.B.Block.holds_now v f none alone h c.self.invariant.lasting goes).inside

pub write-requires-clause-room : goal.write-requires-clause-room
write-requires-clause-room g c =
    let f : Flight = c.requires.next.0 in
    let n = c.requires.next.1 in
    let v : Volumed g.row.B.Denot = record { origin = c.self.inside.origin; snaps = c.self.inside.snaps.items; merge = c.self.inside.merge; flights = c.self.inside.flights.items; requests = c.self.inside.requests; copies = c.self.inside.copies; attached = c.self.inside.attached } in
    let h : IsWhole g.B.Block.contents g.B.Block.layers g.B.Block.size (entered_of f v) = subst (λ (x : Volumed g.row.B.Denot). IsWhole g.B.Block.contents g.B.Block.layers g.B.Block.size (entered_of f x)) (sym c.self.view_is) n.whole in
    let none : v.flights ≡ [] = ap (λ (x : Volumed g.row.B.Denot). x.flights) c.self.view_is ∙ c.requires.still in
    let alone : v.merge ≡ None = ap (λ (x : Volumed g.row.B.Denot). x.merge) c.self.view_is ∙ c.requires.alone in
    let goes : is_routed f.route ≡ true = ap is_routed n.route in
    (asked_alone g.B.Block.may_hold g.B.Block.contents g.B.Block.layers g.B.Block.size g.B.Block.fault_count g.B.Block.done_count g.met.B.Block.whole g.met.B.Block.holds_now v f none alone h c.self.invariant.lasting goes).bytes c.args.bytes.now n.op ∙ ap (λ (r : Range). 512 * r.count) n.range_is

pub invariant_of-self : goal.invariant_of-self
invariant_of-self g c =
    let f : Flight = c.requires.next.0 in
    let n = c.requires.next.1 in
    let v : Volumed g.row.B.Denot = record { origin = c.self.inside.origin; snaps = c.self.inside.snaps.items; merge = c.self.inside.merge; flights = c.self.inside.flights.items; requests = c.self.inside.requests; copies = c.self.inside.copies; attached = c.self.inside.attached } in
    let h : IsWhole g.B.Block.contents g.B.Block.layers g.B.Block.size (entered_of f v) = subst (λ (x : Volumed g.row.B.Denot). IsWhole g.B.Block.contents g.B.Block.layers g.B.Block.size (entered_of f x)) (sym c.self.view_is) n.whole in
    let none : v.flights ≡ [] = ap (λ (x : Volumed g.row.B.Denot). x.flights) c.self.view_is ∙ c.requires.still in
    let alone : v.merge ≡ None = ap (λ (x : Volumed g.row.B.Denot). x.merge) c.self.view_is ∙ c.requires.alone in
    let goes : is_routed f.route ≡ true = ap is_routed n.route in
    let len = g.met.B.Block.whole c.write.new.self ∙ ap (λ k. 512 * k) c.write.ensures.size ∙ sym (g.met.B.Block.whole v.origin) in
    elim c.match-write.branch [
      | in-Ok w ↦ (written_at_once g.B.Block.may_hold g.B.Block.contents g.B.Block.layers g.B.Block.size g.B.Block.fault_count g.B.Block.done_count g.met.B.Block.whole g.met.B.Block.holds_now v f none alone h c.self.invariant.lasting goes n.route c.write.new.self c.write.ensures.size c.write.ensures.loud c.write.ensures.done c.args.bytes.now n.op c.args.range n.range_is
          (record { len = len; rest = c.write.ensures.rest }) w.in-Ok.ensures.written w.in-Ok.ensures.faults c.write.ensures.stop (record { answer = w.in-Ok.ensures.answer; layers = c.write.ensures.layers; loud = c.write.ensures.loud; faulty = w.in-Ok.ensures.faults; counted = c.write.ensures.done })).kept
      | in-Err w ↦ (unwritten_at_once g.B.Block.may_hold g.B.Block.contents g.B.Block.layers g.B.Block.size g.B.Block.fault_count g.B.Block.done_count g.met.B.Block.whole g.met.B.Block.holds_now v f none alone h c.self.invariant.lasting goes n.route c.write.new.self c.write.ensures.size c.write.ensures.loud c.write.ensures.done c.args.bytes.now n.op c.args.range n.range_is
          w.in-Err.ensures.err w.in-Err.ensures.faults w.in-Err.ensures.stop_err (record { answer = w.in-Err.ensures.answer; layers = c.write.ensures.layers; loud = c.write.ensures.loud; faulty = w.in-Err.ensures.faults; counted = c.write.ensures.done })).kept
    ]

pub returns-clause-does : goal.returns-clause-does
returns-clause-does g c f n =
    let v : Volumed g.row.B.Denot = record { origin = c.self.inside.origin; snaps = c.self.inside.snaps.items; merge = c.self.inside.merge; flights = c.self.inside.flights.items; requests = c.self.inside.requests; copies = c.self.inside.copies; attached = c.self.inside.attached } in
    let h : IsWhole g.B.Block.contents g.B.Block.layers g.B.Block.size (entered_of f v) = subst (λ (x : Volumed g.row.B.Denot). IsWhole g.B.Block.contents g.B.Block.layers g.B.Block.size (entered_of f x)) (sym c.self.view_is) n.whole in
    let none : v.flights ≡ [] = ap (λ (x : Volumed g.row.B.Denot). x.flights) c.self.view_is ∙ c.requires.still in
    let alone : v.merge ≡ None = ap (λ (x : Volumed g.row.B.Denot). x.merge) c.self.view_is ∙ c.requires.alone in
    let goes : is_routed f.route ≡ true = ap is_routed n.route in
    let len = g.met.B.Block.whole c.write.new.self ∙ ap (λ k. 512 * k) c.write.ensures.size ∙ sym (g.met.B.Block.whole v.origin) in
    elim c.match-write.branch [
      | in-Ok w ↦ rw w.result-is (rw (← c.self.view_is) (written_at_once g.B.Block.may_hold g.B.Block.contents g.B.Block.layers g.B.Block.size g.B.Block.fault_count g.B.Block.done_count g.met.B.Block.whole g.met.B.Block.holds_now v f none alone h c.self.invariant.lasting goes n.route c.write.new.self c.write.ensures.size c.write.ensures.loud c.write.ensures.done c.args.bytes.now n.op c.args.range n.range_is
          (record { len = len; rest = c.write.ensures.rest }) w.in-Ok.ensures.written w.in-Ok.ensures.faults c.write.ensures.stop (record { answer = w.in-Ok.ensures.answer; layers = c.write.ensures.layers; loud = c.write.ensures.loud; faulty = w.in-Ok.ensures.faults; counted = c.write.ensures.done })).does)
      | in-Err w ↦ rw w.result-is (rw (← c.self.view_is) (unwritten_at_once g.B.Block.may_hold g.B.Block.contents g.B.Block.layers g.B.Block.size g.B.Block.fault_count g.B.Block.done_count g.met.B.Block.whole g.met.B.Block.holds_now v f none alone h c.self.invariant.lasting goes n.route c.write.new.self c.write.ensures.size c.write.ensures.loud c.write.ensures.done c.args.bytes.now n.op c.args.range n.range_is
          w.in-Err.ensures.err w.in-Err.ensures.faults w.in-Err.ensures.stop_err (record { answer = w.in-Err.ensures.answer; layers = c.write.ensures.layers; loud = c.write.ensures.loud; faulty = w.in-Err.ensures.faults; counted = c.write.ensures.done })).does)
    ]

-- Beside the merge nothing is due, and of the merge one event at most.
use Rattle.std.proofs.Common.{◌≡◌, [], arith, sym, true, vec_len, ◌∙◌}
use Rattle.std.proofs.lemmas.Bool.{eqb-true}
use Rattle.std.proofs.lemmas.List.{nil_from_length}
use Rattle.volume.specs.Volumed.{Volumed}
use Rattle.volume.proofs.OnlyMerging.{only_next, only_due}
use Rattle.volume.proofs.volume.Volume.is_only_merging.Goals as goal

pub returns-then-is_empty-clause-event : goal.returns-then-is_empty-clause-event
returns-then-is_empty-clause-event g c = λ both.
    let v : Volumed g.row.B.Denot = record { origin = c.self.inside.origin; snaps = c.self.inside.snaps.items; merge = c.self.inside.merge; flights = c.self.inside.flights.items; requests = c.self.inside.requests; copies = c.self.inside.copies; attached = c.self.inside.attached } in
    let no_snaps : vec_len c.self.inside.snaps ≡ 0 = eqb-true (vec_len c.self.inside.snaps) 0 (sym c.is_empty.ensures ∙ c.if-is_empty.true) in
    let alone : v.snaps ≡ [] = nil_from_length c.self.inside.snaps.items (omega (arith, no_snaps)) in
    let no_flights : vec_len c.self.inside.flights ≡ 0 = eqb-true (vec_len c.self.inside.flights) 0 (sym c.is_empty-then-is_empty.ensures ∙ both) in
    let none : v.flights ≡ [] = nil_from_length c.self.inside.flights.items (omega (arith, no_flights)) in
    rw (← c.self.view_is) (only_next g.B.Block.contents g.B.Block.layers v c.in-Some.merge c.in-Some.is (c.has_group.ensures.looks true) alone none)

pub returns-then-is_empty-clause-machine : goal.returns-then-is_empty-clause-machine
returns-then-is_empty-clause-machine g c = λ both.
    let v : Volumed g.row.B.Denot = record { origin = c.self.inside.origin; snaps = c.self.inside.snaps.items; merge = c.self.inside.merge; flights = c.self.inside.flights.items; requests = c.self.inside.requests; copies = c.self.inside.copies; attached = c.self.inside.attached } in
    let no_snaps : vec_len c.self.inside.snaps ≡ 0 = eqb-true (vec_len c.self.inside.snaps) 0 (sym c.is_empty.ensures ∙ c.if-is_empty.true) in
    let alone : v.snaps ≡ [] = nil_from_length c.self.inside.snaps.items (omega (arith, no_snaps)) in
    let no_flights : vec_len c.self.inside.flights ≡ 0 = eqb-true (vec_len c.self.inside.flights) 0 (sym c.is_empty-then-is_empty.ensures ∙ both) in
    let none : v.flights ≡ [] = nil_from_length c.self.inside.flights.items (omega (arith, no_flights)) in
    rw (← c.self.view_is) (only_due g.B.Block.contents g.B.Block.layers v c.in-Some.merge c.in-Some.is (c.has_group.ensures.looks true) alone none g.B.Block.size c.self.invariant.whole)

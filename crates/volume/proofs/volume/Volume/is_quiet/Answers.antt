-- Each snapshot's done call says that its store is at rest.
use Rattle.std.proofs.Common.{◌≡◌, [], List, ap, arith, sym, subst, true, false, vec_len, ◌∙◌}
use Rattle.std.specs.List.{All, list_all}
use Rattle.std.proofs.lemmas.Bool.{eqb-true}
use Rattle.std.proofs.lemmas.List.{nil_from_length}
use Rattle.snapshot.specs.Kept.{Kept}
use Rattle.volume.specs.Asking.{IsMergeInStep}
use Rattle.volume.specs.Leaving.{IsStillOn, has_group_in, is_done_of}
use Rattle.volume.specs.Volumed.{Volumed, is_loud_in_all}
use Rattle.volume.proofs.AtRest.{rests, between}
use Rattle.volume.proofs.Calm.{calm}
use Rattle.volume.proofs.Under.{under_way}
use Rattle.volume.proofs.volume.Volume.is_quiet.Goals as goal

pub returns-clause-between : goal.returns-clause-between
returns-clause-between g c = λ quiet loud replied.
    let v : Volumed g.row.B.Denot = record { origin = c.self.inside.origin; snaps = c.self.inside.snaps.items; merge = c.self.inside.merge; flights = c.self.inside.flights.items; requests = c.self.inside.requests; copies = c.self.inside.copies; attached = c.self.inside.attached } in
    let zero : vec_len c.self.inside.flights ≡ 0 = eqb-true (vec_len c.self.inside.flights) 0 (sym c.is_empty.ensures ∙ c.if-not-is_empty.false) in
    let none : v.flights ≡ [] = nil_from_length c.self.inside.flights.items (omega (arith, zero)) in
    let done : list_all is_done_of v.snaps ≡ true = ap (list_all is_done_of) (sym c.as_slice.ensures.value) ∙ sym c.are_done.ensures.value ∙ quiet in
    let still : All (IsStillOn g.B.Block.contents g.B.Block.layers) v.snaps = subst (λ (ss : List (Kept g.row.B.Denot)). All (IsStillOn g.B.Block.contents g.B.Block.layers) ss) c.as_slice.ensures.value (c.are_done.ensures.still quiet) in
    let loud' : is_loud_in_all g.B.Block.layers v ≡ true = ap (is_loud_in_all g.B.Block.layers) c.self.view_is ∙ loud in
    let free : has_group_in v.merge ≡ false = ap (λ (x : Volumed g.row.B.Denot). has_group_in x.merge) c.self.view_is ∙ sym c.has_group.ensures ∙ c.if-has_group.false in
    rw (← c.self.view_is) (between g.B.Block.contents g.B.Block.layers g.B.Block.size v replied c.self.invariant.whole (g.met.B.Block.small v.origin) none done still loud' free)

pub returns-clause-rest : goal.returns-clause-rest
returns-clause-rest g c = λ quiet loud alone replied.
    let v : Volumed g.row.B.Denot = record { origin = c.self.inside.origin; snaps = c.self.inside.snaps.items; merge = c.self.inside.merge; flights = c.self.inside.flights.items; requests = c.self.inside.requests; copies = c.self.inside.copies; attached = c.self.inside.attached } in
    let zero : vec_len c.self.inside.flights ≡ 0 = eqb-true (vec_len c.self.inside.flights) 0 (sym c.is_empty.ensures ∙ c.if-not-is_empty.false) in
    let none : v.flights ≡ [] = nil_from_length c.self.inside.flights.items (omega (arith, zero)) in
    let done : list_all is_done_of v.snaps ≡ true = ap (list_all is_done_of) (sym c.as_slice.ensures.value) ∙ sym c.are_done.ensures.value ∙ quiet in
    let still : All (IsStillOn g.B.Block.contents g.B.Block.layers) v.snaps = subst (λ (ss : List (Kept g.row.B.Denot)). All (IsStillOn g.B.Block.contents g.B.Block.layers) ss) c.as_slice.ensures.value (c.are_done.ensures.still quiet) in
    let loud' : is_loud_in_all g.B.Block.layers v ≡ true = ap (is_loud_in_all g.B.Block.layers) c.self.view_is ∙ loud in
    rw (← c.self.view_is) (rests g.B.Block.contents g.B.Block.layers g.B.Block.size v replied c.self.invariant.whole (g.met.B.Block.small v.origin) none done still loud' (ap (λ (x : Volumed g.row.B.Denot). x.merge) c.self.view_is ∙ alone))

pub returns-clause-calm : goal.returns-clause-calm
returns-clause-calm g c = λ quiet replied.
    let v : Volumed g.row.B.Denot = record { origin = c.self.inside.origin; snaps = c.self.inside.snaps.items; merge = c.self.inside.merge; flights = c.self.inside.flights.items; requests = c.self.inside.requests; copies = c.self.inside.copies; attached = c.self.inside.attached } in
    let zero : vec_len c.self.inside.flights ≡ 0 = eqb-true (vec_len c.self.inside.flights) 0 (sym c.is_empty.ensures ∙ c.if-not-is_empty.false) in
    let none : v.flights ≡ [] = nil_from_length c.self.inside.flights.items (omega (arith, zero)) in
    let done : list_all is_done_of v.snaps ≡ true = ap (list_all is_done_of) (sym c.as_slice.ensures.value) ∙ sym c.are_done.ensures.value ∙ quiet in
    rw (← c.self.view_is) (calm g.B.Block.contents g.B.Block.layers replied v none done)

pub returns-clause-under : goal.returns-clause-under
returns-clause-under g c = λ quiet loud replied.
    let v : Volumed g.row.B.Denot = record { origin = c.self.inside.origin; snaps = c.self.inside.snaps.items; merge = c.self.inside.merge; flights = c.self.inside.flights.items; requests = c.self.inside.requests; copies = c.self.inside.copies; attached = c.self.inside.attached } in
    let zero : vec_len c.self.inside.flights ≡ 0 = eqb-true (vec_len c.self.inside.flights) 0 (sym c.is_empty.ensures ∙ c.if-not-is_empty.false) in
    let none : v.flights ≡ [] = nil_from_length c.self.inside.flights.items (omega (arith, zero)) in
    let done : list_all is_done_of v.snaps ≡ true = ap (list_all is_done_of) (sym c.as_slice.ensures.value) ∙ sym c.are_done.ensures.value ∙ quiet in
    let still : All (IsStillOn g.B.Block.contents g.B.Block.layers) v.snaps = subst (λ (ss : List (Kept g.row.B.Denot)). All (IsStillOn g.B.Block.contents g.B.Block.layers) ss) c.as_slice.ensures.value (c.are_done.ensures.still quiet) in
    let loud' : is_loud_in_all g.B.Block.layers v ≡ true = ap (is_loud_in_all g.B.Block.layers) c.self.view_is ∙ loud in
    let free : has_group_in v.merge ≡ false = ap (λ (x : Volumed g.row.B.Denot). has_group_in x.merge) c.self.view_is ∙ sym c.has_group.ensures ∙ c.if-has_group.false in
    let step : IsMergeInStep g.B.Block.contents g.B.Block.layers g.B.Block.size v.merge = subst (λ (x : Volumed g.row.B.Denot). IsMergeInStep g.B.Block.contents g.B.Block.layers g.B.Block.size x.merge) (sym c.self.view_is) c.look_at_stores.ensures.merge in
    rw (← c.self.view_is) (under_way g.B.Block.contents g.B.Block.layers g.B.Block.size v c.self.invariant.whole loud' replied (between g.B.Block.contents g.B.Block.layers g.B.Block.size v replied c.self.invariant.whole (g.met.B.Block.small v.origin) none done still loud' free) step)

pub returns-then-has_group-clause-numbers : goal.returns-then-has_group-clause-numbers
returns-then-has_group-clause-numbers g c = rw (← c.self.view_is) c.self.invariant.whole.numbers.ascending

pub returns-clause-numbers : goal.returns-clause-numbers
returns-clause-numbers g c = rw (← c.self.view_is) c.self.invariant.whole.numbers.ascending

-- A request of a spoiled snapshot is answered.
use Rattle.std.proofs.Common.{◌≡◌, arith, ◌∙◌, ap, Some, get_or, nat_eq}
use Rattle.std.specs.List.{position}
use Rattle.in_flight.specs.declared.flights.Flight.{Flight}
use Rattle.in_flight.specs.declared.flights.Route.TheVariants.{Refused}
use Rattle.volume.specs.Volumed.{Volumed}
use Rattle.snapshot_list.proofs.Finds.{position_within}
use Rattle.volume.proofs.StoreIssues.{refused_good}
use Rattle.volume.proofs.ExactIssues.{refused_exact}
use Rattle.volume.proofs.LastMoves.{none_moves}
use Rattle.volume.proofs.LastBoth.{beside_both}
use Rattle.plain_machine.specs.declared.event.Event.TheVariants.{Issue}
use Rattle.in_flight.specs.Kinds.{in_flight}
use Rattle.volume.specs.Stopping.{given_by}
use Rattle.std.proofs.Common.{refl}
use Rattle.std.proofs.Common.{map}
use Rattle.volume.proofs.volume.Volume.issue_refused.Goals as goal

pub remove-requires : goal.remove-requires
remove-requires g c =
    let found : position (λ (f : Flight). nat_eq f.number c.args.number) c.self.inside.flights.items ≡ Some c.args.place = ap (λ (x : Volumed _). position (λ (f : Flight). nat_eq f.number c.args.number) x.flights) c.self.view_is ∙ c.requires.found in
    let within = position_within (λ (f : Flight). nat_eq f.number c.args.number) c.self.inside.flights.items c.args.place found in
    omega (arith, within)

pub invariant_of-self : goal.invariant_of-self
invariant_of-self g c = record {
  whole =
      let v = c.self.inside in
      let r = c.remove.result in
      let found : position (λ (f : Flight). nat_eq f.number c.args.number) v.flights.items ≡ Some c.args.place = ap (λ (x : Volumed _). position (λ (f : Flight). nat_eq f.number c.args.number) x.flights) c.self.view_is ∙ c.requires.found in
      let was : r ≡ get_or v.flights.items c.args.place r = c.remove.ensures.value in
      let route : r.route ≡ Refused = ap (λ (x : Flight). x.route) was ∙ ap (λ (x : Volumed _). (get_or x.flights c.args.place r).route) c.self.view_is ∙ c.requires.route r in
      let good = refused_good g.B.Block.contents g.B.Block.layers g.B.Block.size g.B.Block.fault_count g.B.Block.done_count _ c.self.invariant.whole c.args.number c.args.place r found was route in
      rw c.remove.ensures.items good.whole;
  lasting =
      let v = c.self.inside in
      let r = c.remove.result in
      let found : position (λ (f : Flight). nat_eq f.number c.args.number) v.flights.items ≡ Some c.args.place = ap (λ (x : Volumed _). position (λ (f : Flight). nat_eq f.number c.args.number) x.flights) c.self.view_is ∙ c.requires.found in
      let was : r ≡ get_or v.flights.items c.args.place r = c.remove.ensures.value in
      let route : r.route ≡ Refused = ap (λ (x : Flight). x.route) was ∙ ap (λ (x : Volumed _). (get_or x.flights c.args.place r).route) c.self.view_is ∙ c.requires.route r in
      let goes = none_moves g.B.Block.may_hold g.B.Block.contents g.B.Block.layers g.B.Block.size g.met.B.Block.whole g.met.B.Block.holds_now _ c.self.invariant.whole c.self.invariant.lasting.snaps (given_by (Issue c.args.number) (map in_flight v.flights.items)) v.flights.items in
      let both = beside_both g.B.Block.may_hold g.B.Block.contents g.B.Block.layers g.B.Block.size g.met.B.Block.whole g.met.B.Block.holds_now _ c.self.invariant.whole c.self.invariant.lasting (given_by (Issue c.args.number) (map in_flight v.flights.items)) _ goes refl refl in
      record { snaps = both.lasts; merge = both.merge };
}

pub returns-clause-step : goal.returns-clause-step
returns-clause-step g c =
    let v = c.self.inside in
    let r = c.remove.result in
    let found : position (λ (f : Flight). nat_eq f.number c.args.number) v.flights.items ≡ Some c.args.place = ap (λ (x : Volumed _). position (λ (f : Flight). nat_eq f.number c.args.number) x.flights) c.self.view_is ∙ c.requires.found in
    let was : r ≡ get_or v.flights.items c.args.place r = c.remove.ensures.value in
    let route : r.route ≡ Refused = ap (λ (x : Flight). x.route) was ∙ ap (λ (x : Volumed _). (get_or x.flights c.args.place r).route) c.self.view_is ∙ c.requires.route r in
    let good = refused_good g.B.Block.contents g.B.Block.layers g.B.Block.size g.B.Block.fault_count g.B.Block.done_count _ c.self.invariant.whole c.args.number c.args.place r found was route in
    rw (← c.self.view_is, c.remove.ensures.items) good.stepped

pub returns-clause-exact : goal.returns-clause-exact
returns-clause-exact g c =
    let v = c.self.inside in
    let r = c.remove.result in
    let found : position (λ (f : Flight). nat_eq f.number c.args.number) v.flights.items ≡ Some c.args.place = ap (λ (x : Volumed _). position (λ (f : Flight). nat_eq f.number c.args.number) x.flights) c.self.view_is ∙ c.requires.found in
    let was : r ≡ get_or v.flights.items c.args.place r = c.remove.ensures.value in
    let route : r.route ≡ Refused = ap (λ (x : Flight). x.route) was ∙ ap (λ (x : Volumed _). (get_or x.flights c.args.place r).route) c.self.view_is ∙ c.requires.route r in
    rw (← c.self.view_is, c.remove.ensures.items) (refused_exact g.B.Block.contents g.B.Block.layers g.B.Block.size _ c.self.invariant.whole c.args.number c.args.place r found was route)

pub returns-clause-stops_snaps : goal.returns-clause-stops_snaps
returns-clause-stops_snaps g c =
    let v = c.self.inside in
    let r = c.remove.result in
    let found : position (λ (f : Flight). nat_eq f.number c.args.number) v.flights.items ≡ Some c.args.place = ap (λ (x : Volumed _). position (λ (f : Flight). nat_eq f.number c.args.number) x.flights) c.self.view_is ∙ c.requires.found in
    let was : r ≡ get_or v.flights.items c.args.place r = c.remove.ensures.value in
    let route : r.route ≡ Refused = ap (λ (x : Flight). x.route) was ∙ ap (λ (x : Volumed _). (get_or x.flights c.args.place r).route) c.self.view_is ∙ c.requires.route r in
    let goes = none_moves g.B.Block.may_hold g.B.Block.contents g.B.Block.layers g.B.Block.size g.met.B.Block.whole g.met.B.Block.holds_now _ c.self.invariant.whole c.self.invariant.lasting.snaps (given_by (Issue c.args.number) (map in_flight v.flights.items)) v.flights.items in
    let both = beside_both g.B.Block.may_hold g.B.Block.contents g.B.Block.layers g.B.Block.size g.met.B.Block.whole g.met.B.Block.holds_now _ c.self.invariant.whole c.self.invariant.lasting (given_by (Issue c.args.number) (map in_flight v.flights.items)) _ goes refl refl in
    rw (← c.self.view_is) both.stops_snaps

pub returns-clause-stops_origin : goal.returns-clause-stops_origin
returns-clause-stops_origin g c =
    let v = c.self.inside in
    let r = c.remove.result in
    let found : position (λ (f : Flight). nat_eq f.number c.args.number) v.flights.items ≡ Some c.args.place = ap (λ (x : Volumed _). position (λ (f : Flight). nat_eq f.number c.args.number) x.flights) c.self.view_is ∙ c.requires.found in
    let was : r ≡ get_or v.flights.items c.args.place r = c.remove.ensures.value in
    let route : r.route ≡ Refused = ap (λ (x : Flight). x.route) was ∙ ap (λ (x : Volumed _). (get_or x.flights c.args.place r).route) c.self.view_is ∙ c.requires.route r in
    let goes = none_moves g.B.Block.may_hold g.B.Block.contents g.B.Block.layers g.B.Block.size g.met.B.Block.whole g.met.B.Block.holds_now _ c.self.invariant.whole c.self.invariant.lasting.snaps (given_by (Issue c.args.number) (map in_flight v.flights.items)) v.flights.items in
    let both = beside_both g.B.Block.may_hold g.B.Block.contents g.B.Block.layers g.B.Block.size g.met.B.Block.whole g.met.B.Block.holds_now _ c.self.invariant.whole c.self.invariant.lasting (given_by (Issue c.args.number) (map in_flight v.flights.items)) _ goes refl refl in
    rw (← c.self.view_is) both.stops_origin

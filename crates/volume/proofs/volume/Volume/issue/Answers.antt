-- A request is issued by its route.
use Rattle.std.proofs.Common.{◌∙◌, sym, ap, get_or, nat_eq}
use Rattle.std.specs.List.{position}
use Rattle.in_flight.specs.Due.{is_routed}
use Rattle.in_flight.specs.declared.flights.Flight.{Flight}
use Rattle.volume_laws.specs.Due.{is_issued}
use Rattle.volume.specs.Volumed.{Volumed}
use Rattle.volume.proofs.volume.Volume.issue.Goals as goal

pub issue_refused-requires-clause-found : goal.issue_refused-requires-clause-found
issue_refused-requires-clause-found g c =
    let found = ap (λ (x : Volumed _). position (λ (f : Flight). nat_eq f.number c.args.number) x.flights) (sym c.self.view_is) ∙ ap (position (λ (f : Flight). nat_eq f.number c.args.number)) (sym c.deref.ensures.value) ∙ c.in-Some.ensures.found in
    found

pub issue_refused-requires-clause-route : goal.issue_refused-requires-clause-route
issue_refused-requires-clause-route g c =
    λ f. ap (λ (x : Volumed _). (get_or x.flights c.in-Some.place f).route) (sym c.self.view_is) ∙ ap (λ xs. (get_or xs c.in-Some.place f).route) (sym c.deref.ensures.value) ∙ c.in-Some.ensures.route f ∙ c.in-Refused.is

pub returns-in-Refused-clause-due : goal.returns-in-Refused-clause-due
returns-in-Refused-clause-due g c =
    sym (ap (λ (x : Volumed _). is_issued c.args.number x.flights) (sym c.self.view_is) ∙ ap (is_issued c.args.number) (sym c.deref.ensures.value) ∙ c.in-Some.ensures.due ∙ ap is_routed c.in-Refused.is)

pub issue_disk-requires-clause-found : goal.issue_disk-requires-clause-found
issue_disk-requires-clause-found g c =
    let found = ap (λ (x : Volumed _). position (λ (f : Flight). nat_eq f.number c.args.number) x.flights) (sym c.self.view_is) ∙ ap (position (λ (f : Flight). nat_eq f.number c.args.number)) (sym c.deref.ensures.value) ∙ c.in-Some.ensures.found in
    found

pub issue_disk-requires-clause-route : goal.issue_disk-requires-clause-route
issue_disk-requires-clause-route g c =
    λ f. ap (λ (x : Volumed _). (get_or x.flights c.in-Some.place f).route) (sym c.self.view_is) ∙ ap (λ xs. (get_or xs c.in-Some.place f).route) (sym c.deref.ensures.value) ∙ c.in-Some.ensures.route f ∙ c.in-Origin.is

pub returns-in-Origin-clause-due : goal.returns-in-Origin-clause-due
returns-in-Origin-clause-due g c =
    sym (ap (λ (x : Volumed _). is_issued c.args.number x.flights) (sym c.self.view_is) ∙ ap (is_issued c.args.number) (sym c.deref.ensures.value) ∙ c.in-Some.ensures.due ∙ ap is_routed c.in-Origin.is)

pub issue_merging-requires-clause-found : goal.issue_merging-requires-clause-found
issue_merging-requires-clause-found g c =
    let found = ap (λ (x : Volumed _). position (λ (f : Flight). nat_eq f.number c.args.number) x.flights) (sym c.self.view_is) ∙ ap (position (λ (f : Flight). nat_eq f.number c.args.number)) (sym c.deref.ensures.value) ∙ c.in-Some.ensures.found in
    found

pub issue_merging-requires-clause-route : goal.issue_merging-requires-clause-route
issue_merging-requires-clause-route g c =
    λ f. ap (λ (x : Volumed _). (get_or x.flights c.in-Some.place f).route) (sym c.self.view_is) ∙ ap (λ xs. (get_or xs c.in-Some.place f).route) (sym c.deref.ensures.value) ∙ c.in-Some.ensures.route f ∙ c.in-Store.is

pub issue_store-requires-clause-found : goal.issue_store-requires-clause-found
issue_store-requires-clause-found g c =
    let found = ap (λ (x : Volumed _). position (λ (f : Flight). nat_eq f.number c.args.number) x.flights) (sym c.self.view_is) ∙ ap (position (λ (f : Flight). nat_eq f.number c.args.number)) (sym c.deref.ensures.value) ∙ c.in-Some.ensures.found in
    found

pub issue_store-requires-clause-route : goal.issue_store-requires-clause-route
issue_store-requires-clause-route g c =
    λ f. ap (λ (x : Volumed _). (get_or x.flights c.in-Some.place f).route) (sym c.self.view_is) ∙ ap (λ xs. (get_or xs c.in-Some.place f).route) (sym c.deref.ensures.value) ∙ c.in-Some.ensures.route f ∙ c.in-Store.is

pub returns-in-Held-clause-due : goal.returns-in-Held-clause-due
returns-in-Held-clause-due g c =
    sym (ap (λ (x : Volumed _). is_issued c.args.number x.flights) (sym c.self.view_is) ∙ ap (is_issued c.args.number) (sym c.deref.ensures.value) ∙ c.in-Some.ensures.due ∙ ap is_routed c.in-Held.is)

pub returns-in-None-clause-due : goal.returns-in-None-clause-due
returns-in-None-clause-due g c =
    sym (ap (λ (x : Volumed _). is_issued c.args.number x.flights) (sym c.self.view_is) ∙ ap (is_issued c.args.number) (sym c.deref.ensures.value) ∙ c.in-None.ensures.due)

pub flush_merging-requires-clause-found : goal.flush_merging-requires-clause-found
flush_merging-requires-clause-found g c =
    let found = ap (λ (x : Volumed _). position (λ (f : Flight). nat_eq f.number c.args.number) x.flights) (sym c.self.view_is) ∙ ap (position (λ (f : Flight). nat_eq f.number c.args.number)) (sym c.deref.ensures.value) ∙ c.in-Some.ensures.found in
    found

pub flush_merging-requires-clause-route : goal.flush_merging-requires-clause-route
flush_merging-requires-clause-route g c =
    λ f. ap (λ (x : Volumed _). (get_or x.flights c.in-Some.place f).route) (sym c.self.view_is) ∙ ap (λ xs. (get_or xs c.in-Some.place f).route) (sym c.deref.ensures.value) ∙ c.in-Some.ensures.route f ∙ c.in-Whole.is

pub flush_whole-requires-clause-found : goal.flush_whole-requires-clause-found
flush_whole-requires-clause-found g c =
    let found = ap (λ (x : Volumed _). position (λ (f : Flight). nat_eq f.number c.args.number) x.flights) (sym c.self.view_is) ∙ ap (position (λ (f : Flight). nat_eq f.number c.args.number)) (sym c.deref.ensures.value) ∙ c.in-Some.ensures.found in
    found

pub flush_whole-requires-clause-route : goal.flush_whole-requires-clause-route
flush_whole-requires-clause-route g c =
    λ f. ap (λ (x : Volumed _). (get_or x.flights c.in-Some.place f).route) (sym c.self.view_is) ∙ ap (λ xs. (get_or xs c.in-Some.place f).route) (sym c.deref.ensures.value) ∙ c.in-Some.ensures.route f ∙ c.in-Whole.is

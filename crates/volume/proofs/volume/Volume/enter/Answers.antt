-- The request is the last in flight.
use Rattle.std.proofs.Common.{◌≡◌, ◌≢◌, ◌+◌, ◌<◌, ℕ, List, [], length, sym, ◌∙◌, ap, subst, arith}
use Rattle.std.specs.List.{All}
use Rattle.plain_machine.specs.Legal.{IsSubmitted}
use Rattle.plain_machine.specs.declared.request.Request.{Request}
use Rattle.in_flight.specs.declared.flights.Flight.{Flight}
use Rattle.volume_laws.specs.Accepting.{IsTakenIn}
use Rattle.volume.specs.Volumed.{Volumed, books_of, plain_of}
use Rattle.volume.specs.Whole.{IsWhole}
use Rattle.volume.specs.Submitting.{entered_of}
use Rattle.volume.proofs.Enters.{fresh_plain, whole_entered, plain_entered}
use Rattle.volume.proofs.volume.Volume.enter.Goals as goal

pub invariant_of-self-2 : goal.invariant_of-self-2
invariant_of-self-2 g c = record {
  whole =
      let v : Volumed g.row.B.Denot = record { origin = c.self.inside.origin; snaps = c.self.inside.snaps.items; merge = c.self.inside.merge; flights = c.self.inside.flights.items; requests = c.self.inside.requests; copies = c.self.inside.copies; attached = c.self.inside.attached } in
      let f : Flight = c.in-Ok.flight in
      let next : f.number ≡ c.args.self.now.requests + 1 = c.in-Ok.ensures.number ∙ ap (λ (x : Volumed g.row.B.Denot). x.requests + 1) c.self.view_is in
      let room : length v.flights < 64 = omega (arith, c.requires.room, ap (λ (x : Volumed g.row.B.Denot). length x.flights) c.self.view_is) in
      let goes : IsTakenIn [] f.number f.request (books_of g.B.Block.contents g.B.Block.layers g.B.Block.size v) (books_of g.B.Block.contents g.B.Block.layers g.B.Block.size (entered_of f v)) =
      subst (λ (x : Volumed g.row.B.Denot). IsTakenIn [] f.number f.request (books_of g.B.Block.contents g.B.Block.layers g.B.Block.size x) (books_of g.B.Block.contents g.B.Block.layers g.B.Block.size (entered_of f x))) (sym c.self.view_is)
      (c.requires.goes f (subst (IsWhole g.B.Block.contents g.B.Block.layers g.B.Block.size) c.self.view_is c.self.invariant.whole) next c.in-Ok.ensures.request c.in-Ok.ensures.route c.in-Ok.ensures.room) in
      rw (c.in-Ok-push.ensures.items) (whole_entered g.B.Block.contents g.B.Block.layers g.B.Block.size v f c.self.invariant.whole c.in-Ok.ensures.number [] v room goes);
  lasting =
      record { snaps = c.self.invariant.lasting.snaps; merge = c.self.invariant.lasting.merge };
}

pub returns-clause-ok : goal.returns-clause-ok
returns-clause-ok g c =
    let v : Volumed g.row.B.Denot = record { origin = c.self.inside.origin; snaps = c.self.inside.snaps.items; merge = c.self.inside.merge; flights = c.self.inside.flights.items; requests = c.self.inside.requests; copies = c.self.inside.copies; attached = c.self.inside.attached } in
    let f : Flight = c.in-Ok.flight in
    let now = c.args.self.now in
    let next : f.number ≡ c.args.self.now.requests + 1 = c.in-Ok.ensures.number ∙ ap (λ (x : Volumed g.row.B.Denot). x.requests + 1) c.self.view_is in
    let goes = c.requires.goes f (subst (IsWhole g.B.Block.contents g.B.Block.layers g.B.Block.size) c.self.view_is c.self.invariant.whole) next c.in-Ok.ensures.request c.in-Ok.ensures.route c.in-Ok.ensures.room in
    let after : Volumed g.row.B.Denot = record v { flights = c.push.new.self.items; requests = v.requests + 1 } in
    let becomes : after ≡ entered_of f c.args.self.now = ap (λ (fs : List Flight). let w : Volumed g.row.B.Denot = record v { flights = fs; requests = v.requests + 1 } in w) c.in-Ok-push.ensures.items ∙ ap (λ (x : Volumed g.row.B.Denot). entered_of f x) c.self.view_is in
    record {
      flight = f;
      request_is = c.in-Ok.ensures.request;
      route_is = c.in-Ok.ensures.route;
      number_is = c.in-Ok.ensures.number;
      next = ap (λ (x : Volumed g.row.B.Denot). x.requests + 1) c.self.view_is;
      becomes = becomes;
      fresh = subst (λ (n : ℕ). All (λ r. r.number ≢ n) (plain_of g.B.Block.contents g.B.Block.layers c.args.self.now).requests) c.in-Ok.ensures.number
          (fresh_plain g.B.Block.contents g.B.Block.layers g.B.Block.size c.args.self.now f (subst (IsWhole g.B.Block.contents g.B.Block.layers g.B.Block.size) c.self.view_is c.self.invariant.whole) next);
      legal = λ loud.
          subst (λ (x : Volumed g.row.B.Denot). IsSubmitted [] (plain_of g.B.Block.contents g.B.Block.layers c.args.self.now) (c.self.inside.requests + 1) c.args.request (plain_of g.B.Block.contents g.B.Block.layers x)) (sym becomes)
          (subst (λ (n : ℕ). IsSubmitted [] (plain_of g.B.Block.contents g.B.Block.layers c.args.self.now) n c.args.request (plain_of g.B.Block.contents g.B.Block.layers (entered_of f c.args.self.now))) c.in-Ok.ensures.number
          (subst (λ (r : Request). IsSubmitted [] (plain_of g.B.Block.contents g.B.Block.layers c.args.self.now) f.number r (plain_of g.B.Block.contents g.B.Block.layers (entered_of f c.args.self.now))) c.in-Ok.ensures.request
          (plain_entered g.B.Block.contents g.B.Block.layers g.B.Block.size c.args.self.now (entered_of f c.args.self.now) [] f.number f.request goes loud)));
    }

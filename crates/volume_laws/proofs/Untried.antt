-- Origin writes beside a spoiled snapshot whose invalid mark is untried: none goes to the origin disk but those that went there
-- before the spoil.
use Rattle.std.proofs.Common.{◌≡◌, ◌≢◌, ℕ, Bool, true, false, List, Option, take, drop, sym, ◌∙◌}
use Rattle.std.specs.List.{All}
use Rattle.std.proofs.lemmas.Bool.{false≢true}
use Rattle.std.proofs.lemmas.List.Elements.{All-weaker}
use Rattle.sector.specs.declared.pair.Pair.{Pair}
use Rattle.in_flight.specs.Kinds.{kind_of}
use Rattle.in_flight.specs.Routes.{write_route_of}
use Rattle.in_flight.specs.declared.copies.Mark.{Mark}
use Rattle.in_flight.specs.declared.flights.Flight.{Flight}
use Rattle.in_flight.specs.declared.flights.Kind.TheVariants.{OriginWrite}
use Rattle.volume_laws.specs.Books.{SnapBooks}
use Rattle.volume_laws.specs.Held.{RouteHolds, UntriedHolds, IsLinked}
use Rattle.volume_laws.specs.Published.{chunk_of}
use Rattle.volume_laws.proofs.Sure.{published_sure}
use Rattle.volume_laws.proofs.Routing.{write_origin}

-- every other request
pub untried_other : (chunk : ℕ) (pairs : List Pair) (r : Flight) → kind_of r.request ≢ OriginWrite → UntriedHolds chunk pairs r
untried_other chunk pairs r other = record { piece = λ e _. absurd (other e); placed = λ e _. absurd (other e) }

-- one that is routed while a mark is untried
pub untried_write : (v : SnapBooks) (r : Flight) (grouped : Bool) (found : Option ℕ) (clear : Bool) → r.route ≡ write_route_of grouped found clear → (clear ≡ true → v.untried ≡ false) → v.untried ≡ true → UntriedHolds v.chunk (take v.sure v.pairs) r
untried_write v r grouped found clear route tried waits = record {
  piece = λ _ e. absurd (false≢true (sym (tried (write_origin grouped found clear (sym route ∙ e)).2) ∙ waits));
  placed = λ _ e. absurd (false≢true (sym (tried (write_origin grouped found clear (sym route ∙ e)).2) ∙ waits));
}

-- those that were routed while the snapshot was live
untried_routed : (number chunk sure : ℕ) (pairs : List Pair) (marks : List Mark) (r : Flight) → All (IsLinked marks) (drop sure pairs) → RouteHolds number chunk pairs marks r → UntriedHolds chunk (take sure pairs) r
untried_routed number chunk sure pairs marks r link h = record { piece = λ _ _. h.piece; placed = λ kind route. published_sure sure pairs marks (chunk_of chunk r) link (h.origin_write kind route) }

pub all_untried : (number chunk sure : ℕ) (pairs : List Pair) (marks : List Mark) (rs : List Flight) → All (IsLinked marks) (drop sure pairs) → All (RouteHolds number chunk pairs marks) rs → All (UntriedHolds chunk (take sure pairs)) rs
all_untried number chunk sure pairs marks rs link all = All-weaker (RouteHolds number chunk pairs marks) (UntriedHolds chunk (take sure pairs)) (λ r. untried_routed number chunk sure pairs marks r link) rs all

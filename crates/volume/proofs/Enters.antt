-- A request is in flight, once its copies are started: the volume is whole, and the plain machine took the request.
use Rattle.std.proofs.Common.{◌≡◌, ◌≢◌, ℕ, ◌+◌, ◌<◌, ◌≤◌, true, List, [], ◌∷◌, ◌++◌, length, map, refl, sym, ap, subst, arith, length-append}
use Rattle.std.specs.List.{All}
use Rattle.std.proofs.lemmas.List.{length-map, get_or-map}
use Rattle.std.proofs.lemmas.List.Elements.{All-push, All-weaker, All-map}
use Rattle.std.proofs.lemmas.List.Quantifiers.{all_pairs_push}
use Rattle.device.specs.Layers.{Layer}
use Rattle.plain_machine.specs.Legal.{IsSubmitted}
use Rattle.plain_machine.specs.declared.request.Request.{Request}
use Rattle.in_flight.specs.Due.{number_of_flight}
use Rattle.in_flight.specs.Kinds.{in_flight}
use Rattle.in_flight.specs.declared.flights.Flight.{Flight}
use Rattle.volume_laws.specs.Books.{SnapBooks}
use Rattle.volume_laws.specs.Published.{IsPiece}
use Rattle.volume_laws.specs.Steps.{Accepts}
use Rattle.volume_laws.specs.Whole.{plain_of as plain_books}
use Rattle.volume_laws.proofs.Routed.{ArePieces}
use Rattle.volume_laws.specs.Accepting.{IsTakenIn}
use Rattle.snapshot.specs.Kept.{books_of as snap_books}
use Rattle.volume.specs.Volumed.{Volumed, books_of, piece_with, plain_of, is_loud_in_all}
use Rattle.volume.proofs.Least.{piece_in_each}
use Rattle.volume.specs.Whole.{AreNumbers, IsWhole}
use Rattle.volume.proofs.Changing.{goes_same}
use Rattle.volume.proofs.Shown.{shown, loud_books}

flights_push : (fs : List Flight) (f : Flight) → map number_of_flight (fs ++ f ∷ []) ≡ map number_of_flight fs ++ f.number ∷ []
flights_push [] f = refl
flights_push (x ∷ fs) f = ap (λ ns. x.number ∷ ns) (flights_push fs f)

module _ {B : Type 0} (contents : B → List ℕ) (layers : B → List Layer) (size : B → ℕ) (u : Volumed B) (f : Flight) (h : IsWhole contents layers size u) (number : f.number ≡ u.requests + 1) where
  abbrev pub entered : Volumed B
  entered = record u { flights = u.flights ++ f ∷ []; requests = u.requests + 1 }

  pub accepts : Accepts f (books_of contents layers size u) (books_of contents layers size entered)
  accepts = record { requests = refl; origin = refl; sectors = refl; loud = refl; snaps = refl; merge = refl }

  -- no other request has its number
  pub fresh : All (λ (g : Flight). g.number ≢ f.number) u.flights
  fresh k d lt e =
      let given = h.requests.given k (number_of_flight d) (omega (arith, lt, length-map u.flights number_of_flight)) in
      let at = get_or-map number_of_flight u.flights k d (number_of_flight d) lt in
      omega (arith, given, at, e, number)

  -- as the plain machine has them
  pub fresh_plain : All (λ r. r.number ≢ f.number) (plain_of contents layers u).requests
  fresh_plain = All-map (λ r. r.number ≢ f.number) in_flight u.flights fresh

  pub whole_entered : (which : List ℕ) (v0 : Volumed B) → length u.flights < 64 → IsTakenIn which f.number f.request (books_of contents layers size v0) (books_of contents layers size entered) → IsWhole contents layers size entered
  whole_entered which v0 room t = record {
    holds = t.holds;
    waits = t.waits;
    merge = goes_same contents layers size u entered u.merge refl refl refl h.merge;
    snaps = h.snaps;
    counted = h.counted;
    apart = h.apart;
    numbers = h.numbers;
    requests = subst (AreNumbers (u.requests + 1)) (sym (flights_push u.flights f)) (record {
      given = All-push (λ n. n ≤ u.requests + 1) (map number_of_flight u.flights) f.number (All-weaker (λ n. n ≤ u.requests) (λ n. n ≤ u.requests + 1) (λ n le. omega (arith, le)) (map number_of_flight u.flights) h.requests.given) (omega (arith, number));
      ascending = all_pairs_push (λ m n. m < n) (map number_of_flight u.flights) f.number h.requests.ascending (All-weaker (λ n. n ≤ u.requests) (λ n. n < f.number) (λ n le. omega (arith, le, number)) (map number_of_flight u.flights) h.requests.given);
    });
    few = h.few;
    few_copies = h.few_copies;
    numbers_left = h.numbers_left;
    few_requests = omega (arith, room, length-append u.flights (f ∷ []));
  }

  -- the range lies inside a chunk of each snapshot
  pub pieces_all : IsPiece (piece_with u.merge u.snaps) f.request.range → ArePieces f (books_of contents layers size u).snaps
  pieces_all piece = All-map (λ (x : SnapBooks). x.live ≡ true → IsPiece x.chunk f.request.range) (snap_books contents layers) u.snaps
      (λ k d lt live. piece_in_each contents layers size u h f.request.range piece k d lt)

pub plain_entered : {B : Type 0} (contents : B → List ℕ) (layers : B → List Layer) (size : B → ℕ) (v0 w : Volumed B) (which : List ℕ) (number : ℕ) (request : Request) → IsTakenIn which number request (books_of contents layers size v0) (books_of contents layers size w)
    → is_loud_in_all layers v0 ≡ true → IsSubmitted which (plain_of contents layers v0) number request (plain_of contents layers w)
plain_entered contents layers size v0 w which number request t loud =
    let step = t.step (loud_books contents layers size v0 loud) in
    subst (λ p. IsSubmitted which p number request (plain_of contents layers w)) (sym (shown contents layers size v0))
    (subst (IsSubmitted which (plain_books (books_of contents layers size v0)) number request) (sym (shown contents layers size w)) step)

-- A committed copy is published: Publish, of one live snapshot. No request reads the chunk from the origin disk then.
use Rattle.std.proofs.Common.{Bool, ◌≡◌, ◌≢◌, inl, inr, ℕ, ◌<◌, true, false, List, length, get_or, drop, refl, sym, ◌∙◌, subst, eq-eqb}
use Rattle.std.specs.List.{remove, list_any}
use Rattle.std.proofs.lemmas.Bool.{false≢true}
use Rattle.sector.specs.declared.pair.Pair.{Pair}
use Rattle.in_flight.specs.Kinds.{kind_of}
use Rattle.in_flight.specs.Routes.{is_reading, reads_origin_of}
use Rattle.in_flight.specs.declared.copies.Mark.{Mark}
use Rattle.in_flight.specs.declared.flights.Flight.{Flight}
use Rattle.in_flight.specs.declared.flights.Kind.TheVariants.{SnapRead}
use Rattle.in_flight.specs.declared.flights.Route.TheVariants.{Origin}
use Rattle.volume_laws.specs.Books.{SnapBooks}
use Rattle.volume_laws.specs.Published.{chunk_of}
use Rattle.volume_laws.specs.Held.{LiveHolds, MarkHolds, RouteHolds}
use Rattle.volume_laws.specs.Steps.{Unmarks}
use Rattle.volume_laws.proofs.Lists.{All-remove, Any-remove, All-from_list_any}
use Rattle.volume_laws.proofs.Sure.{link_unmarked}
use Rattle.volume_laws.proofs.Same.{same_books}

not_read : (number chunk c : ℕ) (r : Flight) → is_reading number chunk c r ≡ false → kind_of r.request ≡ SnapRead number → r.route ≡ Origin → chunk_of chunk r ≢ c
not_read number chunk c r none kind route same =
    let one : reads_origin_of number (kind_of r.request) r.route ≡ true = rw (kind, route) (eq-eqb number number refl) in
    false≢true (sym none ∙ rw (eq-eqb (chunk_of chunk r) c same, one) refl)

-- a request's route holds without the mark
route_unmarked : (number chunk : ℕ) (ps : List Pair) (ms : List Mark) (k : ℕ) (m : Mark) (r : Flight) → k < length ms → m ≡ get_or ms k m → is_reading number chunk m.chunk r ≡ false
    → RouteHolds number chunk ps ms r → RouteHolds number chunk ps (remove ms k) r
route_unmarked number chunk ps ms k m r within is unread h = record {
  piece = h.piece;
  origin_write = λ kind route. (let old = h.origin_write kind route in record { placed = old.placed; unmarked = All-remove (λ x. x.chunk ≢ chunk_of chunk r) ms k old.unmarked });
  read = λ kind route. elim (h.read kind route) [
    | inl none ↦ inl none
    | inr any ↦ inr (Any-remove (λ x. x.chunk ≡ chunk_of chunk r) ms k m within is (λ e. not_read number chunk m.chunk r unread kind route (sym e)) any)
  ];
  read_stored = h.read_stored;
  write = h.write;
  write_stored = λ place kind route. (let old = h.write_stored place kind route in (old.0, record { placed = old.1.placed; unmarked = All-remove (λ x. x.chunk ≢ chunk_of chunk r) ms k old.1.unmarked }));
  read_alive = h.read_alive;
  write_alive = h.write_alive;
  flush = h.flush;
}

pub unmark : {l : Bool} (o : List ℕ) (rs : List Flight) (k : ℕ) (m : Mark) (v w : SnapBooks) → LiveHolds l o rs v → Unmarks k m v w → list_any (is_reading v.number v.chunk m.chunk) rs ≡ false → LiveHolds l o rs w
unmark o rs k m v w h e none =
    let s = e.same in
    let u : SnapBooks = record v { marks = remove v.marks k } in
    let now : w ≡ u = same_books w u s.number s.live s.untried s.marked s.loud s.overflow s.chunk s.sectors s.size e.store.store e.store.pairs e.store.begun e.store.sure e.copies e.marks in
    let unread = All-from_list_any (is_reading v.number v.chunk m.chunk) rs none in
    subst (LiveHolds _ o rs) (sym now) (record {
      text = h.text;
      stored = h.stored;
      fits = h.fits;
      tried = h.tried;
      agree = h.agree;
      few = h.few;
      link = link_unmarked v.marks k m (drop v.sure v.pairs) e.within e.was e.safe h.link;
      copies = h.copies;
      unpublished = λ loud. All-remove (MarkHolds v.chunk o v.store v.pairs) v.marks k (h.unpublished loud);
      routes = λ j d lt. route_unmarked v.number v.chunk v.pairs v.marks k m (get_or rs j d) e.within e.was (unread j d lt) (h.routes j d lt);
    })

-- A copy is started, of one live snapshot.
use Rattle.std.proofs.Common.{Bool, ◌≡◌, ℕ, List, [], ◌∷◌, ◌++◌, sym, ◌∙◌, ap, subst}
use Rattle.std.proofs.lemmas.Bool.{false≢true}
use Rattle.std.proofs.lemmas.List.{map_push}
use Rattle.std.proofs.lemmas.List.Elements.{All-push}
use Rattle.in_flight.specs.Copies.{pair_of}
use Rattle.in_flight.specs.declared.copies.ChunkCopy.{ChunkCopy}
use Rattle.in_flight.specs.declared.flights.Flight.{Flight}
use Rattle.volume_laws.specs.Books.{SnapBooks}
use Rattle.volume_laws.specs.Held.{LiveHolds, CopyHolds, is_stored}
use Rattle.volume_laws.specs.Steps.{StartsCopy}
use Rattle.volume_laws.proofs.Same.{same_books}
use Rattle.volume_laws.proofs.Copying.{waiting_ne_read}

pub start : {l : Bool} (o : List ℕ) (rs : List Flight) (p : ChunkCopy) (v w : SnapBooks) → LiveHolds l o rs v → StartsCopy p v w → LiveHolds l o rs w
start o rs p v w h e =
    let s = e.same in
    let u : SnapBooks = record v { begun = v.begun ++ p.pair ∷ []; copies = v.copies ++ p ∷ [] } in
    let now : w ≡ u = same_books w u s.number s.live s.untried s.marked s.loud s.overflow s.chunk s.sectors s.size e.store e.pairs e.begun e.sure e.copies e.marks in
    subst (LiveHolds _ o rs) (sym now) (record {
      text = e.text;
      stored = h.stored;
      fits = h.fits;
      tried = h.tried;
      agree = ap (λ x. x ++ p.pair ∷ []) h.agree ∙ sym (map_push pair_of v.copies p);
      few = h.few;
      link = h.link;
      copies = All-push (CopyHolds _ v.chunk v.sectors o v.store) v.copies p h.copies
          (record { room = e.room; read = λ _ is. absurd (waiting_ne_read (sym e.stage ∙ is)); written = λ _ is. absurd (false≢true (sym (ap is_stored e.stage) ∙ is)) });
      unpublished = h.unpublished;
      routes = h.routes;
    })

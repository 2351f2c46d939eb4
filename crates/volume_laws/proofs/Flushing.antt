-- A snapshot's store is flushed: FlushStore, of one live snapshot. What is in its lists names the same chunks and places.
use Rattle.std.proofs.Common.{◌≡◌, ◌≢◌, inl, inr, ℕ, zero, suc, Bool, true, List, [], ◌∷◌, length, map, refl, sym, ◌∙◌, ap, subst, arith, nat_eq}
use Rattle.std.specs.Prelude.{◌||◌, Any}
use Rattle.std.specs.List.{list_any}
use Rattle.std.proofs.lemmas.List.Elements.{All-map, All-weaker}
use Rattle.sector.specs.declared.pair.Pair.{Pair}
use Rattle.in_flight.specs.Copies.{pair_of}
use Rattle.in_flight.specs.Flushed.{flushed_stage, flushed_copy, safe_mark}
use Rattle.in_flight.specs.declared.copies.ChunkCopy.{ChunkCopy}
use Rattle.in_flight.specs.declared.copies.Mark.{Mark}
use Rattle.in_flight.specs.declared.copies.Stage.{Stage}
use Rattle.in_flight.specs.declared.copies.Stage.TheVariants.{Waiting, Read, Written, Flushed}
use Rattle.in_flight.specs.declared.flights.Flight.{Flight}
use Rattle.volume_laws.specs.Books.{SnapBooks}
use Rattle.volume_laws.specs.Published.{IsPublished, IsUnpublished, is_published}
use Rattle.volume_laws.specs.Held.{LiveHolds, CopyHolds, MarkHolds, RouteHolds, is_stored}
use Rattle.volume_laws.specs.Steps.{FlushesStore}
use Rattle.volume_laws.proofs.Sure.{link_flushed}
use Rattle.volume_laws.proofs.Same.{same_books}

-- what some element has, where each has it after it is changed
pub any_mapped : {X : Type 0} (f : X → X) (P : X → Type 0) (xs : List X) → Any (λ x. P (f x)) xs → Any P (map f xs)
any_mapped f P [] (k, y, lt, is, holds) = absurd (omega (arith, lt))
any_mapped f P (x ∷ xs) (zero, y, lt, is, holds) = (zero, f y, omega arith, ap f is, holds)
any_mapped f P (x ∷ xs) (suc k, y, lt, is, holds) = (let (j, z, z_lt, z_is, z_holds) = any_mapped f P xs (k, y, omega (arith, lt), is, holds) in (suc j, z, omega (arith, z_lt), z_is, z_holds))

-- a copy is as far as it was, or it is flushed
read_before : (stage : Stage) → flushed_stage stage ≡ Read → stage ≡ Read
read_before Waiting e = absurd (let no : ⊥ = cc in no)
read_before Read e = refl
read_before Written e = absurd (let no : ⊥ = cc in no)
read_before Flushed e = absurd (let no : ⊥ = cc in no)

stored_before : (stage : Stage) → is_stored (flushed_stage stage) ≡ true → is_stored stage ≡ true
stored_before Waiting e = e
stored_before Read e = e
stored_before Written e = refl
stored_before Flushed e = refl

copy_flushed : (loud : Bool) (chunk sectors : ℕ) (o store : List ℕ) (p : ChunkCopy) → CopyHolds loud chunk sectors o store p → CopyHolds loud chunk sectors o store (flushed_copy p)
copy_flushed loud chunk sectors o store p h = record { room = h.room; read = λ loud is. h.read loud (read_before p.stage is); written = λ is done. h.written is (stored_before p.stage done) }

pub same_pairs : (copies : List ChunkCopy) → map pair_of (map flushed_copy copies) ≡ map pair_of copies
same_pairs [] = refl
same_pairs (p ∷ copies) = ap (λ ps. p.pair ∷ ps) (same_pairs copies)

-- the chunks of the marks
pub marks_any : (c : ℕ) (marks : List Mark) → list_any (λ m. nat_eq m.chunk c) (map safe_mark marks) ≡ list_any (λ m. nat_eq m.chunk c) marks
marks_any c [] = refl
marks_any c (m ∷ marks) = ap (λ b. nat_eq m.chunk c || b) (marks_any c marks)

pub published_flushed : (pairs : List Pair) (marks : List Mark) (c : ℕ) → IsPublished pairs marks c → IsPublished pairs (map safe_mark marks) c
published_flushed pairs marks c h = record { placed = h.placed; unmarked = All-map (λ m. m.chunk ≢ c) safe_mark marks h.unmarked }

unpublished_flushed : (pairs : List Pair) (marks : List Mark) (c : ℕ) → IsUnpublished pairs marks c → IsUnpublished pairs (map safe_mark marks) c
unpublished_flushed pairs marks c (inl none) = inl none
unpublished_flushed pairs marks c (inr any) = inr (any_mapped safe_mark (λ m. m.chunk ≡ c) marks any)

pub is_published_flushed : (pairs : List Pair) (marks : List Mark) (c : ℕ) → is_published pairs (map safe_mark marks) c ≡ is_published pairs marks c
is_published_flushed pairs marks c = rw (marks_any c marks) refl

route_flushed : (number chunk : ℕ) (pairs : List Pair) (marks : List Mark) (r : Flight) → RouteHolds number chunk pairs marks r → RouteHolds number chunk pairs (map safe_mark marks) r
route_flushed number chunk pairs marks r h = record {
  piece = h.piece;
  origin_write = λ kind route. published_flushed pairs marks _ (h.origin_write kind route);
  read = λ kind route. unpublished_flushed pairs marks _ (h.read kind route);
  read_stored = h.read_stored;
  write = h.write;
  write_stored = λ place kind route. (let old = h.write_stored place kind route in (old.0, published_flushed pairs marks _ old.1));
  read_alive = h.read_alive;
  write_alive = h.write_alive;
  flush = h.flush;
}

pub flush : {l : Bool} (o : List ℕ) (rs : List Flight) (v w : SnapBooks) → LiveHolds l o rs v → FlushesStore v w → LiveHolds l o rs w
flush o rs v w h e =
    let s = e.same in
    let u : SnapBooks = record v { sure = length v.pairs; copies = map flushed_copy v.copies; marks = map safe_mark v.marks } in
    let now : w ≡ u = same_books w u s.number s.live s.untried s.marked s.loud s.overflow s.chunk s.sectors s.size e.store e.pairs e.begun e.sure e.copies e.marks in
    subst (LiveHolds _ o rs) (sym now) (record {
      text = h.text;
      stored = h.stored;
      fits = h.fits;
      tried = h.tried;
      agree = h.agree ∙ sym (same_pairs v.copies);
      few = omega arith;
      link = link_flushed v.pairs (map safe_mark v.marks);
      copies = All-map (CopyHolds _ v.chunk v.sectors o v.store) flushed_copy v.copies
          (All-weaker (CopyHolds _ v.chunk v.sectors o v.store) (λ p. CopyHolds _ v.chunk v.sectors o v.store (flushed_copy p)) (copy_flushed _ v.chunk v.sectors o v.store) v.copies h.copies);
      unpublished = λ loud. All-map (MarkHolds v.chunk o v.store v.pairs) safe_mark v.marks
          (All-weaker (MarkHolds v.chunk o v.store v.pairs) (λ m. MarkHolds v.chunk o v.store v.pairs (safe_mark m)) (λ m old. record { same = old.same }) v.marks (h.unpublished loud));
      routes = All-weaker (RouteHolds v.number v.chunk v.pairs v.marks) (RouteHolds v.number v.chunk v.pairs (map safe_mark v.marks)) (route_flushed v.number v.chunk v.pairs v.marks) rs h.routes;
    })

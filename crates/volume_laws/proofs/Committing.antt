-- An area is zeroed, and the first copies are committed: ZeroNext and WriteArea, of one live snapshot.
use Rattle.std.proofs.Common.{Bool, ◌≡◌, ◌≢◌, inl, inr, ℕ, ◌+◌, ◌<◌, true, false, List, [], ◌∷◌, ◌++◌, Option, Some, None, length, get_or, map, take, drop, refl, sym, ◌∙◌, ap, subst, arith, append_assoc, length-append, nat_eq, zero}
use Rattle.std.specs.List.{All, Any}
use Rattle.std.specs.Prelude.{◌&&◌, AllPairs}
use Rattle.std.proofs.lemmas.Bool.{cases_Bool, eqb-true}
use Rattle.std.proofs.Math.Seq.{take-append-add}
use Rattle.std.proofs.lemmas.List.{get_or_default, get_or-append-add, take-map, drop-map, take-append-drop, get_or-take, length-take-le}
use Rattle.std.proofs.lemmas.List.Elements.{All-weaker, All-append, All-take, All-drop, All-map}
use Rattle.sector.specs.declared.pair.Pair.{Pair}
use Rattle.cow_format.specs.Places.{area_place, is_area_place, ChangesOnly}
use Rattle.cow_format.specs.Pairs.{IsApart, IsInside}
use Rattle.cow_format.specs.Picture.{place_of, byte_of, picture_at, picture, IsCopied}
use Rattle.cow_format.proofs.AreaPlaces.{place_is}
use Rattle.cow_format.proofs.Views.{picture-commit, picture-only, picture-more, place_unnamed, place_none}
use Rattle.in_flight.specs.Copies.{pair_of}
use Rattle.in_flight.specs.declared.copies.ChunkCopy.{ChunkCopy}
use Rattle.in_flight.specs.declared.copies.Mark.{Mark}
use Rattle.in_flight.specs.declared.flights.Flight.{Flight}
use Rattle.volume_laws.proofs.Heard.{store_loud}
use Rattle.volume_laws.specs.Books.{SnapBooks}
use Rattle.volume_laws.specs.Published.{chunk_of, IsPublished, IsUnpublished}
use Rattle.volume_laws.specs.Held.{LiveHolds, CopyHolds, MarkHolds, RouteHolds, is_stored}
use Rattle.volume_laws.specs.Steps.{ZeroesArea, Commits, mark_of}
use Rattle.volume_laws.proofs.Lists.{All-front, AllPairs-front}
use Rattle.volume_laws.proofs.Same.{same_books}
use Rattle.volume_laws.proofs.Pairs.{place_of-front_kept, place_of-whole_none, some_ne_none}
use Rattle.volume_laws.proofs.Sure.{any_front, any_back, link_committed}
use Rattle.volume_laws.proofs.Stores.{not_placed, inside_at, copied_kept, mark_kept, picture_kept, area_unnamed}

-- no copy stands on an area's place
copy_off_area : {l : Bool} (o : List ℕ) (rs : List Flight) (v : SnapBooks) → LiveHolds l o rs v → (a k : ℕ) (p : ChunkCopy) → k < length v.copies → p ≡ get_or v.copies k p → p.pair.new ≢ area_place v.chunk a
copy_off_area o rs v h a k p within is e =
    let free = (inside_at o rs v h k p within is).free in
    true_ne_false (sym (place_is v.chunk a h.text.some) ∙ sym (ap (is_area_place v.chunk) e) ∙ free)
  where
    true_ne_false : true ≢ false
    true_ne_false e = cc

-- after a write of an area the copies' places are as they were
pub area_copies : {l : Bool} (o : List ℕ) (rs : List Flight) (v : SnapBooks) (new : List ℕ) → LiveHolds l o rs v → (a : ℕ) → ChangesOnly v.chunk (area_place v.chunk a) v.store new → All (CopyHolds (l && v.loud) v.chunk v.sectors o new) v.copies
area_copies o rs v new h a only k d lt =
    let x = get_or v.copies k d in
    let x_is : x ≡ get_or v.copies k x = get_or_default v.copies k d x lt in
    let old = h.copies k d lt in
    record {
      room = old.room;
      read = old.read;
      written = λ loud done. copied_kept v.chunk (area_place v.chunk a) o v.store new x.pair h.text.some only (copy_off_area o rs v h a k x lt x_is) (old.written loud done);
    }

pub area_zeroed : {l : Bool} (o : List ℕ) (rs : List Flight) (a : ℕ) (v w : SnapBooks) → LiveHolds l o rs v → ZeroesArea a v w → LiveHolds l o rs w
area_zeroed o rs a v w h e =
    let s = e.same in
    let t = h.text in
    let u : SnapBooks = record v { store = w.store } in
    let now : w ≡ u = same_books w u s.number s.live s.untried s.marked s.loud s.overflow s.chunk s.sectors s.size refl e.pairs e.begun e.sure e.copies e.marks in
    subst (LiveHolds _ o rs) (sym now) (record {
      text = record { some = t.some; allowed = t.allowed; whole = e.only.len ∙ t.whole; inside = t.inside; apart = t.apart };
      stored = e.stored;
      fits = h.fits;
      tried = h.tried;
      agree = h.agree;
      few = h.few;
      link = h.link;
      copies = area_copies o rs v w.store h a e.only;
      unpublished = λ loud. All-weaker (MarkHolds v.chunk o v.store v.pairs) (MarkHolds v.chunk o w.store v.pairs)
          (λ m. mark_kept v.chunk (area_place v.chunk a) o v.store w.store v.pairs m t.some e.only (area_unnamed o rs v h a)) v.marks (h.unpublished loud);
      routes = h.routes;
    })

pub area_zeroed_picture : {l : Bool} (o : List ℕ) (rs : List Flight) (a : ℕ) (v w : SnapBooks) → LiveHolds l o rs v → ZeroesArea a v w → v.loud ≡ true → picture w.chunk o w.store ≡ picture v.chunk o v.store
area_zeroed_picture o rs a v w h e loud =
    ap (λ c. picture c o w.store) e.same.chunk
    ∙ picture_kept v.chunk (area_place v.chunk a) o v.store w.store v.pairs h.text.some e.only (area_unnamed o rs v h a) (h.stored loud) (e.stored loud)

-- a published chunk, and one that is not, with pairs and their marks more
pub published_more : (ps qs : List Pair) (ms ns : List Mark) (c : ℕ) → All (λ (n : Mark). place_of ps n.chunk ≡ None) ns → IsPublished ps ms c → IsPublished (ps ++ qs) (ms ++ ns) c
published_more ps qs ms ns c fresh old = record {
  placed = placed_at (place_of ps c) refl;
  unmarked = All-append (λ m. m.chunk ≢ c) ms ns old.unmarked (All-weaker (λ n. place_of ps n.chunk ≡ None) (λ m. m.chunk ≢ c) (λ n none e. old.placed (ap (place_of ps) (sym e) ∙ none)) ns fresh);
}
  where
    placed_at : (r : Option ℕ) → place_of ps c ≡ r → place_of (ps ++ qs) c ≢ None
    placed_at None is = absurd (old.placed is)
    placed_at (Some place) is = λ none. some_ne_none place (sym (place_of-front_kept ps qs c place is) ∙ none)

-- the mark of a chunk that these copies have
marked_by : (cs : List ChunkCopy) (c n : ℕ) → place_of (map pair_of cs) c ≡ Some n → Any (λ (m : Mark). m.chunk ≡ c) (map mark_of cs)
marked_by [] c n e = absurd (some_ne_none n (sym e))
marked_by (p ∷ cs) c n e = elim (cases_Bool (nat_eq p.pair.old c)) [
  | inl same ↦ (zero, mark_of p, omega arith, refl, eqb-true p.pair.old c same)
  | inr other ↦ any_back (λ (m : Mark). m.chunk ≡ c) (mark_of p ∷ []) (map mark_of cs) (marked_by cs c n (rw other at e))
]

unpublished_more : (ps : List Pair) (ms : List Mark) (cs : List ChunkCopy) (c : ℕ) → IsUnpublished ps ms c → IsUnpublished (ps ++ map pair_of cs) (ms ++ map mark_of cs) c
unpublished_more ps ms cs c (inr any) = inr (any_front (λ m. m.chunk ≡ c) ms (map mark_of cs) any)
unpublished_more ps ms cs c (inl none) = behind (place_of (map pair_of cs) c) refl
  where
    behind : (r : Option ℕ) → place_of (map pair_of cs) c ≡ r → IsUnpublished (ps ++ map pair_of cs) (ms ++ map mark_of cs) c
    behind None is = inl (place_of-whole_none ps (map pair_of cs) c none is)
    behind (Some n) is = inr (any_back (λ m. m.chunk ≡ c) ms (map mark_of cs) (marked_by cs c n is))

route_more : (number chunk : ℕ) (ps : List Pair) (ms : List Mark) (cs : List ChunkCopy) (r : Flight) → All (λ (n : Mark). place_of ps n.chunk ≡ None) (map mark_of cs)
    → RouteHolds number chunk ps ms r → RouteHolds number chunk (ps ++ map pair_of cs) (ms ++ map mark_of cs) r
route_more number chunk ps ms cs r fresh h =
    let c : ℕ = chunk_of chunk r in
    let qs : List Pair = map pair_of cs in
    let ns : List Mark = map mark_of cs in
    record {
      piece = h.piece;
      origin_write = λ kind route. published_more ps qs ms ns c fresh (h.origin_write kind route);
      read = λ kind route. unpublished_more ps ms cs c (h.read kind route);
      read_stored = λ place kind route. place_of-front_kept ps qs c place (h.read_stored place kind route);
      write = h.write;
      write_stored = λ place kind route. (let old = h.write_stored place kind route in (place_of-front_kept ps qs c place old.0, published_more ps qs ms ns c fresh old.1));
      read_alive = h.read_alive;
      write_alive = h.write_alive;
      flush = h.flush;
    }

-- an element of a list's front
front_pair : (ps qs : List Pair) (k i : ℕ) (d : Pair) → i < length (ps ++ take k qs) → k < length qs → get_or (ps ++ take k qs) i d ≡ get_or (ps ++ qs) i d
front_pair ps qs k i d lt short =
    let len : length (take k qs) ≡ k = length-take-le k qs (omega arith) in
    ap (λ x. get_or x i d) (sym (take-append-add ps qs k)) ∙ get_or-take (length ps + k) (ps ++ qs) i d (omega (arith, length-append ps (take k qs)))

-- none of these pairs is named by those before it
pub fresh_pairs : (ps qs : List Pair) → AllPairs IsApart (ps ++ qs) → (k : ℕ) (d : Pair) → k < length qs → place_of (ps ++ take k qs) (get_or qs k d).old ≡ None
fresh_pairs ps qs apart k d lt = place_none (ps ++ take k qs) (get_or qs k d).old (λ i e i_in.
    let len : length (take k qs) ≡ k = length-take-le k qs (omega arith) in
    let both : IsApart (get_or (ps ++ qs) i e) (get_or (ps ++ qs) (length ps + k) e) = apart i (length ps + k) e (omega (arith, length-append ps (take k qs))) (omega (arith, length-append ps qs)) in
    let one : IsApart (get_or (ps ++ take k qs) i e) (get_or qs k e) =
    subst (λ x. IsApart x (get_or qs k e)) (sym (front_pair ps qs k i e i_in lt)) (subst (λ x. IsApart (get_or (ps ++ qs) i e) x) (get_or-append-add ps qs k e) both) in
    λ same. one.old (same ∙ ap (λ (x : Pair). x.old) (sym (get_or_same qs k d e lt))))
  where
    get_or_same : (xs : List Pair) (k : ℕ) (d e : Pair) → k < length xs → get_or xs k e ≡ get_or xs k d
    get_or_same xs k d e lt = get_or_default xs k e d lt

-- the first copies are committed
module _ {l : Bool} (o : List ℕ) (rs : List Flight) (count a : ℕ) (v w : SnapBooks) (h : LiveHolds l o rs v) (e : Commits count a v w) where
  abbrev first : List ChunkCopy
  first = take count v.copies

  abbrev new : List Pair
  new = map pair_of first

  front_begun : take count v.begun ≡ new
  front_begun = ap (take count) h.agree ∙ take-map pair_of count v.copies

  given_same : (v.pairs ++ new) ++ drop count v.begun ≡ v.pairs ++ v.begun
  given_same = append_assoc v.pairs new (drop count v.begun) ∙ ap (λ x. v.pairs ++ (x ++ drop count v.begun)) (sym front_begun) ∙ ap (λ x. v.pairs ++ x) (take-append-drop count v.begun)

  inside_now : All (IsInside v.chunk v.sectors v.size) (v.pairs ++ new)
  inside_now = All-front (IsInside v.chunk v.sectors v.size) (v.pairs ++ new) (drop count v.begun) (subst (All (IsInside v.chunk v.sectors v.size)) (sym given_same) h.text.inside)

  apart_now : AllPairs IsApart (v.pairs ++ new)
  apart_now = AllPairs-front IsApart (v.pairs ++ new) (drop count v.begun) (subst (AllPairs IsApart) (sym given_same) h.text.apart)

  unnamed_now : (c : ℕ) → place_of (v.pairs ++ new) c ≢ Some (area_place v.chunk a)
  unnamed_now = place_unnamed v.chunk v.sectors v.size a (v.pairs ++ new) h.text.some inside_now

  none_now : (k : ℕ) (d : Pair) → k < length new → place_of (v.pairs ++ take k new) (get_or new k d).old ≡ None
  none_now = fresh_pairs v.pairs new apart_now

  copied_now : (l && v.loud) ≡ true → All (IsCopied v.chunk o v.store) new
  copied_now loud = All-map (IsCopied v.chunk o v.store) pair_of first
      (λ k d lt. (All-take (CopyHolds _ v.chunk v.sectors o v.store) count v.copies h.copies k d lt).written loud (ap is_stored (e.ready k d lt)))

  -- the array stays as it was, byte by byte
  same_at : (l && v.loud) ≡ true → (i : ℕ) → i < length o → picture_at v.chunk o w.store (v.pairs ++ new) i ≡ picture_at v.chunk o v.store v.pairs i
  same_at loud i lt = picture-only v.chunk (area_place v.chunk a) o v.store w.store (v.pairs ++ new) h.text.some e.only unnamed_now i
      ∙ picture-more v.chunk o v.store v.pairs new none_now (copied_now loud) i lt

  pub fresh_marks : All (λ (n : Mark). place_of v.pairs n.chunk ≡ None) (map mark_of first)
  fresh_marks = All-map (λ (n : Mark). place_of v.pairs n.chunk ≡ None) mark_of first (λ k d lt.
      let p = get_or first k d in
      let len : length first ≡ count = length-take-le count v.copies e.few in
      let inside : k < length v.copies = omega (arith, e.few) in
      not_placed o rs v h k p inside (get_or-take count v.copies k d (omega arith) ∙ get_or_default v.copies k d p inside))

  abbrev after : SnapBooks
  after = record v { store = w.store; pairs = v.pairs ++ new; begun = drop count v.begun; copies = drop count v.copies; marks = v.marks ++ map mark_of first }

  after_is : w ≡ after
  after_is = (let s = e.same in same_books w after s.number s.live s.untried s.marked s.loud s.overflow s.chunk s.sectors s.size refl (e.pairs ∙ ap (λ x. v.pairs ++ x) front_begun) e.begun e.sure e.copies e.marks)

  after_holds : LiveHolds l o rs after
  after_holds = (let t = h.text in record {
    text = record {
      some = t.some;
      allowed = t.allowed;
      whole = e.only.len ∙ t.whole;
      inside = subst (All (IsInside v.chunk v.sectors v.size)) (sym given_same) t.inside;
      apart = subst (AllPairs IsApart) (sym given_same) t.apart;
    };
    stored = λ loud. e.stored loud ∙ e.pairs ∙ ap (λ x. v.pairs ++ x) front_begun;
    fits = h.fits;
    tried = h.tried;
    agree = ap (drop count) h.agree ∙ drop-map pair_of count v.copies;
    few = omega (arith, h.few, length-append v.pairs new);
    link = link_committed v.sure v.pairs v.marks first h.few h.link;
    copies = All-drop (CopyHolds _ v.chunk v.sectors o w.store) count v.copies (area_copies o rs v w.store h a e.only);
    unpublished = λ loud. All-append (MarkHolds v.chunk o w.store (v.pairs ++ new)) v.marks (map mark_of first)
        (All-weaker (MarkHolds v.chunk o v.store v.pairs) (MarkHolds v.chunk o w.store (v.pairs ++ new)) (λ m old. record { same = λ i lt at. same_at loud i lt ∙ old.same i lt at }) v.marks (h.unpublished loud))
        (All-weaker (λ (n : Mark). place_of v.pairs n.chunk ≡ None) (MarkHolds v.chunk o w.store (v.pairs ++ new))
        (λ n none. record { same = λ i lt at. same_at loud i lt ∙ ap (byte_of v.chunk o v.store i) (ap (place_of v.pairs) at ∙ none) }) (map mark_of first) fresh_marks);
    routes = All-weaker (RouteHolds v.number v.chunk v.pairs v.marks) (RouteHolds v.number v.chunk (v.pairs ++ new) (v.marks ++ map mark_of first))
        (λ r. route_more v.number v.chunk v.pairs v.marks first r fresh_marks) rs h.routes;
  })

  pub commit : LiveHolds l o rs w
  commit = subst (LiveHolds _ o rs) (sym after_is) after_holds

  pub commit_picture : (l && v.loud) ≡ true → picture w.chunk o w.store ≡ picture v.chunk o v.store
  commit_picture loud = ap (λ c. picture c o w.store) e.same.chunk
      ∙ picture-commit v.chunk (area_place v.chunk a) o v.store w.store v.pairs new h.text.some e.only (h.stored (store_loud l v.loud loud)) (e.stored (store_loud l v.loud loud) ∙ e.pairs ∙ ap (λ x. v.pairs ++ x) front_begun) unnamed_now none_now (copied_now loud)

-- The merge's own events, over the merging store.
use Rattle.std.proofs.Common.{◌≡◌, ◌≢◌, ℕ, ◌*◌, ◌≤◌, Bool, true, false, List, [], ◌∷◌, ◌++◌, Some, length, get_or, take, sym, ◌∙◌, ap, subst, arith, append_assoc, append-nil}
use Rattle.std.specs.List.{All}
use Rattle.std.specs.Prelude.{AllPairs}
use Rattle.std.proofs.lemmas.List.Elements.{All-head, All-cons, All-nil, All-append}
use Rattle.sector.specs.Bytes.{sectors_at}
use Rattle.sector.specs.declared.pair.Pair.{Pair}
use Rattle.cow_format.specs.Places.{area_place, is_area_place, ChangesOnly}
use Rattle.cow_format.specs.Pairs.{pairs_of, IsApart, IsInside}
use Rattle.cow_format.specs.Picture.{place_of, picture_at, picture, IsCopied}
use Rattle.cow_format.proofs.AreaPlaces.{place_is}
use Rattle.cow_format.proofs.Pictures.{picture-origin, same_picture, front_copied}
use Rattle.cow_format.proofs.Views.{place_unnamed, picture-merged}
use Rattle.in_flight.specs.Copies.{count_of}
use Rattle.in_flight.specs.Kinds.{kind_of}
use Rattle.in_flight.specs.declared.flights.Flight.{Flight}
use Rattle.in_flight.specs.declared.flights.Kind.TheVariants.{OriginRead, OriginWrite}
use Rattle.in_flight.specs.declared.flights.Route.TheVariants.{Store}
use Rattle.volume_laws.specs.Books.{SnapBooks, MergeBooks, given, listed, taken}
use Rattle.volume_laws.specs.Published.{chunk_of}
use Rattle.volume_laws.specs.Held.{LiveHolds}
use Rattle.volume_laws.specs.Merging.{MergeHolds, MergeRouteHolds}
use Rattle.volume_laws.specs.Steps.{WritesDisk}
use Rattle.volume_laws.proofs.Lists.{All-front, All-back, AllPairs-front, AllPairs-back, AllPairs-head}
use Rattle.volume_laws.proofs.Pairs.{place_of-middle, place_of-front_none, place_of-front_some}
use Rattle.volume_laws.proofs.Stores.{copied_kept}
use Rattle.volume_laws.proofs.Copying.{whole_chunk}
use Rattle.volume_laws.proofs.Committing.{fresh_pairs}
use Rattle.volume_laws.proofs.Bytes.{disk_other}
use Rattle.volume_laws.proofs.Attaching.{picture_none}

-- the taken pairs are the end of the listed ones
abbrev pub base : (o : List ℕ) (rs : List Flight) (m : MergeBooks) → MergeHolds o rs m → List Pair
base o rs m h = h.ending.0 ++ m.waiting

pub pairs_end : (o : List ℕ) (rs : List Flight) (m : MergeBooks) (h : MergeHolds o rs m) → m.pairs ≡ base o rs m h ++ (m.reading ++ m.copied)
pairs_end o rs m h = h.ending.1 ∙ sym (append_assoc h.ending.0 m.waiting (m.reading ++ m.copied))

pub listed_end : (o : List ℕ) (rs : List Flight) (m : MergeBooks) (h : MergeHolds o rs m) → listed m ≡ base o rs m h ++ taken m
listed_end o rs m h = ap (λ x. x ++ m.released) (pairs_end o rs m h) ∙ append_assoc (base o rs m h) (m.reading ++ m.copied) m.released
    ∙ ap (λ x. base o rs m h ++ x) (append_assoc m.reading m.copied m.released)

-- what holds of all listed pairs holds of the taken ones
pub All-taken : (o : List ℕ) (rs : List Flight) (m : MergeBooks) (h : MergeHolds o rs m) (P : Pair → Type 0) → All P (listed m) → All P (taken m)
All-taken o rs m h P all = All-back P (base o rs m h) (taken m) (subst (All P) (listed_end o rs m h) all)

-- no write goes to this place
abbrev pub NoWriteTo : ℕ → Flight → Type 0
NoWriteTo place r = kind_of r.request ≡ OriginWrite → r.route ≢ Store place

-- MergeRead: the last waiting pair's chunk is read from its place, to which no write is in flight
pub merge_read : (o : List ℕ) (rs : List Flight) (m : MergeBooks) → MergeHolds o rs m → (rest : List Pair) (q : Pair) (bytes : List ℕ) → m.waiting ≡ rest ++ q ∷ [] → m.reading ≡ []
    → take (512 * count_of m.chunk m.sectors q.old) bytes ≡ sectors_at m.store (m.chunk * q.new) (count_of m.chunk m.sectors q.old) → length bytes ≡ 512 * m.chunk → All (NoWriteTo q.new) rs
    → MergeHolds o rs (record m { waiting = rest; reading = q ∷ []; buffer = bytes })
merge_read o rs m h rest q bytes last none read sized quiet =
    let done : List Pair = m.copied ++ m.released in
    let whole : listed m ≡ (h.ending.0 ++ rest) ++ q ∷ done =
    listed_end o rs m h ∙ ap (λ x. (h.ending.0 ++ m.waiting) ++ (x ++ done)) none ∙ ap (λ x. (h.ending.0 ++ x) ++ done) last
    ∙ ap (λ x. x ++ done) (sym (append_assoc h.ending.0 rest (q ∷ []))) ∙ append_assoc (h.ending.0 ++ rest) (q ∷ []) done in
    let found : place_of (listed m) q.old ≡ Some q.new =
    ap (λ x. place_of x q.old) whole ∙ place_of-middle (h.ending.0 ++ rest) q done (subst (AllPairs IsApart) whole h.text.apart) in
    let P : Pair → Type 0 = λ p. take (512 * count_of m.chunk m.sectors p.old) bytes ≡ sectors_at m.store (m.chunk * p.new) (count_of m.chunk m.sectors p.old) in
    record {
      text = h.text;
      stored = h.stored;
      fits = h.fits;
      ending = (
        h.ending.0,
        h.ending.1 ∙ ap (λ x. h.ending.0 ++ (x ++ (m.reading ++ m.copied))) last ∙ ap (λ x. h.ending.0 ++ ((rest ++ q ∷ []) ++ (x ++ m.copied))) none
            ∙ ap (λ x. h.ending.0 ++ x) (append_assoc rest (q ∷ []) m.copied),
      );
      room = sized;
      buffered = λ _. All-cons P q [] read (All-nil P);
      back = h.back;
      routes = λ k d lt.
          (let r = get_or rs k d in
          let c : ℕ = chunk_of m.chunk r in
          let old = h.routes k d lt in
          record {
            piece = old.piece;
            read = old.read;
            read_stored = old.read_stored;
            write = old.write;
            write_stored = old.write_stored;
            untaken = λ place kind route. (let before : All (λ p. p.old ≢ c) (m.reading ++ done) = old.untaken place kind route in
                All-cons (λ p. p.old ≢ c) q done
                (λ same. quiet k d lt kind (let there : Some place ≡ Some q.new = sym (old.write_stored place kind route) ∙ ap (place_of (listed m)) (sym same) ∙ found in route ∙ ap Store (let e : place ≡ q.new = cc in e)))
                (All-back (λ p. p.old ≢ c) m.reading done before));
            no_read = old.no_read;
            no_write = old.no_write;
            flush = old.flush;
            no_flush = old.no_flush;
          });
    }

-- MergeWrite: the buffered chunk is written to the origin disk
module _ (o o' : List ℕ) (rs : List Flight) (m : MergeBooks) (h : MergeHolds o rs m) (q : Pair) (full : m.reading ≡ q ∷ [])
    (e : WritesDisk (m.chunk * q.old) (count_of m.chunk m.sectors q.old) o o')
    (wrote : m.loud ≡ true → sectors_at o' (m.chunk * q.old) (count_of m.chunk m.sectors q.old) ≡ take (512 * count_of m.chunk m.sectors q.old) m.buffer) where
  abbrev pub written_back : MergeBooks
  written_back = record m { reading = []; copied = q ∷ m.copied }

  write_whole : listed m ≡ base o rs m h ++ q ∷ (m.copied ++ m.released)
  write_whole = listed_end o rs m h ∙ ap (λ x. base o rs m h ++ (x ++ (m.copied ++ m.released))) full

  write_pairs : m.pairs ≡ base o rs m h ++ q ∷ m.copied
  write_pairs = pairs_end o rs m h ∙ ap (λ x. base o rs m h ++ (x ++ m.copied)) full

  write_apart : All (IsApart q) (m.copied ++ m.released)
  write_apart = AllPairs-head IsApart q (m.copied ++ m.released) (AllPairs-back IsApart (base o rs m h) (q ∷ (m.copied ++ m.released)) (subst (AllPairs IsApart) write_whole h.text.apart))

  pub write_named : place_of m.pairs q.old ≡ Some q.new
  write_named = ap (λ x. place_of x q.old) write_pairs ∙ place_of-middle (base o rs m h) q m.copied
      (subst (AllPairs IsApart) write_pairs (AllPairs-front IsApart m.pairs m.released h.text.apart))

  pub write_inside : IsInside m.chunk m.sectors m.size q
  write_inside = All-head (IsInside m.chunk m.sectors m.size) q (m.copied ++ m.released)
      (All-back (IsInside m.chunk m.sectors m.size) (base o rs m h) (q ∷ (m.copied ++ m.released)) (subst (All (IsInside m.chunk m.sectors m.size)) write_whole h.text.inside))

  few : count_of m.chunk m.sectors q.old ≤ m.chunk
  few = omega arith

  copied_now : m.loud ≡ true → IsCopied m.chunk o' m.store q
  copied_now loud =
      let n : ℕ = count_of m.chunk m.sectors q.old in
      let P : Pair → Type 0 = λ p. take (512 * count_of m.chunk m.sectors p.old) m.buffer ≡ sectors_at m.store (m.chunk * p.new) (count_of m.chunk m.sectors p.old) in
      let here : take (512 * count_of m.chunk m.sectors q.old) m.buffer ≡ sectors_at m.store (m.chunk * q.new) (count_of m.chunk m.sectors q.old) = All-head P q [] (subst (All P) full (h.buffered loud)) in
      record {
        front = front_copied m.chunk q.old q.new (count_of m.chunk m.sectors q.old) o' m.store h.text.some (sym here ∙ sym (wrote loud)) few
            (whole_chunk m.chunk m.sectors q.old (length o') (e.len ∙ h.fits) write_inside.old);
      }

  pub merge_write : MergeHolds o' rs written_back
  merge_write = record {
    text = h.text;
    stored = h.stored;
    fits = e.len ∙ h.fits;
    ending = (h.ending.0, h.ending.1 ∙ ap (λ x. h.ending.0 ++ (m.waiting ++ (x ++ m.copied))) full);
    room = h.room;
    buffered = λ _. All-nil (λ p. take (512 * count_of m.chunk m.sectors p.old) m.buffer ≡ sectors_at m.store (m.chunk * p.new) (count_of m.chunk m.sectors p.old));
    back = λ loud. All-cons (IsCopied m.chunk o' m.store) q (m.copied ++ m.released) (copied_now loud)
        (λ k d lt. (let one = write_apart k d lt in let old = h.back loud k d lt in
        record {
          front = λ i inside at. old.front i (omega (arith, e.len)) at
              ∙ sym (disk_other m.chunk (m.chunk * q.old) (count_of m.chunk m.sectors q.old) q.old i o o' h.text.some e (omega arith) (omega arith) (λ same. one.old (sym same ∙ at)));
        }));
    routes = subst (λ x. All (MergeRouteHolds m.number m.chunk m.pairs (listed m) (x ++ (m.copied ++ m.released))) rs) full h.routes;
  }

  pub merge_write_picture : m.loud ≡ true → picture m.chunk o' m.store ≡ picture m.chunk o m.store
  merge_write_picture loud = same_picture m.chunk o m.store o' m.store m.pairs e.len (h.stored loud)
      (λ i lt. picture-origin m.chunk q.old q.new (m.chunk * q.old) (count_of m.chunk m.sectors q.old) o o' m.store m.pairs h.text.some write_named (omega arith) (omega arith) e.rest i
      ∙ sym (ap (λ ps. picture_at m.chunk o m.store ps i) (h.stored loud)))

-- MergeCommit: area a is written without the group's pairs, each of which was copied
module _ (o : List ℕ) (rs : List Flight) (m : MergeBooks) (h : MergeHolds o rs m) (kept : List Pair) (a : ℕ) (store : List ℕ)
    (ends : m.pairs ≡ kept ++ m.copied) (all_read : m.waiting ≡ []) (all_written : m.reading ≡ [])
    (only : ChangesOnly m.chunk (area_place m.chunk a) m.store store) (stored_now : m.loud ≡ true → pairs_of m.chunk store ≡ kept) where
  abbrev pub committed : MergeBooks
  committed = record m { store = store; pairs = kept; copied = []; released = m.copied ++ m.released }

  same_listed : listed committed ≡ listed m
  same_listed = sym (append_assoc kept m.copied m.released) ∙ ap (λ x. x ++ m.released) (sym ends)

  true_ne_false : true ≢ false
  true_ne_false c = cc

  not_area : All (λ q. q.new ≢ area_place m.chunk a) (listed m)
  not_area k d lt c = (let one = h.text.inside k d lt in true_ne_false (sym (place_is m.chunk a h.text.some) ∙ sym (ap (is_area_place m.chunk) c) ∙ one.free))

  not_area_back : All (λ q. q.new ≢ area_place m.chunk a) (m.copied ++ m.released)
  not_area_back = All-back (λ q. q.new ≢ area_place m.chunk a) m.reading (m.copied ++ m.released) (All-taken o rs m h (λ q. q.new ≢ area_place m.chunk a) not_area)

  commit_back : m.loud ≡ true → All (IsCopied m.chunk o store) (m.copied ++ m.released)
  commit_back loud k d lt = copied_kept m.chunk (area_place m.chunk a) o m.store store (get_or (m.copied ++ m.released) k d) h.text.some only (not_area_back k d lt) (h.back loud k d lt)

  pub merge_commit : MergeHolds o rs committed
  merge_commit = record {
    text = (let t = h.text in record {
      some = t.some;
      allowed = t.allowed;
      whole = only.len ∙ t.whole;
      inside = subst (All (IsInside m.chunk m.sectors m.size)) (sym same_listed) t.inside;
      apart = subst (AllPairs IsApart) (sym same_listed) t.apart;
    });
    stored = stored_now;
    fits = h.fits;
    ending = (kept, sym (append-nil kept) ∙ ap (λ x. kept ++ x) (sym (ap (λ x. x ++ (m.reading ++ [])) all_read ∙ ap (λ x. x ++ []) all_written)));
    room = h.room;
    buffered = λ _. subst (All (λ p. take (512 * count_of m.chunk m.sectors p.old) m.buffer ≡ sectors_at store (m.chunk * p.new) (count_of m.chunk m.sectors p.old))) (sym all_written)
        (All-nil (λ p. take (512 * count_of m.chunk m.sectors p.old) m.buffer ≡ sectors_at store (m.chunk * p.new) (count_of m.chunk m.sectors p.old)));
    back = commit_back;
    routes = λ k d lt. (let r = get_or rs k d in let c : ℕ = chunk_of m.chunk r in let old = h.routes k d lt in record {
      piece = old.piece;
      read = λ kind route. place_of-front_none kept m.copied c (ap (λ x. place_of x c) (sym ends) ∙ old.read kind route);
      read_stored = λ place kind route. ap (λ x. place_of x c) same_listed ∙ old.read_stored place kind route;
      write = λ kind route. ap (λ x. place_of x c) same_listed ∙ old.write kind route;
      write_stored = λ place kind route. ap (λ x. place_of x c) same_listed ∙ old.write_stored place kind route;
      untaken = old.untaken;
      no_read = old.no_read;
      no_write = old.no_write;
      flush = old.flush;
      no_flush = old.no_flush;
    });
  }

  pub merge_commit_picture : m.loud ≡ true → picture m.chunk o store ≡ picture m.chunk o m.store
  merge_commit_picture loud =
      let whole : AllPairs IsApart (kept ++ m.copied) = subst (AllPairs IsApart) ends (AllPairs-front IsApart m.pairs m.released h.text.apart) in
      let inside : All (IsInside m.chunk m.sectors m.size) kept = All-front (IsInside m.chunk m.sectors m.size) kept m.copied (subst (All (IsInside m.chunk m.sectors m.size)) ends (All-front (IsInside m.chunk m.sectors m.size) m.pairs m.released h.text.inside)) in
      picture-merged m.chunk (area_place m.chunk a) o m.store store kept m.copied h.text.some only (h.stored loud ∙ ends) (stored_now loud)
      (place_unnamed m.chunk m.sectors m.size a kept h.text.some inside)
      (fresh_pairs kept m.copied whole)
      (All-front (IsCopied m.chunk o m.store) m.copied m.released (h.back loud))

-- no group is formed
pub record IsUngrouped (m : MergeBooks) : Type 0 where
  pub waiting : m.waiting ≡ []
  pub reading : m.reading ≡ []
  pub copied : m.copied ≡ []
  pub released : m.released ≡ []

-- MergeGroup: the last pairs form the group; requests keep their routes
pub merge_group : (o : List ℕ) (rs : List Flight) (m : MergeBooks) (kept group : List Pair) → MergeHolds o rs m → IsUngrouped m → m.pairs ≡ kept ++ group → MergeHolds o rs (record m { waiting = group })
merge_group o rs m kept group h none ends = record {
  text = h.text;
  stored = h.stored;
  fits = h.fits;
  ending = (kept, ends ∙ ap (λ x. kept ++ x) (sym (append-nil group)) ∙ sym (ap (λ x. kept ++ (group ++ (x ++ m.copied))) none.reading ∙ ap (λ x. kept ++ (group ++ x)) none.copied));
  room = h.room;
  buffered = h.buffered;
  back = h.back;
  routes = h.routes;
}

-- an origin request goes to none of these pairs' places
pub record GoesElsewhere (pairs : List Pair) (r : Flight) : Type 0 where
  pub read : (place : ℕ) → kind_of r.request ≡ OriginRead → r.route ≡ Store place → All (λ q. q.new ≢ place) pairs
  pub write : (place : ℕ) → kind_of r.request ≡ OriginWrite → r.route ≡ Store place → All (λ q. q.new ≢ place) pairs

abbrev pub dissolved : MergeBooks → MergeBooks
dissolved m = record m { waiting = []; reading = []; copied = []; released = [] }

-- the group ends: MergeRelease, and every fault before the commit (then no pair is released)
pub merge_dissolve : (o : List ℕ) (rs : List Flight) (m : MergeBooks) → MergeHolds o rs m → All (GoesElsewhere m.released) rs → MergeHolds o rs (dissolved m)
merge_dissolve o rs m h elsewhere = record {
  text = (let t = h.text in record {
    some = t.some;
    allowed = t.allowed;
    whole = t.whole;
    inside = All-append (IsInside m.chunk m.sectors m.size) m.pairs [] (All-front (IsInside m.chunk m.sectors m.size) m.pairs m.released t.inside) (All-nil (IsInside m.chunk m.sectors m.size));
    apart = subst (AllPairs IsApart) (sym (append-nil m.pairs)) (AllPairs-front IsApart m.pairs m.released t.apart);
  });
  stored = h.stored;
  fits = h.fits;
  ending = (m.pairs, sym (append-nil m.pairs));
  room = h.room;
  buffered = λ _. All-nil (λ p. take (512 * count_of m.chunk m.sectors p.old) m.buffer ≡ sectors_at m.store (m.chunk * p.new) (count_of m.chunk m.sectors p.old));
  back = λ _. All-nil (IsCopied m.chunk o m.store);
  routes = λ k d lt. (let r = get_or rs k d in let c : ℕ = chunk_of m.chunk r in let old = h.routes k d lt in let far = elsewhere k d lt in
      let all : m.pairs ++ [] ≡ m.pairs = append-nil m.pairs in
      record {
        piece = old.piece;
        read = old.read;
        read_stored = λ place kind route. ap (λ x. place_of x c) all ∙ place_of-front_some m.pairs m.released c place (old.read_stored place kind route) (far.read place kind route);
        write = λ kind route. ap (λ x. place_of x c) all ∙ place_of-front_none m.pairs m.released c (old.write kind route);
        write_stored = λ place kind route. ap (λ x. place_of x c) all ∙ place_of-front_some m.pairs m.released c place (old.write_stored place kind route) (far.write place kind route);
        untaken = λ place kind route. All-nil (λ q. q.old ≢ c);
        no_read = old.no_read;
        no_write = old.no_write;
        flush = old.flush;
        no_flush = old.no_flush;
      });
}

-- a fault comes before the commit, so nothing is released yet
nothing_released : (rs : List Flight) → All (GoesElsewhere []) rs
nothing_released rs k d lt = record { read = λ place kind route. All-nil (λ q. q.new ≢ place); write = λ place kind route. All-nil (λ q. q.new ≢ place) }

pub merge_fault : (o : List ℕ) (rs : List Flight) (m : MergeBooks) → MergeHolds o rs m → m.released ≡ [] → MergeHolds o rs (dissolved m)
merge_fault o rs m h none = merge_dissolve o rs m h (subst (λ x. All (GoesElsewhere x) rs) (sym none) (nothing_released rs))

-- begin_merge: a quiet live snapshot; both stacks have to be loud for what is said of their bytes
abbrev pub begun : SnapBooks → Bool → List ℕ → MergeBooks
begun v loud buffer = record { number = v.number; loud = loud; chunk = v.chunk; sectors = v.sectors; size = v.size; store = v.store; pairs = v.pairs; waiting = []; reading = []; buffer = buffer; copied = []; released = [] }

pub begin : {l : Bool} (o : List ℕ) (v : SnapBooks) (loud : Bool) (buffer : List ℕ) → LiveHolds l o [] v → v.begun ≡ [] → (loud ≡ true → v.loud ≡ true) → length buffer ≡ 512 * v.chunk → MergeHolds o [] (begun v loud buffer)
begin o v loud buffer h none louder sized =
    let all : given v ≡ v.pairs ++ [] = ap (λ x. v.pairs ++ x) none in
    record {
      text = (let t = h.text in record {
        some = t.some;
        allowed = t.allowed;
        whole = t.whole;
        inside = subst (All (IsInside v.chunk v.sectors v.size)) all t.inside;
        apart = subst (AllPairs IsApart) all t.apart;
      });
      stored = λ l. h.stored (louder l);
      fits = h.fits;
      ending = (v.pairs, sym (append-nil v.pairs));
      room = sized;
      buffered = λ _. All-nil (λ p. take (512 * count_of v.chunk v.sectors p.old) buffer ≡ sectors_at v.store (v.chunk * p.new) (count_of v.chunk v.sectors p.old));
      back = λ _. All-nil (IsCopied v.chunk o v.store);
      routes = All-nil (MergeRouteHolds v.number v.chunk v.pairs (listed (begun v loud buffer)) (taken (begun v loud buffer)));
    }

-- finish_merge: with no pair left the origin disk is the origin's array
pub finish : (o : List ℕ) (rs : List Flight) (m : MergeBooks) → MergeHolds o rs m → m.loud ≡ true → m.pairs ≡ [] → picture m.chunk o m.store ≡ o
finish o rs m h loud none = picture_none m.chunk o m.store (h.stored loud ∙ none)

-- the buffer may be used for other bytes while no chunk is in it
pub merge_buffer : (o : List ℕ) (rs : List Flight) (m : MergeBooks) (bytes : List ℕ) → MergeHolds o rs m → m.reading ≡ [] → length bytes ≡ 512 * m.chunk → MergeHolds o rs (record m { buffer = bytes })
merge_buffer o rs m bytes h none sized =
    let P : Pair → Type 0 = λ p. take (512 * count_of m.chunk m.sectors p.old) bytes ≡ sectors_at m.store (m.chunk * p.new) (count_of m.chunk m.sectors p.old) in
    record {
      text = h.text;
      stored = h.stored;
      fits = h.fits;
      ending = h.ending;
      room = sized;
      buffered = λ _. subst (All P) (sym none) (All-nil P);
      back = h.back;
      routes = h.routes;
    }

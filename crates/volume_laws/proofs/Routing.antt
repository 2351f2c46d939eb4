-- A request that is routed by the table goes where it may.
use Rattle.std.proofs.Common.{◌≡◌, ◌≢◌, inl, inr, ℕ, Bool, true, false, List, [], ◌∷◌, ◌++◌, Option, Some, None, refl, sym, ◌∙◌, ap, nat_eq}
use Rattle.std.proofs.lemmas.Bool.{cases_Bool, eqb-false, false≢true}
use Rattle.std.proofs.lemmas.List.Elements.{All-weaker}
use Rattle.sector.specs.declared.pair.Pair.{Pair}
use Rattle.cow_format.specs.Picture.{place_of}
use Rattle.in_flight.specs.Kinds.{kind_of}
use Rattle.in_flight.specs.Routes.{read_route_of, placed_write_route, write_route_of, flush_route_of}
use Rattle.in_flight.specs.declared.flights.Flight.{Flight}
use Rattle.in_flight.specs.declared.flights.Kind.TheVariants.{OriginRead, OriginWrite, OriginFlush, SnapRead, SnapWrite, SnapFlush}
use Rattle.in_flight.specs.declared.flights.Route.TheVariants.{Held, Origin, Store, Whole, Refused}
use Rattle.volume_laws.specs.Books.{SnapBooks, MergeBooks, listed, taken, group_of}
use Rattle.volume_laws.specs.Published.{chunk_of, IsPiece, IsPublished}
use Rattle.volume_laws.specs.Held.{RouteHolds, RefusedHolds}
use Rattle.volume_laws.specs.Merging.{MergeRouteHolds}
use Rattle.volume_laws.specs.Whole.{UnmergedHolds}
use Rattle.volume_laws.specs.Again.{has_chunk}
use Rattle.volume_laws.proofs.Lists.{All-from_list_any}
use Rattle.volume_laws.proofs.Pairs.{place_of-front_kept, place_of-whole_none}

unnamed_place : (pairs : List Pair) (c : ℕ) → has_chunk pairs c ≡ false → place_of pairs c ≡ None
unnamed_place [] c none = refl
unnamed_place (p ∷ pairs) c none =
    elim (cases_Bool (nat_eq p.old c)) [
      | inl same ↦ let e : true ≡ false = rw same at none in cc
      | inr other ↦ rw other (unnamed_place pairs c (rw other at none))
    ]

has-back : (front back : List Pair) (c : ℕ) → has_chunk (front ++ back) c ≡ false → has_chunk back c ≡ false
has-back [] back c none = none
has-back (p ∷ front) back c none =
    elim (cases_Bool (nat_eq p.old c)) [
      | inl same ↦ let e : true ≡ false = rw same at none in cc
      | inr other ↦ has-back front back c (rw other at none)
    ]

-- where a read goes
read_origin : (found : Option ℕ) → read_route_of found ≡ Origin → found ≡ None
read_origin (Some place) e = cc
read_origin None e = refl

read_store : (found : Option ℕ) (place : ℕ) → read_route_of found ≡ Store place → found ≡ Some place
read_store (Some n) place e = let same : n ≡ place = cc in ap Some same
read_store None place e = cc

read_refused : (found : Option ℕ) → read_route_of found ≢ Refused
read_refused (Some n) e = cc
read_refused None e = cc

-- where a write goes
write_store : (grouped : Bool) (found : Option ℕ) (clear : Bool) (place : ℕ) → write_route_of grouped found clear ≡ Store place → (grouped ≡ false) × (found ≡ Some place)
write_store true found clear place e = cc
write_store false (Some n) clear place e = let same : n ≡ place = cc in (refl, ap Some same)
write_store false None true place e = cc
write_store false None false place e = cc

pub write_origin : (grouped : Bool) (found : Option ℕ) (clear : Bool) → write_route_of grouped found clear ≡ Origin → (grouped ≡ false) × (found ≡ None) × (clear ≡ true)
write_origin true found clear e = cc
write_origin false (Some n) clear e = cc
write_origin false None true e = (refl, refl, refl)
write_origin false None false e = cc

-- two kinds
pub read_ne_write : OriginRead ≢ OriginWrite
read_ne_write e = cc

pub origin_read_ne_read : (n : ℕ) → OriginRead ≢ SnapRead n
origin_read_ne_read n e = cc

pub origin_read_ne_write : (n : ℕ) → OriginRead ≢ SnapWrite n
origin_read_ne_write n e = cc

write_ne_read : OriginWrite ≢ OriginRead
write_ne_read e = cc

pub origin_write_ne_read : (n : ℕ) → OriginWrite ≢ SnapRead n
origin_write_ne_read n e = cc

pub origin_write_ne_write : (n : ℕ) → OriginWrite ≢ SnapWrite n
origin_write_ne_write n e = cc

pub snap_read_ne_read : (n : ℕ) → SnapRead n ≢ OriginRead
snap_read_ne_read n e = cc

snap_read_ne_write : (n : ℕ) → SnapRead n ≢ OriginWrite
snap_read_ne_write n e = cc

pub snap_write_ne_read : (n : ℕ) → SnapWrite n ≢ OriginRead
snap_write_ne_read n e = cc

snap_write_ne_write : (n : ℕ) → SnapWrite n ≢ OriginWrite
snap_write_ne_write n e = cc

pub reads_ne_writes : (m n : ℕ) → SnapRead m ≢ SnapWrite n
reads_ne_writes m n e = cc

pub snap_of_read : (m n : ℕ) → SnapRead m ≡ SnapRead n → m ≡ n
snap_of_read m n e = cc

pub snap_of_write : (m n : ℕ) → SnapWrite m ≡ SnapWrite n → m ≡ n
snap_of_write m n e = cc

-- an origin read, as to a live snapshot
pub origin_read_snap : (v : SnapBooks) (r : Flight) → kind_of r.request ≡ OriginRead → IsPiece v.chunk r.request.range → RouteHolds v.number v.chunk v.pairs v.marks r
origin_read_snap v r kind piece = record {
  piece = piece;
  origin_write = λ e _. absurd (read_ne_write (sym kind ∙ e));
  read = λ e _. absurd (origin_read_ne_read v.number (sym kind ∙ e));
  read_stored = λ place e _. absurd (origin_read_ne_read v.number (sym kind ∙ e));
  write = λ e _. absurd (origin_read_ne_write v.number (sym kind ∙ e));
  write_stored = λ place e _. absurd (origin_read_ne_write v.number (sym kind ∙ e));
  read_alive = λ e _. absurd (origin_read_ne_read v.number (sym kind ∙ e));
  write_alive = λ e _. absurd (origin_read_ne_write v.number (sym kind ∙ e));
  flush = λ e. absurd (let no : ⊥ = cc in no);
}

-- an origin write, as to a live snapshot, which has published the chunk where the write is clear
pub origin_write_snap : (v : SnapBooks) (r : Flight) (grouped : Bool) (found : Option ℕ) (clear : Bool) → kind_of r.request ≡ OriginWrite → IsPiece v.chunk r.request.range → r.route ≡ write_route_of grouped found clear
    → (clear ≡ true → IsPublished v.pairs v.marks (chunk_of v.chunk r)) → RouteHolds v.number v.chunk v.pairs v.marks r
origin_write_snap v r grouped found clear kind piece route published = record {
  piece = piece;
  origin_write = λ _ e. published (write_origin grouped found clear (sym route ∙ e)).2;
  read = λ e _. absurd (origin_write_ne_read v.number (sym kind ∙ e));
  read_stored = λ place e _. absurd (origin_write_ne_read v.number (sym kind ∙ e));
  write = λ e _. absurd (origin_write_ne_write v.number (sym kind ∙ e));
  write_stored = λ place e _. absurd (origin_write_ne_write v.number (sym kind ∙ e));
  read_alive = λ e _. absurd (origin_write_ne_read v.number (sym kind ∙ e));
  write_alive = λ e _. absurd (origin_write_ne_write v.number (sym kind ∙ e));
  flush = λ e. absurd (let no : ⊥ = cc in no);
}

-- a snapshot read, as to that snapshot, and as to another
pub snap_read_snap : (v : SnapBooks) (r : Flight) (n : ℕ) → kind_of r.request ≡ SnapRead n → IsPiece v.chunk r.request.range → (n ≡ v.number → r.route ≡ read_route_of (place_of v.pairs (chunk_of v.chunk r))) → RouteHolds v.number v.chunk v.pairs v.marks r
snap_read_snap v r n kind piece route =
    let mine : kind_of r.request ≡ SnapRead v.number → r.route ≡ read_route_of (place_of v.pairs (chunk_of v.chunk r)) = λ e. route (snap_of_read n v.number (sym kind ∙ e)) in
    record {
      piece = piece;
      origin_write = λ e _. absurd (snap_read_ne_write n (sym kind ∙ e));
      read = λ e goes. inl (read_origin (place_of v.pairs (chunk_of v.chunk r)) (sym (mine e) ∙ goes));
      read_stored = λ place e goes. read_store (place_of v.pairs (chunk_of v.chunk r)) place (sym (mine e) ∙ goes);
      write = λ e _. absurd (reads_ne_writes n v.number (sym kind ∙ e));
      write_stored = λ place e _. absurd (reads_ne_writes n v.number (sym kind ∙ e));
      read_alive = λ e goes. read_refused (place_of v.pairs (chunk_of v.chunk r)) (sym (mine e) ∙ goes);
      write_alive = λ e _. absurd (reads_ne_writes n v.number (sym kind ∙ e));
      flush = λ e. absurd (let no : ⊥ = cc in no);
    }

store_ne_origin : (place : ℕ) → Store place ≢ Origin
store_ne_origin place e = cc

store_ne_refused : (place : ℕ) → Store place ≢ Refused
store_ne_refused place e = cc

store_same : (m n : ℕ) → Store m ≡ Store n → m ≡ n
store_same m n e = cc

held_ne_origin : Held ≢ Origin
held_ne_origin e = cc

held_ne_refused : Held ≢ Refused
held_ne_refused e = cc

held_ne_store : (n : ℕ) → Held ≢ Store n
held_ne_store n e = cc

-- a snapshot write of another snapshot
pub snap_write_other : (v : SnapBooks) (r : Flight) (n : ℕ) → kind_of r.request ≡ SnapWrite n → n ≢ v.number → IsPiece v.chunk r.request.range → RouteHolds v.number v.chunk v.pairs v.marks r
snap_write_other v r n kind other piece = record {
  piece = piece;
  origin_write = λ e _. absurd (snap_write_ne_write n (sym kind ∙ e));
  read = λ e _. absurd (reads_ne_writes v.number n (sym e ∙ kind));
  read_stored = λ place e _. absurd (reads_ne_writes v.number n (sym e ∙ kind));
  write = λ e _. absurd (other (snap_of_write n v.number (sym kind ∙ e)));
  write_stored = λ place e _. absurd (other (snap_of_write n v.number (sym kind ∙ e)));
  read_alive = λ e _. absurd (reads_ne_writes v.number n (sym e ∙ kind));
  write_alive = λ e _. absurd (other (snap_of_write n v.number (sym kind ∙ e)));
  flush = λ e. absurd (let no : ⊥ = cc in no);
}

-- a snapshot write to its place, its chunk being published, and one that is held
pub snap_write_placed : (v : SnapBooks) (r : Flight) (place : ℕ) → kind_of r.request ≡ SnapWrite v.number → IsPiece v.chunk r.request.range → r.route ≡ Store place → place_of v.pairs (chunk_of v.chunk r) ≡ Some place → IsPublished v.pairs v.marks (chunk_of v.chunk r)
    → RouteHolds v.number v.chunk v.pairs v.marks r
snap_write_placed v r place kind piece route named published = record {
  piece = piece;
  origin_write = λ e _. absurd (snap_write_ne_write v.number (sym kind ∙ e));
  read = λ e _. absurd (reads_ne_writes v.number v.number (sym e ∙ kind));
  read_stored = λ p e _. absurd (reads_ne_writes v.number v.number (sym e ∙ kind));
  write = λ _ e. store_ne_origin place (sym route ∙ e);
  write_stored = λ p _ e. (named ∙ ap Some (store_same place p (sym route ∙ e)), published);
  read_alive = λ e _. absurd (reads_ne_writes v.number v.number (sym e ∙ kind));
  write_alive = λ _ e. store_ne_refused place (sym route ∙ e);
  flush = λ e. absurd (let no : ⊥ = cc in no);
}

pub snap_write_held : (v : SnapBooks) (r : Flight) → kind_of r.request ≡ SnapWrite v.number → IsPiece v.chunk r.request.range → r.route ≡ Held → RouteHolds v.number v.chunk v.pairs v.marks r
snap_write_held v r kind piece route = record {
  piece = piece;
  origin_write = λ e _. absurd (snap_write_ne_write v.number (sym kind ∙ e));
  read = λ e _. absurd (reads_ne_writes v.number v.number (sym e ∙ kind));
  read_stored = λ p e _. absurd (reads_ne_writes v.number v.number (sym e ∙ kind));
  write = λ _ e. held_ne_origin (sym route ∙ e);
  write_stored = λ p _ e. absurd (held_ne_store p (sym route ∙ e));
  read_alive = λ e _. absurd (reads_ne_writes v.number v.number (sym e ∙ kind));
  write_alive = λ _ e. held_ne_refused (sym route ∙ e);
  flush = λ e. absurd (let no : ⊥ = cc in no);
}

-- a flush of the origin, as to a live snapshot, and one of a snapshot, as to that snapshot, and as to another
pub origin_flush_snap : (v : SnapBooks) (r : Flight) → kind_of r.request ≡ OriginFlush → IsPiece v.chunk r.request.range → RouteHolds v.number v.chunk v.pairs v.marks r
origin_flush_snap v r kind piece = record {
  piece = piece;
  origin_write = λ e _. absurd (let no : ⊥ = cc in no);
  read = λ e _. absurd (let no : ⊥ = cc in no);
  read_stored = λ place e _. absurd (let no : ⊥ = cc in no);
  write = λ e _. cc;
  write_stored = λ place e _. absurd (let no : ⊥ = cc in no);
  read_alive = λ e _. cc;
  write_alive = λ e _. cc;
  flush = λ e. absurd (let no : ⊥ = cc in no);
}

pub snap_of_flush : (m n : ℕ) → SnapFlush m ≡ SnapFlush n → m ≡ n
snap_of_flush m n e = cc

pub snap_flush_snap : (v : SnapBooks) (r : Flight) (n : ℕ) → kind_of r.request ≡ SnapFlush n → IsPiece v.chunk r.request.range → (n ≡ v.number → r.route ≡ Whole) → RouteHolds v.number v.chunk v.pairs v.marks r
snap_flush_snap v r n kind piece route = record {
  piece = piece;
  origin_write = λ e _. absurd (let no : ⊥ = cc in no);
  read = λ e _. absurd (let no : ⊥ = cc in no);
  read_stored = λ place e _. absurd (let no : ⊥ = cc in no);
  write = λ e _. cc;
  write_stored = λ place e _. absurd (let no : ⊥ = cc in no);
  read_alive = λ e _. cc;
  write_alive = λ e _. cc;
  flush = λ e. route (snap_of_flush n v.number (sym kind ∙ e));
}

-- as to a spoiled snapshot, an origin request, and one of another snapshot
pub refused_origin_read : (n : ℕ) (r : Flight) → kind_of r.request ≡ OriginRead → RefusedHolds n r
refused_origin_read n r kind = record { read = λ e. absurd (origin_read_ne_read n (sym kind ∙ e)); write = λ e. absurd (origin_read_ne_write n (sym kind ∙ e)); flush = λ e. absurd (let no : ⊥ = cc in no) }

pub refused_origin_write : (n : ℕ) (r : Flight) → kind_of r.request ≡ OriginWrite → RefusedHolds n r
refused_origin_write n r kind = record { read = λ e. absurd (origin_write_ne_read n (sym kind ∙ e)); write = λ e. absurd (origin_write_ne_write n (sym kind ∙ e)); flush = λ e. absurd (let no : ⊥ = cc in no) }

pub refused_other_read : (n m : ℕ) (r : Flight) → kind_of r.request ≡ SnapRead m → m ≢ n → RefusedHolds n r
refused_other_read n m r kind ne = record { read = λ e. absurd (ne (snap_of_read m n (sym kind ∙ e))); write = λ e. absurd (reads_ne_writes m n (sym kind ∙ e)); flush = λ e. absurd (let no : ⊥ = cc in no) }

pub refused_other_write : (n m : ℕ) (r : Flight) → kind_of r.request ≡ SnapWrite m → m ≢ n → RefusedHolds n r
refused_other_write n m r kind ne = record { read = λ e. absurd (reads_ne_writes n m (sym e ∙ kind)); write = λ e. absurd (ne (snap_of_write m n (sym kind ∙ e))); flush = λ e. absurd (let no : ⊥ = cc in no) }

pub refused_origin_flush : (n : ℕ) (r : Flight) → kind_of r.request ≡ OriginFlush → RefusedHolds n r
refused_origin_flush n r kind = record { read = λ e. absurd (let no : ⊥ = cc in no); write = λ e. absurd (let no : ⊥ = cc in no); flush = λ e. absurd (let no : ⊥ = cc in no) }

pub refused_other_flush : (n m : ℕ) (r : Flight) → kind_of r.request ≡ SnapFlush m → m ≢ n → RefusedHolds n r
refused_other_flush n m r kind ne = record { read = λ e. absurd (let no : ⊥ = cc in no); write = λ e. absurd (let no : ⊥ = cc in no); flush = λ e. absurd (ne (snap_of_flush m n (sym kind ∙ e))) }

-- without a merge
read_ne_store : (place : ℕ) → read_route_of None ≢ Store place
read_ne_store place e = cc

placed_ne_store : (clear : Bool) (place : ℕ) → placed_write_route None clear ≢ Store place
placed_ne_store true place e = cc
placed_ne_store false place e = cc

pub unmerged_read : (r : Flight) → kind_of r.request ≡ OriginRead → r.route ≡ read_route_of None → UnmergedHolds r
unmerged_read r kind route = record { read = λ place _ e. read_ne_store place (sym route ∙ e); write = λ place e _. read_ne_write (sym kind ∙ e); flush = λ e. absurd (let no : ⊥ = cc in no) }

pub unmerged_write : (r : Flight) (clear : Bool) → kind_of r.request ≡ OriginWrite → r.route ≡ write_route_of false None clear → UnmergedHolds r
unmerged_write r clear kind route = record { read = λ place e _. write_ne_read (sym kind ∙ e); write = λ place _ e. placed_ne_store clear place (sym route ∙ e); flush = λ e. absurd (let no : ⊥ = cc in no) }

pub unmerged_snap_read : (r : Flight) (n : ℕ) → kind_of r.request ≡ SnapRead n → UnmergedHolds r
unmerged_snap_read r n kind = record { read = λ place e _. snap_read_ne_read n (sym kind ∙ e); write = λ place e _. snap_read_ne_write n (sym kind ∙ e); flush = λ e. absurd (let no : ⊥ = cc in no) }

pub unmerged_snap_write : (r : Flight) (n : ℕ) → kind_of r.request ≡ SnapWrite n → UnmergedHolds r
unmerged_snap_write r n kind = record { read = λ place e _. snap_write_ne_read n (sym kind ∙ e); write = λ place e _. snap_write_ne_write n (sym kind ∙ e); flush = λ e. absurd (let no : ⊥ = cc in no) }

pub unmerged_flush : (r : Flight) → kind_of r.request ≡ OriginFlush → r.route ≡ Origin → UnmergedHolds r
unmerged_flush r kind route = record { read = λ place e _. cc; write = λ place e _. cc; flush = λ _. route }

pub unmerged_snap_flush : (r : Flight) (n : ℕ) → kind_of r.request ≡ SnapFlush n → UnmergedHolds r
unmerged_snap_flush r n kind = record { read = λ place e _. cc; write = λ place e _. cc; flush = λ e. absurd (let no : ⊥ = cc in no) }

-- as to a merge
pub merge_read_routed : (m : MergeBooks) (r : Flight) → kind_of r.request ≡ OriginRead → IsPiece m.chunk r.request.range → r.route ≡ read_route_of (place_of m.pairs (chunk_of m.chunk r)) → MergeRouteHolds m.number m.chunk m.pairs (listed m) (taken m) r
merge_read_routed m r kind piece route = let c : ℕ = chunk_of m.chunk r in record {
  piece = piece;
  read = λ _ e. read_origin (place_of m.pairs c) (sym route ∙ e);
  read_stored = λ place _ e. place_of-front_kept m.pairs m.released c place (read_store (place_of m.pairs c) place (sym route ∙ e));
  write = λ e _. absurd (read_ne_write (sym kind ∙ e));
  write_stored = λ place e _. absurd (read_ne_write (sym kind ∙ e));
  untaken = λ place e _. absurd (read_ne_write (sym kind ∙ e));
  no_read = λ e. origin_read_ne_read m.number (sym kind ∙ e);
  no_write = λ e. origin_read_ne_write m.number (sym kind ∙ e);
  flush = λ e. absurd (let no : ⊥ = cc in no);
  no_flush = λ e. cc;
}

pub merge_write_routed : (m : MergeBooks) (r : Flight) (clear : Bool) → kind_of r.request ≡ OriginWrite → IsPiece m.chunk r.request.range → r.route ≡ write_route_of (has_chunk (group_of m) (chunk_of m.chunk r)) (place_of m.pairs (chunk_of m.chunk r)) clear
    → MergeRouteHolds m.number m.chunk m.pairs (listed m) (taken m) r
merge_write_routed m r clear kind piece route = let c : ℕ = chunk_of m.chunk r in record {
  piece = piece;
  read = λ e _. absurd (write_ne_read (sym kind ∙ e));
  read_stored = λ place e _. absurd (write_ne_read (sym kind ∙ e));
  write = λ _ e.
      (let goes = write_origin (has_chunk (group_of m) c) (place_of m.pairs c) clear (sym route ∙ e) in
      let away : has_chunk m.released c ≡ false = has-back m.copied m.released c (has-back m.reading (m.copied ++ m.released) c (has-back m.waiting (taken m) c goes.0)) in
      place_of-whole_none m.pairs m.released c goes.1 (unnamed_place m.released c away));
  write_stored = λ place _ e. place_of-front_kept m.pairs m.released c place (write_store (has_chunk (group_of m) c) (place_of m.pairs c) clear place (sym route ∙ e)).1;
  untaken = λ place _ e.
      (let goes = write_store (has_chunk (group_of m) c) (place_of m.pairs c) clear place (sym route ∙ e) in
      All-weaker (λ q. nat_eq q.old c ≡ false) (λ q. q.old ≢ c) (λ q none. eqb-false q.old c none) (taken m)
      (All-from_list_any (λ q. nat_eq q.old c) (taken m) (has-back m.waiting (taken m) c goes.0)));
  no_read = λ e. origin_write_ne_read m.number (sym kind ∙ e);
  no_write = λ e. origin_write_ne_write m.number (sym kind ∙ e);
  flush = λ e. absurd (let no : ⊥ = cc in no);
  no_flush = λ e. cc;
}

pub merge_snap_read : (m : MergeBooks) (r : Flight) (n : ℕ) → kind_of r.request ≡ SnapRead n → n ≢ m.number → IsPiece m.chunk r.request.range → MergeRouteHolds m.number m.chunk m.pairs (listed m) (taken m) r
merge_snap_read m r n kind other piece = record {
  piece = piece;
  read = λ e _. absurd (snap_read_ne_read n (sym kind ∙ e));
  read_stored = λ place e _. absurd (snap_read_ne_read n (sym kind ∙ e));
  write = λ e _. absurd (snap_read_ne_write n (sym kind ∙ e));
  write_stored = λ place e _. absurd (snap_read_ne_write n (sym kind ∙ e));
  untaken = λ place e _. absurd (snap_read_ne_write n (sym kind ∙ e));
  no_read = λ e. other (snap_of_read n m.number (sym kind ∙ e));
  no_write = λ e. reads_ne_writes n m.number (sym kind ∙ e);
  flush = λ e. absurd (let no : ⊥ = cc in no);
  no_flush = λ e. cc;
}

pub merge_snap_write : (m : MergeBooks) (r : Flight) (n : ℕ) → kind_of r.request ≡ SnapWrite n → n ≢ m.number → IsPiece m.chunk r.request.range → MergeRouteHolds m.number m.chunk m.pairs (listed m) (taken m) r
merge_snap_write m r n kind other piece = record {
  piece = piece;
  read = λ e _. absurd (snap_write_ne_read n (sym kind ∙ e));
  read_stored = λ place e _. absurd (snap_write_ne_read n (sym kind ∙ e));
  write = λ e _. absurd (snap_write_ne_write n (sym kind ∙ e));
  write_stored = λ place e _. absurd (snap_write_ne_write n (sym kind ∙ e));
  untaken = λ place e _. absurd (snap_write_ne_write n (sym kind ∙ e));
  no_read = λ e. reads_ne_writes m.number n (sym e ∙ kind);
  no_write = λ e. other (snap_of_write n m.number (sym kind ∙ e));
  flush = λ e. absurd (let no : ⊥ = cc in no);
  no_flush = λ e. cc;
}

pub merge_flush_routed : (m : MergeBooks) (r : Flight) → kind_of r.request ≡ OriginFlush → IsPiece m.chunk r.request.range → r.route ≡ Whole → MergeRouteHolds m.number m.chunk m.pairs (listed m) (taken m) r
merge_flush_routed m r kind piece route = record {
  piece = piece;
  read = λ e _. absurd (let no : ⊥ = cc in no);
  read_stored = λ place e _. absurd (let no : ⊥ = cc in no);
  write = λ e _. absurd (let no : ⊥ = cc in no);
  write_stored = λ place e _. absurd (let no : ⊥ = cc in no);
  untaken = λ place e _. absurd (let no : ⊥ = cc in no);
  no_read = λ e. cc;
  no_write = λ e. cc;
  flush = λ _. inl route;
  no_flush = λ e. cc;
}

pub merge_snap_flush : (m : MergeBooks) (r : Flight) (n : ℕ) → kind_of r.request ≡ SnapFlush n → n ≢ m.number → IsPiece m.chunk r.request.range → MergeRouteHolds m.number m.chunk m.pairs (listed m) (taken m) r
merge_snap_flush m r n kind other piece = record {
  piece = piece;
  read = λ e _. absurd (let no : ⊥ = cc in no);
  read_stored = λ place e _. absurd (let no : ⊥ = cc in no);
  write = λ e _. absurd (let no : ⊥ = cc in no);
  write_stored = λ place e _. absurd (let no : ⊥ = cc in no);
  untaken = λ place e _. absurd (let no : ⊥ = cc in no);
  no_read = λ e. cc;
  no_write = λ e. cc;
  flush = λ e. absurd (let no : ⊥ = cc in no);
  no_flush = λ e. other (snap_of_flush n m.number (sym kind ∙ e));
}

-- a read by the table is not held and not refused
pub read_goes : (found : Option ℕ) → (read_route_of found ≢ Held) × (read_route_of found ≢ Refused)
read_goes found = (held found, read_refused found)
  where
    held : (found : Option ℕ) → read_route_of found ≢ Held
    held (Some n) e = cc
    held None e = cc

-- a write that the table holds is in a group, or not clear; none is refused
pub write_goes : (grouped : Bool) (found : Option ℕ) (clear : Bool) → (write_route_of grouped found clear ≡ Held → grouped ≡ false → clear ≡ false) × (write_route_of grouped found clear ≢ Refused)
write_goes true found clear = (λ _ free. absurd (false≢true (sym free)), λ e. cc)
write_goes false (Some n) clear = (λ e _. cc, λ e. cc)
write_goes false None true = (λ e _. cc, λ e. cc)
write_goes false None false = (λ _ _. refl, λ e. cc)

-- a flush by the table is not held and not refused
pub flush_goes : (begun : Bool) → (flush_route_of begun ≢ Held) × (flush_route_of begun ≢ Refused)
flush_goes true = (λ e. cc, λ e. cc)
flush_goes false = (λ e. cc, λ e. cc)

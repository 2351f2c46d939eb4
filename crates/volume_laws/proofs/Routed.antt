-- A new request, routed by the table: it fits each snapshot and the merge, and if it is held it has a reason.
use Rattle.std.proofs.Common.{◌≡◌, ◌≢◌, inl, inr, ℕ, ◌<◌, Bool, true, false, List, Option, Some, length, get_or, map, take, sym, ◌∙◌, ap, subst}
use Rattle.std.specs.List.{All}
use Rattle.std.specs.Prelude.{AllPairs, Any}
use Rattle.std.proofs.lemmas.Bool.{cases_eq, false≢true}
use Rattle.std.proofs.lemmas.List.{get_or_default}
use Rattle.cow_format.specs.Picture.{place_of}
use Rattle.in_flight.specs.Kinds.{kind_of}
use Rattle.in_flight.specs.Routes.{read_route_of, write_route_of, flush_route_of}
use Rattle.in_flight.specs.declared.flights.Flight.{Flight}
use Rattle.in_flight.specs.declared.flights.Kind.TheVariants.{OriginRead, OriginWrite, OriginFlush, SnapRead, SnapWrite, SnapFlush}
use Rattle.in_flight.specs.declared.flights.Route.TheVariants.{Held, Store, Whole}
use Rattle.volume_laws.specs.Books.{SnapBooks, MergeBooks, number_of}
use Rattle.volume_laws.specs.Published.{chunk_of, IsPiece, IsPublished, is_clear}
use Rattle.volume_laws.specs.Held.{RouteHolds}
use Rattle.volume_laws.specs.Steps.{FitsSnap}
use Rattle.volume_laws.specs.Waits.{IsSaving, IsCopying, WaitsHolds, is_grouped}
use Rattle.volume_laws.proofs.Clear.{clear_saved, clear_tried}
use Rattle.volume_laws.proofs.Routing.{origin_read_snap, origin_write_snap, snap_read_snap, snap_write_other, snap_write_placed, snap_write_held, origin_flush_snap, snap_flush_snap, snap_of_flush, refused_origin_flush, refused_other_flush, refused_origin_read, refused_origin_write, refused_other_read, refused_other_write, read_ne_write, origin_write_ne_write, origin_write_ne_read, snap_read_ne_read, snap_write_ne_read, reads_ne_writes, write_goes, read_goes, flush_goes, snap_of_read, snap_of_write}
use Rattle.volume_laws.proofs.Untried.{untried_other, untried_write}
use Rattle.volume_laws.proofs.Spoiling.{numbers_differ}

-- the range lies inside a chunk of each live snapshot
abbrev pub ArePieces : Flight → List SnapBooks → Type 0
ArePieces f snaps = All (λ s. s.live ≡ true → IsPiece s.chunk f.request.range) snaps

pub fits_origin_read : (f : Flight) (snaps : List SnapBooks) → kind_of f.request ≡ OriginRead → ArePieces f snaps → All (FitsSnap f) snaps
fits_origin_read f snaps kind pieces k d lt =
    let s = get_or snaps k d in
    record {
      alive = λ live. origin_read_snap s f kind (pieces k d lt live);
      spoilt = λ _. refused_origin_read s.number f kind;
      waited = λ _. untried_other s.chunk (take s.sure s.pairs) f (λ e. read_ne_write (sym kind ∙ e));
    }

pub fits_origin_write : (f : Flight) (snaps : List SnapBooks) (grouped : Bool) (found : Option ℕ) → kind_of f.request ≡ OriginWrite → ArePieces f snaps → f.route ≡ write_route_of grouped found (is_clear snaps f.request.range.first) → All (FitsSnap f) snaps
fits_origin_write f snaps grouped found kind pieces route k d lt =
    let s = get_or snaps k d in
    record {
      alive = λ live. origin_write_snap s f grouped found (is_clear snaps f.request.range.first) kind (pieces k d lt live) route (λ clear. clear_saved snaps f.request.range.first clear k d lt live);
      spoilt = λ _. refused_origin_write s.number f kind;
      waited = untried_write s f grouped found (is_clear snaps f.request.range.first) route (λ clear. clear_tried snaps f.request.range.first clear k d lt);
    }

pub fits_origin_flush : (f : Flight) (snaps : List SnapBooks) → kind_of f.request ≡ OriginFlush → ArePieces f snaps → All (FitsSnap f) snaps
fits_origin_flush f snaps kind pieces k d lt =
    let s = get_or snaps k d in
    record {
      alive = λ live. origin_flush_snap s f kind (pieces k d lt live);
      spoilt = λ _. refused_origin_flush s.number f kind;
      waited = λ _. untried_other s.chunk (take s.sure s.pairs) f (λ e. cc);
    }

-- a request of the live snapshot s, which stands at place j
module _ (f : Flight) (snaps : List SnapBooks) (j : ℕ) (s : SnapBooks) (numbers : AllPairs (λ m n. m ≢ n) (map number_of snaps)) (within : j < length snaps) (was : s ≡ get_or snaps j s) (live : s.live ≡ true) (pieces : ArePieces f snaps) where
  -- another snapshot has another number
  other_number : (k : ℕ) (d : SnapBooks) → k < length snaps → k ≢ j → s.number ≢ (get_or snaps k d).number
  other_number k d lt ne same = numbers_differ snaps k j (get_or snaps k d) s numbers lt within (get_or_default snaps k d (get_or snaps k d) lt) was ne (sym same)

  mine_at : (k : ℕ) (d : SnapBooks) → k < length snaps → k ≡ j → s ≡ get_or snaps k d
  mine_at k d lt same = was ∙ ap (λ i. get_or snaps i s) (sym same) ∙ get_or_default snaps k s d lt

  piece_mine : IsPiece s.chunk f.request.range
  piece_mine = subst (λ (x : SnapBooks). x.live ≡ true → IsPiece x.chunk f.request.range) (sym was) (pieces j s within) live

  -- it fits all, where it fits its own
  fits_all : kind_of f.request ≢ OriginWrite → RouteHolds s.number s.chunk s.pairs s.marks f → ((k : ℕ) (d : SnapBooks) → k < length snaps → k ≢ j → FitsSnap f (get_or snaps k d)) → All (FitsSnap f) snaps
  fits_all unwritten mine others k d lt = elim (cases_eq k j) [
    | inl same ↦ subst (FitsSnap f) (mine_at k d lt same) (record { alive = λ _. mine; spoilt = λ dead. absurd (false≢true (sym dead ∙ live)); waited = λ _. untried_other s.chunk (take s.sure s.pairs) f unwritten })
    | inr other ↦ others k d lt other
  ]

  pub fits_snap_read : kind_of f.request ≡ SnapRead s.number → f.route ≡ read_route_of (place_of s.pairs (chunk_of s.chunk f)) → All (FitsSnap f) snaps
  fits_snap_read kind route = fits_all (λ e. origin_write_ne_read s.number (sym e ∙ kind)) (snap_read_snap s f s.number kind piece_mine (λ _. route))
      (λ k d lt other. (let x = get_or snaps k d in record {
        alive = λ l. snap_read_snap x f s.number kind (pieces k d lt l) (λ same. absurd (other_number k d lt other same));
        spoilt = λ _. refused_other_read x.number s.number f kind (other_number k d lt other);
        waited = λ _. untried_other x.chunk (take x.sure x.pairs) f (λ e. origin_write_ne_read s.number (sym e ∙ kind));
      }))

  write_others : kind_of f.request ≡ SnapWrite s.number → (k : ℕ) (d : SnapBooks) → k < length snaps → k ≢ j → FitsSnap f (get_or snaps k d)
  write_others kind k d lt other = (let x = get_or snaps k d in record {
    alive = λ l. snap_write_other x f s.number kind (other_number k d lt other) (pieces k d lt l);
    spoilt = λ _. refused_other_write x.number s.number f kind (other_number k d lt other);
    waited = λ _. untried_other x.chunk (take x.sure x.pairs) f (λ e. origin_write_ne_write s.number (sym e ∙ kind));
  })

  pub fits_snap_write_held : kind_of f.request ≡ SnapWrite s.number → f.route ≡ Held → All (FitsSnap f) snaps
  fits_snap_write_held kind route = fits_all (λ e. origin_write_ne_write s.number (sym e ∙ kind)) (snap_write_held s f kind piece_mine route) (write_others kind)

  pub fits_snap_write_placed : (place : ℕ) → kind_of f.request ≡ SnapWrite s.number → f.route ≡ Store place → place_of s.pairs (chunk_of s.chunk f) ≡ Some place → IsPublished s.pairs s.marks (chunk_of s.chunk f) → All (FitsSnap f) snaps
  fits_snap_write_placed place kind route named published = fits_all (λ e. origin_write_ne_write s.number (sym e ∙ kind)) (snap_write_placed s f place kind piece_mine route named published) (write_others kind)

  pub fits_snap_flush : kind_of f.request ≡ SnapFlush s.number → f.route ≡ Whole → All (FitsSnap f) snaps
  fits_snap_flush kind route = fits_all (λ e. cc) (snap_flush_snap s f s.number kind piece_mine (λ _. route))
      (λ k d lt other. (let x = get_or snaps k d in record {
        alive = λ l. snap_flush_snap x f s.number kind (pieces k d lt l) (λ same. absurd (other_number k d lt other same));
        spoilt = λ _. refused_other_flush x.number s.number f kind (other_number k d lt other);
        waited = λ _. untried_other x.chunk (take x.sure x.pairs) f (λ e. cc);
      }))

  attached : (n : ℕ) → s.number ≡ n → Any (λ x. x.number ≡ n) snaps
  attached n mine = (j, s, within, sym was, mine)

  pub waits_snap_read : (merge : Option MergeBooks) (found : Option ℕ) → kind_of f.request ≡ SnapRead s.number → f.route ≡ read_route_of found → WaitsHolds merge snaps f
  waits_snap_read merge found kind route = record {
    origin_read = λ e. absurd (snap_read_ne_read s.number (sym kind ∙ e));
    snap_read = λ n e held. (read_goes found).0 (sym route ∙ held);
    origin_write = λ e _ _. absurd (origin_write_ne_read s.number (sym e ∙ kind));
    saving = λ e _ _. absurd (origin_write_ne_read s.number (sym e ∙ kind));
    snap_write = λ n e _. absurd (reads_ne_writes s.number n (sym kind ∙ e));
    read_goes = λ e. absurd (snap_read_ne_read s.number (sym kind ∙ e));
    write_goes = λ e. absurd (origin_write_ne_read s.number (sym e ∙ kind));
    read_attached = λ n e. attached n (snap_of_read s.number n (sym kind ∙ e));
    write_attached = λ n e. absurd (reads_ne_writes s.number n (sym kind ∙ e));
    origin_flush = λ e _. cc;
    snap_flush = λ n e _. cc;
    flush_goes = λ e _. cc;
    flush_attached = λ n e. absurd (let no : ⊥ = cc in no);
  }

  pub waits_snap_write : (merge : Option MergeBooks) → kind_of f.request ≡ SnapWrite s.number → (f.route ≡ Held → IsCopying (chunk_of s.chunk f) s) → WaitsHolds merge snaps f
  waits_snap_write merge kind copying = record {
    origin_read = λ e. absurd (snap_write_ne_read s.number (sym kind ∙ e));
    snap_read = λ n e. absurd (reads_ne_writes n s.number (sym e ∙ kind));
    origin_write = λ e _ _. absurd (origin_write_ne_write s.number (sym e ∙ kind));
    saving = λ e _ _. absurd (origin_write_ne_write s.number (sym e ∙ kind));
    snap_write = λ n e held. (j, s, within, sym was, record { mine = snap_of_write s.number n (sym kind ∙ e); live = live; copying = copying held });
    read_goes = λ e. absurd (snap_write_ne_read s.number (sym kind ∙ e));
    write_goes = λ e. absurd (origin_write_ne_write s.number (sym e ∙ kind));
    read_attached = λ n e. absurd (reads_ne_writes n s.number (sym e ∙ kind));
    write_attached = λ n e. attached n (snap_of_write s.number n (sym kind ∙ e));
    origin_flush = λ e _. cc;
    snap_flush = λ n e _. cc;
    flush_goes = λ e _. cc;
    flush_attached = λ n e. absurd (let no : ⊥ = cc in no);
  }

  pub waits_snap_flush : (merge : Option MergeBooks) → kind_of f.request ≡ SnapFlush s.number → f.route ≡ Whole → WaitsHolds merge snaps f
  waits_snap_flush merge kind route = record {
    origin_read = λ e _. cc;
    snap_read = λ n e _. cc;
    origin_write = λ e _ _. absurd (let no : ⊥ = cc in no);
    saving = λ e _ _. absurd (let no : ⊥ = cc in no);
    snap_write = λ n e _. absurd (let no : ⊥ = cc in no);
    read_goes = λ e _. cc;
    write_goes = λ e _. cc;
    read_attached = λ n e. absurd (let no : ⊥ = cc in no);
    write_attached = λ n e. absurd (let no : ⊥ = cc in no);
    origin_flush = λ e _. cc;
    snap_flush = λ n _ held. cc;
    flush_goes = λ e _. cc;
    flush_attached = λ n e. attached n (snap_of_flush s.number n (sym kind ∙ e));
  }

pub waits_origin_flush : (f : Flight) (merge : Option MergeBooks) (snaps : List SnapBooks) (begun : Bool) → kind_of f.request ≡ OriginFlush → f.route ≡ flush_route_of begun → WaitsHolds merge snaps f
waits_origin_flush f merge snaps begun kind route = record {
  origin_read = λ e _. cc;
  snap_read = λ n e _. cc;
  origin_write = λ e _ _. absurd (let no : ⊥ = cc in no);
  saving = λ e _ _. absurd (let no : ⊥ = cc in no);
  snap_write = λ n e _. absurd (let no : ⊥ = cc in no);
  read_goes = λ e _. cc;
  write_goes = λ e _. cc;
  read_attached = λ n e. absurd (let no : ⊥ = cc in no);
  write_attached = λ n e. absurd (let no : ⊥ = cc in no);
  origin_flush = λ _ e. (flush_goes begun).0 (sym route ∙ e);
  snap_flush = λ n e _. cc;
  flush_goes = λ _ e. (flush_goes begun).1 (sym route ∙ e);
  flush_attached = λ n e. absurd (let no : ⊥ = cc in no);
}

pub waits_origin_read : (f : Flight) (merge : Option MergeBooks) (snaps : List SnapBooks) (found : Option ℕ) → kind_of f.request ≡ OriginRead → f.route ≡ read_route_of found → WaitsHolds merge snaps f
waits_origin_read f merge snaps found kind route = record {
  origin_read = λ _ held. (read_goes found).0 (sym route ∙ held);
  snap_read = λ n e. absurd (snap_read_ne_read n (sym e ∙ kind));
  origin_write = λ e _ _. absurd (read_ne_write (sym kind ∙ e));
  saving = λ e _ _. absurd (read_ne_write (sym kind ∙ e));
  snap_write = λ n e _. absurd (snap_write_ne_read n (sym e ∙ kind));
  read_goes = λ _ e. (read_goes found).1 (sym route ∙ e);
  write_goes = λ e. absurd (read_ne_write (sym kind ∙ e));
  read_attached = λ n e. absurd (snap_read_ne_read n (sym e ∙ kind));
  write_attached = λ n e. absurd (snap_write_ne_read n (sym e ∙ kind));
  origin_flush = λ e _. cc;
  snap_flush = λ n e _. cc;
  flush_goes = λ e _. cc;
  flush_attached = λ n e. absurd (let no : ⊥ = cc in no);
}

-- copies of the chunk were started in each live snapshot that lacks it, where the write is held for them
pub waits_origin_write : (f : Flight) (merge : Option MergeBooks) (snaps : List SnapBooks) (found : Option ℕ) → kind_of f.request ≡ OriginWrite → f.route ≡ write_route_of (is_grouped merge f) found (is_clear snaps f.request.range.first)
    → (f.route ≡ Held → is_grouped merge f ≡ false → All (λ s. s.live ≡ true → IsSaving (chunk_of s.chunk f) s) snaps) → WaitsHolds merge snaps f
waits_origin_write f merge snaps found kind route saving = record {
  origin_read = λ e. absurd (read_ne_write (sym e ∙ kind));
  snap_read = λ n e. absurd (origin_write_ne_read n (sym kind ∙ e));
  origin_write = λ _ held free. (write_goes (is_grouped merge f) found (is_clear snaps f.request.range.first)).0 (sym route ∙ held) free;
  saving = λ _ held free. saving held free;
  snap_write = λ n e _. absurd (origin_write_ne_write n (sym kind ∙ e));
  read_goes = λ e. absurd (read_ne_write (sym e ∙ kind));
  write_goes = λ _ e. (write_goes (is_grouped merge f) found (is_clear snaps f.request.range.first)).1 (sym route ∙ e);
  read_attached = λ n e. absurd (origin_write_ne_read n (sym kind ∙ e));
  write_attached = λ n e. absurd (origin_write_ne_write n (sym kind ∙ e));
  origin_flush = λ e _. cc;
  snap_flush = λ n e _. cc;
  flush_goes = λ e _. cc;
  flush_attached = λ n e. absurd (let no : ⊥ = cc in no);
}

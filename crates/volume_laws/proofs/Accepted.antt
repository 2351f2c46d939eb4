-- A request is in flight, once its copies are started, with a merge or without one.
use Rattle.std.proofs.Common.{◌≡◌, ◌≢◌, ℕ, ◌<◌, Bool, true, false, List, Option, Some, None, length, get_or, refl, sym, ◌∙◌, ap, subst}
use Rattle.std.specs.List.{All}
use Rattle.std.specs.Option.{is_some}
use Rattle.cow_format.specs.Picture.{place_of}
use Rattle.plain_machine.specs.Plain.{did_overflow}
use Rattle.plain_machine.specs.Kept.{kept}
use Rattle.plain_machine.specs.Legal.{is_shut}
use Rattle.in_flight.specs.Kinds.{kind_of}
use Rattle.in_flight.specs.Routes.{read_route_of, write_route_of, flush_route_of}
use Rattle.in_flight.specs.declared.flights.Flight.{Flight}
use Rattle.in_flight.specs.declared.flights.Kind.TheVariants.{OriginRead, OriginWrite, OriginFlush, SnapRead, SnapWrite, SnapFlush}
use Rattle.in_flight.specs.declared.flights.Route.TheVariants.{Held, Store, Whole}
use Rattle.volume_laws.specs.Books.{SnapBooks, MergeBooks, Books, listed, taken}
use Rattle.volume_laws.specs.Published.{chunk_of, IsPublished, is_clear}
use Rattle.volume_laws.specs.Held.{RequestHolds}
use Rattle.volume_laws.specs.Merging.{MergeRouteHolds}
use Rattle.volume_laws.specs.Whole.{IsLoud, plain_of, UnmergedHolds}
use Rattle.volume_laws.specs.Again.{merged_place, new_route}
use Rattle.volume_laws.specs.Waits.{WaitsHolds, IsSaving, IsCopying, is_grouped}
use Rattle.volume_laws.specs.Steps.{Accepts, FitsSnap, FitsMerge}
use Rattle.volume_laws.specs.Outcomes.{IsAccepted}
use Rattle.volume_laws.proofs.Submitting.{accept_event}
use Rattle.volume_laws.proofs.Composing.{accept_then}
use Rattle.volume_laws.proofs.Entries.{origin_read_is, origin_write_is, origin_flush_is, origin_open, read_open, flush_open, write_open, overflow_at}
use Rattle.volume_laws.proofs.Waiting.{waits_accepted}
use Rattle.volume_laws.proofs.Routing.{unmerged_read, unmerged_write, unmerged_snap_read, unmerged_snap_write, unmerged_flush, unmerged_snap_flush, merge_flush_routed, merge_snap_flush, merge_read_routed, merge_write_routed, merge_snap_read, merge_snap_write}
use Rattle.volume_laws.proofs.Routed.{ArePieces, fits_origin_read, fits_origin_write, fits_snap_read, fits_snap_write_held, fits_snap_write_placed, fits_origin_flush, fits_snap_flush, waits_origin_flush, waits_snap_flush, waits_snap_read, waits_snap_write, waits_origin_read, waits_origin_write}
use Rattle.volume_laws.specs.Accepting.{IsPrepared, IsTakenIn, IsBeside}

loud_accepted : (f : Flight) (u w : Books) → Accepts f u w → IsLoud u → IsLoud w
loud_accepted f u w e l = record {
  origin = e.loud ∙ l.origin;
  snaps = subst (All (λ (x : SnapBooks). x.loud ≡ true)) (sym e.snaps) l.snaps;
  merge = λ m is. l.merge m (sym e.merge ∙ is);
}

taken_in : (which : List ℕ) (f : Flight) (v u w : Books) → IsPrepared which v u → Accepts f u w → is_shut f.request.dev f.request.op (plain_of u).saved ≡ false → RequestHolds u.sectors f → kept f.request ≡ f.request → All (λ (g : Flight). g.number ≢ f.number) u.requests → FitsMerge f u.merge → All (FitsSnap f) u.snaps → WaitsHolds u.merge u.snaps f → IsTakenIn which f.number f.request v w
taken_in which f v u w h e writable one keeps fresh merge fits waits =
    let is : IsAccepted which f.number f.request v w = accept_then which f.number f.request v u w (record { holds = h.holds; step = h.step }) (accept_event f u w h.holds e writable one keeps merge fits) h.loud in
    record {
      holds = is.holds;
      waits = waits_accepted f u w h.waits e fresh waits;
      step = is.step;
      loud = λ l. loud_accepted f u w e (h.loud l);
    }

-- without a merge, and with one
fits_by : (f : Flight) (merge : Option MergeBooks) → (merge ≡ None → UnmergedHolds f) → ((m : MergeBooks) → merge ≡ Some m → MergeRouteHolds m.number m.chunk m.pairs (listed m) (taken m) f) → FitsMerge f merge
fits_by f None alone beside = alone refl
fits_by f (Some m) alone beside = beside m refl

read_alone : (f : Flight) (merge : Option MergeBooks) → f.route ≡ read_route_of (merged_place merge f) → merge ≡ None → f.route ≡ read_route_of None
read_alone f merge route none = route ∙ ap (λ m. read_route_of (merged_place m f)) none

write_alone : (f : Flight) (merge : Option MergeBooks) (clear : ℕ → Bool) → f.route ≡ new_route merge clear f → merge ≡ None → f.route ≡ write_route_of false None (clear f.request.range.first)
write_alone f merge clear route none = route ∙ ap (λ m. new_route m clear f) none

-- the table's row of an origin write
new_route_is : (merge : Option MergeBooks) (clear : ℕ → Bool) (f : Flight) → new_route merge clear f ≡ write_route_of (is_grouped merge f) (merged_place merge f) (clear f.request.range.first)
new_route_is None clear f = refl
new_route_is (Some m) clear f = refl

-- a write that is held, and not for a group, has no place on the store
held_unplaced : (found : Option ℕ) (clear : Bool) → write_route_of false found clear ≡ Held → found ≡ None
held_unplaced None clear e = refl
held_unplaced (Some n) clear e = cc

-- what every kind of request shares: the copies are started, and the request is new and whole
module _ (which : List ℕ) (f : Flight) (v u w : Books) (h : IsPrepared which v u) (e : Accepts f u w) (one : RequestHolds u.sectors f) (keeps : kept f.request ≡ f.request) (fresh : All (λ (g : Flight). g.number ≢ f.number) u.requests) (beside : (m : MergeBooks) → u.merge ≡ Some m → IsBeside f m) (pieces : ArePieces f u.snaps) where
  -- a read goes where the merging store has its chunk, or to the origin disk
  pub origin_read_taken : kind_of f.request ≡ OriginRead → f.route ≡ read_route_of (merged_place u.merge f) → IsTakenIn which f.number f.request v w
  origin_read_taken kind route = taken_in which f v u w h e (origin_open f.request.dev f.request.op (plain_of u).saved (origin_read_is f.request.dev f.request.op kind).0) one keeps fresh
      (fits_by f u.merge (λ none. unmerged_read f kind (read_alone f u.merge route none)) (λ m is. merge_read_routed m f kind (beside m is).piece (route ∙ ap (λ x. read_route_of (merged_place x f)) is)))
      (fits_origin_read f u.snaps kind pieces) (waits_origin_read f u.merge u.snaps (merged_place u.merge f) kind route)

  -- a flush goes to the store that is being merged first, if there is one, or to the origin disk
  pub origin_flush_taken : kind_of f.request ≡ OriginFlush → f.route ≡ flush_route_of (is_some u.merge) → IsTakenIn which f.number f.request v w
  origin_flush_taken kind route = taken_in which f v u w h e (origin_open f.request.dev f.request.op (plain_of u).saved (origin_flush_is f.request.dev f.request.op kind).0) one keeps fresh
      (fits_by f u.merge (λ none. unmerged_flush f kind (route ∙ ap (λ m. flush_route_of (is_some m)) none)) (λ m is. merge_flush_routed m f kind (beside m is).piece (route ∙ ap (λ x. flush_route_of (is_some x)) is)))
      (fits_origin_flush f u.snaps kind pieces) (waits_origin_flush f u.merge u.snaps (is_some u.merge) kind route)

  -- A write of a chunk of the group is held, one of another chunk that the merging store has goes there, and any other is
  -- held for copies, or goes to the origin disk. The copies are asked for in the last case alone.
  pub origin_write_taken : kind_of f.request ≡ OriginWrite → f.route ≡ new_route u.merge (is_clear u.snaps) f
      → (is_grouped u.merge f ≡ false → merged_place u.merge f ≡ None → All (λ s. s.live ≡ true → IsSaving (chunk_of s.chunk f) s) u.snaps) → IsTakenIn which f.number f.request v w
  origin_write_taken kind route saving =
      let clear = is_clear u.snaps f.request.range.first in
      let row : f.route ≡ write_route_of (is_grouped u.merge f) (merged_place u.merge f) (is_clear u.snaps f.request.range.first) = route ∙ new_route_is u.merge (is_clear u.snaps) f in
      taken_in which f v u w h e (origin_open f.request.dev f.request.op (plain_of u).saved (origin_write_is f.request.dev f.request.op kind)) one keeps fresh
      (fits_by f u.merge (λ none. unmerged_write f (is_clear u.snaps f.request.range.first) kind (write_alone f u.merge (is_clear u.snaps) route none))
      (λ m is. merge_write_routed m f (is_clear u.snaps f.request.range.first) kind (beside m is).piece (route ∙ ap (λ x. new_route x (is_clear u.snaps) f) is)))
      (fits_origin_write f u.snaps (is_grouped u.merge f) (merged_place u.merge f) kind pieces row)
      (waits_origin_write f u.merge u.snaps (merged_place u.merge f) kind row
      (λ held free. saving free (held_unplaced (merged_place u.merge f) (is_clear u.snaps f.request.range.first) (ap (λ b. write_route_of b (merged_place u.merge f) (is_clear u.snaps f.request.range.first)) (sym free) ∙ sym row ∙ held))))

  -- of the live snapshot s, which stands at place j
  module _ (j : ℕ) (s : SnapBooks) (within : j < length u.snaps) (was : s ≡ get_or u.snaps j s) (live : s.live ≡ true) where
    read_fits : kind_of f.request ≡ SnapRead s.number → FitsMerge f u.merge
    read_fits kind = fits_by f u.merge (λ none. unmerged_snap_read f s.number kind)
        (λ m is. merge_snap_read m f s.number kind (λ same. (beside m is).no_read (kind ∙ ap SnapRead same)) (beside m is).piece)

    write_fits : kind_of f.request ≡ SnapWrite s.number → FitsMerge f u.merge
    write_fits kind = fits_by f u.merge (λ none. unmerged_snap_write f s.number kind)
        (λ m is. merge_snap_write m f s.number kind (λ same. (beside m is).no_write (kind ∙ ap SnapWrite same)) (beside m is).piece)

    flush_fits : kind_of f.request ≡ SnapFlush s.number → FitsMerge f u.merge
    flush_fits kind = fits_by f u.merge (λ none. unmerged_snap_flush f s.number kind)
        (λ m is. merge_snap_flush m f s.number kind (λ same. (beside m is).no_flush (kind ∙ ap SnapFlush same)) (beside m is).piece)

    -- its store did not overflow, so that it takes writes
    writable_now : kind_of f.request ≡ SnapWrite s.number → did_overflow s.overflow ≡ false → is_shut f.request.dev f.request.op (plain_of u).saved ≡ false
    writable_now kind writable = write_open f.request.dev f.request.op (plain_of u).saved s.number kind (ap did_overflow (overflow_at u.origin u.snaps j s h.holds.numbers within was) ∙ writable)

    pub snap_read_taken : kind_of f.request ≡ SnapRead s.number → f.route ≡ read_route_of (place_of s.pairs (chunk_of s.chunk f)) → IsTakenIn which f.number f.request v w
    snap_read_taken kind route = taken_in which f v u w h e (read_open f.request.dev f.request.op (plain_of u).saved s.number kind) one keeps fresh (read_fits kind)
        (fits_snap_read f u.snaps j s h.holds.numbers within was live pieces kind route)
        (waits_snap_read f u.snaps j s h.holds.numbers within was live pieces u.merge (place_of s.pairs (chunk_of s.chunk f)) kind route)

    pub snap_flush_taken : kind_of f.request ≡ SnapFlush s.number → f.route ≡ Whole → IsTakenIn which f.number f.request v w
    snap_flush_taken kind route = taken_in which f v u w h e (flush_open f.request.dev f.request.op (plain_of u).saved s.number kind) one keeps fresh (flush_fits kind)
        (fits_snap_flush f u.snaps j s h.holds.numbers within was live pieces kind route)
        (waits_snap_flush f u.snaps j s h.holds.numbers within was live pieces u.merge kind route)

    pub snap_write_held_taken : kind_of f.request ≡ SnapWrite s.number → did_overflow s.overflow ≡ false → f.route ≡ Held → IsCopying (chunk_of s.chunk f) s → IsTakenIn which f.number f.request v w
    snap_write_held_taken kind writable route copying = taken_in which f v u w h e (writable_now kind writable) one keeps fresh (write_fits kind)
        (fits_snap_write_held f u.snaps j s h.holds.numbers within was live pieces kind route)
        (waits_snap_write f u.snaps j s h.holds.numbers within was live pieces u.merge kind (λ _. copying))

    pub snap_write_placed_taken : (place : ℕ) → kind_of f.request ≡ SnapWrite s.number → did_overflow s.overflow ≡ false → f.route ≡ Store place → place_of s.pairs (chunk_of s.chunk f) ≡ Some place → IsPublished s.pairs s.marks (chunk_of s.chunk f) → IsTakenIn which f.number f.request v w
    snap_write_placed_taken place kind writable route named published = taken_in which f v u w h e (writable_now kind writable) one keeps fresh (write_fits kind)
        (fits_snap_write_placed f u.snaps j s h.holds.numbers within was live pieces place kind route named published)
        (waits_snap_write f u.snaps j s h.holds.numbers within was live pieces u.merge kind (λ held. absurd (held_ne_store place (sym held ∙ route))))
      where
        held_ne_store : (n : ℕ) → Held ≢ Store n
        held_ne_store n is = cc

-- A write of a snapshot starts the copy of its chunk, or finds the store full, which spoils the snapshot or marks it.
use Rattle.std.proofs.Common.{◌≡◌, ◌≢◌, ◌⊎◌, inl, inr, ℕ, zero, suc, ◌+◌, ◌/◌, ◌<◌, ◌≤◌, Bool, true, false, List, [], ◌∷◌, ◌++◌, Some, length, get_or, set, map, refl, sym, ◌∙◌, ap, subst, arith, length-append, nat_eq, if◌then◌else◌}
use Rattle.std.specs.Prelude.{◌&&◌, not, Any, Option, sum_by, count_by}
use Rattle.std.specs.Global.{Vec}
use Rattle.std.proofs.lemmas.Bool.{cases_Bool, true≢false, eq-eqb, MatchBool-at_true, MatchBool-at_false}
use Rattle.std.proofs.lemmas.List.{get_or-set_same, get_or-append-add, length-set, map-set}
use Rattle.std.proofs.Math.Seq.{map-set_same}
use Rattle.sector.specs.declared.refusal.Refusal.{Refusal}
use Rattle.sector.specs.declared.refusal.Refusal.TheVariants.{Invalid, NoMemory, Overflow}
use Rattle.device.specs.Layers.{Layer, is_loud}
use Rattle.plain_machine.specs.Legal.{IsSubmitted, Overflows, Spoils}
use Rattle.plain_machine.specs.Plain.{Plain, did_overflow}
use Rattle.plain_machine.specs.declared.request.Overflowing.TheVariants.{Never, May, Did}
use Rattle.plain_machine.specs.declared.request.Request.{Request}
use Rattle.in_flight.specs.Kinds.{kind_of, room_of}
use Rattle.in_flight.specs.Routes.{refused_of}
use Rattle.in_flight.specs.declared.copies.ChunkCopy.{ChunkCopy}
use Rattle.in_flight.specs.declared.flights.Flight.{Flight}
use Rattle.in_flight.specs.declared.flights.Kind.{Kind}
use Rattle.in_flight.specs.declared.flights.Kind.TheVariants.{SnapWrite}
use Rattle.in_flight.specs.declared.flights.Route.TheVariants.{Held}
use Rattle.volume_laws.specs.Steps.{ChangesSnap, Overflows as OverflowsSnap, SpoilsSnap}
use Rattle.volume_laws.specs.Waits.{IsCopying}
use Rattle.volume_laws.specs.Whole.{plain_of as plain_books}
use Rattle.volume_laws.specs.Accepting.{IsPrepared, IsTakenIn}
use Rattle.volume_laws.proofs.MergeRoomEvents.{overflow_room}
use Rattle.volume_laws.proofs.Overflowing.{overflow_event, overflow_waits}
use Rattle.volume_laws.proofs.Preparing.{prepared_none, prepared_start, prepared_spoil}
use Rattle.snapshot_list.specs.Rooms.{room_of as kept_room}
use Rattle.snapshot.specs.Kept.{Kept, books_of as snap_books}
use Rattle.snapshot.specs.Calls.{StartsAt, started}
use Rattle.volume.specs.Volumed.{Volumed, books_of, piece_with, plain_of}
use Rattle.snapshot_list.specs.Numbers.{count_in}
use Rattle.volume.specs.Whole.{IsWhole, IsCounted}
use Rattle.plain_machine.specs.declared.request.Reply.{Reply}
use Rattle.event_machine.specs.Held.{SnapHeld as Seen, Moving}
use Rattle.event_machine.specs.Submitting.{submitted}
use Rattle.volume.specs.Exact.{IsSubmittedAs}
use Rattle.snapshot_list.specs.Finding.{place_of_snap}
use Rattle.volume.specs.Moved.{moving_of}
use Rattle.snapshot_list.specs.Starting.{lacks, is_full_of, own_of, starts, overflows, spoilt_of, unroomed, IsSavedIn}
use Rattle.snapshot_list.proofs.Roomed.{roomed}
use Rattle.volume.specs.Submitting.{IsAsked, IsAcceptedAs, IsFoundFull, IsOverflown, SameButRoom, entered_of, lives_after, spoiled_by}
use Rattle.volume.proofs.Accepts.{kept_flown}
use Rattle.volume.proofs.Unflushed.{unflushed}
use Rattle.volume.proofs.Begins.{whole_begun, numbers_pushed, room_begun, room_spoilt}
use Rattle.volume.proofs.ByKind.{snap_write_held_enters}
use Rattle.volume.proofs.Changing.{same_disk, changes, few_same, piece_beside, spoils_one, whole_changed, loud_changed}
use Rattle.volume.proofs.Enters.{fresh_plain, whole_entered, plain_entered}
use Rattle.volume.proofs.Finishes.{plain_roomed, loud_roomed}
use Rattle.volume.proofs.Named.{IsNamed}
use Rattle.volume.proofs.Roomed.{roomed_beside, roomed_sum, whole_roomed}
use Rattle.volume.proofs.Savings.{neither, refused_numbers}
use Rattle.volume.proofs.Shown.{shown, loud_books}
use Rattle.volume.proofs.Sums.{count_cons}
use Rattle.volume.proofs.Keeping.{keeps_begun, overflows_begun}
use Rattle.volume.proofs.MovedAccepts.{snap_write_held_is, unroomed_seen}
use Rattle.volume.proofs.MovedLists.{IsFirst}
use Rattle.volume.proofs.MovedSubmits.{IsSized, with_copy_is}
use Rattle.volume.proofs.Submitted.{lacking_unpublished, named_first, sized_at}
use Rattle.volume.proofs.StartsLeft.{left_same, left_spoilt, left_started}
use Rattle.volume.proofs.MovedCounts.{counted_begun, counted_spoilt}

and_first : (a b : Bool) → (a && b) ≡ true → a ≡ true
and_first true b e = refl
and_first false b e = absurd (true≢false (sym e))

not_full : (a b : Bool) → (a && not b) ≡ true → b ≡ false
not_full true true e = absurd (true≢false (sym e))
not_full true false e = refl
not_full false b e = absurd (true≢false (sym e))

-- one of them at least
count_some : {X : Type 0} (p : X → Bool) (xs : List X) (k : ℕ) (d : X) → k < length xs → p (get_or xs k d) ≡ true → 0 < count_by p xs
count_some p [] k d lt e = absurd (omega (arith, lt))
count_some p (x ∷ xs) zero d lt e = let here : ◌≡◌ {A = ℕ} (if p x then 1 else 0) 1 = rw e refl in omega (arith, here, count_cons p x xs)
count_some p (x ∷ xs) (suc k) d lt e = omega (arith, count_some p xs k d (omega (arith, lt)) e, count_cons p x xs)

module _ {B : Type 0} (contents : B → List ℕ) (layers : B → List Layer) (size : B → ℕ) (v : Volumed B) (h : IsWhole contents layers size v) (id k : ℕ) (s : Kept B) (n : IsNamed v id k s) (s1 : Kept B) (e1 : unroomed s1 ≡ unroomed s) where
  -- the volume, with room for the copy
  abbrev pub roomy : Volumed B
  roomy = record v { snaps = set v.snaps k s1 }

  pub one_roomed : map unroomed (set v.snaps k s1) ≡ map unroomed v.snaps
  one_roomed = map-set_same unroomed v.snaps k s1 s (e1 ∙ ap unroomed n.is)

  pub roomy_whole : IsWhole contents layers size roomy
  roomy_whole = whole_roomed contents layers size v (set v.snaps k s1) one_roomed h

  pub within_roomy : k < length (set v.snaps k s1)
  within_roomy = omega (arith, n.within, length-set v.snaps k s1)

  pub is_roomy : s1 ≡ get_or (set v.snaps k s1) k s1
  is_roomy = sym (get_or-set_same v.snaps k s1 s1 n.within)

  live_roomy : s1.live ≡ true
  live_roomy = ap (λ (x : Kept B). x.live) e1 ∙ n.live

  number_roomy : s1.number ≡ id
  number_roomy = ap (λ (x : Kept B). x.number) e1 ∙ n.number

  prepared_roomy : IsPrepared [] (books_of contents layers size roomy) (books_of contents layers size roomy)
  prepared_roomy = prepared_none (books_of contents layers size roomy) roomy_whole.holds roomy_whole.waits

  -- it is seen as the same, and the snapshot is the first with its number
  moving_roomed : (replied : Option Reply) → moving_of contents layers replied v ≡ moving_of contents layers replied roomy
  moving_roomed replied = ap (λ (hs : List Seen). let m : Moving = record (moving_of contents layers replied v) { snaps = hs } in m) (sym (unroomed_seen contents layers (set v.snaps k s1) v.snaps one_roomed))

  first_roomy : IsFirst (λ (x : Kept B). nat_eq x.number id) k s1 (set v.snaps k s1)
  first_roomy = named_first contents layers size roomy roomy_whole id k s1 (record { within = within_roomy; is = is_roomy; live = live_roomy; number = number_roomy })

  module _ (f : Flight) (number : f.number ≡ v.requests + 1) (asked : IsAsked (size v.origin) (piece_with v.merge v.snaps) f.request) (room : length f.room.items ≡ room_of f.request) (kind : kind_of f.request ≡ SnapWrite id) (route : f.route ≡ Held) (did : did_overflow s.overflow ≡ false)
      (space : length v.flights < 64) (few : sum_by count_in v.snaps + count_by (λ x. nat_eq x.number id && starts f.request.range.first x) v.snaps ≤ 256)
      (t : Kept B) (buffer : Vec ℕ) (begins : starts f.request.range.first s1 ≡ true) (at : StartsAt contents layers (started (v.copies + 1) (f.request.range.first / s1.state.chunk) s1.next buffer) s1 t) where
    did_roomy : did_overflow s1.overflow ≡ false
    did_roomy = ap (λ (x : Kept B). did_overflow x.overflow) e1 ∙ did

    abbrev copy : ChunkCopy
    copy = started (v.copies + 1) (f.request.range.first / s1.state.chunk) s1.next buffer

    abbrev pub copying : Volumed B
    copying = record v { snaps = set (set v.snaps k s1) k t; copies = v.copies + 1 }

    prepared_copying : IsPrepared [] (books_of contents layers size roomy) (books_of contents layers size copying)
    prepared_copying = prepared_start [] k copy (snap_books contents layers s1) (snap_books contents layers t) (books_of contents layers size roomy) (books_of contents layers size roomy) (books_of contents layers size copying) prepared_roomy
        (changes contents layers size roomy v.origin k s1 t within_roomy is_roomy (same_disk contents layers size v.origin)) at.event live_roomy

    few_copies : sum_by count_in (set v.snaps k s1) < 256
    few_copies =
        let sums = roomed_sum count_in (set v.snaps k s1) v.snaps one_roomed (λ x. refl) in
        let c = f.request.range.first in
        let here : (nat_eq s.number id && starts c s) ≡ true = both (nat_eq s.number id) (starts c s) (eq-eqb s.number id n.number) (sym (ap (starts c) e1) ∙ begins) in
        let one = count_some (λ x. nat_eq x.number id && starts c x) v.snaps k s n.within (sym (ap (λ (x : Kept B). nat_eq x.number id && starts c x) n.is) ∙ here) in
        omega (arith, few, sums, one)
      where
        both : (a b : Bool) → a ≡ true → b ≡ true → (a && b) ≡ true
        both true b e g = g
        both false b e g = absurd (cc)

    whole_copying : IsWhole contents layers size copying
    whole_copying = whole_begun contents layers size roomy k s1 t within_roomy is_roomy roomy_whole (ap (λ (x : Kept B). x.number) at.fields) (ap (λ (x : Kept B). x.state.chunk) at.fields) (ap (λ (x : Kept B). x.state.origin) at.fields)
        (numbers_pushed s1 t copy (ap (λ (x : Kept B). x.marks) at.fields) (ap (λ (x : Kept B). x.copies) at.fields)) (ap (λ (x : Kept B). x.merging) at.fields) (λ counts. counted_begun contents layers s1 t copy live_roomy at counts)
        (left_started contents layers (own_of f.request.range.first s1) s1 t copy (subst IsCounted (sym is_roomy) (roomy_whole.counted k s1 within_roomy)).some begins live_roomy at) few_copies prepared_copying.holds prepared_copying.waits (room_begun contents layers copy s1 t at)

    piece_copying : piece_with v.merge (set (set v.snaps k s1) k t) ≡ piece_with v.merge v.snaps
    piece_copying = piece_beside v.merge (set v.snaps k s1) k s1 t is_roomy (ap (λ (x : Kept B). x.state.chunk) at.fields) ∙ roomed_beside v.merge (set v.snaps k s1) v.snaps one_roomed

    last_copy : (ps : List ChunkCopy) (p : ChunkCopy) → Any (λ (x : ChunkCopy). x.pair.old ≡ p.pair.old) (ps ++ p ∷ [])
    last_copy ps p = (length ps, p, omega (arith, length-append ps (p ∷ [])), (let e : length ps ≡ length ps + 0 = omega arith in ap (λ i. get_or (ps ++ p ∷ []) i p) e ∙ get_or-append-add ps (p ∷ []) 0 p), refl)

    is_copying : IsCopying (f.request.range.first / t.state.chunk) (snap_books contents layers t)
    is_copying =
        let chunk : s1.state.chunk ≡ t.state.chunk = sym (ap (λ (x : Kept B). x.state.chunk) at.fields) in
        subst (λ (c : ℕ). IsCopying (f.request.range.first / c) (snap_books contents layers t)) chunk
        (inl (subst (Any (λ (x : ChunkCopy). x.pair.old ≡ f.request.range.first / s1.state.chunk)) (sym (ap (λ (x : Kept B). x.copies) at.fields)) (last_copy s1.copies copy)))

    taken : IsTakenIn [] f.number f.request (books_of contents layers size roomy) (books_of contents layers size (entered_of f copying))
    taken = snap_write_held_enters contents layers size roomy copying [] prepared_copying whole_copying f number (subst (λ (c : ℕ). IsAsked (size v.origin) c f.request) (sym piece_copying) asked) room
        k t (omega (arith, within_roomy, length-set (set v.snaps k s1) k t)) (sym (get_or-set_same (set v.snaps k s1) k t t within_roomy)) (ap (λ (x : Kept B). x.live) at.fields ∙ live_roomy)
        (kind ∙ ap SnapWrite (sym (ap (λ (x : Kept B). x.number) at.fields ∙ number_roomy))) (ap (λ (x : Kept B). did_overflow x.overflow) at.fields ∙ did_roomy) route is_copying

    pub held_whole : IsWhole contents layers size (entered_of f copying)
    held_whole = whole_entered contents layers size copying f whole_copying number [] roomy space taken

    lacking : lacks f.request.range.first s1 ≡ true
    lacking = and_first (lacks f.request.range.first s1) (not (is_full_of s1)) begins

    free : is_full_of s1 ≡ false
    free = not_full (lacks f.request.range.first s1) (is_full_of s1) begins

    held_submitted : IsSubmittedAs contents layers f.request f.number v (entered_of f copying)
    held_submitted replied =
        let sized : IsSized contents s1 = sized_at contents layers size roomy roomy_whole k s1 within_roomy is_roomy in
        ap (submitted f.number f.request) (moving_roomed replied)
        ∙ snap_write_held_is contents layers replied f.number f.request f refl refl roomy (entered_of f copying) id k s1 first_roomy t kind did_roomy
        (lacking_unpublished f.request.range.first s1 lacking) sized lacking free (sym (with_copy_is contents layers (own_of f.request.range.first s1) s1 t v.copies buffer at)) route refl

    pub held_accepted : IsAcceptedAs contents layers f.request f.number v (entered_of f copying)
    held_accepted = record {
      next = number;
      origin = refl;
      given = sym number;
      fresh = fresh_plain contents layers size v f h number;
      loud = loud_changed contents layers size roomy v.origin k s1 t within_roomy is_roomy v.flights (same_disk contents layers size v.origin) (ap (λ (x : Kept B). is_loud (layers x.device)) at.fields)
          ∙ loud_roomed contents layers size v (set v.snaps k s1) one_roomed;
      legal = λ loud.
          (let c = f.request.range.first in
          subst (λ (ns : List ℕ). IsSubmitted ns (plain_of contents layers v) f.number f.request (plain_of contents layers (entered_of f copying))) (sym (ap (λ (q : Kind). spoiled_by q c v.merge v.snaps) kind))
          (subst (λ (p : Plain). IsSubmitted [] p f.number f.request (plain_of contents layers (entered_of f copying))) (plain_roomed contents layers size v (set v.snaps k s1) one_roomed)
          (plain_entered contents layers size roomy (entered_of f copying) [] f.number f.request taken (loud_roomed contents layers size v (set v.snaps k s1) one_roomed ∙ loud))));
      lives =
          (let c = f.request.range.first in
          map-set_same (λ (x : Kept B). x.live) (set v.snaps k s1) k t s1 (ap (λ (x : Kept B). x.live) at.fields ∙ ap (λ (x : Kept B). x.live) is_roomy)
          ∙ roomed (λ (x : Kept B). x.live) (set v.snaps k s1) v.snaps one_roomed (λ x. refl)
          ∙ sym (ap (λ (q : Kind). lives_after q c v.merge v.snaps) kind));
      flown = kept_flown v.flights v.flights f (unflushed f.request (SnapWrite id) kind tt) refl;
      exact = held_submitted;
      overflows = overflows_begun contents layers v.snaps k (set v.snaps k s1) s1 t copy one_roomed is_roomy at;
      kept = keeps_begun contents layers v (entered_of f copying) k (set v.snaps k s1) s1 t copy refl refl refl refl one_roomed is_roomy at;
    }

  -- its store is full
  abbrev pub filled : Volumed B
  filled = record v { snaps = set (set v.snaps k s1) k (spoilt_of s1); flights = map (refused_of (s1.number ∷ [])) v.flights }

  prepared_filled : IsPrepared (s1.number ∷ []) (books_of contents layers size roomy) (books_of contents layers size filled)
  prepared_filled =
      let spoils : SpoilsSnap (snap_books contents layers s1) (snap_books contents layers (spoilt_of s1)) = record { number = refl; was = live_roomy; live = refl; overflow = refl; chunk = refl; pairs = refl; sure = refl; copies = refl; marks = refl } in
      prepared_spoil [] k (snap_books contents layers s1) (snap_books contents layers (spoilt_of s1)) (books_of contents layers size roomy) (books_of contents layers size roomy) (books_of contents layers size filled) prepared_roomy
      (spoils_one contents layers size roomy v.origin k s1 (spoilt_of s1) within_roomy is_roomy (same_disk contents layers size v.origin) spoils) refl refl

  pub filled_whole : IsWhole contents layers size filled
  filled_whole = whole_changed contents layers size roomy v.origin k s1 (spoilt_of s1) within_roomy is_roomy (map (refused_of (s1.number ∷ [])) v.flights) roomy_whole (same_disk contents layers size v.origin)
      (record { number = refl; chunk_is = refl; origin = refl; numbers = inr (inr refl); few = omega arith; counted = λ counts. counted_spoilt s1 counts; left = left_spoilt s1 (spoilt_of s1) refl }) (refused_numbers (s1.number ∷ []) v.flights) prepared_filled.holds prepared_filled.waits (room_spoilt contents layers s1 live_roomy)

  pub found_full : (c : ℕ) → overflows c s1 ≡ true → s.overflow ≡ Never → place_of_snap id v.snaps ≡ Some k → IsFoundFull contents layers id c v filled
  found_full c over never found = record {
    place = k;
    snap = s;
    found = found;
    is = n.is;
    full = sym (ap (overflows c) e1) ∙ over;
    strict = never;
    spoilt = map-set unroomed (set v.snaps k s1) k (spoilt_of s1) ∙ ap (λ (xs : List (Kept B)). set xs k (unroomed (spoilt_of s1))) one_roomed
        ∙ ap (λ (x : Kept B). set (map unroomed v.snaps) k (unroomed (spoilt_of x))) e1 ∙ sym (map-set unroomed v.snaps k (spoilt_of s));
    becomes = ap (λ (m : ℕ). let w : Volumed B = record v { snaps = set (set v.snaps k s1) k (spoilt_of s1); flights = map (refused_of (m ∷ [])) v.flights } in w) number_roomy;
    loud = loud_changed contents layers size roomy v.origin k s1 (spoilt_of s1) within_roomy is_roomy (map (refused_of (s1.number ∷ [])) v.flights) (same_disk contents layers size v.origin) refl
        ∙ loud_roomed contents layers size v (set v.snaps k s1) one_roomed;
    spoils = λ loud. subst (λ (m : ℕ). Spoils (m ∷ []) (plain_of contents layers v) (plain_of contents layers filled)) number_roomy
        (subst (λ (p : Plain). Spoils (s1.number ∷ []) p (plain_of contents layers filled)) (sym (shown contents layers size roomy) ∙ plain_roomed contents layers size v (set v.snaps k s1) one_roomed)
        (subst (Spoils (s1.number ∷ []) (plain_books (books_of contents layers size roomy))) (sym (shown contents layers size filled))
        (prepared_filled.step (loud_books contents layers size roomy (loud_roomed contents layers size v (set v.snaps k s1) one_roomed ∙ loud)))));
  }

  -- or it may overflow, and is marked
  abbrev marked : Kept B
  marked = record s1 { overflow = Did }

  abbrev pub overflown : Volumed B
  overflown = record v { snaps = set (set v.snaps k s1) k marked }

  module _ (may : s.overflow ≡ May) where
    marks : OverflowsSnap (snap_books contents layers s1) (snap_books contents layers marked)
    marks = record { was = live_roomy; may = ap (λ (x : Kept B). x.overflow) e1 ∙ may; becomes = refl }

    marks_one : ChangesSnap k (snap_books contents layers s1) (snap_books contents layers marked) (books_of contents layers size roomy) (books_of contents layers size overflown)
    marks_one = changes contents layers size roomy v.origin k s1 marked within_roomy is_roomy (same_disk contents layers size v.origin)

    pub overflown_whole : IsWhole contents layers size overflown
    overflown_whole =
        let event = overflow_event k (snap_books contents layers s1) (snap_books contents layers marked) (books_of contents layers size roomy) (books_of contents layers size overflown) marks_one marks roomy_whole.holds in
        whole_changed contents layers size roomy v.origin k s1 marked within_roomy is_roomy v.flights roomy_whole (same_disk contents layers size v.origin)
        (record {
          number = refl;
          chunk_is = refl;
          origin = refl;
          numbers = inl refl;
          few = few_same s1 marked refl refl;
          counted = λ counts. record { some = counts.some; count = counts.count; fits = counts.fits; idle = counts.idle };
          left = left_same s1 marked refl refl refl;
        })
        refl event.0
        (overflow_waits k (snap_books contents layers s1) (snap_books contents layers marked) (books_of contents layers size roomy) (books_of contents layers size overflown) marks_one marks roomy_whole.waits)
        (overflow_room (kept_room contents layers s1) (kept_room contents layers marked) marks (record { kept_back = refl; spare = refl; merging = refl }))

    pub found_overflown : (c : ℕ) → overflows c s1 ≡ true → place_of_snap id v.snaps ≡ Some k → IsOverflown contents layers id c v overflown
    found_overflown c over found =
        let event = overflow_event k (snap_books contents layers s1) (snap_books contents layers marked) (books_of contents layers size roomy) (books_of contents layers size overflown) marks_one marks roomy_whole.holds in
        record {
          place = k;
          snap = s;
          found = found;
          is = n.is;
          full = sym (ap (overflows c) e1) ∙ over;
          may = may;
          marked = map-set unroomed (set v.snaps k s1) k marked ∙ ap (λ (xs : List (Kept B)). set xs k (unroomed marked)) one_roomed
              ∙ ap (λ (x : Kept B). set (map unroomed v.snaps) k (unroomed (record x { overflow = Did }))) e1 ∙ sym (map-set unroomed v.snaps k (record s { overflow = Did }));
          becomes = refl;
          legal = λ _. subst (λ (m : ℕ). Overflows m (plain_of contents layers v) (plain_of contents layers overflown)) number_roomy
              (subst (λ (p : Plain). Overflows s1.number p (plain_of contents layers overflown)) (sym (shown contents layers size roomy) ∙ plain_roomed contents layers size v (set v.snaps k s1) one_roomed)
              (subst (Overflows s1.number (plain_books (books_of contents layers size roomy))) (sym (shown contents layers size overflown)) event.1));
          loud = loud_changed contents layers size roomy v.origin k s1 marked within_roomy is_roomy v.flights (same_disk contents layers size v.origin) refl
              ∙ loud_roomed contents layers size v (set v.snaps k s1) one_roomed;
        }

-- a copy was started where a number was given
pub saved_begins : {B : Type 0} (contents : B → List ℕ) (layers : B → List Layer) (c : ℕ) (s t : Kept B) (m l : ℕ) (fs gs : List Flight) → IsSavedIn contents layers (own_of c s) s t m l fs gs → l ≢ m → starts c s ≡ true
saved_begins contents layers c s t m l fs gs e other = elim (cases_Bool (starts c s)) [
  | inl begins ↦ begins
  | inr unsaid ↦ elim (cases_Bool (overflows c s)) [
    | inl over ↦ (let (same, l_is, g) = MatchBool-at_true _ _ over (MatchBool-at_false _ _ unsaid e) in absurd (other l_is))
    | inr fine ↦ (let (same, l_is, g) = MatchBool-at_false _ _ fine (MatchBool-at_false _ _ unsaid e) in absurd (other l_is))
  ]
]

-- and else the store is full
pub saved_full : {B : Type 0} (contents : B → List ℕ) (layers : B → List Layer) (c : ℕ) (s t : Kept B) (m l : ℕ) (fs gs : List Flight) → IsSavedIn contents layers (own_of c s) s t m l fs gs → lacks c s ≡ true → l ≡ m
    → (overflows c s ≡ true) × (t ≡ spoilt_of s) × (gs ≡ map (refused_of (s.number ∷ [])) fs)
saved_full contents layers c s t m l fs gs e lacking same = elim (cases_Bool (starts c s)) [
  | inl begins ↦ (let (buffer, at, l_is, g) = MatchBool-at_true _ _ begins e in absurd (omega (arith, same, l_is)))
  | inr unsaid ↦ elim (cases_Bool (overflows c s)) [
    | inl over ↦ (let (t_is, l_is, g) = MatchBool-at_true _ _ over (MatchBool-at_false _ _ unsaid e) in (over, t_is, g))
    | inr fine ↦ absurd (true≢false (sym lacking ∙ neither (lacks c s) (is_full_of s) unsaid fine))
  ]
]

module _ {B : Type 0} (contents : B → List ℕ) (layers : B → List Layer) (size : B → ℕ) (v : Volumed B) (h : IsWhole contents layers size v) (id k : ℕ) (s : Kept B) (n : IsNamed v id k s) (s1 : Kept B) (e1 : unroomed s1 ≡ unroomed s) (t : Kept B) (m : ℕ) (gs : List Flight) where
  -- a number was given: the write is in flight
  pub held_done : (f : Flight) (request : Request) → f.request ≡ request → f.number ≡ v.requests + 1 → f.route ≡ Held → length v.flights < 64 → IsAsked (size v.origin) (piece_with v.merge v.snaps) request → length f.room.items ≡ room_of request → kind_of request ≡ SnapWrite id → did_overflow s.overflow ≡ false
      → sum_by count_in v.snaps + count_by (λ x. nat_eq x.number id && starts request.range.first x) v.snaps ≤ 256
      → IsSavedIn contents layers (own_of request.range.first s1) s1 t v.copies m v.flights gs → m ≢ v.copies
      → IsWhole contents layers size (entered_of f (record v { snaps = set (set v.snaps k s1) k t; copies = m; flights = gs }))
      × IsAcceptedAs contents layers request f.number v (entered_of f (record v { snaps = set (set v.snaps k s1) k t; copies = m; flights = gs }))
  held_done f request same number route space = subst
      (λ (r : Request). IsAsked (size v.origin) (piece_with v.merge v.snaps) r → length f.room.items ≡ room_of r → kind_of r ≡ SnapWrite id → did_overflow s.overflow ≡ false
      → sum_by count_in v.snaps + count_by (λ x. nat_eq x.number id && starts r.range.first x) v.snaps ≤ 256
      → IsSavedIn contents layers (own_of r.range.first s1) s1 t v.copies m v.flights gs → m ≢ v.copies
      → IsWhole contents layers size (entered_of f (record v { snaps = set (set v.snaps k s1) k t; copies = m; flights = gs }))
      × IsAcceptedAs contents layers r f.number v (entered_of f (record v { snaps = set (set v.snaps k s1) k t; copies = m; flights = gs })))
      same
      (λ asked room kind did few saved other.
      (let begins = saved_begins contents layers f.request.range.first s1 t v.copies m v.flights gs saved other in
      let (buffer, at, m_is, g_is) = MatchBool-at_true _ _ begins saved in
      subst (λ (x : List Flight). IsWhole contents layers size (entered_of f (record v { snaps = set (set v.snaps k s1) k t; copies = m; flights = x }))
      × IsAcceptedAs contents layers f.request f.number v (entered_of f (record v { snaps = set (set v.snaps k s1) k t; copies = m; flights = x }))) (sym g_is)
      (subst (λ (x : ℕ). IsWhole contents layers size (entered_of f (record v { snaps = set (set v.snaps k s1) k t; copies = x; flights = v.flights }))
      × IsAcceptedAs contents layers f.request f.number v (entered_of f (record v { snaps = set (set v.snaps k s1) k t; copies = x; flights = v.flights }))) (sym m_is) (
        held_whole contents layers size v h id k s n s1 e1 f number asked room kind route did space few t buffer begins at,
        held_accepted contents layers size v h id k s n s1 e1 f number asked room kind route did space few t buffer begins at,
      ))))

  -- none was given: the snapshot is spoiled
  pub full_done : (c : ℕ) → IsSavedIn contents layers (own_of c s1) s1 t v.copies m v.flights gs → lacks c s ≡ true → m ≡ v.copies → s.overflow ≡ Never → place_of_snap id v.snaps ≡ Some k
      → IsWhole contents layers size (record v { snaps = set (set v.snaps k s1) k t; flights = gs }) × IsFoundFull contents layers id c v (record v { snaps = set (set v.snaps k s1) k t; flights = gs })
  full_done c saved lacking none never found =
      let (over, t_is, g_is) = saved_full contents layers c s1 t v.copies m v.flights gs saved (ap (lacks c) e1 ∙ lacking) none in
      subst (λ (x : List Flight). IsWhole contents layers size (record v { snaps = set (set v.snaps k s1) k t; flights = x }) × IsFoundFull contents layers id c v (record v { snaps = set (set v.snaps k s1) k t; flights = x })) (sym g_is)
      (subst (λ (x : Kept B). IsWhole contents layers size (record v { snaps = set (set v.snaps k s1) k x; flights = map (refused_of (s1.number ∷ [])) v.flights }) × IsFoundFull contents layers id c v (record v { snaps = set (set v.snaps k s1) k x; flights = map (refused_of (s1.number ∷ [])) v.flights })) (sym t_is)
      (filled_whole contents layers size v h id k s n s1 e1, found_full contents layers size v h id k s n s1 e1 c over never found))

  -- the snapshot is marked
  pub overflown_done : (c : ℕ) → t ≡ record s1 { overflow = Did } → overflows c s1 ≡ true → s.overflow ≡ May → place_of_snap id v.snaps ≡ Some k
      → IsWhole contents layers size (record v { snaps = set (set v.snaps k s1) k t }) × IsOverflown contents layers id c v (record v { snaps = set (set v.snaps k s1) k t })
  overflown_done c t_is over may found =
      subst (λ (x : Kept B). IsWhole contents layers size (record v { snaps = set (set v.snaps k s1) k x }) × IsOverflown contents layers id c v (record v { snaps = set (set v.snaps k s1) k x })) (sym t_is)
      (overflown_whole contents layers size v h id k s n s1 e1 may, found_overflown contents layers size v h id k s n s1 e1 may c over found)

-- what starting the copy says of a store that is full
abbrev pub IsRefusedFull : {B : Type 0} → (B → List ℕ) → (B → List Layer) → ℕ → Refusal → Kept B → Kept B → ℕ → List Flight → List Flight → Type 0
IsRefusedFull contents layers c refusal s t m fs gs =
    ((refusal ≡ Invalid) × (s.overflow ≡ Never) × IsSavedIn contents layers (own_of c s) s t m m fs gs)
    ⊎ ((refusal ≡ Overflow) × (s.overflow ≡ May) × (overflows c s ≡ true) × (t ≡ record s { overflow = Did }) × (gs ≡ fs))

-- and why a write of a snapshot is refused then
abbrev pub IsWriteRefused : {B : Type 0} → (B → List ℕ) → (B → List Layer) → ℕ → ℕ → Refusal → Volumed B → Volumed B → Type 0
IsWriteRefused contents layers id c refusal v w =
    ((refusal ≡ NoMemory) × SameButRoom v w) ⊎ ((refusal ≡ Invalid) × IsFoundFull contents layers id c v w) ⊎ ((refusal ≡ Overflow) × IsOverflown contents layers id c v w)

module _ {B : Type 0} (contents : B → List ℕ) (layers : B → List Layer) (size : B → ℕ) (v : Volumed B) (h : IsWhole contents layers size v) (id k : ℕ) (s : Kept B) (n : IsNamed v id k s) (s1 : Kept B) (e1 : unroomed s1 ≡ unroomed s) (t : Kept B) (gs : List Flight) where
  pub refused_done : (refusal : Refusal) (c : ℕ) → IsRefusedFull contents layers c refusal s1 t v.copies v.flights gs → lacks c s ≡ true → place_of_snap id v.snaps ≡ Some k
      → IsWhole contents layers size (record v { snaps = set (set v.snaps k s1) k t; flights = gs }) × IsWriteRefused contents layers id c refusal v (record v { snaps = set (set v.snaps k s1) k t; flights = gs })
  refused_done refusal c e lacking found = elim e [
    | inl spoilt ↦
        (let (invalid, never, saved) = spoilt in
        let done = full_done contents layers size v h id k s n s1 e1 t v.copies gs c saved lacking refl (sym (ap (λ (x : Kept B). x.overflow) e1) ∙ never) found in (
          done.0,
          inr (inl (invalid, done.1)),
        ))
    | inr marked ↦
        (let (overflow, may, over, t_is, g_is) = marked in
        let done = overflown_done contents layers size v h id k s n s1 e1 t v.copies gs c t_is over (sym (ap (λ (x : Kept B). x.overflow) e1) ∙ may) found in
        subst (λ (fs : List Flight). IsWhole contents layers size (record v { snaps = set (set v.snaps k s1) k t; flights = fs }) × IsWriteRefused contents layers id c refusal v (record v { snaps = set (set v.snaps k s1) k t; flights = fs })) (sym g_is) (
          done.0,
          inr (inr (overflow, done.1)),
        ))
  ]

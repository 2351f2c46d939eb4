-- What starting the copies of the chunks of one sector, in all snapshots, leaves of a volume.
use Rattle.std.proofs.Common.{◌≡◌, ◌≢◌, ◌⊎◌, inl, inr, ℕ, ◌+◌, ◌/◌, ◌<◌, ◌≤◌, Bool, true, false, List, [], ◌∷◌, ◌++◌, length, get_or, set, map, refl, sym, ◌∙◌, ap, subst, arith, length-append, nat_eq, if◌then◌else◌}
use Rattle.std.specs.Prelude.{◌&&◌, not, Any, sum_by, count_by, None, Some, Option}
use Rattle.std.specs.List.{list_any}
use Rattle.std.specs.Option.{is_some}
use Rattle.std.proofs.lemmas.Bool.{cases_Bool, false≢true, true≢false, eqb-true, MatchBool-at_true, MatchBool-at_false}
use Rattle.std.proofs.lemmas.List.{map-set, length-map, set-get_or, append_assoc, get_or-append-add, append-nil}
use Rattle.std.proofs.lemmas.List.Sums.{sum_by-set}
use Rattle.std.proofs.lemmas.List.Folds.{Any-from_list_any}
use Rattle.device.specs.Layers.{Layer}
use Rattle.cow_format.specs.Picture.{place_of}
use Rattle.in_flight.specs.Due.{number_of_flight}
use Rattle.in_flight.specs.Routes.{refused_of}
use Rattle.in_flight.specs.declared.flights.Flight.{Flight}
use Rattle.volume_laws.specs.Books.{SnapBooks}
use Rattle.volume_laws.specs.Steps.{SpoilsSnap}
use Rattle.volume_laws.specs.Accepting.{IsPrepared}
use Rattle.volume_laws.proofs.Preparing.{prepared_start, prepared_spoil, saving_started}
use Rattle.snapshot.specs.Kept.{Kept, books_of as snap_books}
use Rattle.snapshot.specs.Calls.{StartsAt, started}
use Rattle.volume.specs.Volumed.{Volumed, books_of}
use Rattle.snapshot_list.specs.Numbers.{count_in}
use Rattle.volume.specs.Whole.{IsWhole, IsCounted}
use Rattle.snapshot_list.specs.Starting.{lacks, lacks_chunk, is_full_of, own_of, starts, overflows, overflows_chunk, overflowing, spoilt_of, IsSavedIn, AreSavedIn}
use Rattle.snapshot_list.proofs.Overflowing.{overflowing_full, overflowing_fine, starts_fine}
use Rattle.volume.proofs.Changing.{same_disk, changed, changes, spoils_one, whole_changed, books_within, books_is}
use Rattle.volume.proofs.SavingAt.{AreSavingAt, saving_here_at, saving_set_at}
use Rattle.volume.proofs.Sums.{count_cons}
use Rattle.volume.proofs.Begins.{begun, count_more, whole_begun, numbers_pushed, room_begun, room_spoilt}
use Rattle.volume.proofs.StartsLeft.{left_spoilt, left_started}
use Rattle.volume.proofs.MovedCounts.{counted_begun, counted_spoilt}

and_first : (a b : Bool) → (a && b) ≡ true → a ≡ true
and_first true b e = refl
and_first false b e = e

pub neither : (a b : Bool) → (a && not b) ≡ false → (a && b) ≡ false → a ≡ false
neither false b e f = refl
neither true true e f = f
neither true false e f = e

-- a live snapshot that does not lack a chunk has it, or a copy of it is under way
pub not_lacking : {B : Type 0} (c : ℕ) (s : Kept B) → lacks_chunk c s ≡ false → s.live ≡ true → (place_of s.pairs c ≢ None) ⊎ Any (λ p. p.pair.old ≡ c) s.copies
not_lacking c s e live = at (place_of s.pairs c) refl
  where
    some_ne_none : (n : ℕ) → Some n ≢ None
    some_ne_none n is = cc

    at : (found : Option ℕ) → place_of s.pairs c ≡ found → (place_of s.pairs c ≢ None) ⊎ Any (λ p. p.pair.old ≡ c) s.copies
    at (Some n) is = inl (λ none. some_ne_none n (sym is ∙ none))
    at None is = inr (elim (cases_Bool (list_any (λ p. nat_eq p.pair.old c) s.copies)) [
      | inl any ↦ (let (k, p, lt, p_is, same) = Any-from_list_any (λ p. nat_eq p.pair.old c) s.copies any in (k, p, lt, p_is, eqb-true p.pair.old c same))
      | inr none ↦ (let here : lacks_chunk c s ≡ true = rw (live, is, none) refl in absurd (true≢false (sym here ∙ e)))
    ])

-- a snapshot whose store is found full is live
pub overflows_live : {B : Type 0} (c : ℕ) (s : Kept B) → overflows_chunk c s ≡ true → s.live ≡ true
overflows_live c s over =
    and_first s.live (not (is_some (place_of s.pairs c))) (and_first (s.live && not (is_some (place_of s.pairs c))) (not (list_any (λ q. nat_eq q.pair.old c) s.copies)) (and_first (lacks_chunk c s) (is_full_of s) over))

pub refused_numbers : (which : List ℕ) (fs : List Flight) → map number_of_flight (map (refused_of which) fs) ≡ map number_of_flight fs
refused_numbers which [] = refl
refused_numbers which (f ∷ fs) = ap (λ ns. f.number ∷ ns) (refused_numbers which fs)

-- what was done from volume v0 on, in its first snapshots, of which these were spoiled
pub record AreDone {B : Type 0} (contents : B → List ℕ) (layers : B → List Layer) (size : B → ℕ) (first i : ℕ) (which : List ℕ) (v0 v : Volumed B) : Type 0 where
  pub whole : IsWhole contents layers size v
  pub prepared : IsPrepared which (books_of contents layers size v0) (books_of contents layers size v)
  pub saving : AreSavingAt first i (books_of contents layers size v).snaps

module _ {B : Type 0} (contents : B → List ℕ) (layers : B → List Layer) (size : B → ℕ) (first : ℕ) (v0 : Volumed B) where
  abbrev sb : Kept B → SnapBooks
  sb = snap_books contents layers

  module _ (v : Volumed B) (k : ℕ) (s t : Kept B) (within : k < length v.snaps) (is : s ≡ get_or v.snaps k s) (which : List ℕ) (h : AreDone contents layers size first k which v0 v) where
    saved_now : (s' : Kept B) (w : Volumed B) → w.snaps ≡ set v.snaps k s' → AreSavingAt first (k + 1) (set (map (snap_books contents layers) v.snaps) k (snap_books contents layers s')) → AreSavingAt first (k + 1) (map (snap_books contents layers) w.snaps)
    saved_now s' w e a = subst (AreSavingAt first (k + 1)) (sym (ap (map (snap_books contents layers)) e ∙ map-set (snap_books contents layers) v.snaps k s')) a

    done_started : (buffer : _) → starts first s ≡ true → StartsAt contents layers (started (v.copies + 1) (first / s.state.chunk) s.next buffer) s t → sum_by count_in v.snaps < 256 → AreDone contents layers size first (k + 1) which v0 (begun contents layers size v k s t within is)
    done_started buffer starting at room =
        let p = started (v.copies + 1) (first / s.state.chunk) s.next buffer in
        let live : s.live ≡ true = and_first s.live (not (is_some (place_of s.pairs (first / s.state.chunk)))) (and_first (s.live && not (is_some (place_of s.pairs (first / s.state.chunk)))) (not (list_any (λ q. nat_eq q.pair.old (first / s.state.chunk)) s.copies)) (and_first (lacks first s) (not (is_full_of s)) starting)) in
        let change = changes contents layers size v v.origin k s t within is (same_disk contents layers size v.origin) in
        let prepared = prepared_start which k p (snap_books contents layers s) (snap_books contents layers t) (books_of contents layers size v0) (books_of contents layers size v) (books_of contents layers size (begun contents layers size v k s t within is)) h.prepared change at.event live in
        record {
          whole = whole_begun contents layers size v k s t within is h.whole (ap (λ (x : Kept B). x.number) at.fields) (ap (λ (x : Kept B). x.state.chunk) at.fields) (ap (λ (x : Kept B). x.state.origin) at.fields)
              (numbers_pushed s t p (ap (λ (x : Kept B). x.marks) at.fields) (ap (λ (x : Kept B). x.copies) at.fields)) (ap (λ (x : Kept B). x.merging) at.fields) (λ counts. counted_begun contents layers s t p live at counts) (left_started contents layers (own_of first s) s t p (subst IsCounted (sym is) (h.whole.counted k s within)).some starting live at) room prepared.holds prepared.waits (room_begun contents layers p s t at);
          prepared = prepared;
          saving = saved_now t (begun contents layers size v k s t within is) refl
              (saving_set_at first k (snap_books contents layers t) (map (snap_books contents layers) v.snaps) h.saving (books_within contents layers size v v.origin k s t within is) (λ _. saving_started (first / t.state.chunk) p (snap_books contents layers s) (snap_books contents layers t) at.event (ap (λ (x : Kept B). first / x.state.chunk) (sym at.fields))));
        }

    done_spoilt : overflows first s ≡ true → AreDone contents layers size first (k + 1) (which ++ s.number ∷ []) v0 (changed v v.origin k (spoilt_of s) (map (refused_of (s.number ∷ [])) v.flights))
    done_spoilt over =
        let x : Kept B = spoilt_of s in
        let spoils : SpoilsSnap (snap_books contents layers s) (snap_books contents layers x) = record { number = refl; was = overflows_live (own_of first s) s over; live = refl; overflow = refl; chunk = refl; pairs = refl; sure = refl; copies = refl; marks = refl } in
        let same = same_disk contents layers size v.origin in
        let spoil = spoils_one contents layers size v v.origin k s x within is same spoils in
        let w : Volumed B = changed v v.origin k x (map (refused_of (s.number ∷ [])) v.flights) in
        let prepared = prepared_spoil which k (snap_books contents layers s) (snap_books contents layers x) (books_of contents layers size v0) (books_of contents layers size v) (books_of contents layers size w) h.prepared spoil refl refl in
        record {
          whole = whole_changed contents layers size v v.origin k s x within is (map (refused_of (s.number ∷ [])) v.flights) h.whole same (record { number = refl; chunk_is = refl; origin = refl; numbers = inr (inr refl); few = omega arith; counted = λ counts. counted_spoilt s counts; left = left_spoilt s x refl })
              (refused_numbers (s.number ∷ []) v.flights) prepared.holds prepared.waits (room_spoilt contents layers s (overflows_live (own_of first s) s over));
          prepared = prepared;
          saving = saved_now x w refl (saving_set_at first k (snap_books contents layers x) (map (snap_books contents layers) v.snaps) h.saving (books_within contents layers size v v.origin k s x within is) (λ live. absurd (false≢true live)));
        }

    done_kept : lacks first s ≡ false → AreDone contents layers size first (k + 1) which v0 v
    done_kept has = record {
      whole = h.whole;
      prepared = h.prepared;
      saving = saving_here_at first k (snap_books contents layers s) (map (snap_books contents layers) v.snaps) h.saving (omega (arith, within, length-map v.snaps (snap_books contents layers)))
          (books_is contents layers size v v.origin k s s within is) (λ live. not_lacking (own_of first s) s has live);
    }

    -- which are spoiled, with this one
    none_more : overflows first s ≡ false → which ++ overflowing (own_of first) (s ∷ []) ≡ which
    none_more fine = ap (λ ns. which ++ ns) (overflowing_fine (own_of first) s [] fine) ∙ append-nil which

    one_more : overflows first s ≡ true → which ++ overflowing (own_of first) (s ∷ []) ≡ which ++ s.number ∷ []
    one_more full = ap (λ ns. which ++ ns) (overflowing_full (own_of first) s [] full)

    done_one : (n : ℕ) (hs : List Flight) → IsSavedIn contents layers (own_of first s) s t v.copies n v.flights hs → (starts first s ≡ true → sum_by count_in v.snaps < 256)
        → AreDone contents layers size first (k + 1) (which ++ overflowing (own_of first) (s ∷ [])) v0 (record v { snaps = set v.snaps k t; copies = n; flights = hs })
    done_one n hs e room = elim (cases_Bool (starts first s)) [
      | inl begins ↦
          (let (buffer, at, m, g) = MatchBool-at_true _ _ begins e in
          subst (λ (ns : List ℕ). AreDone contents layers size first (k + 1) ns v0 (record v { snaps = set v.snaps k t; copies = n; flights = hs })) (sym (none_more (starts_fine (own_of first s) s begins)))
          (subst (λ (x : ℕ). AreDone contents layers size first (k + 1) which v0 (record v { snaps = set v.snaps k t; copies = x; flights = hs })) (sym m)
          (subst (λ (x : List Flight). AreDone contents layers size first (k + 1) which v0 (record v { snaps = set v.snaps k t; copies = v.copies + 1; flights = x })) (sym g) (done_started buffer begins at (room begins)))))
      | inr unsaid ↦ elim (cases_Bool (overflows first s)) [
        | inl over ↦
            (let (same, m, g) = MatchBool-at_true _ _ over (MatchBool-at_false _ _ unsaid e) in
            subst (λ (ns : List ℕ). AreDone contents layers size first (k + 1) ns v0 (record v { snaps = set v.snaps k t; copies = n; flights = hs })) (sym (one_more over))
            (subst (λ (x : Kept B). AreDone contents layers size first (k + 1) (which ++ s.number ∷ []) v0 (record v { snaps = set v.snaps k x; copies = n; flights = hs })) (sym same)
            (subst (λ (x : ℕ). AreDone contents layers size first (k + 1) (which ++ s.number ∷ []) v0 (record v { snaps = set v.snaps k (spoilt_of s); copies = x; flights = hs })) (sym m)
            (subst (λ (x : List Flight). AreDone contents layers size first (k + 1) (which ++ s.number ∷ []) v0 (record v { snaps = set v.snaps k (spoilt_of s); copies = v.copies; flights = x })) (sym g) (done_spoilt over)))))
        | inr fine ↦
            (let (same, m, g) = MatchBool-at_false _ _ fine (MatchBool-at_false _ _ unsaid e) in
            let unset : set v.snaps k t ≡ v.snaps = ap (set v.snaps k) (same ∙ is) ∙ set-get_or v.snaps k s in
            subst (λ (ns : List ℕ). AreDone contents layers size first (k + 1) ns v0 (record v { snaps = set v.snaps k t; copies = n; flights = hs })) (sym (none_more fine))
            (subst (λ (x : List (Kept B)). AreDone contents layers size first (k + 1) which v0 (record v { snaps = x; copies = n; flights = hs })) (sym unset)
            (subst (λ (x : ℕ). AreDone contents layers size first (k + 1) which v0 (record v { snaps = v.snaps; copies = x; flights = hs })) (sym m)
            (subst (λ (x : List Flight). AreDone contents layers size first (k + 1) which v0 (record v { snaps = v.snaps; copies = v.copies; flights = x })) (sym g) (done_kept (neither (lacks first s) (is_full_of s) unsaid fine))))))
      ]
    ]

  -- at most one copy more
  count_after : (s t : Kept B) (n m : ℕ) (fs gs : List Flight) → IsSavedIn contents layers (own_of first s) s t n m fs gs → count_in t ≤ count_in s + (if starts first s then 1 else 0)
  count_after s t n m fs gs e = elim (cases_Bool (starts first s)) [
    | inl begins ↦
        (let (buffer, at, m_is, g) = MatchBool-at_true _ _ begins e in
        let p = started (n + 1) (first / s.state.chunk) s.next buffer in
        let more : count_in t ≤ count_in s + 1 = count_more s t p.number (numbers_pushed s t p (ap (λ (x : Kept B). x.marks) at.fields) (ap (λ (x : Kept B). x.copies) at.fields)) (ap (λ (x : Kept B). x.merging) at.fields) in
        rw begins (omega (arith, more)))
    | inr unsaid ↦ rw unsaid (elim (cases_Bool (overflows first s)) [
      | inl over ↦ (let (same, m_is, g) = MatchBool-at_true _ _ over (MatchBool-at_false _ _ unsaid e) in omega (arith, ap count_in same))
      | inr fine ↦ (let (same, m_is, g) = MatchBool-at_false _ _ fine (MatchBool-at_false _ _ unsaid e) in omega (arith, ap count_in same))
    ])
  ]

  set_after : (pre : List (Kept B)) (s t : Kept B) (ss : List (Kept B)) → set (pre ++ s ∷ ss) (length pre) t ≡ (pre ++ t ∷ []) ++ ss
  set_after [] s t ss = refl
  set_after (x ∷ pre) s t ss = ap (λ xs. x ∷ xs) (set_after pre s t ss)

  overflowing_cons : (s : Kept B) (ss : List (Kept B)) (which : List ℕ) → (which ++ overflowing (own_of first) (s ∷ [])) ++ overflowing (own_of first) ss ≡ which ++ overflowing (own_of first) (s ∷ ss)
  overflowing_cons s ss which = append_assoc which (overflowing (own_of first) (s ∷ [])) (overflowing (own_of first) ss) ∙ ap (λ ns. which ++ ns) (elim (cases_Bool (overflows first s)) [
    | inl full ↦ ap (λ ns. ns ++ overflowing (own_of first) ss) (overflowing_full (own_of first) s [] full) ∙ sym (overflowing_full (own_of first) s ss full)
    | inr fine ↦ ap (λ ns. ns ++ overflowing (own_of first) ss) (overflowing_fine (own_of first) s [] fine) ∙ sym (overflowing_fine (own_of first) s ss fine)
  ])

  -- all that are left
  pub done_all : (ss ts pre : List (Kept B)) (v : Volumed B) (which : List ℕ) (m : ℕ) (gs : List Flight) → v.snaps ≡ pre ++ ss → AreSavedIn contents layers (own_of first) ss ts v.copies m v.flights gs → sum_by count_in v.snaps + count_by (starts first) ss ≤ 256
      → AreDone contents layers size first (length pre) which v0 v → AreDone contents layers size first (length pre + length ss) (which ++ overflowing (own_of first) ss) v0 (record v { snaps = pre ++ ts; copies = m; flights = gs })
  done_all [] [] pre v which m gs at (m_is, g_is) few h =
      let end : AreDone contents layers size first (length pre + 0) which v0 v = (let none : length pre ≡ length pre + 0 = omega arith in subst (λ (i : ℕ). AreDone contents layers size first i which v0 v) none h) in
      subst (λ (x : List (Kept B)). AreDone contents layers size first (length pre + 0) (which ++ []) v0 (record v { snaps = x; copies = m; flights = gs })) at
      (subst (λ (x : ℕ). AreDone contents layers size first (length pre + 0) (which ++ []) v0 (record v { snaps = v.snaps; copies = x; flights = gs })) (sym m_is)
      (subst (λ (x : List Flight). AreDone contents layers size first (length pre + 0) (which ++ []) v0 (record v { snaps = v.snaps; copies = v.copies; flights = x })) (sym g_is)
      (subst (λ (ns : List ℕ). AreDone contents layers size first (length pre + 0) ns v0 v) (sym (append-nil which)) end)))
  done_all [] (t ∷ ts) pre v which m gs at e few h = absurd e
  done_all (s ∷ ss) [] pre v which m gs at e few h = absurd e
  done_all (s ∷ ss) (t ∷ ts) pre v which m gs at (n, hs, one, rest) few h =
      let within : length pre < length v.snaps = omega (arith, ap length at, length-append pre (s ∷ ss)) in
      let front : length pre ≡ length pre + 0 = omega arith in
      let is : s ≡ get_or v.snaps (length pre) s = sym (ap (λ xs. get_or xs (length pre) s) at ∙ ap (λ i. get_or (pre ++ s ∷ ss) i s) front ∙ get_or-append-add pre (s ∷ ss) 0 s) in
      let room : starts first s ≡ true → sum_by count_in v.snaps < 256 = λ begins. (let here : ◌≡◌ {A = ℕ} (if starts first s then 1 else 0) 1 = rw begins refl in let total = count_cons (starts first) s ss in omega (arith, few, here, total)) in
      let done = done_one v (length pre) s t within is which h n hs one room in
      let now : set v.snaps (length pre) t ≡ (pre ++ t ∷ []) ++ ss = ap (λ xs. set xs (length pre) t) at ∙ set_after pre s t ss in
      let sums = sum_by-set count_in v.snaps (length pre) t s within in
      let was : count_in (get_or v.snaps (length pre) s) ≡ count_in s = ap count_in (sym is) in
      let after = count_after s t v.copies n v.flights hs one in
      let few' : sum_by count_in (set v.snaps (length pre) t) + count_by (starts first) ss ≤ 256 = omega (arith, few, sums, was, after, count_cons (starts first) s ss) in
      let len : length (pre ++ t ∷ []) ≡ length pre + 1 = length-append pre (t ∷ []) in
      let u : Volumed B = record v { snaps = set v.snaps (length pre) t; copies = n; flights = hs } in
      let both : List ℕ = which ++ overflowing (own_of first) (s ∷ []) in
      let more = done_all ss ts (pre ++ t ∷ []) u both m gs now rest few' (subst (λ (i : ℕ). AreDone contents layers size first i both v0 u) (sym len) done) in
      let count : length (pre ++ t ∷ []) + length ss ≡ length pre + length (s ∷ ss) = omega (arith, len) in
      subst (λ (ns : List ℕ). AreDone contents layers size first (length pre + length (s ∷ ss)) ns v0 (record v { snaps = pre ++ t ∷ ts; copies = m; flights = gs })) (overflowing_cons s ss which)
      (subst (λ (x : List (Kept B)). AreDone contents layers size first (length pre + length (s ∷ ss)) (both ++ overflowing (own_of first) ss) v0 (record v { snaps = x; copies = m; flights = gs })) (append_assoc pre (t ∷ []) ts)
      (subst (λ (i : ℕ). AreDone contents layers size first i (both ++ overflowing (own_of first) ss) v0 (record v { snaps = (pre ++ t ∷ []) ++ ts; copies = m; flights = gs })) count more))

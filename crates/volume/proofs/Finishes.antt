-- An origin write is accepted, once the copies of its chunk are started.
use Rattle.std.specs.Prelude.{if◌then◌else◌, ◌&&◌, min, sum_by, count_by}
use Rattle.std.proofs.Common.{◌≡◌, inl, inr, ℕ, ◌+◌, ◌<◌, ◌≤◌, Bool, true, false, List, [], ◌∷◌, ◌++◌, Option, Some, None, length, map, take, drop, refl, sym, ◌∙◌, ap, subst, arith}
use Rattle.std.specs.List.{All, list_all}
use Rattle.std.proofs.lemmas.Bool.{cases_Bool, MatchBool-at_true, MatchBool-at_false}
use Rattle.std.proofs.lemmas.List.{length-map}
use Rattle.std.proofs.lemmas.List.Elements.{All-nil, All-cons, All-head, All-tail}
use Rattle.std.proofs.lemmas.List.{take_at}
use Rattle.device.specs.Layers.{Layer, is_loud}
use Rattle.plain_machine.specs.Plain.{Plain}
use Rattle.plain_machine.specs.Legal.{IsSubmitted}
use Rattle.in_flight.specs.Kinds.{kind_of, room_of, in_flight}
use Rattle.in_flight.specs.Routes.{write_route_of}
use Rattle.in_flight.specs.declared.flights.Flight.{Flight}
use Rattle.in_flight.specs.declared.flights.Kind.{Kind}
use Rattle.in_flight.specs.declared.flights.Kind.TheVariants.{OriginWrite}
use Rattle.volume_laws.specs.Books.{SnapBooks, Books}
use Rattle.volume_laws.specs.Published.{chunk_of, is_clear}
use Rattle.volume_laws.specs.Waits.{IsSaving}
use Rattle.volume_laws.specs.Whole.{plain_of as plain_books}
use Rattle.volume_laws.specs.Accepting.{IsTakenIn}
use Rattle.volume_laws.proofs.Preparing.{prepared_none}
use Rattle.snapshot.specs.Kept.{Kept, books_of as snap_books}
use Rattle.merge.specs.Merging.{Merging}
use Rattle.snapshot_list.specs.Routing.{is_merged_at}
use Rattle.volume.specs.Volumed.{Volumed, books_of, piece_of, piece_with, plain_of, is_loud_in_all, is_loud_with}
use Rattle.snapshot_list.specs.Numbers.{count_in}
use Rattle.volume.specs.Whole.{IsWhole}
use Rattle.snapshot_list.specs.Starting.{unroomed, starts, overflows, overflowing, IsSavedIn, AreSavedIn, own_of}
use Rattle.snapshot_list.proofs.Overflowing.{overflowing_roomed, saved_lives}
use Rattle.snapshot_list.proofs.Roomed.{roomed}
use Rattle.volume.specs.Submitting.{IsAsked, IsAcceptedAs, entered_of, lives_after, spoiled_by}
use Rattle.volume.proofs.Accepts.{kept_flown}
use Rattle.volume.proofs.Unflushed.{unflushed}
use Rattle.volume.proofs.ByKind.{origin_write_enters}
use Rattle.volume.proofs.Enters.{fresh_plain, whole_entered, plain_entered}
use Rattle.volume.proofs.MovedLists.{if_false}
use Rattle.volume.proofs.MergeRoutes.{route_is, unmerged_route}
use Rattle.volume.proofs.Roomed.{roomed_beside, roomed_sum, books_roomed, whole_roomed, starts_roomed}
use Rattle.volume.proofs.SavingAt.{AreSavingAt, saving_none_at, saving_asked}
use Rattle.volume.proofs.Savings.{AreDone, done_all}
use Rattle.volume.proofs.Shown.{shown}
use Rattle.volume.proofs.Keeping.{keeps_saved, overflows_saved}
use Rattle.volume.proofs.MovedAccepts.{origin_write_is}
use Rattle.volume.proofs.MovedSubmits.{IsSized}
use Rattle.volume.proofs.Submitted.{sized_all}

module _ {B : Type 0} (contents : B → List ℕ) (layers : B → List Layer) (first : ℕ) where
  same_chunk : (s t : Kept B) (n m : ℕ) (fs gs : List Flight) → IsSavedIn contents layers (own_of first s) s t n m fs gs → t.state.chunk ≡ s.state.chunk
  same_chunk s t n m fs gs e = elim (cases_Bool (starts first s)) [
    | inl begins ↦ (let (buffer, at, m_is, g) = MatchBool-at_true _ _ begins e in ap (λ (x : Kept B). x.state.chunk) at.fields)
    | inr unsaid ↦ elim (cases_Bool (overflows first s)) [
      | inl over ↦ (let (same, m_is, g) = MatchBool-at_true _ _ over (MatchBool-at_false _ _ unsaid e) in ap (λ (x : Kept B). x.state.chunk) same)
      | inr fine ↦ (let (same, m_is, g) = MatchBool-at_false _ _ fine (MatchBool-at_false _ _ unsaid e) in ap (λ (x : Kept B). x.state.chunk) same)
    ]
  ]

  same_loud : (s t : Kept B) (n m : ℕ) (fs gs : List Flight) → IsSavedIn contents layers (own_of first s) s t n m fs gs → is_loud (layers t.device) ≡ is_loud (layers s.device)
  same_loud s t n m fs gs e = elim (cases_Bool (starts first s)) [
    | inl begins ↦ (let (buffer, at, m_is, g) = MatchBool-at_true _ _ begins e in ap (λ (x : Kept B). is_loud (layers x.device)) at.fields)
    | inr unsaid ↦ elim (cases_Bool (overflows first s)) [
      | inl over ↦ (let (same, m_is, g) = MatchBool-at_true _ _ over (MatchBool-at_false _ _ unsaid e) in ap (λ (x : Kept B). is_loud (layers x.device)) same)
      | inr fine ↦ (let (same, m_is, g) = MatchBool-at_false _ _ fine (MatchBool-at_false _ _ unsaid e) in ap (λ (x : Kept B). is_loud (layers x.device)) same)
    ]
  ]

  -- the devices are as loud as they were
  pub saved_loud : (ss ts : List (Kept B)) (n m : ℕ) (fs gs : List Flight) → AreSavedIn contents layers (own_of first) ss ts n m fs gs → list_all (λ s. is_loud (layers s.device)) ts ≡ list_all (λ s. is_loud (layers s.device)) ss
  saved_loud [] [] n m fs gs e = refl
  saved_loud [] (t ∷ ts) n m fs gs e = absurd e
  saved_loud (s ∷ ss) [] n m fs gs e = absurd e
  saved_loud (s ∷ ss) (t ∷ ts) n m fs gs (k, hs, one, rest) = ap (λ b. b && list_all (λ x. is_loud (layers x.device)) ts) (same_loud s t n k fs hs one)
      ∙ ap (λ b. is_loud (layers s.device) && b) (saved_loud ss ts k m hs gs rest)

  pub saved_piece : (ss ts : List (Kept B)) (n m : ℕ) (fs gs : List Flight) → AreSavedIn contents layers (own_of first) ss ts n m fs gs → piece_of ts ≡ piece_of ss
  saved_piece [] [] n m fs gs e = refl
  saved_piece [] (t ∷ ts) n m fs gs e = absurd e
  saved_piece (s ∷ ss) [] n m fs gs e = absurd e
  saved_piece (s ∷ ss) (t ∷ ts) n m fs gs (k, hs, one, rest) = ap (λ c. min c (piece_of ts)) (same_chunk s t n k fs hs one) ∙ ap (min s.state.chunk) (saved_piece ss ts k m hs gs rest)

  pub saved_beside : (merge : Option (Merging B)) (ss ts : List (Kept B)) (n m : ℕ) (fs gs : List Flight) → AreSavedIn contents layers (own_of first) ss ts n m fs gs → piece_with merge ts ≡ piece_with merge ss
  saved_beside None ss ts n m fs gs e = saved_piece ss ts n m fs gs e
  saved_beside (Some x) ss ts n m fs gs e = ap (min x.state.chunk) (saved_piece ss ts n m fs gs e)

  pub saved_length : (ss ts : List (Kept B)) (n m : ℕ) (fs gs : List Flight) → AreSavedIn contents layers (own_of first) ss ts n m fs gs → length ts ≡ length ss
  saved_length [] [] n m fs gs e = refl
  saved_length [] (t ∷ ts) n m fs gs e = absurd e
  saved_length (s ∷ ss) [] n m fs gs e = absurd e
  saved_length (s ∷ ss) (t ∷ ts) n m fs gs (k, hs, one, rest) = omega (arith, saved_length ss ts k m hs gs rest)

-- the same plain machine, and the same loudness, whatever room there is
unseen_all : {B : Type 0} (p : Kept B → Bool) (xs : List (Kept B)) → ((s : Kept B) → p (unroomed s) ≡ p s) → list_all p (map unroomed xs) ≡ list_all p xs
unseen_all p [] same = refl
unseen_all p (x ∷ xs) same = ap (λ b. b && list_all p (map unroomed xs)) (same x) ∙ ap (λ b. p x && b) (unseen_all p xs same)

module _ {B : Type 0} (contents : B → List ℕ) (layers : B → List Layer) (size : B → ℕ) (v : Volumed B) (snaps : List (Kept B)) (e : map unroomed snaps ≡ map unroomed v.snaps) where
  pub plain_roomed : plain_of contents layers (record v { snaps = snaps }) ≡ plain_of contents layers v
  plain_roomed = shown contents layers size (record v { snaps = snaps })
      ∙ ap (λ (xs : List SnapBooks). let b : Books = record (books_of contents layers size v) { snaps = xs } in plain_books b) (books_roomed contents layers size v snaps e)
      ∙ sym (shown contents layers size v)

  pub loud_roomed : is_loud_in_all layers (record v { snaps = snaps }) ≡ is_loud_in_all layers v
  loud_roomed = ap (λ b. is_loud_with layers v.merge (is_loud (layers v.origin) && b))
      (sym (unseen_all (λ s. is_loud (layers s.device)) snaps (λ s. refl)) ∙ ap (list_all (λ s. is_loud (layers s.device))) e ∙ unseen_all (λ s. is_loud (layers s.device)) v.snaps (λ s. refl))

module _ {B : Type 0} (contents : B → List ℕ) (layers : B → List Layer) (size : B → ℕ) (v : Volumed B) (h : IsWhole contents layers size v) (before after : List (Kept B)) (e : map unroomed before ≡ map unroomed v.snaps) (m : ℕ) (gs : List Flight) (f : Flight)
    (at : AreSavedIn contents layers (own_of f.request.range.first) before after v.copies m v.flights gs) (few : sum_by count_in v.snaps + count_by (starts f.request.range.first) v.snaps ≤ 256)
    (number : f.number ≡ v.requests + 1) (asked : IsAsked (size v.origin) (piece_with v.merge v.snaps) f.request) (room : length f.room.items ≡ room_of f.request) (kind : kind_of f.request ≡ OriginWrite)
    (route : f.route ≡ write_route_of false None (is_clear (map (snap_books contents layers) after) f.request.range.first)) (space : length v.flights < 64) (unmerged : is_merged_at f.request.range.first v.merge ≡ false) where
  abbrev pub roomy : Volumed B
  roomy = record v { snaps = before }

  abbrev saved : Volumed B
  saved = record v { snaps = after; copies = m; flights = gs }

  abbrev pub written : Volumed B
  written = entered_of f (record v { snaps = after; copies = m; flights = gs })

  roomy_whole : IsWhole contents layers size roomy
  roomy_whole = whole_roomed contents layers size v before e h

  abbrev pub which : List ℕ
  which = overflowing (own_of f.request.range.first) before

  done : AreDone contents layers size f.request.range.first (length {A = Kept B} [] + length before) which roomy saved
  done =
      let first = f.request.range.first in
      let sums = roomed_sum count_in before v.snaps e (λ s. refl) in
      let counts = starts_roomed contents layers size v before e first in
      let start : AreDone contents layers size first (length {A = Kept B} []) [] roomy roomy = record {
        whole = roomy_whole;
        prepared = prepared_none (books_of contents layers size roomy) roomy_whole.holds roomy_whole.waits;
        saving = saving_none_at first (books_of contents layers size roomy).snaps;
      } in
      done_all contents layers size first roomy before after [] roomy [] m gs refl at (omega (arith, few, sums, counts)) start

  piece_same : piece_with v.merge after ≡ piece_with v.merge v.snaps
  piece_same = saved_beside contents layers f.request.range.first v.merge before after v.copies m v.flights gs at ∙ roomed_beside v.merge before v.snaps e

  saving_all : All (λ s. s.live ≡ true → IsSaving (chunk_of s.chunk f) s) (map (snap_books contents layers) after)
  saving_all =
      let len = saved_length contents layers f.request.range.first before after v.copies m v.flights gs at in
      let all : length {A = Kept B} [] + length before ≡ length (map (snap_books contents layers) after) = (let none : ◌≡◌ {A = ℕ} (length {A = Kept B} []) 0 = refl in omega (arith, len, none, length-map after (snap_books contents layers))) in
      saving_asked f (map (snap_books contents layers) after) (subst (λ (i : ℕ). AreSavingAt f.request.range.first i (map (snap_books contents layers) after)) all done.saving)

  pub taken : IsTakenIn which f.number f.request (books_of contents layers size roomy) (books_of contents layers size written)
  taken = origin_write_enters contents layers size roomy saved which done.prepared done.whole f number (subst (λ (n : ℕ). IsAsked (size v.origin) n f.request) (sym piece_same) asked) room kind
      (route ∙ sym (unmerged_route f.request.range.first v.merge unmerged (is_clear (map (snap_books contents layers) after) f.request.range.first))
      ∙ sym (route_is contents layers (is_loud (layers v.origin)) v.merge (is_clear (map (snap_books contents layers) after)) f))
      (λ _ _. saving_all)

  pub written_whole : IsWhole contents layers size written
  written_whole =
      let len : length gs ≡ length v.flights = sym (length-map gs in_flight) ∙ ap length done.prepared.requests ∙ length-map v.flights in_flight in
      whole_entered contents layers size saved f done.whole number which roomy (omega (arith, space, len)) taken

  sized : All (IsSized contents) before
  sized = sized_all contents layers size roomy roomy_whole

  pub written_accepted : IsAcceptedAs contents layers f.request f.number v written
  written_accepted = record {
    next = number;
    origin = refl;
    given = sym number;
    fresh = fresh_plain contents layers size v f h number;
    loud = ap (λ b. is_loud_with layers v.merge (is_loud (layers v.origin) && b)) (saved_loud contents layers f.request.range.first before after v.copies m v.flights gs at) ∙ loud_roomed contents layers size v before e;
    legal = λ loud.
        (let first = f.request.range.first in
        subst (λ (ns : List ℕ). IsSubmitted ns (plain_of contents layers v) f.number f.request (plain_of contents layers written))
        (overflowing_roomed (own_of first) before v.snaps (λ s. refl) e ∙ sym (ap (λ (q : Kind). spoiled_by q first v.merge v.snaps) kind ∙ if_false (is_merged_at first v.merge) [] (overflowing (own_of first) v.snaps) unmerged))
        (subst (λ (p : Plain). IsSubmitted which p f.number f.request (plain_of contents layers written)) (plain_roomed contents layers size v before e)
        (plain_entered contents layers size roomy written which f.number f.request taken (loud_roomed contents layers size v before e ∙ loud))));
    lives =
        (let first = f.request.range.first in
        saved_lives contents layers (own_of first) before after v.copies m v.flights gs at
        ∙ roomed (λ (s : Kept B). if overflows first s then false else s.live) before v.snaps e (λ s. refl)
        ∙ sym (ap (λ (q : Kind). lives_after q first v.merge v.snaps) kind ∙ if_false (is_merged_at first v.merge) (map (λ (s : Kept B). s.live) v.snaps) (map (λ (s : Kept B). if overflows first s then false else s.live) v.snaps) unmerged));
    flown = kept_flown v.flights gs f (unflushed f.request OriginWrite kind tt) done.prepared.requests;
    exact = λ replied. origin_write_is contents layers replied f.number f.request f refl refl v written m before after gs kind unmerged e sized at route refl;
    overflows = overflows_saved contents layers f.request.range.first v.copies m v.snaps before after v.flights gs e at;
    kept = keeps_saved contents layers v written f.request.range.first v.copies m before v.flights gs refl refl refl e at;
  }

-- a list that was written back through a slice
pub back : {X : Type 0} (n : ℕ) (x y : List X) → length x ≡ n → take n (x ++ drop (length x) y) ≡ x
back n x y len = take_at x (drop (length x) y) n len

module _ {B : Type 0} (contents : B → List ℕ) (layers : B → List Layer) (size : B → ℕ) (v : Volumed B) (h : IsWhole contents layers size v) (before : List (Kept B)) (e : map unroomed before ≡ map unroomed v.snaps) where
  -- a request's first sector lies inside of the origin
  pub begins_all : (first count : ℕ) → 0 < count → first + count ≤ size v.origin → All (λ s. first < s.state.origin) before
  begins_all first count some inside k d lt =
      let a = (whole_roomed contents layers size v before e h).snaps k d lt in
      omega (arith, a.origin, some, inside)

  pub some_all : (first : ℕ) (after : List (Kept B)) (n m : ℕ) (fs gs : List Flight) → AreSavedIn contents layers (own_of first) before after n m fs gs → All (λ s. 0 < s.state.chunk) after
  some_all first after n m fs gs at = saved_some first before after n m fs gs at (λ k d lt. ((whole_roomed contents layers size v before e h).snaps k d lt).some)
    where
      saved_some : (first : ℕ) (ss ts : List (Kept B)) (n m : ℕ) (fs gs : List Flight) → AreSavedIn contents layers (own_of first) ss ts n m fs gs → All (λ s. 0 < s.state.chunk) ss → All (λ s. 0 < s.state.chunk) ts
      saved_some first [] [] n m fs gs at all = All-nil (λ s. 0 < s.state.chunk)
      saved_some first [] (t ∷ ts) n m fs gs at all = absurd at
      saved_some first (s ∷ ss) [] n m fs gs at all = absurd at
      saved_some first (s ∷ ss) (t ∷ ts) n m fs gs (k, hs, one, rest) all =
          All-cons (λ x. 0 < x.state.chunk) t ts (subst (λ (i : ℕ). 0 < i) (sym (same_chunk contents layers first s t n k fs hs one)) (All-head (λ x. 0 < x.state.chunk) s ss all))
          (saved_some first ss ts k m hs gs rest (All-tail (λ x. 0 < x.state.chunk) s ss all))

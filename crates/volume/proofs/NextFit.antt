-- A merge starts the copies of its next chunk in one snapshot of a volume after another: what is left of the volume in between.
use Rattle.std.proofs.Common.{◌≡◌, ◌≢◌, inl, inr, ℕ, ◌+◌, ◌*◌, ◌<◌, ◌≤◌, true, false, List, [], ◌∷◌, ◌++◌, length, get_or, set, map, refl, sym, ◌∙◌, ap, subst, arith, length-append}
use Rattle.std.specs.Prelude.{◌-◌, not}
use Rattle.std.specs.List.{All}
use Rattle.std.specs.Global.{Vec}
use Rattle.std.proofs.lemmas.Bool.{cases_Bool, MatchBool-at_true, MatchBool-at_false}
use Rattle.std.proofs.lemmas.List.{map-set, length-map, length-set, get_or-map, set-get_or, append_assoc, get_or-append-add, append-nil}
use Rattle.std.proofs.lemmas.List.Elements.{All-set, All-weaker, All-push, All-nil}
use Rattle.std.proofs.lemmas.List.Quantifiers.{all_pairs_push}
use Rattle.std.proofs.lemmas.List.Sums.{sum_by-set}
use Rattle.std.proofs.Math.Seq.{map-set_same}
use Rattle.sector.specs.declared.pair.Pair.{Pair}
use Rattle.chunk.specs.Sizes.{is_chunk}
use Rattle.device.specs.Layers.{Layer, is_loud}
use Rattle.in_flight.specs.Copies.{count_of}
use Rattle.in_flight.specs.Routes.{refused_of}
use Rattle.in_flight.specs.declared.copies.ChunkCopy.{ChunkCopy}
use Rattle.in_flight.specs.declared.flights.Flight.{Flight}
use Rattle.volume_laws.specs.Books.{SnapBooks}
use Rattle.volume_laws.specs.Held.{SnapHolds}
use Rattle.volume_laws.specs.MergeRooms.{RoomSnap, room_books, CanMerge, StartsMerging as StartsRoom}
use Rattle.volume_laws.specs.Published.{next_over}
use Rattle.volume_laws.specs.Steps.{SpoilsSnap}
use Rattle.volume_laws.proofs.MergeRoomStarts.{HaveRoom, has_room, room_after, room_without}
use Rattle.volume_laws.proofs.MergeStarts.{AreStarting, start_next_same, starting_start, starting_spoil, starting_here}
use Rattle.snapshot.specs.Kept.{Kept, books_of as snap_books}
use Rattle.snapshot.specs.Calls.{StartsMerging, started}
use Rattle.snapshot_list.specs.Numbers.{number_of_snap, numbers_in, count_in, merged_count}
use Rattle.snapshot_list.specs.Starting.{lacks_chunk, is_full_of, starts_chunk, overflows_chunk, spoilt_of}
use Rattle.snapshot_list.specs.Rooms.{room_of}
use Rattle.snapshot_list.specs.MergeStarting.{IsNextSavedIn, AreNextSavedIn, next_for}
use Rattle.volume.specs.Volumed.{Volumed, books_of}
use Rattle.volume.specs.Whole.{AreNumbers, SharesNone, IsAttached, IsCounted, starts_left}
use Rattle.volume.proofs.Changing.{SnapsFit, changed, changes, spoils_one, same_disk, books_is}
use Rattle.volume.proofs.Begins.{all_pairs_set_in, given_more, numbers_pushed}
use Rattle.volume.proofs.MergeOperations.{rooms_seen}
use Rattle.volume.proofs.Savings.{neither, not_lacking}
use Rattle.volume.proofs.StartsLeft.{left_started, left_spoilt}
use Rattle.volume.proofs.MovedCounts.{counted_begun, counted_spoilt}
use Rattle.volume.proofs.NextSaved.{losing, losing_full, losing_fine, roomed, and_first, not_both, lacking_live, lacking_books, as_started}

-- What a snapshot becomes that fits as well: maybe with a number more, and no more copies that count.
pub record FitsOn {B : Type 0} (n n' : ℕ) (s s' : Kept B) : Type 0 where
  pub more : n ≤ n'
  pub number : s'.number ≡ s.number
  pub chunk_is : s'.state.chunk ≡ s.state.chunk
  pub origin : s'.state.origin ≡ s.state.origin
  pub numbers : AreNumbers n (numbers_in s) → AreNumbers n' (numbers_in s')
  pub left : (t : Kept B) → AreNumbers n (numbers_in t) → SharesNone s t → SharesNone s' t
  pub right : (t : Kept B) → AreNumbers n (numbers_in t) → SharesNone t s → SharesNone t s'
  pub few : count_in s' ≤ count_in s
  pub counted : IsCounted s → IsCounted s'
  pub starts : n' + starts_left s' ≤ n + starts_left s

module _ {B : Type 0} (n n' attached sectors : ℕ) (ss : List (Kept B)) (k : ℕ) (s s' : Kept B) (within : k < length ss) (is : s ≡ get_or ss k s) (on : FitsOn n n' s s') where
  pub fit_set : SnapsFit n attached sectors ss → SnapsFit n' attached sectors (set ss k s')
  fit_set h =
      let old : IsAttached n sectors s = subst (IsAttached n sectors) (sym is) (h.snaps k s within) in
      let mine : IsAttached n' sectors s' = record {
        origin = on.origin ∙ old.origin;
        allowed = ap is_chunk on.chunk_is ∙ old.allowed;
        some = subst (λ x. 0 < x) (sym on.chunk_is) old.some;
        numbers = on.numbers old.numbers;
      } in
      let all : All (IsAttached n' sectors) ss =
      All-weaker (IsAttached n sectors) (IsAttached n' sectors) (λ x. given_more n n' sectors x on.more) ss h.snaps in
      let sums = sum_by-set count_in ss k s' s within in
      let at : count_in (get_or ss k s) ≡ count_in s = ap count_in (sym is) in
      let lefts = sum_by-set starts_left ss k s' s within in
      let left : starts_left (get_or ss k s) ≡ starts_left s = ap starts_left (sym is) in
      record {
        snaps = All-set (IsAttached n' sectors) ss k s' mine all;
        counted = All-set IsCounted ss k s' (on.counted (subst IsCounted (sym is) (h.counted k s within))) h.counted;
        apart = all_pairs_set_in (IsAttached n sectors) SharesNone ss k s s' within is h.snaps (λ t known. on.left t known.numbers) (λ t known. on.right t known.numbers) h.apart;
        numbers = subst (AreNumbers attached) (sym (map-set_same number_of_snap ss k s' s (on.number ∙ ap number_of_snap is))) h.numbers;
        few = omega (arith, h.few, length-set ss k s');
        few_copies = omega (arith, sums, at, on.few, h.few_copies);
        numbers_left = omega (arith, lefts, left, on.starts, h.numbers_left);
      }

-- one that starts a copy under the next number
pub fits_started : {B : Type 0} (n : ℕ) (s s' : Kept B) → s'.number ≡ s.number → s'.state.chunk ≡ s.state.chunk → s'.state.origin ≡ s.state.origin → numbers_in s' ≡ numbers_in s ++ (n + 1) ∷ [] → count_in s' ≤ count_in s → (IsCounted s → IsCounted s') → starts_left s' + 1 ≤ starts_left s
    → FitsOn n (n + 1) s s'
fits_started n s s' number chunk origin numbers few counts fewer = record {
  more = omega arith;
  number = number;
  chunk_is = chunk;
  origin = origin;
  numbers = λ old.
      (let below : All (λ x. x ≤ n + 1) (numbers_in s) = All-weaker (λ x. x ≤ n) (λ x. x ≤ n + 1) (λ x le. omega (arith, le)) (numbers_in s) old.given in
      let under : All (λ x. x < n + 1) (numbers_in s) = All-weaker (λ x. x ≤ n) (λ x. x < n + 1) (λ x le. omega (arith, le)) (numbers_in s) old.given in
      subst (AreNumbers (n + 1)) (sym numbers) (record {
        given = All-push (λ x. x ≤ n + 1) (numbers_in s) (n + 1) below (omega arith);
        ascending = all_pairs_push (λ i j. i < j) (numbers_in s) (n + 1) old.ascending under;
      }));
  left = λ t known none. subst (All (λ i. All (λ j. i ≢ j) (numbers_in t))) (sym numbers)
      (All-push (λ i. All (λ j. i ≢ j) (numbers_in t)) (numbers_in s) (n + 1) none
      (All-weaker (λ x. x ≤ n) (λ j. n + 1 ≢ j) (λ x le e. absurd (omega (arith, le, e))) (numbers_in t) known.given));
  right = λ t known none i d lt. subst (All (λ j. get_or (numbers_in t) i d ≢ j)) (sym numbers)
      (All-push (λ j. get_or (numbers_in t) i d ≢ j) (numbers_in s) (n + 1) (none i d lt)
      (let le = known.given i d lt in λ e. absurd (omega (arith, le, e))));
  few = few;
  counted = counts;
  starts = omega (arith, fewer);
}

-- one that is spoiled
pub fits_spoilt : {B : Type 0} (n : ℕ) (s : Kept B) → FitsOn n n s (spoilt_of s)
fits_spoilt n s = record {
  more = omega arith;
  number = refl;
  chunk_is = refl;
  origin = refl;
  numbers = λ old. record { given = All-nil (λ x. x ≤ n); ascending = λ i j d lt inside. absurd (omega (arith, inside)) };
  left = λ t known none. All-nil (λ i. All (λ j. i ≢ j) (numbers_in t));
  right = λ t known none i d lt. All-nil (λ j. get_or (numbers_in t) i d ≢ j);
  few = omega arith;
  counted = λ counts. counted_spoilt s counts;
  starts = (let less = left_spoilt s (spoilt_of s) refl in omega (arith, less));
}

-- the copies that pair q waits for next are started in the first snapshots of a volume that was v0
module _ {B : Type 0} (contents : B → List ℕ) (layers : B → List Layer) (size : B → ℕ) (chunk sectors : ℕ) (pairs : List Pair) (q : Pair) (v0 : Volumed B) where
  -- the chunk that is wanted of a snapshot
  abbrev at : Kept B → ℕ
  at = next_for chunk sectors q

  abbrev want : SnapBooks → ℕ
  want = next_over (chunk * q.old) (count_of chunk sectors q.old)

  pub record AreNext (i : ℕ) (which : List ℕ) (v : Volumed B) : Type 0 where
    pub fit : SnapsFit v.copies v.attached (size v.origin) v.snaps
    pub starting : AreStarting (next_over (chunk * q.old) (count_of chunk sectors q.old)) i which (books_of contents layers size v0) (books_of contents layers size v)
    pub room : HaveRoom chunk sectors pairs q (map (room_of contents layers) v.snaps)

  module _ (v : Volumed B) (k : ℕ) (s t : Kept B) (within : k < length v.snaps) (is : s ≡ get_or v.snaps k s) (which : List ℕ) (h : AreNext k which v) where
    abbrev rooms : List RoomSnap
    rooms = map (room_of contents layers) v.snaps

    in_rooms : k < length rooms
    in_rooms = omega (arith, within, length-map v.snaps (room_of contents layers))

    room_is : room_of contents layers s ≡ get_or rooms k (room_of contents layers s)
    room_is = ap (room_of contents layers) is ∙ sym (get_or-map (room_of contents layers) v.snaps k s (room_of contents layers s) within)

    all_hold : All (SnapHolds (is_loud (layers v.origin)) (contents v.origin) v.flights) (map room_books rooms)
    all_hold = subst (All (SnapHolds (is_loud (layers v.origin)) (contents v.origin) v.flights)) (sym (rooms_seen contents layers v.snaps)) h.starting.prepared.holds.snaps

    -- it can start its copy without memory
    pub can_start : lacks_chunk (at s) s ≡ true → CanMerge (room_of contents layers s)
    can_start e = has_room chunk sectors pairs q rooms h.room k (room_of contents layers s) in_rooms room_is (contents v.origin) v.flights all_hold (lacking_live (at s) s e) (lacking_books contents layers (at s) s e)

    next_started : (buffer : Vec ℕ) → starts_chunk (at s) s ≡ true → StartsMerging contents layers (started (v.copies + 1) (at s) s.next buffer) s t → AreNext (k + 1) which (record v { snaps = set v.snaps k t; copies = v.copies + 1 })
    next_started buffer begins begun =
        let p : ChunkCopy = started (v.copies + 1) (at s) s.next buffer in
        let lacking : lacks_chunk (at s) s ≡ true = and_first (lacks_chunk (at s) s) (not (is_full_of s)) begins in
        let live = lacking_live (at s) s lacking in
        let can = can_start lacking in
        let like = as_started contents layers p s t begun in
        let w : Volumed B = record v { snaps = set v.snaps k t; copies = v.copies + 1 } in
        let change = changes contents layers size v v.origin k s t within is (same_disk contents layers size v.origin) in
        let numbers = numbers_pushed s t p (ap (λ (x : Kept B). x.marks) begun.fields) (ap (λ (x : Kept B). x.copies) begun.fields) in
        let long : length (numbers_in t) ≡ length (numbers_in s) + 1 = ap length numbers ∙ length-append (numbers_in s) ((v.copies + 1) ∷ []) in
        let mine : count_in t ≡ length (numbers_in t) - 1 = ap (λ m. length (numbers_in t) - merged_count m) (ap (λ (x : Kept B). x.merging) begun.fields) in
        let none : merged_count s.merging ≡ 0 = ap merged_count can.idle in
        let was : count_in s ≡ length (numbers_in s) = omega (arith, none) in
        let one : StartsRoom p (room_of contents layers s) (room_of contents layers t) = record {
          start = begun.event;
          kept_back = (let kept : t.kept_back ≡ s.kept_back - 1 = ap (λ (x : Kept B). x.kept_back) begun.fields in omega (arith, kept, can.some));
          spare = ap (λ (x : Kept B). x.spare) begun.fields;
          merging = ap (λ (x : Kept B). x.merging) begun.fields;
        } in
        record {
          fit = fit_set v.copies (v.copies + 1) v.attached (size v.origin) v.snaps k s t within is
              (fits_started v.copies s t (ap (λ (x : Kept B). x.number) begun.fields) (ap (λ (x : Kept B). x.state.chunk) begun.fields) (ap (λ (x : Kept B). x.state.origin) begun.fields) numbers (omega (arith, long, mine, was))
              (λ counts. (let c = counted_begun contents layers s (roomed s t) p live like counts in record { some = c.some; count = c.count; fits = c.fits; idle = c.idle }))
              (left_started contents layers (at s) s (roomed s t) p (subst IsCounted (sym is) (h.fit.counted k s within)).some begins live like))
              h.fit;
          starting = starting_start want k which p (snap_books contents layers s) (snap_books contents layers t) (books_of contents layers size v0) (books_of contents layers size v) (books_of contents layers size w) h.starting change begun.event live refl (start_next_same (chunk * q.old) (count_of chunk sectors q.old) p (snap_books contents layers s) (snap_books contents layers t) begun.event live);
          room = subst (HaveRoom chunk sectors pairs q) (sym (map-set (room_of contents layers) v.snaps k t))
              (room_after chunk sectors pairs q rooms h.room k (room_of contents layers s) in_rooms room_is (contents v.origin) v.flights all_hold live (lacking_books contents layers (at s) s lacking) p (room_of contents layers t) one refl);
        }

    next_spoilt : overflows_chunk (at s) s ≡ true → AreNext (k + 1) (which ++ s.number ∷ []) (changed v v.origin k (spoilt_of s) (map (refused_of (s.number ∷ [])) v.flights))
    next_spoilt over =
        let x : Kept B = spoilt_of s in
        let spoils : SpoilsSnap (snap_books contents layers s) (snap_books contents layers x) = record { number = refl; was = lacking_live (at s) s (and_first (lacks_chunk (at s) s) (is_full_of s) over); live = refl; overflow = refl; chunk = refl; pairs = refl; sure = refl; copies = refl; marks = refl } in
        let w : Volumed B = changed v v.origin k x (map (refused_of (s.number ∷ [])) v.flights) in
        let spoil = spoils_one contents layers size v v.origin k s x within is (same_disk contents layers size v.origin) spoils in
        record {
          fit = fit_set v.copies v.copies v.attached (size v.origin) v.snaps k s x within is (fits_spoilt v.copies s) h.fit;
          starting = starting_spoil want k which (snap_books contents layers s) (snap_books contents layers x) (books_of contents layers size v0) (books_of contents layers size v) (books_of contents layers size w) h.starting spoil refl refl;
          room = subst (HaveRoom chunk sectors pairs q) (sym (map-set (room_of contents layers) v.snaps k x)) (room_without chunk sectors pairs q rooms h.room k (room_of contents layers s) in_rooms room_is (room_of contents layers x) spoils);
        }

    next_kept : lacks_chunk (at s) s ≡ false → AreNext (k + 1) which v
    next_kept has = record {
      fit = h.fit;
      starting = starting_here want k which (snap_books contents layers s) (books_of contents layers size v0) (books_of contents layers size v) h.starting (omega (arith, within, length-map v.snaps (snap_books contents layers)))
          (books_is contents layers size v v.origin k s s within is) (λ live. not_lacking (at s) s has live);
      room = h.room;
    }

    -- which are spoiled, with this one
    none_more : overflows_chunk (at s) s ≡ false → which ++ losing at (s ∷ []) ≡ which
    none_more fine = ap (λ ns. which ++ ns) (losing_fine at s [] fine) ∙ append-nil which

    one_more : overflows_chunk (at s) s ≡ true → which ++ losing at (s ∷ []) ≡ which ++ s.number ∷ []
    one_more full = ap (λ ns. which ++ ns) (losing_full at s [] full)

    next_one : (n : ℕ) (hs : List Flight) → IsNextSavedIn contents layers (at s) s t v.copies n v.flights hs
        → AreNext (k + 1) (which ++ losing at (s ∷ [])) (record v { snaps = set v.snaps k t; copies = n; flights = hs })
    next_one n hs e =
        elim (cases_Bool (starts_chunk (at s) s)) [
          | inl begins ↦
              (let (buffer, begun, m, g) = MatchBool-at_true _ _ begins e in
              subst (λ (ns : List ℕ). AreNext (k + 1) ns (record v { snaps = set v.snaps k t; copies = n; flights = hs })) (sym (none_more (not_both (lacks_chunk (at s) s) (is_full_of s) begins)))
              (subst (λ (x : ℕ). AreNext (k + 1) which (record v { snaps = set v.snaps k t; copies = x; flights = hs })) (sym m)
              (subst (λ (x : List Flight). AreNext (k + 1) which (record v { snaps = set v.snaps k t; copies = v.copies + 1; flights = x })) (sym g) (next_started buffer begins begun))))
          | inr unsaid ↦ elim (cases_Bool (overflows_chunk (at s) s)) [
            | inl over ↦
                (let (same, m, g) = MatchBool-at_true _ _ over (MatchBool-at_false _ _ unsaid e) in
                subst (λ (ns : List ℕ). AreNext (k + 1) ns (record v { snaps = set v.snaps k t; copies = n; flights = hs })) (sym (one_more over))
                (subst (λ (x : Kept B). AreNext (k + 1) (which ++ s.number ∷ []) (record v { snaps = set v.snaps k x; copies = n; flights = hs })) (sym same)
                (subst (λ (x : ℕ). AreNext (k + 1) (which ++ s.number ∷ []) (record v { snaps = set v.snaps k (spoilt_of s); copies = x; flights = hs })) (sym m)
                (subst (λ (x : List Flight). AreNext (k + 1) (which ++ s.number ∷ []) (record v { snaps = set v.snaps k (spoilt_of s); copies = v.copies; flights = x })) (sym g) (next_spoilt over)))))
            | inr fine ↦
                (let (same, m, g) = MatchBool-at_false _ _ fine (MatchBool-at_false _ _ unsaid e) in
                let unset : set v.snaps k t ≡ v.snaps = ap (set v.snaps k) (same ∙ is) ∙ set-get_or v.snaps k s in
                subst (λ (ns : List ℕ). AreNext (k + 1) ns (record v { snaps = set v.snaps k t; copies = n; flights = hs })) (sym (none_more fine))
                (subst (λ (x : List (Kept B)). AreNext (k + 1) which (record v { snaps = x; copies = n; flights = hs })) (sym unset)
                (subst (λ (x : ℕ). AreNext (k + 1) which (record v { snaps = v.snaps; copies = x; flights = hs })) (sym m)
                (subst (λ (x : List Flight). AreNext (k + 1) which (record v { snaps = v.snaps; copies = v.copies; flights = x })) (sym g) (next_kept (neither (lacks_chunk (at s) s) (is_full_of s) unsaid fine))))))
          ]
        ]

  set_after : (pre : List (Kept B)) (s t : Kept B) (ss : List (Kept B)) → set (pre ++ s ∷ ss) (length pre) t ≡ (pre ++ t ∷ []) ++ ss
  set_after [] s t ss = refl
  set_after (x ∷ pre) s t ss = ap (λ xs. x ∷ xs) (set_after pre s t ss)

  overflowing_cons : (s : Kept B) (ss : List (Kept B)) (which : List ℕ) → (which ++ losing at (s ∷ [])) ++ losing at ss ≡ which ++ losing at (s ∷ ss)
  overflowing_cons s ss which = append_assoc which (losing at (s ∷ [])) (losing at ss) ∙ ap (λ ns. which ++ ns) (elim (cases_Bool (overflows_chunk (at s) s)) [
    | inl full ↦ ap (λ ns. ns ++ losing at ss) (losing_full at s [] full) ∙ sym (losing_full at s ss full)
    | inr fine ↦ ap (λ ns. ns ++ losing at ss) (losing_fine at s [] fine) ∙ sym (losing_fine at s ss fine)
  ])

  -- all that are left
  pub next_all : (ss ts pre : List (Kept B)) (v : Volumed B) (which : List ℕ) (m : ℕ) (gs : List Flight) → v.snaps ≡ pre ++ ss → AreNextSavedIn contents layers at ss ts v.copies m v.flights gs
      → AreNext (length pre) which v → AreNext (length pre + length ss) (which ++ losing at ss) (record v { snaps = pre ++ ts; copies = m; flights = gs })
  next_all [] [] pre v which m gs split (m_is, g_is) h =
      let end : AreNext (length pre + 0) which v = (let none : length pre ≡ length pre + 0 = omega arith in subst (λ (i : ℕ). AreNext i which v) none h) in
      subst (λ (x : List (Kept B)). AreNext (length pre + 0) (which ++ []) (record v { snaps = x; copies = m; flights = gs })) split
      (subst (λ (x : ℕ). AreNext (length pre + 0) (which ++ []) (record v { snaps = v.snaps; copies = x; flights = gs })) (sym m_is)
      (subst (λ (x : List Flight). AreNext (length pre + 0) (which ++ []) (record v { snaps = v.snaps; copies = v.copies; flights = x })) (sym g_is)
      (subst (λ (ns : List ℕ). AreNext (length pre + 0) ns v) (sym (append-nil which)) end)))
  next_all [] (t ∷ ts) pre v which m gs split e h = absurd e
  next_all (s ∷ ss) [] pre v which m gs split e h = absurd e
  next_all (s ∷ ss) (t ∷ ts) pre v which m gs split (n, hs, one, rest) h =
      let within : length pre < length v.snaps = omega (arith, ap length split, length-append pre (s ∷ ss)) in
      let front : length pre ≡ length pre + 0 = omega arith in
      let is : s ≡ get_or v.snaps (length pre) s = sym (ap (λ xs. get_or xs (length pre) s) split ∙ ap (λ i. get_or (pre ++ s ∷ ss) i s) front ∙ get_or-append-add pre (s ∷ ss) 0 s) in
      let done = next_one v (length pre) s t within is which h n hs one in
      let now : set v.snaps (length pre) t ≡ (pre ++ t ∷ []) ++ ss = ap (λ xs. set xs (length pre) t) split ∙ set_after pre s t ss in
      let len : length (pre ++ t ∷ []) ≡ length pre + 1 = length-append pre (t ∷ []) in
      let u : Volumed B = record v { snaps = set v.snaps (length pre) t; copies = n; flights = hs } in
      let both : List ℕ = which ++ losing at (s ∷ []) in
      let more = next_all ss ts (pre ++ t ∷ []) u both m gs now rest (subst (λ (i : ℕ). AreNext i both u) (sym len) done) in
      let count : length (pre ++ t ∷ []) + length ss ≡ length pre + length (s ∷ ss) = omega (arith, len) in
      subst (λ (ns : List ℕ). AreNext (length pre + length (s ∷ ss)) ns (record v { snaps = pre ++ t ∷ ts; copies = m; flights = gs })) (overflowing_cons s ss which)
      (subst (λ (x : List (Kept B)). AreNext (length pre + length (s ∷ ss)) (both ++ losing at ss) (record v { snaps = x; copies = m; flights = gs })) (append_assoc pre (t ∷ []) ts)
      (subst (λ (i : ℕ). AreNext i (both ++ losing at ss) (record v { snaps = (pre ++ t ∷ []) ++ ts; copies = m; flights = gs })) count more))

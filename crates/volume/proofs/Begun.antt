-- A merge begins in a quiet volume.
use Rattle.std.proofs.Common.{◌≡◌, ◌≢◌, ℕ, zero, suc, ◌*◌, ◌/◌, ◌<◌, ◌≤◌, Bool, true, false, List, [], ◌∷◌, Option, Some, None, length, get_or, map, inl, inr, refl, sym, ◌∙◌, ap, subst, arith, nat_eq, if◌then◌else◌}
use Rattle.std.specs.Prelude.{◌&&◌, ◌==◌, not, max, is_some}
use Rattle.std.specs.List.{All, remove, list_all}
use Rattle.std.proofs.lemmas.Bool.{cases_Bool, eqb-true, false≢true}
use Rattle.std.proofs.lemmas.List.{append-nil, length-map, get_or-map}
use Rattle.std.proofs.lemmas.List.Edits.{length-remove}
use Rattle.std.proofs.lemmas.List.Elements.{All-cons, All-map, All-nil}
use Rattle.std.proofs.lemmas.List.Quantifiers.{all_pairs_remove}
use Rattle.std.proofs.lemmas.Nat.{div-mul-add}
use Rattle.device.specs.Layers.{Layer, is_loud}
use Rattle.plain_machine.specs.Plain.{Plain}
use Rattle.plain_machine.specs.Legal.{IsBegun}
use Rattle.plain_machine.specs.declared.request.Reply.{Reply}
use Rattle.in_flight.specs.Copies.{pair_of}
use Rattle.in_flight.specs.declared.flights.Flight.{Flight}
use Rattle.volume_laws.specs.Books.{SnapBooks, MergeBooks}
use Rattle.volume_laws.specs.MergeRooms.{KeepsBack, RoomSnap}
use Rattle.volume_laws.specs.Touched.{touched_by}
use Rattle.volume_laws.specs.MergeWaits.{IsSavedIn, IsSavedSoon, MergeGoes}
use Rattle.volume_laws.specs.Whole.{Holds, plain_of as plain_books}
use Rattle.volume_laws.proofs.Lists.{All-remove, map-remove}
use Rattle.volume_laws.proofs.MergeEvents.{begun as begun_books}
use Rattle.volume_laws.proofs.MergeRooms.{few_lacking, room_begun}
use Rattle.volume_laws.proofs.Same.{books}
use Rattle.volume_laws.proofs.Waiting.{waits_none}
use Rattle.volume_laws.proofs.WholeMerge.{begin_event}
use Rattle.volume_laws.proofs.WholeOne.{snap_holds}
use Rattle.event_machine.specs.Held.{SnapHeld, MergeHeld, Moving}
use Rattle.event_machine.specs.Merging.{begin, begun, merging_of}
use Rattle.event_machine.specs.MergeSeen.{held_in, merge_held_of}
use Rattle.event_machine.specs.Stepping.{first_that, for_some, without_first}
use Rattle.snapshot.specs.Kept.{Kept, books_of as snap_books}
use Rattle.snapshot_list.specs.Numbers.{number_of_snap, count_in}
use Rattle.merge.specs.Merging.{Merging, due_of as merging_due}
use Rattle.snapshot_list.specs.Keeping.{kept_back, kept_for}
use Rattle.snapshot_list.specs.Rooms.{merge_books, room_of}
use Rattle.volume.specs.Beginning.{merging_from}
use Rattle.volume.specs.Volumed.{Volumed, books_of, is_loud_in_all, is_loud_with, plain_of}
use Rattle.volume.specs.Whole.{AreNumbers, SharesNone, IsAttached, IsCounted, IsMerged, IsWhole, starts_left}
use Rattle.volume.specs.Moved.{held_of, merge_seen, moving_of}
use Rattle.volume.proofs.MovedLists.{IsFirst, first_is, if_false, if_true, without_seen}
use Rattle.volume.proofs.Removed.{all_removed, sum_left}
use Rattle.volume.proofs.Shown.{and_right, shown}

-- what a snapshot keeps back for so many pairs, in chunks of so many sectors
pub record KeepsCount {B : Type 0} (count chunk : ℕ) (t : Kept B) : Type 0 where
  pub nodes : t.kept_back ≡ count * max 1 (chunk / t.state.chunk)
  pub spare : t.spare ≡ true
  pub idle : t.merging ≡ None

abbrev pub KeepsFor : {B : Type 0} → ℕ → ℕ → ℕ → Kept B → Type 0
KeepsFor number count chunk t = t.live ≡ true → t.number ≢ number → KeepsCount count chunk t

pub kept_keeps : {B : Type 0} (number count chunk : ℕ) (t : Kept B) → KeepsFor number count chunk (kept_for number count chunk t)
kept_keeps number count chunk t = by_test (t.live && not (nat_eq t.number number)) refl
  where
    by_test : (b : Bool) → (t.live && not (nat_eq t.number number)) ≡ b → KeepsFor number count chunk (if b then kept_back (count * max 1 (chunk / t.state.chunk)) t else t)
    by_test true e = λ live other. record { nodes = refl; spare = refl; idle = refl }
    by_test false e = λ live other. elim (cases_Bool (nat_eq t.number number)) [
      | inl same ↦ absurd (other (eqb-true t.number number same))
      | inr differs ↦ (let passes : (t.live && not (nat_eq t.number number)) ≡ true = rw (live, differs) refl in absurd (false≢true (sym e ∙ passes)))
    ]

-- numbers that rise differ from one of them
others_differ : {B : Type 0} (xs : List (Kept B)) (k : ℕ) (s : Kept B) → ((i j : ℕ) (d : Kept B) → i < j → j < length xs → (get_or xs i d).number < (get_or xs j d).number) → k < length xs → s ≡ get_or xs k s → All (λ t. t.number ≢ s.number) (remove xs k)
others_differ [] k s up within is = absurd (omega (arith, within))
others_differ {B = B} (x ∷ xs) zero s up within is = λ j d lt same.
    let less : x.number < (get_or xs j d).number = up 0 (suc j) d (omega arith) (omega (arith, lt)) in
    let mine : s.number ≡ x.number = ap (λ (t : Kept B). t.number) is in
    omega (arith, less, same, mine)
others_differ {B = B} (x ∷ xs) (suc k) s up within is =
    let less : x.number < (get_or xs k s).number = up 0 (suc k) s (omega arith) within in
    let mine : s.number ≡ (get_or xs k s).number = ap (λ (t : Kept B). t.number) is in
    All-cons (λ (t : Kept B). t.number ≢ s.number) x (remove xs k) (λ same. omega (arith, less, mine, same))
    (others_differ xs k s (λ i j d lt inside. up (suc i) (suc j) d (omega (arith, lt)) (omega (arith, inside))) (omega (arith, within)) is)

module _ {B : Type 0} (contents : B → List ℕ) (layers : B → List Layer) (size : B → ℕ) (v : Volumed B) (k : ℕ) (s : Kept B) (buffer : List ℕ) (within : k < length v.snaps) (is : s ≡ get_or v.snaps k s)
    (h : IsWhole contents layers size v) (alone : v.merge ≡ None) (none : v.flights ≡ []) (live : s.live ≡ true) (idle : s.copies ≡ []) (sized : length buffer ≡ 512 * s.state.chunk) where
  abbrev pub m : Merging B
  m = merging_from s buffer

  abbrev pub with_merge : Volumed B
  with_merge = record v { snaps = remove v.snaps k; merge = Some (merging_from s buffer) }

  abbrev sb : Kept B → SnapBooks
  sb = snap_books contents layers

  abbrev l : Bool
  l = is_loud (layers v.origin)

  abbrev o : List ℕ
  o = contents v.origin

  attached : IsAttached v.copies (size v.origin) s
  attached = subst (IsAttached v.copies (size v.origin)) (sym is) (h.snaps k s within)

  counted : IsCounted s
  counted = subst IsCounted (sym is) (h.counted k s within)

  b_within : k < length (map sb v.snaps)
  b_within = omega (arith, within, length-map v.snaps sb)

  b_is : sb s ≡ get_or (map sb v.snaps) k (sb s)
  b_is = ap sb is ∙ sym (get_or-map sb v.snaps k s (sb s) within)

  old_holds : Holds (books o (size v.origin) l (map sb v.snaps) None [])
  old_holds =
      subst (λ (rs : List Flight). Holds (books o (size v.origin) l (map sb v.snaps) None rs)) none
      (subst (λ (x : Option (Merging B)). Holds (books o (size v.origin) l (map sb v.snaps) (merge_books contents layers l x) v.flights)) alone h.holds)

  unbegun : s.begun ≡ []
  unbegun = ((snap_holds (books o (size v.origin) l (map sb v.snaps) None []) k (sb s) old_holds b_within b_is).alive live).agree ∙ ap (map pair_of) idle

  abbrev new_books : MergeBooks
  new_books = begun_books (sb s) (l && is_loud (layers s.device)) buffer

  event : Holds (books o (size v.origin) l (remove (map sb v.snaps) k) (Some new_books) []) × IsBegun (plain_books (books o (size v.origin) l (map sb v.snaps) None [])) s.number (plain_books (books o (size v.origin) l (remove (map sb v.snaps) k) (Some new_books) []))
  event = begin_event o (size v.origin) l (map sb v.snaps) k (sb s) (l && is_loud (layers s.device)) buffer sized (and_right l (is_loud (layers s.device))) old_holds b_within b_is live unbegun

  new_holds : Holds (books_of contents layers size with_merge)
  new_holds =
      subst (λ (rs : List Flight). Holds (books o (size v.origin) l (map sb (remove v.snaps k)) (Some new_books) rs)) (sym none)
      (subst (λ (xs : List SnapBooks). Holds (books o (size v.origin) l xs (Some new_books) [])) (sym (map-remove sb v.snaps k)) event.0)

  -- the merge begins as the plain machine has it
  pub plain_begun : IsBegun (plain_of contents layers v) s.number (plain_of contents layers with_merge)
  plain_begun =
      let P : Plain → Plain → Type 0 = λ p q. IsBegun p s.number q in
      let before : plain_books (books o (size v.origin) l (map sb v.snaps) None []) ≡ plain_of contents layers v =
      ap (λ (rs : List Flight). plain_books (books o (size v.origin) l (map sb v.snaps) None rs)) (sym none)
      ∙ ap (λ (x : Option (Merging B)). plain_books (books o (size v.origin) l (map sb v.snaps) (merge_books contents layers l x) v.flights)) (sym alone)
      ∙ sym (shown contents layers size v) in
      let after : plain_books (books o (size v.origin) l (remove (map sb v.snaps) k) (Some new_books) []) ≡ plain_of contents layers with_merge =
      ap (λ (xs : List SnapBooks). plain_books (books o (size v.origin) l xs (Some new_books) [])) (sym (map-remove sb v.snaps k))
      ∙ ap (λ (rs : List Flight). plain_books (books o (size v.origin) l (map sb (remove v.snaps k)) (Some new_books) rs)) (sym none)
      ∙ sym (shown contents layers size with_merge) in
      subst (λ (p : Plain). P p (plain_of contents layers with_merge)) before (subst (P (plain_books (books o (size v.origin) l (map sb v.snaps) None []))) after event.1)

  apart : All (λ t. t.number ≢ s.number) (remove v.snaps k)
  apart = others_differ v.snaps k s
      (λ i j d lt inside.
      (let n : length (map number_of_snap v.snaps) ≡ length v.snaps = length-map v.snaps number_of_snap in
      let less : get_or (map number_of_snap v.snaps) i d.number < get_or (map number_of_snap v.snaps) j d.number = h.numbers.ascending i j d.number lt (omega (arith, inside, n)) in
      let low = get_or-map number_of_snap v.snaps i d d.number (omega (arith, lt, inside)) in
      let high = get_or-map number_of_snap v.snaps j d d.number inside in
      omega (arith, less, low, high))) within is

  goes : (loud : Bool) → MergeGoes (map sb (remove v.snaps k)) (merging_due contents loud m)
  goes loud = record {
    staged = record {
      one = omega arith;
      read = λ e. absurd (false≢true e);
      written = λ e. absurd (false≢true e);
      copied = λ e. refl;
      over = λ e. refl;
      out = λ e. refl;
      none = λ e. absurd (false≢true e);
    };
    ending = (s.pairs, sym (append-nil s.pairs));
    area = counted.count;
    next = All-nil (IsSavedSoon s.state.chunk s.state.origin (map sb (remove v.snaps k)));
    saved = All-nil (IsSavedIn s.state.chunk s.state.origin (map sb (remove v.snaps k)));
  }

  module _ (keeps : All (KeepsFor s.number (length s.pairs) s.state.chunk) v.snaps) where
    -- the chunks of all of them have allowed sizes
    sizes_left : All (IsAttached v.copies (size v.origin)) (remove v.snaps k)
    sizes_left = All-remove (IsAttached v.copies (size v.origin)) v.snaps k h.snaps

    kept : All (λ t. t.live ≡ true → KeepsBack (touched_by t.state.chunk s.state.chunk s.state.origin s.pairs) (room_of contents layers t)) (remove v.snaps k)
    kept = λ j d lt alive.
        (let t : Kept B = get_or (remove v.snaps k) j d in
        let its = All-remove (KeepsFor s.number (length s.pairs) s.state.chunk) v.snaps k keeps j d lt alive (apart j d lt) in
        let few = few_lacking s.state.chunk s.state.origin s.pairs (sb t) (sizes_left j d lt).allowed attached.allowed in
        room_begun (touched_by t.state.chunk s.state.chunk s.state.origin s.pairs) (room_of contents layers t) (omega (arith, few, its.nodes)) its.spare its.idle)

    merged : IsMerged contents layers size m with_merge
    merged = record {
      origin = attached.origin;
      allowed = attached.allowed;
      apart = apart;
      given = (let at : get_or (map number_of_snap v.snaps) k s.number ≡ s.number = get_or-map number_of_snap v.snaps k s s.number within ∙ ap number_of_snap (sym is) in
          let most = h.numbers.given k s.number (omega (arith, within, length-map v.snaps number_of_snap)) in omega (arith, at, most));
      few = (let fewer = length-remove v.snaps k within in omega (arith, h.few, fewer, within));
      goes = goes;
      rooms = All-map (λ (r : RoomSnap). r.books.live ≡ true → KeepsBack (touched_by r.books.chunk s.state.chunk s.state.origin s.pairs) r) (room_of contents layers) (remove v.snaps k) kept;
    }

    pub whole_begun : IsWhole contents layers size with_merge
    whole_begun =
        let fewer = length-remove v.snaps k within in
        let sums = sum_left count_in v.snaps k in
        let lefts = sum_left starts_left v.snaps k in
        record {
          holds = new_holds;
          waits = waits_none (books_of contents layers size with_merge) none;
          merge = merged;
          snaps = All-remove (IsAttached v.copies (size v.origin)) v.snaps k h.snaps;
          counted = All-remove IsCounted v.snaps k h.counted;
          apart = all_pairs_remove SharesNone v.snaps k within h.apart;
          numbers = subst (AreNumbers v.attached) (sym (map-remove number_of_snap v.snaps k)) (record {
            given = All-remove (λ n. n ≤ v.attached) (map number_of_snap v.snaps) k h.numbers.given;
            ascending = all_pairs_remove (λ i j. i < j) (map number_of_snap v.snaps) k (omega (arith, within, length-map v.snaps number_of_snap)) h.numbers.ascending;
          });
          requests = h.requests;
          few = omega (arith, h.few, fewer, within);
          few_copies = omega (arith, h.few_copies, sums);
          few_requests = h.few_requests;
          numbers_left = omega (arith, h.numbers_left, lefts);
        }

  -- the devices are the same ones
  pub loud_begun : is_loud_in_all layers with_merge ≡ is_loud_in_all layers v
  loud_begun =
      let left : Bool = list_all (λ (t : Kept B). is_loud (layers t.device)) (remove v.snaps k) in
      grouped l left (is_loud (layers s.device))
      ∙ ap (λ b. l && b) (ap (λ (t : Kept B). left && is_loud (layers t.device)) is ∙ sym (all_removed (λ (t : Kept B). is_loud (layers t.device)) v.snaps k s within))
      ∙ ap (λ (x : Option (Merging B)). is_loud_with layers x (l && list_all (λ (t : Kept B). is_loud (layers t.device)) v.snaps)) (sym alone)
    where
      grouped : (a b c : Bool) → ((a && b) && c) ≡ (a && (b && c))
      grouped true b c = refl
      grouped false b c = refl

  -- the machine has the same merge: its pairs fill the areas below the one of its first empty slot
  merging_same : merging_of (held_of contents layers s) ≡ merge_held_of (record { due = merging_due contents true m; layers = layers s.device; next = s.next })
  merging_same =
      let one : MergeHeld = merging_of (held_of contents layers s) in
      let area : length s.pairs / (32 * s.state.chunk) ≡ s.state.current =
      ap (λ n. n / (32 * s.state.chunk)) counted.count ∙ div-mul-add s.state.current (32 * s.state.chunk) s.state.filled (counted.fits live) in
      ap (λ n. let g : MergeHeld = record one { merge = record one.merge { current = n } } in g) area

  module _ (number : ℕ) (first : IsFirst (λ (t : Kept B). t.number == number) k s v.snaps) (replied : Option Reply) where
    abbrev machine : Moving
    machine = moving_of contents layers replied v

    abbrev test : SnapHeld → Bool
    test t = t.snap.number == number

    pub exact_begun : begun number (moving_of contents layers replied v) ≡ moving_of contents layers replied with_merge
    exact_begun =
        let free : is_some machine.merge ≡ false = ap (λ (x : Option (Merging B)). is_some (held_in (merge_seen contents layers x))) alone in
        let made : List SnapHeld → Option MergeHeld → Moving = λ (hs : List SnapHeld) (x : Option MergeHeld). record machine { snaps = hs; merge = x } in
        if_false (is_some machine.merge) machine (for_some (first_that test machine.snaps) (λ t. begin test t machine) machine) free
        ∙ ap (λ (t : Option SnapHeld). for_some t (λ t. begin test t machine) machine) (first_is (held_of contents layers) test k s v.snaps first)
        ∙ if_true s.live (made (without_first test machine.snaps) (Some (merging_of (held_of contents layers s)))) machine live
        ∙ ap (λ (hs : List SnapHeld). made hs (Some (merging_of (held_of contents layers s)))) (without_seen (held_of contents layers) test k s v.snaps first)
        ∙ ap (λ (g : MergeHeld). made (map (held_of contents layers) (remove v.snaps k)) (Some g)) merging_same

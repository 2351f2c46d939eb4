-- Devices did operations ahead: which events are due, how much is left, and that a merge goes on stay as they were, whether the
-- stacks are loud or not, since none of it looks at a store's bytes.
use Rattle.std.proofs.Common.{◌≡◌, ℕ, ◌+◌, ◌*◌, ◌<◌, ◌≤◌, Bool, true, false, List, [], ◌∷◌, length, get_or, map, refl, sym, ◌∙◌, ap, subst, arith, if◌then◌else◌}
use Rattle.std.specs.Prelude.{◌==◌, ◌&&◌, ◌||◌, ◌++◌, not, sum_by}
use Rattle.std.specs.List.{All, list_any, list_all, sum}
use Rattle.std.proofs.lemmas.List.Folds.{list_all-map}
use Rattle.std.proofs.lemmas.List.Sums.{sum-map}
use Rattle.sector.specs.declared.pair.Pair.{Pair}
use Rattle.plain_machine.specs.declared.event.Event.{Event}
use Rattle.plain_machine.specs.declared.event.Event.TheVariants.{Issue, CopyRead, CopyWrite, ZeroNext, WriteArea, Publish, WriteInvalid, FlushStore, MergeGroup, MergeAreaRead, MergeRead, MergeWrite, MergeFlush, MergeCommit, MergeRelease}
use Rattle.in_flight.specs.Copies.{count_of}
use Rattle.in_flight.specs.Due.{is_copy_at, is_publishable}
use Rattle.in_flight.specs.declared.copies.Stage.TheVariants.{Waiting, Read}
use Rattle.in_flight.specs.declared.flights.Flight.{Flight}
use Rattle.volume_laws.specs.Books.{SnapBooks, MergeBooks}
use Rattle.volume_laws.specs.Due.{DueSnap, books_of, can_mark, can_flush_store, can_commit, can_zero, is_due, left_in, left_of, weight_of}
use Rattle.volume_laws.specs.MergeDue.{DueMerge, can_group, can_read_area, is_writable, is_merge_due, is_due_with, left_in_merge, lacking_in, left_beside, per_copy}
use Rattle.volume_laws.specs.MergeRooms.{RoomSnap, KeepsBack, KeepBack, MergesChunk}
use Rattle.volume_laws.specs.MergeWaits.{MergeGoes, IsStaged, next_in}
use Rattle.volume_laws.specs.Published.{is_saved_over, is_clear_over, IsSavedOver, next_over}
use Rattle.volume_laws.specs.Touched.{touched_by}
use Rattle.volume_laws.specs.Waits.{IsSaving}

-- what is left of the books where a store's bytes are forgotten, and whether its stack is loud
abbrev pub forget : SnapBooks → SnapBooks
forget s = record s { loud = false; store = [] }

abbrev pub forget_due : DueSnap → DueSnap
forget_due s = record s { books = forget s.books }

abbrev pub forget_merge : DueMerge → DueMerge
forget_merge d = record d { books = record d.books { loud = false; store = [] } }

-- tests, sums and maps over a map
any_map : {A C : Type 0} (p : C → Bool) (f : A → C) (xs : List A) → list_any p (map f xs) ≡ list_any (λ x. p (f x)) xs
any_map p f [] = refl
any_map p f (x ∷ xs) = ap (λ b. p (f x) || b) (any_map p f xs)

map_twice : {A C D : Type 0} (f : A → C) (g : C → D) (xs : List A) → map g (map f xs) ≡ map (λ x. g (f x)) xs
map_twice f g [] = refl
map_twice f g (x ∷ xs) = ap (λ ys. g (f x) ∷ ys) (map_twice f g xs)

sum_map : {A C : Type 0} (g : C → ℕ) (f : A → C) (xs : List A) → sum_by g (map f xs) ≡ sum_by (λ x. g (f x)) xs
sum_map g f xs = sym (sum-map g (map f xs)) ∙ ap sum (map_twice f g xs) ∙ sum-map (λ x. g (f x)) xs

pub books_forget : (snaps : List DueSnap) → map books_of (map forget_due snaps) ≡ map forget (map books_of snaps)
books_forget [] = refl
books_forget (s ∷ snaps) = ap (λ ss. forget s.books ∷ ss) (books_forget snaps)

-- an event of snapshots and requests
due_forgets : (snaps : List DueSnap) (rs : List Flight) (event : Event) → is_due (map forget_due snaps) rs event ≡ is_due snaps rs event
due_forgets snaps rs (WriteInvalid n) = any_map (λ (s : DueSnap). (s.books.number == n) && can_mark s) forget_due snaps
due_forgets snaps rs (FlushStore n) = any_map (λ (s : DueSnap). (s.books.number == n) && can_flush_store s) forget_due snaps
due_forgets snaps rs (Publish n) = any_map (λ (s : DueSnap). list_any (λ m. (m.number == n) && is_publishable s.books.number s.books.chunk rs m) s.books.marks) forget_due snaps
due_forgets snaps rs (WriteArea n) = any_map (λ (s : DueSnap). (s.books.number == n) && can_commit s) forget_due snaps
due_forgets snaps rs (ZeroNext n) = any_map (λ (s : DueSnap). (s.books.number == n) && can_zero s) forget_due snaps
due_forgets snaps rs (CopyWrite n) = any_map (λ (s : DueSnap). list_any (λ c. (c.number == n) && is_copy_at Read c) s.books.copies) forget_due snaps
due_forgets snaps rs (CopyRead n) = any_map (λ (s : DueSnap). list_any (λ c. (c.number == n) && is_copy_at Waiting c) s.books.copies) forget_due snaps
due_forgets snaps rs (Issue n) = refl
due_forgets snaps rs MergeGroup = refl
due_forgets snaps rs MergeAreaRead = refl
due_forgets snaps rs MergeRead = refl
due_forgets snaps rs MergeWrite = refl
due_forgets snaps rs MergeFlush = refl
due_forgets snaps rs MergeCommit = refl
due_forgets snaps rs MergeRelease = refl

-- an event of a merge
clear_forgets : (snaps : List SnapBooks) (first count : ℕ) → is_clear_over (map forget snaps) first count ≡ is_clear_over snaps first count
clear_forgets snaps first count =
    ap (λ b. b && not (list_any (λ (s : SnapBooks). s.untried) (map forget snaps))) (list_all-map (is_saved_over first count) forget snaps)
    ∙ ap (λ b. list_all (is_saved_over first count) snaps && not b) (any_map (λ (s : SnapBooks). s.untried) forget snaps)

writable_forgets : (snaps : List SnapBooks) (chunk sectors : ℕ) (reading : List Pair) → is_writable (map forget snaps) chunk sectors reading ≡ is_writable snaps chunk sectors reading
writable_forgets snaps chunk sectors [] = refl
writable_forgets snaps chunk sectors (q ∷ pairs) = clear_forgets snaps (chunk * q.old) (count_of chunk sectors q.old)

merge_forgets : (snaps : List SnapBooks) (rs : List Flight) (d : DueMerge) (event : Event) → is_merge_due (map forget snaps) rs (forget_merge d) event ≡ is_merge_due snaps rs d event
merge_forgets snaps rs d (WriteInvalid n) = refl
merge_forgets snaps rs d (FlushStore n) = refl
merge_forgets snaps rs d (Publish n) = refl
merge_forgets snaps rs d (WriteArea n) = refl
merge_forgets snaps rs d (ZeroNext n) = refl
merge_forgets snaps rs d (CopyWrite n) = refl
merge_forgets snaps rs d (CopyRead n) = refl
merge_forgets snaps rs d (Issue n) = refl
merge_forgets snaps rs d MergeGroup = refl
merge_forgets snaps rs d MergeAreaRead = refl
merge_forgets snaps rs d MergeRead = refl
merge_forgets snaps rs d MergeWrite = writable_forgets snaps d.books.chunk d.books.sectors d.books.reading
merge_forgets snaps rs d MergeFlush = refl
merge_forgets snaps rs d MergeCommit = refl
merge_forgets snaps rs d MergeRelease = refl

-- what is left
left_forgets : (snaps : List DueSnap) (rs : List Flight) → left_of (map forget_due snaps) rs ≡ left_of snaps rs
left_forgets snaps rs = ap (λ n. n + sum_by weight_of rs) (sum_map left_in forget_due snaps)

beside_forgets : (snaps : List SnapBooks) (d : DueMerge) → left_beside (map forget snaps) (forget_merge d) ≡ left_beside snaps d
beside_forgets snaps d = ap (λ n. if d.failed then 0 else per_copy * n) (sum_map (lacking_in (forget_merge d).books) forget snaps)

-- so of snapshots, and of a merge, that are the same but for what is forgotten
module _ (snaps snaps' : List DueSnap) (rs : List Flight) (same : map forget_due snaps' ≡ map forget_due snaps) where
  pub same_due : (event : Event) → is_due snaps' rs event ≡ is_due snaps rs event
  same_due event = sym (due_forgets snaps' rs event) ∙ ap (λ ss. is_due ss rs event) same ∙ due_forgets snaps rs event

  pub same_left : left_of snaps' rs ≡ left_of snaps rs
  same_left = sym (left_forgets snaps' rs) ∙ ap (λ ss. left_of ss rs) same ∙ left_forgets snaps rs

  same_books : map forget (map books_of snaps') ≡ map forget (map books_of snaps)
  same_books = sym (books_forget snaps') ∙ ap (map books_of) same ∙ books_forget snaps

  module _ (d d' : DueMerge) (merge : forget_merge d' ≡ forget_merge d) where
    pub same_due_with : (event : Event) → is_due_with snaps' rs d' event ≡ is_due_with snaps rs d event
    same_due_with event =
        let merges : is_merge_due (map books_of snaps') rs d' event ≡ is_merge_due (map books_of snaps) rs d event =
        sym (merge_forgets (map books_of snaps') rs d' event) ∙ ap (λ ss. is_merge_due ss rs (forget_merge d') event) same_books ∙ ap (λ m. is_merge_due (map forget (map books_of snaps)) rs m event) merge ∙ merge_forgets (map books_of snaps) rs d event in
        ap (λ b. b || is_merge_due (map books_of snaps') rs d' event) (same_due event) ∙ ap (λ b. is_due snaps rs event || b) merges

    pub same_left_in : left_in_merge d' ≡ left_in_merge d
    same_left_in = ap left_in_merge merge

    pub same_beside : left_beside (map books_of snaps') d' ≡ left_beside (map books_of snaps) d
    same_beside =
        sym (beside_forgets (map books_of snaps') d') ∙ ap (λ ss. left_beside ss (forget_merge d')) same_books ∙ ap (left_beside (map forget (map books_of snaps))) merge ∙ beside_forgets (map books_of snaps) d

-- a merge goes on
all_kept : {A : Type 0} (P : A → Type 0) (xs ys : List A) → length ys ≡ length xs → ((k : ℕ) (d : A) → k < length xs → P (get_or xs k d) → P (get_or ys k d)) → All P xs → All P ys
all_kept P xs ys len each all = λ k d lt. (let within : k < length xs = omega (arith, lt, len) in each k d within (all k d within))

-- the books of a snapshot are the same but for what is forgotten
abbrev pub IsOtherStore : SnapBooks → SnapBooks → Type 0
IsOtherStore s t = t ≡ record s { loud = t.loud; store = t.store }

kept_as : (P : SnapBooks → Type 0) → ((s : SnapBooks) (b : Bool) (store : List ℕ) → P s → P (record s { loud = b; store = store })) → (s t : SnapBooks) → IsOtherStore s t → P s → P t
kept_as P kept s t same p = subst P (sym same) (kept s t.loud t.store p)

pub goes_ahead : (snaps snaps' : List SnapBooks) → length snaps' ≡ length snaps → ((k : ℕ) (d : SnapBooks) → k < length snaps → IsOtherStore (get_or snaps k d) (get_or snaps' k d))
    → (d : DueMerge) (store : List ℕ) → MergeGoes snaps d → MergeGoes snaps' (record d { books = record d.books { store = store } })
goes_ahead snaps snaps' len each d store h = record {
  staged = (let t = h.staged in record { one = t.one; read = t.read; written = t.written; copied = t.copied; over = t.over; out = t.out; none = t.none });
  ending = h.ending;
  area = h.area;
  next = λ k q lt. (let pair : Pair = get_or (next_in d.books) k q in
      let P : SnapBooks → Type 0 = λ s. s.live ≡ true → IsSaving (next_over (d.books.chunk * pair.old) (count_of d.books.chunk d.books.sectors pair.old) s) s in
      all_kept P snaps snaps' len (λ j s within. kept_as P (λ x b bytes p. p) (get_or snaps j s) (get_or snaps' j s) (each j s within)) (h.next k q lt));
  saved = λ k q lt. (let pair : Pair = get_or (d.books.copied ++ d.books.released) k q in
      let P : SnapBooks → Type 0 = IsSavedOver (d.books.chunk * pair.old) (count_of d.books.chunk d.books.sectors pair.old) in
      all_kept P snaps snaps' len (λ j s within. kept_as P (λ x b bytes p. p) (get_or snaps j s) (get_or snaps' j s) (each j s within)) (h.saved k q lt));
}

-- and what is kept back for it
abbrev pub IsOtherRoom : RoomSnap → RoomSnap → Type 0
IsOtherRoom s t = t ≡ record s { books = record s.books { loud = t.books.loud; store = t.books.store } }

keeps_ahead : (chunks : List ℕ) (s : RoomSnap) (b : Bool) (store : List ℕ) → KeepsBack chunks s → KeepsBack chunks (record s { books = record s.books { loud = b; store = store } })
keeps_ahead chunks s b store h = record {
  nodes = h.nodes;
  spare = h.spare;
  merging = λ n is. (let m = h.merging n is in record { index = m.index; within = m.within; mine = m.mine; later = m.later });
}

pub back_ahead : (chunk sectors : ℕ) (pairs : List Pair) (rooms rooms' : List RoomSnap) → length rooms' ≡ length rooms → ((k : ℕ) (d : RoomSnap) → k < length rooms → IsOtherRoom (get_or rooms k d) (get_or rooms' k d))
    → KeepBack chunk sectors pairs rooms → KeepBack chunk sectors pairs rooms'
back_ahead chunk sectors pairs rooms rooms' len each =
    let P : RoomSnap → Type 0 = λ s. s.books.live ≡ true → KeepsBack (touched_by s.books.chunk chunk sectors pairs) s in
    all_kept P rooms rooms' len (λ k d within p. subst P (sym (each k d within)) (λ live. keeps_ahead (touched_by (get_or rooms k d).books.chunk chunk sectors pairs) (get_or rooms k d) (get_or rooms' k d).books.loud (get_or rooms' k d).books.store (p live)))

-- Where no event is due, of the volume and of its merge, it is quiet: and the merge has failed, or is finished.
use Rattle.std.proofs.Common.{◌≡◌, ◌⊎◌, inl, inr, ℕ, ◌+◌, ◌*◌, Bool, true, false, List, [], ◌∷◌, ◌++◌, Some, None, length, map, refl, sym, ◌∙◌, ap, subst, arith, nat_eq}
use Rattle.std.specs.Prelude.{◌&&◌, ◌||◌, not, nat_lt}
use Rattle.std.specs.Option.{is_some}
use Rattle.std.specs.List.{All, list_any, list_all}
use Rattle.std.proofs.lemmas.Bool.{cases_Bool, false≢true, ltb-false}
use Rattle.std.proofs.lemmas.List.Elements.{All-head, All-map, All-weaker}
use Rattle.std.proofs.lemmas.List.Folds.{list_any_none}
use Rattle.sector.specs.declared.pair.Pair.{Pair}
use Rattle.in_flight.specs.Copies.{count_of}
use Rattle.in_flight.specs.Kinds.{kind_of}
use Rattle.in_flight.specs.Due.{is_issuable}
use Rattle.in_flight.specs.declared.flights.Flight.{Flight}
use Rattle.in_flight.specs.declared.flights.Kind.{Kind}
use Rattle.in_flight.specs.declared.flights.Kind.TheVariants.{OriginRead, OriginWrite, OriginFlush, SnapRead, SnapWrite, SnapFlush}
use Rattle.in_flight.specs.declared.flights.Route.TheVariants.{Held}
use Rattle.volume_laws.specs.Books.{SnapBooks, MergeBooks, Books, group_of}
use Rattle.volume_laws.specs.Published.{chunk_of, unpublished_in, next_over, is_saved_over, is_clear_over}
use Rattle.volume_laws.specs.Again.{has_chunk}
use Rattle.volume_laws.specs.Due.{DueSnap, books_of}
use Rattle.volume_laws.specs.Waits.{IsSaving, Waits, is_grouped, IsDone}
use Rattle.volume_laws.specs.MergeDue.{DueMerge, is_none, has_group, is_finished, last_of, goes_to, writes_to, is_writing, is_using, is_readable, is_writable, is_copied, can_group, can_read_area, due_with}
use Rattle.volume_laws.specs.MergeWaits.{next_pairs, next_in, IsSavedSoon, MergeGoes, IsQuietMerge}
use Rattle.volume_laws.proofs.Due.{nothing_due}
use Rattle.volume_laws.proofs.Nexts.{next_published}
use Rattle.volume_laws.proofs.Quiet.{all_done, done_chunk, fails_any, all_tried, none_left, unrouted}
use Rattle.volume_laws.proofs.MergeDue.{IsMergeIdle, no_merge_due, nothing_due_with}

pub none_is : {A : Type 0} (xs : List A) → is_none xs ≡ true → xs ≡ []
none_is [] e = refl
none_is (x ∷ xs) e = absurd (false≢true e)

-- a held request goes to no place, and writes to none
held_goes : (place : ℕ) (kind : Kind) → goes_to place kind Held ≡ false
held_goes place OriginRead = refl
held_goes place OriginWrite = refl
held_goes place OriginFlush = refl
held_goes place (SnapRead n) = refl
held_goes place (SnapWrite n) = refl
held_goes place (SnapFlush n) = refl

held_writes : (place : ℕ) (kind : Kind) → writes_to place kind Held ≡ false
held_writes place OriginRead = refl
held_writes place OriginWrite = refl
held_writes place OriginFlush = refl
held_writes place (SnapRead n) = refl
held_writes place (SnapWrite n) = refl
held_writes place (SnapFlush n) = refl

none_using : (pairs : List Pair) (rs : List Flight) → All (λ f. is_issuable f ≡ false) rs → list_any (is_using pairs) rs ≡ false
none_using pairs rs idle = list_any_none (is_using pairs) rs (All-weaker (λ f. is_issuable f ≡ false) (λ f. is_using pairs f ≡ false) one rs idle)
  where
    one : (f : Flight) → is_issuable f ≡ false → is_using pairs f ≡ false
    one f held = list_any_none (λ q. goes_to q.new (kind_of f.request) f.route) pairs
        (λ k d lt. ap (goes_to _ (kind_of f.request)) (unrouted f.route held) ∙ held_goes _ (kind_of f.request))

none_writing : (place : ℕ) (rs : List Flight) → All (λ f. is_issuable f ≡ false) rs → list_any (is_writing place) rs ≡ false
none_writing place rs idle = list_any_none (is_writing place) rs (All-weaker (λ f. is_issuable f ≡ false) (λ f. is_writing place f ≡ false)
    (λ f held. ap (writes_to place (kind_of f.request)) (unrouted f.route held) ∙ held_writes place (kind_of f.request)) rs idle)

-- with nothing left of any snapshot, what is being saved is clear
done_over : (first count : ℕ) (s : SnapBooks) → IsDone s → (s.live ≡ true → IsSaving (next_over first count s) s) → is_saved_over first count s ≡ false → ⊥
done_over first count s done saving e = at s.live refl
  where
    at : (b : Bool) → s.live ≡ b → ⊥
    at false dead = false≢true (sym e ∙ ap (λ b. not b || not (is_some (unpublished_in first count s))) dead)
    at true live =
        let none = next_published first count s (done_chunk s (next_over first count s) done (saving live)) in
        false≢true (sym e ∙ ap (λ b. not b || not (is_some (unpublished_in first count s))) live ∙ ap (λ o. not (is_some o)) none)

pub soon_clear : (snaps : List SnapBooks) (chunk sectors : ℕ) (q : Pair) → All IsDone snaps → IsSavedSoon chunk sectors snaps q → is_clear_over snaps (chunk * q.old) (count_of chunk sectors q.old) ≡ true
soon_clear snaps chunk sectors q done soon = elim (cases_Bool (list_all (is_saved_over (chunk * q.old) (count_of chunk sectors q.old)) snaps)) [
  | inl here ↦ rw (here, all_tried snaps done) refl
  | inr unsaved ↦ (let (k, s, within, is, fails) = fails_any (is_saved_over (chunk * q.old) (count_of chunk sectors q.old)) snaps unsaved in
      absurd (done_over (chunk * q.old) (count_of chunk sectors q.old) s (subst IsDone is (done k s within))
      (subst (λ (x : SnapBooks). x.live ≡ true → IsSaving (next_over (chunk * q.old) (count_of chunk sectors q.old) x) x) is (soon k s within)) fails))
]

-- the lists of a merge that has nothing due, one after another
no_released : (rs : List Flight) (released : List Pair) → All (λ f. is_issuable f ≡ false) rs → (not (is_none released) && not (list_any (is_using released) rs)) ≡ false → released ≡ []
no_released rs [] idle e = refl
no_released rs (q ∷ qs) idle e = absurd (false≢true (sym e ∙ rw (none_using (q ∷ qs) rs idle) refl))

no_reading : (snaps : List SnapBooks) (chunk sectors : ℕ) (reading : List Pair) → All IsDone snaps → ((q : Pair) (pairs : List Pair) → reading ≡ q ∷ pairs → IsSavedSoon chunk sectors snaps q) → is_writable snaps chunk sectors reading ≡ false → reading ≡ []
no_reading snaps chunk sectors [] done soon e = refl
no_reading snaps chunk sectors (q ∷ qs) done soon e = absurd (false≢true (sym e ∙ soon_clear snaps chunk sectors q done (soon q qs refl)))

last_some : (q : Pair) (qs : List Pair) → (p : Pair) × (last_of (q ∷ qs) ≡ Some p)
last_some q [] = (q, refl)
last_some q (p ∷ ps) = last_some p ps

no_waiting : (rs : List Flight) (waiting : List Pair) → All (λ f. is_issuable f ≡ false) rs → is_readable rs (last_of waiting) ≡ false → waiting ≡ []
no_waiting rs [] idle e = refl
no_waiting rs (q ∷ qs) idle e = (let (p, is) = last_some q qs in absurd (false≢true (sym e ∙ ap (is_readable rs) is ∙ ap not (none_writing _ rs idle))))

flushed_or : (copied : List Pair) (flushed : Bool) → (not (is_none copied) && not flushed) ≡ false → (not (is_none copied) && flushed) ≡ false → copied ≡ []
flushed_or [] flushed a b = refl
flushed_or (q ∷ qs) true a b = absurd (false≢true (sym b))
flushed_or (q ∷ qs) false a b = absurd (false≢true (sym a))

-- where a chunk is in the buffer, it is the next
next_full : (m : MergeBooks) (q : Pair) (pairs : List Pair) (P : Pair → Type 0) → m.reading ≡ q ∷ pairs → All P (next_in m) → P q
next_full m q pairs P full all = All-head P q pairs (subst (All P) (ap (λ x. next_pairs x (last_of m.waiting)) full) all)

no_copied : (m : MergeBooks) (flushed : Bool) → m.waiting ≡ [] → m.reading ≡ [] → (is_copied m && not flushed) ≡ false → (is_copied m && flushed) ≡ false → m.copied ≡ []
no_copied m flushed all_read all_written a b =
    let only : is_copied m ≡ not (is_none m.copied) = ap (λ x. is_none x && is_none m.reading && not (is_none m.copied)) all_read ∙ ap (λ x. is_none x && not (is_none m.copied)) all_written in
    flushed_or m.copied flushed (ap (λ x. x && not flushed) (sym only) ∙ a) (ap (λ x. x && flushed) (sym only) ∙ b)

-- no group is formed
pub ungrouped : (m : MergeBooks) → m.waiting ≡ [] → m.reading ≡ [] → m.copied ≡ [] → m.released ≡ [] → group_of m ≡ []
ungrouped m a b c d = ap (λ x. x ++ (m.reading ++ (m.copied ++ m.released))) a ∙ ap (λ x. x ++ (m.copied ++ m.released)) b ∙ ap (λ x. x ++ m.released) c ∙ d

idle_group : (snaps : List SnapBooks) (rs : List Flight) (d : DueMerge) → All (λ f. is_issuable f ≡ false) rs → All IsDone snaps → MergeGoes snaps d → IsMergeIdle snaps rs d → group_of d.books ≡ []
idle_group snaps rs d idle done goes e =
    let m : MergeBooks = d.books in
    let released : m.released ≡ [] = no_released rs d.books.released idle e.released in
    let reading : m.reading ≡ [] = no_reading snaps d.books.chunk d.books.sectors d.books.reading done
    (λ q pairs full. next_full d.books q pairs (IsSavedSoon d.books.chunk d.books.sectors snaps) full goes.next) e.written in
    let waiting : m.waiting ≡ [] = no_waiting rs d.books.waiting idle (ap (λ x. is_none x && is_readable rs (last_of d.books.waiting)) (sym reading) ∙ e.read) in
    ungrouped m waiting reading (no_copied m d.flushed waiting reading e.flushed e.committed) released

-- a merge without a group that has no pair to take up
zero_of : (n : ℕ) → nat_lt 0 n ≡ false → n ≡ 0
zero_of n e = omega (arith, ltb-false 0 n e)

no_slots : (filled current : ℕ) → nat_lt 0 filled ≡ false → (nat_eq filled 0 && nat_lt 0 current) ≡ false → (filled ≡ 0) × (current ≡ 0)
no_slots filled current group area =
    let none : filled ≡ 0 = zero_of filled group in
    (none, zero_of current (ap (λ x. nat_eq x 0 && nat_lt 0 current) (sym none) ∙ area))

finished_of : (m : MergeBooks) → m.pairs ≡ [] → group_of m ≡ [] → is_finished m ≡ true
finished_of m pairs group = ap (λ x. is_none x && not (has_group m)) pairs ∙ ap (λ x. not (not (is_none x))) group

no_pairs : (xs : List Pair) → length xs ≡ 0 → xs ≡ []
no_pairs [] e = refl
no_pairs (x ∷ xs) e = absurd (omega (arith, e))

-- the tests for a new group and a new area, of a merge that runs and has none
running_tests : (d : DueMerge) → d.failed ≡ false → group_of d.books ≡ [] → (can_group d ≡ nat_lt 0 d.filled) × (can_read_area d ≡ (nat_eq d.filled 0 && nat_lt 0 d.current))
running_tests d running group = (
  ap (λ x. not x && not (has_group d.books) && nat_lt 0 d.filled) running ∙ ap (λ x. not (not (is_none x)) && nat_lt 0 d.filled) group,
  ap (λ x. not x && not (has_group d.books) && nat_eq d.filled 0 && nat_lt 0 d.current) running ∙ ap (λ x. not (not (is_none x)) && nat_eq d.filled 0 && nat_lt 0 d.current) group,
)

pub quiet_with : (v : Books) (snaps : List DueSnap) (d : DueMerge) → Waits v → v.merge ≡ Some d.books → map books_of snaps ≡ v.snaps → MergeGoes v.snaps d → due_with snaps v.requests d ≡ None
    → IsQuietMerge v d × ((d.failed ≡ true) ⊎ (is_finished d.books ≡ true))
quiet_with v snaps d h merge shown goes e =
    let none = nothing_due_with snaps v.requests d e in
    let idle = nothing_due snaps v.requests none.0 in
    let done : All IsDone v.snaps = subst (All IsDone) shown (All-map IsDone books_of snaps (all_done snaps v.requests idle)) in
    let still : IsMergeIdle v.snaps v.requests d = subst (λ x. IsMergeIdle x v.requests d) shown (no_merge_due (map books_of snaps) v.requests d none.1) in
    let group : group_of d.books ≡ [] = idle_group v.snaps v.requests d idle.issued done goes still in
    let free : (f : Flight) → is_grouped v.merge f ≡ false = λ f. ap (λ m. is_grouped m f) merge ∙ ap (λ x. has_chunk x (chunk_of d.books.chunk f)) group in (
      record { volume = record { requests = none_left v v.requests idle.issued h.held done free; snaps = done }; group = group },
      at_end d.failed refl group still,
    )
  where
    at_end : (failed : Bool) → d.failed ≡ failed → group_of d.books ≡ [] → IsMergeIdle v.snaps v.requests d → (d.failed ≡ true) ⊎ (is_finished d.books ≡ true)
    at_end true is group still = inl is
    at_end false is group still =
        let tests = running_tests d is group in
        let none = no_slots d.filled d.current (sym tests.0 ∙ still.group) (sym tests.1 ∙ still.area) in
        let empty : length d.books.pairs ≡ 0 * (32 * d.books.chunk) + 0 = goes.area ∙ ap (λ x. x * (32 * d.books.chunk) + d.filled) none.1 ∙ ap (λ x. 0 * (32 * d.books.chunk) + x) none.0 in
        inr (finished_of d.books (no_pairs d.books.pairs (omega (arith, empty))) group)

-- What the test of each event of a merge says.
use Rattle.std.proofs.Common.{◌≡◌, ◌≢◌, inl, inr, ℕ, ◌+◌, ◌-◌, ◌*◌, ◌<◌, ◌≤◌, Bool, true, false, List, [], ◌∷◌, ◌++◌, Option, Some, None, length, get_or, refl, sym, ◌∙◌, ap, arith, nat_eq, length-append, eq-eqb}
use Rattle.std.specs.Prelude.{◌&&◌, not, nat_lt}
use Rattle.std.specs.List.{All, list_any, list_all}
use Rattle.std.proofs.lemmas.Bool.{cases_Bool, false≢true, ltb-true, eqb-true}
use Rattle.std.proofs.lemmas.List.Elements.{All-weaker, All-nil, All-cons}
use Rattle.sector.specs.declared.pair.Pair.{Pair}
use Rattle.plain_machine.specs.declared.event.Event.{Event}
use Rattle.plain_machine.specs.declared.event.Event.TheVariants.{Issue, CopyRead, CopyWrite, ZeroNext, WriteArea, Publish, WriteInvalid, FlushStore, MergeGroup, MergeAreaRead, MergeRead, MergeWrite, MergeFlush, MergeCommit, MergeRelease}
use Rattle.in_flight.specs.Copies.{count_of}
use Rattle.in_flight.specs.Kinds.{kind_of}
use Rattle.in_flight.specs.declared.flights.Flight.{Flight}
use Rattle.in_flight.specs.declared.flights.Kind.{Kind}
use Rattle.in_flight.specs.declared.flights.Kind.TheVariants.{OriginRead, OriginWrite}
use Rattle.in_flight.specs.declared.flights.Route.{Route}
use Rattle.in_flight.specs.declared.flights.Route.TheVariants.{Store}
use Rattle.volume_laws.specs.Books.{SnapBooks, MergeBooks, group_of}
use Rattle.volume_laws.specs.Published.{IsSavedOver, is_saved_over, is_clear_over}
use Rattle.volume_laws.specs.MergeDue.{DueMerge, is_none, has_group, last_of, goes_to, writes_to, is_writing, is_using, is_readable, can_read, is_writable, can_write, is_copied, can_flush, can_commit_group, can_release, can_group, can_read_area, is_finished, is_merge_due, left_in_merge}
use Rattle.volume_laws.specs.MergeWaits.{IsSavedIn, IsStaged, MergeGoes}
use Rattle.volume_laws.proofs.Lists.{All-from_list_any}
use Rattle.volume_laws.proofs.Nexts.{over_saved}
use Rattle.volume_laws.proofs.MergeEvents.{NoWriteTo, GoesElsewhere}
use Rattle.volume_laws.proofs.MergeLeft.{no_group, some_pairs, some_group, some_area, some_kept}
use Rattle.volume_laws.proofs.MergeQuiet.{none_is}

and_true : (a b : Bool) → (a && b) ≡ true → (a ≡ true) × (b ≡ true)
and_true true b e = (refl, e)
and_true false b e = absurd (false≢true e)

not_true : (b : Bool) → not b ≡ true → b ≡ false
not_true true e = absurd (false≢true e)
not_true false e = refl

not_false : (b : Bool) → not b ≡ false → b ≡ true
not_false true e = refl
not_false false e = absurd (false≢true (sym e))

some_is : {A : Type 0} (xs : List A) → is_none xs ≡ false → xs ≢ []
some_is [] e none = false≢true (sym e)
some_is (x ∷ xs) e none = cc

-- MergeGroup, and MergeAreaRead
pub record MayGroup (d : DueMerge) : Type 0 where
  pub running : d.failed ≡ false
  pub none : group_of d.books ≡ []
  pub some : 0 < d.filled

pub group_test : (d : DueMerge) → can_group d ≡ true → MayGroup d
group_test d e =
    let a = and_true (not d.failed && not (has_group d.books)) (nat_lt 0 d.filled) e in
    let b = and_true (not d.failed) (not (has_group d.books)) a.0 in
    record { running = not_true d.failed b.0; none = none_is (group_of d.books) (not_false (is_none (group_of d.books)) (not_true (has_group d.books) b.1)); some = ltb-true 0 d.filled a.1 }

pub record MayReadArea (d : DueMerge) : Type 0 where
  pub running : d.failed ≡ false
  pub none : group_of d.books ≡ []
  pub empty : d.filled ≡ 0
  pub before : 0 < d.current

pub area_test : (d : DueMerge) → can_read_area d ≡ true → MayReadArea d
area_test d e =
    let a = and_true (not d.failed && not (has_group d.books) && nat_eq d.filled 0) (nat_lt 0 d.current) e in
    let b = and_true (not d.failed && not (has_group d.books)) (nat_eq d.filled 0) a.0 in
    let c = and_true (not d.failed) (not (has_group d.books)) b.0 in
    record {
      running = not_true d.failed c.0;
      none = none_is (group_of d.books) (not_false (is_none (group_of d.books)) (not_true (has_group d.books) c.1));
      empty = eqb-true d.filled 0 b.1;
      before = ltb-true 0 d.current a.1;
    }

-- a request that writes to no place, by the test
no_write : (place : ℕ) (kind : Kind) (route : Route) → writes_to place kind route ≡ false → kind ≡ OriginWrite → route ≢ Store place
no_write place kind route e is to = false≢true (sym e ∙ ap (λ k. writes_to place k route) is ∙ ap (writes_to place OriginWrite) to ∙ eq-eqb place place refl)

-- a list with a last pair ends with it
pub last_is : (pairs : List Pair) (q : Pair) → last_of pairs ≡ Some q → (rest : List Pair) × (pairs ≡ rest ++ q ∷ [])
last_is [] q e = cc
last_is (p ∷ []) q e = ([], (let same : p ≡ q = cc in ap (λ x. x ∷ []) same))
last_is (p ∷ r ∷ pairs) q e = (let h = last_is (r ∷ pairs) q e in (p ∷ h.0, ap (λ x. p ∷ x) h.1))

-- MergeRead
pub record MayRead (rs : List Flight) (rest : List Pair) (q : Pair) (m : MergeBooks) : Type 0 where
  pub last : m.waiting ≡ rest ++ q ∷ []
  pub empty : m.reading ≡ []
  pub quiet : All (NoWriteTo q.new) rs

readable : (rs : List Flight) (last : Option Pair) → is_readable rs last ≡ true → (q : Pair) × (last ≡ Some q) × (list_any (is_writing q.new) rs ≡ false)
readable rs None e = absurd (false≢true e)
readable rs (Some q) e = (q, refl, not_true (list_any (is_writing q.new) rs) e)

pub read_test : (rs : List Flight) (m : MergeBooks) → can_read rs m ≡ true → (rest : List Pair) × (q : Pair) × MayRead rs rest q m
read_test rs m e =
    let a = and_true (is_none m.reading) (is_readable rs (last_of m.waiting)) e in
    let (q, is, free) = readable rs (last_of m.waiting) a.1 in
    let (rest, ends) = last_is m.waiting q is in (
      rest,
      q,
      record {
        last = ends;
        empty = none_is m.reading a.0;
        quiet = All-weaker (λ f. is_writing q.new f ≡ false) (NoWriteTo q.new) (λ f none. no_write q.new (kind_of f.request) f.route none) rs (All-from_list_any (is_writing q.new) rs free);
      },
    )

-- where all snapshots pass a test, each does
each_passes : (test : SnapBooks → Bool) (snaps : List SnapBooks) → list_all test snaps ≡ true → All (λ s. test s ≡ true) snaps
each_passes test [] e = All-nil (λ s. test s ≡ true)
each_passes test (s ∷ snaps) e = (let both = and_true (test s) (list_all test snaps) e in All-cons (λ x. test x ≡ true) s snaps both.0 (each_passes test snaps both.1))

clear_over : (snaps : List SnapBooks) (first count : ℕ) → is_clear_over snaps first count ≡ true → All (λ s. s.live ≡ true → 0 < s.chunk) snaps → All (IsSavedOver first count) snaps
clear_over snaps first count e some k d lt =
    let all = each_passes (is_saved_over first count) snaps (and_true (list_all (is_saved_over first count) snaps) (not (list_any (λ s. s.untried) snaps)) e).0 in
    over_saved first count (get_or snaps k d) (some k d lt) (all k d lt)

-- MergeWrite: each live snapshot has published all chunks that the buffered one touches
pub record MayWrite (snaps : List SnapBooks) (q : Pair) (m : MergeBooks) : Type 0 where
  pub full : m.reading ≡ q ∷ []
  pub clear : is_clear_over snaps (m.chunk * q.old) (count_of m.chunk m.sectors q.old) ≡ true
  pub published : All (λ s. s.live ≡ true → 0 < s.chunk) snaps → IsSavedIn m.chunk m.sectors snaps q

pub write_test : (snaps : List SnapBooks) (d : DueMerge) → IsStaged d → can_write snaps d.books ≡ true → (q : Pair) × MayWrite snaps q d.books
write_test snaps d h e = at d.books.reading refl
  where
    at : (reading : List Pair) → d.books.reading ≡ reading → (q : Pair) × MayWrite snaps q d.books
    at [] is = absurd (false≢true (sym (ap (is_writable snaps d.books.chunk d.books.sectors) is) ∙ e))
    at (q ∷ []) is = (let clear : is_clear_over snaps (d.books.chunk * q.old) (count_of d.books.chunk d.books.sectors q.old) ≡ true = sym (ap (is_writable snaps d.books.chunk d.books.sectors) is) ∙ e in
        (q, record { full = is; clear = clear; published = clear_over snaps (d.books.chunk * q.old) (count_of d.books.chunk d.books.sectors q.old) clear }))
    at (q ∷ r ∷ rest) is = absurd (omega (arith, ap length is, h.one))

-- MergeFlush, and MergeCommit
pub record IsAllCopied (m : MergeBooks) : Type 0 where
  pub all_read : m.waiting ≡ []
  pub all_written : m.reading ≡ []
  pub some : m.copied ≢ []

copied_test : (m : MergeBooks) → is_copied m ≡ true → IsAllCopied m
copied_test m e =
    let a = and_true (is_none m.waiting && is_none m.reading) (not (is_none m.copied)) e in
    let b = and_true (is_none m.waiting) (is_none m.reading) a.0 in
    record { all_read = none_is m.waiting b.0; all_written = none_is m.reading b.1; some = some_is m.copied (not_true (is_none m.copied) a.1) }

pub flush_test : (d : DueMerge) → can_flush d ≡ true → IsAllCopied d.books × (d.flushed ≡ false)
flush_test d e = (let a = and_true (is_copied d.books) (not d.flushed) e in (copied_test d.books a.0, not_true d.flushed a.1))

pub commit_test : (d : DueMerge) → can_commit_group d ≡ true → IsAllCopied d.books × (d.flushed ≡ true)
commit_test d e = (let a = and_true (is_copied d.books) d.flushed e in (copied_test d.books a.0, a.1))

-- MergeRelease
pub record MayRelease (rs : List Flight) (m : MergeBooks) : Type 0 where
  pub some : m.released ≢ []
  pub elsewhere : All (GoesElsewhere m.released) rs

elsewhere_of : (pairs : List Pair) (f : Flight) → is_using pairs f ≡ false → GoesElsewhere pairs f
elsewhere_of pairs f e =
    let all = All-from_list_any (λ (q : Pair). goes_to q.new (kind_of f.request) f.route) pairs e in
    record {
      read = λ place kind route. All-weaker (λ (q : Pair). goes_to q.new (kind_of f.request) f.route ≡ false) (λ (q : Pair). q.new ≢ place)
          (λ q none same. false≢true (sym none ∙ ap (λ k. goes_to q.new k f.route) kind ∙ ap (goes_to q.new OriginRead) route ∙ eq-eqb place q.new (sym same))) pairs all;
      write = λ place kind route. All-weaker (λ (q : Pair). goes_to q.new (kind_of f.request) f.route ≡ false) (λ (q : Pair). q.new ≢ place)
          (λ q none same. false≢true (sym none ∙ ap (λ k. goes_to q.new k f.route) kind ∙ ap (goes_to q.new OriginWrite) route ∙ eq-eqb place q.new (sym same))) pairs all;
    }

pub release_test : (rs : List Flight) (m : MergeBooks) → can_release rs m ≡ true → MayRelease rs m
release_test rs m e =
    let a = and_true (not (is_none m.released)) (not (list_any (is_using m.released) rs)) e in
    record {
      some = some_is m.released (not_true (is_none m.released) a.0);
      elsewhere = All-weaker (λ f. is_using m.released f ≡ false) (GoesElsewhere m.released) (elsewhere_of m.released) rs (All-from_list_any (is_using m.released) rs (not_true (list_any (is_using m.released) rs) a.1));
    }

-- a finished merge has no pair and no group
pub finished_test : (m : MergeBooks) → is_finished m ≡ true → (m.pairs ≡ []) × (group_of m ≡ [])
finished_test m e =
    let a = and_true (is_none m.pairs) (not (has_group m)) e in
    (none_is m.pairs a.0, none_is (group_of m) (not_false (is_none (group_of m)) (not_true (has_group m) a.1)))

-- Something is left of a merge whose event is due, and it has not failed.
pub record IsGoing (d : DueMerge) : Type 0 where
  pub running : d.failed ≡ false
  pub some : 0 < left_in_merge d

going_group : (d : DueMerge) → IsStaged d → 0 < length d.books.waiting + (length d.books.reading + (length d.books.copied + length d.books.released)) → IsGoing d
going_group d h some = record { running = running; some = some_group d running full }
  where
    full : group_of d.books ≢ []
    full none =
        let u = no_group d.books none in
        omega (arith, some, ap length u.waiting, ap length u.reading, ap length u.copied, ap length u.released)

    running : d.failed ≡ false
    running = elim (cases_Bool d.failed) [
      | inl failed ↦ absurd (full (h.none failed))
      | inr runs ↦ runs
    ]

going_copied : (d : DueMerge) → IsStaged d → IsAllCopied d.books → IsGoing d
going_copied d h e = going_group d h (omega (arith, some_pairs d.books.copied e.some))

going_new : (snaps : List SnapBooks) (d : DueMerge) → MergeGoes snaps d → MayGroup d → IsGoing d
going_new snaps d h e = record { running = e.running; some = some_kept d e.running e.none (omega (arith, h.area, e.some)) }

-- where an event of a merge is due
pub due_going : (snaps : List SnapBooks) (rs : List Flight) (d : DueMerge) (e : Event) → MergeGoes snaps d → is_merge_due snaps rs d e ≡ true → IsGoing d
due_going snaps rs d MergeRelease h e = going_group d h.staged (omega (arith, some_pairs d.books.released (release_test rs d.books e).some))
due_going snaps rs d MergeCommit h e = going_copied d h.staged (commit_test d e).0
due_going snaps rs d MergeFlush h e = going_copied d h.staged (flush_test d e).0
due_going snaps rs d MergeWrite h e = (let (q, may) = write_test snaps d h.staged e in going_group d h.staged (omega (arith, ap length may.full)))
due_going snaps rs d MergeRead h e = (let (rest, q, may) = read_test rs d.books e in going_group d h.staged (omega (arith, ap length may.last, length-append rest (q ∷ []))))
due_going snaps rs d MergeAreaRead h e = (let may = area_test d e in record { running = may.running; some = some_area d may.running may.before })
due_going snaps rs d MergeGroup h e = going_new snaps d h (group_test d e)
due_going snaps rs d (Issue n) h e = absurd (false≢true e)
due_going snaps rs d (CopyRead n) h e = absurd (false≢true e)
due_going snaps rs d (CopyWrite n) h e = absurd (false≢true e)
due_going snaps rs d (ZeroNext n) h e = absurd (false≢true e)
due_going snaps rs d (WriteArea n) h e = absurd (false≢true e)
due_going snaps rs d (Publish n) h e = absurd (false≢true e)
due_going snaps rs d (WriteInvalid n) h e = absurd (false≢true e)
due_going snaps rs d (FlushStore n) h e = absurd (false≢true e)

-- Pairs are left where an event of a merge is due, but for the release of a committed group: so a merge that fails is not
-- finished.
pairs_count : (snaps : List SnapBooks) (d : DueMerge) → MergeGoes snaps d → length d.books.waiting + (length d.books.reading + length d.books.copied) ≤ length d.books.pairs
pairs_count snaps d h =
    let all : length d.books.pairs ≡ length h.ending.0 + length (d.books.waiting ++ (d.books.reading ++ d.books.copied)) = ap length h.ending.1 ∙ length-append h.ending.0 (d.books.waiting ++ (d.books.reading ++ d.books.copied)) in
    omega (arith, all, length-append d.books.waiting (d.books.reading ++ d.books.copied), length-append d.books.reading d.books.copied)

below_area : (current width : ℕ) → 0 < current → 0 < width → 0 < current * width
below_area current width some wide = (let one : current ≡ current - 1 + 1 = omega arith in let more : (current - 1 + 1) * width ≡ (current - 1) * width + width = grind arith in omega (arith, ap (λ n. n * width) one, more, wide))

pub due_some : (snaps : List SnapBooks) (rs : List Flight) (d : DueMerge) (e : Event) → MergeGoes snaps d → 0 < d.books.chunk → e ≢ MergeRelease → is_merge_due snaps rs d e ≡ true → 0 < length d.books.pairs
due_some snaps rs d MergeRelease h chunk other e = absurd (other refl)
due_some snaps rs d MergeCommit h chunk other e = omega (arith, pairs_count snaps d h, some_pairs d.books.copied (commit_test d e).0.some)
due_some snaps rs d MergeFlush h chunk other e = omega (arith, pairs_count snaps d h, some_pairs d.books.copied (flush_test d e).0.some)
due_some snaps rs d MergeWrite h chunk other e = (let (q, may) = write_test snaps d h.staged e in omega (arith, pairs_count snaps d h, ap length may.full))
due_some snaps rs d MergeRead h chunk other e = (let (rest, q, may) = read_test rs d.books e in omega (arith, pairs_count snaps d h, ap length may.last, length-append rest (q ∷ [])))
due_some snaps rs d MergeAreaRead h chunk other e = omega (arith, h.area, below_area d.current (32 * d.books.chunk) (area_test d e).before (omega (arith, chunk)))
due_some snaps rs d MergeGroup h chunk other e = omega (arith, h.area, (group_test d e).some)
due_some snaps rs d (Issue n) h chunk other e = absurd (false≢true e)
due_some snaps rs d (CopyRead n) h chunk other e = absurd (false≢true e)
due_some snaps rs d (CopyWrite n) h chunk other e = absurd (false≢true e)
due_some snaps rs d (ZeroNext n) h chunk other e = absurd (false≢true e)
due_some snaps rs d (WriteArea n) h chunk other e = absurd (false≢true e)
due_some snaps rs d (Publish n) h chunk other e = absurd (false≢true e)
due_some snaps rs d (WriteInvalid n) h chunk other e = absurd (false≢true e)
due_some snaps rs d (FlushStore n) h chunk other e = absurd (false≢true e)

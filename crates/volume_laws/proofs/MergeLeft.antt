-- Every event of a merge lowers the whole number of what is left of it.
use Rattle.std.proofs.Common.{◌≡◌, ◌≢◌, ℕ, ◌+◌, ◌*◌, ◌<◌, ◌≤◌, Bool, true, false, List, [], ◌∷◌, ◌++◌, length, refl, sym, ◌∙◌, ap, arith, get_or, set, length-append, if◌then◌else◌}
use Rattle.std.specs.Prelude.{sum_by}
use Rattle.std.proofs.lemmas.List.{nil_from_length}
use Rattle.std.proofs.lemmas.List.Sums.{sum_by-set, sum_by_push}
use Rattle.sector.specs.declared.pair.Pair.{Pair}
use Rattle.in_flight.specs.declared.copies.ChunkCopy.{ChunkCopy}
use Rattle.in_flight.specs.declared.flights.Flight.{Flight}
use Rattle.volume_laws.specs.Books.{MergeBooks, group_of}
use Rattle.volume_laws.specs.Steps.{StartsCopy, SpoilsSnap}
use Rattle.volume_laws.specs.Due.{DueSnap, steps_at, steps_of, steps_of_mark, left_in, left_of}
use Rattle.volume_laws.specs.MergeDue.{DueMerge, per_copy, weight_of, left_in_merge}
use Rattle.volume_laws.specs.MergeWaits.{IsStaged}
use Rattle.volume_laws.specs.MergeSteps.{FormsGroup, ReadsBack, WritesBack, FlushesBack, CommitsGroup, ReleasesGroup, without_group, ReadsArea, FailsMerge, WritesStore}
use Rattle.volume_laws.proofs.Left.{invalid_same, area_same, spoiled_few}
use Rattle.volume_laws.proofs.MergeEvents.{IsUngrouped}

-- no group: each of its lists is empty
pub no_group : (m : MergeBooks) → group_of m ≡ [] → IsUngrouped m
no_group m e =
    let all : length m.waiting + (length m.reading + (length m.copied + length m.released)) ≡ 0 = sym (lengths m.waiting m.reading m.copied m.released) ∙ ap length e in
    record {
      waiting = nil_from_length m.waiting (omega (arith, all));
      reading = nil_from_length m.reading (omega (arith, all));
      copied = nil_from_length m.copied (omega (arith, all));
      released = nil_from_length m.released (omega (arith, all));
    }
  where
    lengths : (a b c d : List Pair) → length (a ++ (b ++ (c ++ d))) ≡ length a + (length b + (length c + length d))
    lengths a b c d = omega (arith, length-append a (b ++ (c ++ d)), length-append b (c ++ d), length-append c d)

pub some_pairs : (xs : List Pair) → xs ≢ [] → 0 < length xs
some_pairs [] some = absurd (some refl)
some_pairs (x ∷ xs) some = omega arith

-- what is left of a merge that runs
abbrev unflushed : Bool → ℕ
unflushed b = if b then 0 else 1

unflushed_le : (b : Bool) → unflushed b ≤ 1
unflushed_le true = omega arith
unflushed_le false = omega arith

left_running : (d : DueMerge) → d.failed ≡ false → left_in_merge d ≡ weight_of d.books + unflushed d.flushed + 2 * d.current
left_running d e = ap (λ x. if x then 0 else weight_of d.books + unflushed d.flushed + 2 * d.current) e

left_failed : (d : DueMerge) → d.failed ≡ true → left_in_merge d ≡ 0
left_failed d e = ap (λ x. if x then 0 else weight_of d.books + unflushed d.flushed + 2 * d.current) e

-- MergeGroup
pub group_left : (kept group : List Pair) (d d' : DueMerge) → FormsGroup kept group d d' → left_in_merge d' < left_in_merge d
group_left kept group d d' e =
    let before = left_running d e.running in
    let after = left_running d' e.failed in
    let none = no_group d.books e.none in
    let w : weight_of d'.books ≡ weight_of (record d.books { waiting = group }) = ap weight_of e.books in
    let all : length d.books.pairs ≡ length kept + length group = ap length e.ends ∙ length-append kept group in
    let a : length d.books.waiting ≡ 0 = ap length none.waiting in
    let b : length d.books.reading ≡ 0 = ap length none.reading in
    let c : length d.books.copied ≡ 0 = ap length none.copied in
    let some = some_pairs group e.some in
    let one = unflushed_le d'.flushed in
    omega (arith, before, after, w, all, a, b, c, some, one, e.current)

-- MergeRead
pub read_left : (rest : List Pair) (q : Pair) (bytes : List ℕ) (d d' : DueMerge) → ReadsBack rest q bytes d d' → left_in_merge d' < left_in_merge d
read_left rest q bytes d d' e =
    let before = left_running d e.running in
    let after = left_running d' e.failed in
    let w : weight_of d'.books ≡ weight_of (record d.books { waiting = rest; reading = q ∷ []; buffer = bytes }) = ap weight_of e.books in
    let a : length d.books.waiting ≡ length rest + 1 = ap length e.last ∙ length-append rest (q ∷ []) in
    let b : length d.books.reading ≡ 0 = ap length e.empty in
    let one = unflushed_le d'.flushed in
    omega (arith, before, after, w, a, b, one, e.current)

-- MergeWrite
pub write_left : (q : Pair) (d d' : DueMerge) → WritesBack q d d' → left_in_merge d' < left_in_merge d
write_left q d d' e =
    let before = left_running d e.running in
    let after = left_running d' e.failed in
    let w : weight_of d'.books ≡ weight_of (record d.books { reading = []; copied = q ∷ d.books.copied }) = ap weight_of e.books in
    let b : length d.books.reading ≡ 1 = ap length e.full in
    let one = unflushed_le d'.flushed in
    omega (arith, before, after, w, b, one, e.current)

-- MergeFlush
pub flush_left : (d d' : DueMerge) → FlushesBack d d' → left_in_merge d' < left_in_merge d
flush_left d d' e =
    let before = left_running d e.running in
    let after = left_running d' e.failed in
    let w : weight_of d'.books ≡ weight_of d.books = ap weight_of e.books in
    let a : unflushed d.flushed ≡ 1 = ap unflushed e.was in
    let b : unflushed d'.flushed ≡ 0 = ap unflushed e.flushed in
    omega (arith, before, after, w, a, b, e.current)

-- MergeCommit
pub merge_commit_left : (kept : List Pair) (store : List ℕ) (d d' : DueMerge) → CommitsGroup kept store d d' → left_in_merge d' < left_in_merge d
merge_commit_left kept store d d' e =
    let before = left_running d e.running in
    let after = left_running d' e.failed in
    let w : weight_of d'.books ≡ weight_of (record d.books { store = store; pairs = kept; copied = []; released = d.books.copied ++ d.books.released }) = ap weight_of e.books in
    let all : length d.books.pairs ≡ length kept + length d.books.copied = ap length e.ends ∙ length-append kept d.books.copied in
    let more : length (d.books.copied ++ d.books.released) ≡ length d.books.copied + length d.books.released = length-append d.books.copied d.books.released in
    let a : length d.books.waiting ≡ 0 = ap length e.all_read in
    let b : length d.books.reading ≡ 0 = ap length e.all_written in
    let some = some_pairs d.books.copied e.some in
    let one = unflushed_le d'.flushed in
    omega (arith, before, after, w, all, more, a, b, some, one, e.current)

-- MergeRelease
pub release_left : (d d' : DueMerge) → IsStaged d → ReleasesGroup d d' → left_in_merge d' < left_in_merge d
release_left d d' h e =
    let before = left_running d e.running in
    let after = left_running d' e.failed in
    let w : weight_of d'.books ≡ weight_of (without_group d.books) = ap weight_of e.books in
    let a : length d.books.waiting ≡ 0 = ap length (h.over e.some) in
    let b : length d.books.reading ≡ 0 = ap length (h.out e.some) in
    let c : length d.books.copied ≡ 0 = ap length (h.copied e.some) in
    let some = some_pairs d.books.released e.some in
    let one = unflushed_le d'.flushed in
    omega (arith, before, after, w, a, b, c, some, one, e.current)

-- MergeAreaRead
pub area_left : (d d' : DueMerge) → ReadsArea d d' → left_in_merge d' < left_in_merge d
area_left d d' e =
    let before = left_running d e.running in
    let after = left_running d' e.failed in
    let w : weight_of d'.books ≡ weight_of d.books = ap weight_of e.books in
    let one = unflushed_le d'.flushed in
    omega (arith, before, after, w, one, e.current, e.before)

-- an origin write at its chunk's place
pub stored_left : (store : List ℕ) (d d' : DueMerge) → WritesStore store d d' → left_in_merge d' ≡ left_in_merge d
stored_left store d d' e =
    ap (λ b. if b then 0 else weight_of d'.books + unflushed d'.flushed + 2 * d'.current) e.failed
    ∙ ap (λ m. if d.failed then 0 else weight_of m + unflushed d'.flushed + 2 * d'.current) e.books
    ∙ ap (λ b. if d.failed then 0 else weight_of d.books + unflushed b + 2 * d'.current) e.flushed
    ∙ ap (λ n. if d.failed then 0 else weight_of d.books + unflushed d.flushed + 2 * n) e.current

-- a fault, where something was left
pub fail_left : (d d' : DueMerge) → FailsMerge d d' → 0 < left_in_merge d → left_in_merge d' < left_in_merge d
fail_left d d' e some = omega (arith, left_failed d' e.failed, some)

-- something is left of a group, and before an area that is not the first
pub some_group : (d : DueMerge) → d.failed ≡ false → group_of d.books ≢ [] → 0 < left_in_merge d
some_group d running some =
    let before = left_running d running in
    let all = length-append d.books.waiting (d.books.reading ++ (d.books.copied ++ d.books.released)) in
    let more = length-append d.books.reading (d.books.copied ++ d.books.released) in
    let rest = length-append d.books.copied d.books.released in
    let group = some_pairs (group_of d.books) some in
    omega (arith, before, all, more, rest, group)

pub some_kept : (d : DueMerge) → d.failed ≡ false → group_of d.books ≡ [] → 0 < length d.books.pairs → 0 < left_in_merge d
some_kept d running none some =
    let u = no_group d.books none in
    omega (arith, left_running d running, ap length u.waiting, ap length u.reading, ap length u.copied, some)

pub some_area : (d : DueMerge) → d.failed ≡ false → 0 < d.current → 0 < left_in_merge d
some_area d running some = omega (arith, left_running d running, some)

-- a copy that is started, and a snapshot that is spoiled
pub start_left : (p : ChunkCopy) (s s' : DueSnap) → StartsCopy p s.books s'.books → s'.zeroed ≡ s.zeroed → s'.firm ≡ s.firm → left_in s' ≡ left_in s + per_copy
start_left p s s' e zeroed firm =
    let invalid = invalid_same s.books s'.books e.same.untried e.same.marked in
    let area = area_same s s' e.same.live zeroed firm in
    let here : steps_of p ≡ per_copy = ap steps_at e.stage in
    let copies : sum_by steps_of s'.books.copies ≡ sum_by steps_of s.books.copies + per_copy =
    ap (sum_by steps_of) e.copies ∙ sum_by_push steps_of s.books.copies p ∙ ap (λ n. sum_by steps_of s.books.copies + n) here in
    let marks : sum_by steps_of_mark s'.books.marks ≡ sum_by steps_of_mark s.books.marks = ap (sum_by steps_of_mark) e.marks in
    omega (arith, invalid, area, copies, marks)

pub spoiled_left : (s s' : DueSnap) → SpoilsSnap s.books s'.books → left_in s' ≤ left_in s + 2
spoiled_left s s' e = omega (arith, spoiled_few s s' e)

-- one snapshot's number rises by so much at most, and so does the whole
pub one_more : (n : ℕ) (snaps : List DueSnap) (k : ℕ) (s s' : DueSnap) (rs : List Flight) → k < length snaps → s ≡ get_or snaps k s → left_in s' ≤ left_in s + n → left_of (set snaps k s') rs ≤ left_of snaps rs + n
one_more n snaps k s s' rs within is more =
    let e = sum_by-set left_in snaps k s' s within in
    let at : left_in (get_or snaps k s) ≡ left_in s = ap left_in (sym is) in
    omega (arith, e, at, more)

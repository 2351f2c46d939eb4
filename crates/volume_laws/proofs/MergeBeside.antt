-- How many chunks the other snapshots lack of those that a merge's pairs touch: no event makes them more, and the start of a
-- copy makes them fewer by one at least, which pays for what that copy needs.
use Rattle.std.proofs.Common.{◌≡◌, ℕ, ◌+◌, ◌*◌, ◌<◌, ◌≤◌, Bool, true, false, List, [], ◌∷◌, ◌++◌, length, get_or, set, map, refl, ◌∙◌, ap, arith, suc, inl, inr, if◌then◌else◌}
use Rattle.std.specs.Prelude.{sum_by, count_by, reverse}
use Rattle.std.proofs.lemmas.Bool.{cases_Bool}
use Rattle.std.proofs.lemmas.List.Sums.{sum_by-cons, sum_by-append}
use Rattle.sector.specs.declared.pair.Pair.{Pair}
use Rattle.in_flight.specs.Copies.{count_of}
use Rattle.in_flight.specs.declared.copies.ChunkCopy.{ChunkCopy}
use Rattle.in_flight.specs.declared.flights.Flight.{Flight}
use Rattle.volume_laws.specs.Books.{SnapBooks, MergeBooks}
use Rattle.volume_laws.specs.Published.{next_over}
use Rattle.volume_laws.specs.Touched.{lacks_chunk, touched_by}
use Rattle.volume_laws.specs.Steps.{StartsCopy, SpoilsSnap}
use Rattle.volume_laws.specs.Due.{DueSnap, books_of, left_in, weight_of}
use Rattle.volume_laws.specs.MergeDue.{DueMerge, per_copy, lacking_of, lacking_in, left_in_merge, left_beside, left_with}
use Rattle.volume_laws.specs.MergeSteps.{CommitsGroup}
use Rattle.volume_laws.specs.MergeRooms.{ComesNext}
use Rattle.volume_laws.proofs.MergeSaved.{KeepsSaved, KeepsAll, keeps_all_set}
use Rattle.volume_laws.proofs.MergeLeft.{start_left, spoiled_left}
use Rattle.volume_laws.proofs.MergeRooms.{count_le, count_some, one_if, lacks_still, started_fewer}
use Rattle.volume_laws.proofs.MergeRoomSteps.{wanted_is, touched_append}

lacking_live : (chunk sectors : ℕ) (pairs : List Pair) (s : SnapBooks) → s.live ≡ true → lacking_of chunk sectors pairs s ≡ count_by (λ c. lacks_chunk c s) (touched_by s.chunk chunk sectors pairs)
lacking_live chunk sectors pairs s live = ap (λ b. if b then count_by (λ c. lacks_chunk c s) (touched_by s.chunk chunk sectors pairs) else 0) live

lacking_dead : (chunk sectors : ℕ) (pairs : List Pair) (s : SnapBooks) → s.live ≡ false → lacking_of chunk sectors pairs s ≡ 0
lacking_dead chunk sectors pairs s dead = ap (λ b. if b then count_by (λ c. lacks_chunk c s) (touched_by s.chunk chunk sectors pairs) else 0) dead

-- an event of one snapshot
pub lacking_kept : (chunk sectors : ℕ) (pairs : List Pair) (s s' : SnapBooks) → KeepsSaved s s' → lacking_of chunk sectors pairs s' ≤ lacking_of chunk sectors pairs s
lacking_kept chunk sectors pairs s s' keeps = elim (cases_Bool s'.live) [
  | inr dead ↦ omega (arith, lacking_dead chunk sectors pairs s' dead)
  | inl live ↦ (let few : count_by (λ c. lacks_chunk c s') (touched_by s'.chunk chunk sectors pairs) ≤ count_by (λ c. lacks_chunk c s) (touched_by s'.chunk chunk sectors pairs) =
      count_le (λ c. lacks_chunk c s') (λ c. lacks_chunk c s) (touched_by s'.chunk chunk sectors pairs) (lacks_still s s' keeps live) in
      let same : count_by (λ c. lacks_chunk c s) (touched_by s'.chunk chunk sectors pairs) ≡ count_by (λ c. lacks_chunk c s) (touched_by s.chunk chunk sectors pairs) =
      ap (λ n. count_by (λ c. lacks_chunk c s) (touched_by n chunk sectors pairs)) (keeps.chunk live) in
      omega (arith, few, same, lacking_live chunk sectors pairs s' live, lacking_live chunk sectors pairs s (keeps.live live)))
]

-- what a snapshot has left, with what the copies need that the merge is to start in it
abbrev pub weigh : ℕ → ℕ → List Pair → DueSnap → ℕ
weigh chunk sectors pairs s = left_in s + per_copy * lacking_of chunk sectors pairs s.books

-- The copy of the chunk that is wanted is started, or the snapshot is full and is spoiled: no more is left.
module _ (chunk sectors : ℕ) (pairs : List Pair) (snaps : List SnapBooks) (q : Pair) (next : ComesNext chunk sectors pairs snaps q) (s s' : DueSnap) (live : s.books.live ≡ true) (some : 0 < s.books.chunk)
    (lacks : lacks_chunk (next_over (chunk * q.old) (count_of chunk sectors q.old) s.books) s.books ≡ true) where
  pub start_weighs : (p : ChunkCopy) → StartsCopy p s.books s'.books → p.pair.old ≡ next_over (chunk * q.old) (count_of chunk sectors q.old) s.books → s'.zeroed ≡ s.zeroed → s'.firm ≡ s.firm → weigh chunk sectors pairs s' ≤ weigh chunk sectors pairs s
  start_weighs p e old zeroed firm =
      let at = wanted_is chunk sectors pairs snaps q next s.books some lacks in
      let fewer = started_fewer at.front (next_over (chunk * q.old) (count_of chunk sectors q.old) s.books) (reverse at.lower ++ touched_by s.books.chunk chunk sectors next.back) p s.books s'.books e old lacks in
      let before : count_by (λ x. lacks_chunk x s.books) (touched_by s.books.chunk chunk sectors pairs) ≡ count_by (λ x. lacks_chunk x s.books) (at.front ++ next_over (chunk * q.old) (count_of chunk sectors q.old) s.books ∷ (reverse at.lower ++ touched_by s.books.chunk chunk sectors next.back)) =
      ap (count_by (λ x. lacks_chunk x s.books)) at.is in
      let after : count_by (λ x. lacks_chunk x s'.books) (touched_by s'.books.chunk chunk sectors pairs) ≡ count_by (λ x. lacks_chunk x s'.books) (at.front ++ next_over (chunk * q.old) (count_of chunk sectors q.old) s.books ∷ (reverse at.lower ++ touched_by s.books.chunk chunk sectors next.back)) =
      ap (λ n. count_by (λ x. lacks_chunk x s'.books) (touched_by n chunk sectors pairs)) e.same.chunk ∙ ap (count_by (λ x. lacks_chunk x s'.books)) at.is in
      let left = start_left p s s' e zeroed firm in
      omega (arith, fewer, before, after, left, lacking_live chunk sectors pairs s.books live, lacking_live chunk sectors pairs s'.books (e.same.live ∙ live))

  pub some_lacking : 1 ≤ lacking_of chunk sectors pairs s.books
  some_lacking =
      let at = wanted_is chunk sectors pairs snaps q next s.books some lacks in
      let one = count_some (λ x. lacks_chunk x s.books) at.front (next_over (chunk * q.old) (count_of chunk sectors q.old) s.books) (reverse at.lower ++ touched_by s.books.chunk chunk sectors next.back) lacks in
      let before : count_by (λ x. lacks_chunk x s.books) (touched_by s.books.chunk chunk sectors pairs) ≡ count_by (λ x. lacks_chunk x s.books) (at.front ++ next_over (chunk * q.old) (count_of chunk sectors q.old) s.books ∷ (reverse at.lower ++ touched_by s.books.chunk chunk sectors next.back)) =
      ap (count_by (λ x. lacks_chunk x s.books)) at.is in
      omega (arith, one, before, lacking_live chunk sectors pairs s.books live)

  pub spoil_weighs : SpoilsSnap s.books s'.books → weigh chunk sectors pairs s' ≤ weigh chunk sectors pairs s
  spoil_weighs e = omega (arith, spoiled_left s s' e, some_lacking, lacking_dead chunk sectors pairs s'.books e.live)

-- in all snapshots
pub weigh_sum : (chunk sectors : ℕ) (pairs : List Pair) (snaps : List DueSnap) → sum_by (weigh chunk sectors pairs) snaps ≡ sum_by left_in snaps + per_copy * sum_by (lacking_of chunk sectors pairs) (map books_of snaps)
weigh_sum chunk sectors pairs [] = refl
weigh_sum chunk sectors pairs (s ∷ snaps) =
    let rest = weigh_sum chunk sectors pairs snaps in
    let a = sum_by-cons (weigh chunk sectors pairs) s snaps in
    let b = sum_by-cons left_in s snaps in
    let c = sum_by-cons (lacking_of chunk sectors pairs) s.books (map books_of snaps) in
    omega (arith, rest, a, b, c)

-- of a whole volume whose merge has not failed
pub left_weighed : (snaps : List DueSnap) (rs : List Flight) (d : DueMerge) → d.failed ≡ false → left_with snaps rs d ≡ sum_by (weigh d.books.chunk d.books.sectors d.books.pairs) snaps + sum_by weight_of rs + left_in_merge d
left_weighed snaps rs d running =
    let beside : left_beside (map books_of snaps) d ≡ per_copy * sum_by (lacking_in d.books) (map books_of snaps) = ap (λ b. if b then 0 else per_copy * sum_by (lacking_in d.books) (map books_of snaps)) running in
    omega (arith, weigh_sum d.books.chunk d.books.sectors d.books.pairs snaps, beside)

-- each snapshot keeps what it saves, or one does
sum_le : (f : SnapBooks → ℕ) (snaps snaps' : List SnapBooks) → length snaps' ≡ length snaps → ((k : ℕ) (d : SnapBooks) → k < length snaps → f (get_or snaps' k d) ≤ f (get_or snaps k d)) → sum_by f snaps' ≤ sum_by f snaps
sum_le f [] [] same less = omega arith
sum_le f [] (x ∷ xs) same less = absurd (omega (arith, same))
sum_le f (s ∷ ss) [] same less = absurd (omega (arith, same))
sum_le f (s ∷ ss) (x ∷ xs) same less =
    let here : f x ≤ f s = less 0 s (omega arith) in
    let rest = sum_le f ss xs (omega (arith, same)) (λ k d lt. less (suc k) d (omega (arith, lt))) in
    omega (arith, here, rest, sum_by-cons f s ss, sum_by-cons f x xs)

by_failed : (a b : ℕ) (failed : Bool) → a ≤ b → (if failed then 0 else per_copy * a) ≤ (if failed then 0 else per_copy * b)
by_failed a b true le = omega arith
by_failed a b false le = omega (arith, le)

pub beside_all : (snaps snaps' : List SnapBooks) (d : DueMerge) → KeepsAll snaps snaps' → left_beside snaps' d ≤ left_beside snaps d
beside_all snaps snaps' d keeps = by_failed (sum_by (lacking_in d.books) snaps') (sum_by (lacking_in d.books) snaps) d.failed
    (sum_le (lacking_in d.books) snaps snaps' keeps.len (λ k x lt. lacking_kept d.books.chunk d.books.sectors d.books.pairs (get_or snaps k x) (get_or snaps' k x) (keeps.each k x lt)))

pub beside_set : (snaps : List SnapBooks) (k : ℕ) (s s' : SnapBooks) (d : DueMerge) → k < length snaps → s ≡ get_or snaps k s → KeepsSaved s s' → left_beside (set snaps k s') d ≤ left_beside snaps d
beside_set snaps k s s' d within is keeps = beside_all snaps (set snaps k s') d (keeps_all_set snaps k s s' within is keeps)

-- an event of the merge: its pairs stay, or some of them are committed away
pub beside_same : (snaps : List SnapBooks) (d d' : DueMerge) → d'.failed ≡ d.failed → d'.books.chunk ≡ d.books.chunk → d'.books.sectors ≡ d.books.sectors → d'.books.pairs ≡ d.books.pairs → left_beside snaps d' ≡ left_beside snaps d
beside_same snaps d d' failed chunk sectors pairs =
    ap (λ b. if b then 0 else per_copy * sum_by (lacking_of d'.books.chunk d'.books.sectors d'.books.pairs) snaps) failed
    ∙ ap (λ n. if d.failed then 0 else per_copy * sum_by (lacking_of n d'.books.sectors d'.books.pairs) snaps) chunk
    ∙ ap (λ n. if d.failed then 0 else per_copy * sum_by (lacking_of d.books.chunk n d'.books.pairs) snaps) sectors
    ∙ ap (λ ps. if d.failed then 0 else per_copy * sum_by (lacking_of d.books.chunk d.books.sectors ps) snaps) pairs

pub beside_failed : (snaps : List SnapBooks) (d : DueMerge) → d.failed ≡ true → left_beside snaps d ≡ 0
beside_failed snaps d failed = ap (λ b. if b then 0 else per_copy * sum_by (lacking_in d.books) snaps) failed

lacking_fewer : (chunk sectors : ℕ) (kept more : List Pair) (s : SnapBooks) → lacking_of chunk sectors kept s ≤ lacking_of chunk sectors (kept ++ more) s
lacking_fewer chunk sectors kept more s = elim (cases_Bool s.live) [
  | inr dead ↦ omega (arith, lacking_dead chunk sectors kept s dead)
  | inl live ↦ (let all : count_by (λ c. lacks_chunk c s) (touched_by s.chunk chunk sectors (kept ++ more)) ≡ count_by (λ c. lacks_chunk c s) (touched_by s.chunk chunk sectors kept) + count_by (λ c. lacks_chunk c s) (touched_by s.chunk chunk sectors more) =
      ap (count_by (λ c. lacks_chunk c s)) (touched_append s.chunk chunk sectors kept more) ∙ sum_by-append (λ c. one_if (lacks_chunk c s)) (touched_by s.chunk chunk sectors kept) (touched_by s.chunk chunk sectors more) in
      omega (arith, all, lacking_live chunk sectors kept s live, lacking_live chunk sectors (kept ++ more) s live))
]

pub beside_committed : (snaps : List SnapBooks) (kept : List Pair) (store : List ℕ) (d d' : DueMerge) → CommitsGroup kept store d d' → left_beside snaps d' ≤ left_beside snaps d
beside_committed snaps kept store d d' e =
    let less : sum_by (lacking_of d.books.chunk d.books.sectors kept) snaps ≤ sum_by (lacking_of d.books.chunk d.books.sectors (kept ++ d.books.copied)) snaps =
    sum_le_by (lacking_of d.books.chunk d.books.sectors kept) (lacking_of d.books.chunk d.books.sectors (kept ++ d.books.copied)) snaps (lacking_fewer d.books.chunk d.books.sectors kept d.books.copied) in
    let before : left_beside snaps d ≡ per_copy * sum_by (lacking_of d.books.chunk d.books.sectors (kept ++ d.books.copied)) snaps =
    ap (λ b. if b then 0 else per_copy * sum_by (lacking_in d.books) snaps) e.running ∙ ap (λ ps. per_copy * sum_by (lacking_of d.books.chunk d.books.sectors ps) snaps) e.ends in
    let after : left_beside snaps d' ≡ per_copy * sum_by (lacking_of d.books.chunk d.books.sectors kept) snaps =
    ap (λ b. if b then 0 else per_copy * sum_by (lacking_in d'.books) snaps) e.failed ∙ ap (λ (m : MergeBooks). per_copy * sum_by (lacking_in m) snaps) e.books in
    omega (arith, less, before, after)
  where
    sum_le_by : (f g : SnapBooks → ℕ) (xs : List SnapBooks) → ((s : SnapBooks) → f s ≤ g s) → sum_by f xs ≤ sum_by g xs
    sum_le_by f g [] le = omega arith
    sum_le_by f g (x ∷ xs) le = omega (arith, le x, sum_le_by f g xs le, sum_by-cons f x xs, sum_by-cons g x xs)

-- an event of the merge that starts copies: no snapshot weighs more, and less is left of the merge
pub with_left : (snaps snaps' : List DueSnap) (rs rs' : List Flight) (d d' : DueMerge) → d.failed ≡ false → left_beside (map books_of snaps') d' ≡ left_beside (map books_of snaps') d
    → sum_by (weigh d.books.chunk d.books.sectors d.books.pairs) snaps' ≤ sum_by (weigh d.books.chunk d.books.sectors d.books.pairs) snaps → sum_by weight_of rs' ≡ sum_by weight_of rs → left_in_merge d' < left_in_merge d → left_with snaps' rs' d' < left_with snaps rs d
with_left snaps snaps' rs rs' d d' running beside more same less = omega (arith, left_weighed snaps rs d running, left_weighed snaps' rs' d running, beside, more, same, less)

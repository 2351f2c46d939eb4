-- What each live snapshot keeps back for a merge is there over each event, and is enough for the merge's next copy.
use Rattle.std.proofs.Common.{◌≡◌, ◌≢◌, inl, inr, ℕ, ◌+◌, ◌-◌, ◌*◌, ◌/◌, ◌<◌, ◌≤◌, Bool, true, false, List, [], ◌∷◌, ◌++◌, Option, Some, None, length, get_or, refl, sym, ◌∙◌, ap, subst, arith, length-append, append_assoc, nat_eq, eq-eqb, zero-add, if◌then◌else◌}
use Rattle.std.specs.Prelude.{◌&&◌, not, max, reverse, Any, count_by}
use Rattle.std.specs.List.{All, list_any}
use Rattle.std.specs.Option.{is_some}
use Rattle.std.proofs.lemmas.Bool.{cases_Bool, cases_lt, cases_order, false≢true, true≢false, eqb-true}
use Rattle.std.proofs.lemmas.List.{get_or_append_left, get_or-append-add, get_or-append_right, length-reverse}
use Rattle.std.proofs.lemmas.List.FromFn.{length-range_with_len}
use Rattle.std.proofs.lemmas.List.Sums.{sum_by-append, count_by-le-length}
use Rattle.std.proofs.lemmas.List.Folds.{Any-from_list_any}
use Rattle.sector.specs.declared.pair.Pair.{Pair}
use Rattle.chunk.specs.Sizes.{is_chunk}
use Rattle.chunk.specs.Pieces.{touched, chunks_over}
use Rattle.chunk.proofs.Over.{few_over}
use Rattle.cow_format.specs.Picture.{place_of}
use Rattle.in_flight.specs.Copies.{count_of}
use Rattle.in_flight.specs.declared.copies.ChunkCopy.{ChunkCopy}
use Rattle.in_flight.specs.declared.copies.Mark.{Mark}
use Rattle.in_flight.specs.declared.flights.Flight.{Flight}
use Rattle.volume_laws.specs.Books.{SnapBooks}
use Rattle.volume_laws.specs.Published.{IsPublished, is_published}
use Rattle.volume_laws.specs.Held.{LiveHolds}
use Rattle.volume_laws.specs.Waits.{IsSaving}
use Rattle.volume_laws.specs.Steps.{StartsCopy}
use Rattle.volume_laws.specs.Touched.{lacks_chunk, touched_by}
use Rattle.volume_laws.specs.MergeRooms.{RoomSnap, IsMerging, MergesChunk, KeepsBack, CanMerge, StartsMerging}
use Rattle.volume_laws.proofs.Lists.{All-from_list_any}
use Rattle.volume_laws.proofs.Stores.{not_placed}
use Rattle.volume_laws.proofs.Pairs.{some_ne_none}
use Rattle.volume_laws.proofs.Keeping.{start_keeps}
use Rattle.volume_laws.proofs.Clear.{published_true}
use Rattle.volume_laws.proofs.Nexts.{span}
use Rattle.volume_laws.proofs.MergeSaved.{KeepsSaved, KeepsNext, started_saving}

abbrev pub one_if : Bool → ℕ
one_if b = if b then 1 else 0

-- how many pass, of a list with one element more in front
count_cons : {X : Type 0} (p : X → Bool) (x : X) (xs : List X) → count_by p (x ∷ xs) ≡ one_if (p x) + count_by p xs
count_cons p x xs = sum_by-append (λ y. one_if (p y)) (x ∷ []) xs ∙ ap (λ n. n + count_by p xs) (zero-add (one_if (p x)))

one_le : (a b : Bool) → (a ≡ true → b ≡ true) → one_if a ≤ one_if b
one_le true true h = omega arith
one_le true false h = absurd (false≢true (h refl))
one_le false true h = omega arith
one_le false false h = omega arith

-- a stronger test passes of no more, and of fewer where an element passes the other alone
pub count_le : {X : Type 0} (p q : X → Bool) (xs : List X) → ((x : X) → p x ≡ true → q x ≡ true) → count_by p xs ≤ count_by q xs
count_le p q [] h = omega arith
count_le p q (x ∷ xs) h = omega (arith, count_cons p x xs, count_cons q x xs, one_le (p x) (q x) (h x), count_le p q xs h)

count_less : {X : Type 0} (p q : X → Bool) (front : List X) (x : X) (back : List X) → ((y : X) → p y ≡ true → q y ≡ true) → p x ≡ false → q x ≡ true → count_by p (front ++ x ∷ back) + 1 ≤ count_by q (front ++ x ∷ back)
count_less p q [] x back h fails passes =
    let a : one_if (p x) ≡ 0 = ap one_if fails in
    let b : one_if (q x) ≡ 1 = ap one_if passes in
    omega (arith, count_cons p x back, count_cons q x back, a, b, count_le p q back h)
count_less p q (y ∷ front) x back h fails passes =
    omega (arith, count_cons p y (front ++ x ∷ back), count_cons q y (front ++ x ∷ back), one_le (p y) (q y) (h y), count_less p q front x back h fails passes)

-- one that passes is counted
pub count_some : {X : Type 0} (p : X → Bool) (front : List X) (x : X) (back : List X) → p x ≡ true → 1 ≤ count_by p (front ++ x ∷ back)
count_some p front x back passes = (let one = count_less (λ y. false) p front x back (λ y e. absurd (false≢true e)) refl passes in omega (arith, one))

and_parts : (a b : Bool) → (a && b) ≡ true → (a ≡ true) × (b ≡ true)
and_parts true b e = (refl, e)
and_parts false b e = absurd (false≢true e)

-- what the test says that a snapshot lacks is neither there nor under way
pub lacks_not : (c : ℕ) (s : SnapBooks) → lacks_chunk c s ≡ true → IsSaving c s → ⊥
lacks_not c s e (inl named) = at (place_of s.pairs c) refl
  where
    at : (found : Option ℕ) → place_of s.pairs c ≡ found → ⊥
    at None is = named is
    at (Some n) is = false≢true (ap (λ x. not (is_some x)) (sym is) ∙ (and_parts (not (is_some (place_of s.pairs c))) (not (list_any (λ p. nat_eq p.pair.old c) s.copies)) e).0)
lacks_not c s e (inr (k, p, within, is, same)) =
    let none : list_any (λ p. nat_eq p.pair.old c) s.copies ≡ false = not_true (list_any (λ p. nat_eq p.pair.old c) s.copies) (and_parts (not (is_some (place_of s.pairs c))) (not (list_any (λ p. nat_eq p.pair.old c) s.copies)) e).1 in
    false≢true (sym (All-from_list_any (λ (p : ChunkCopy). nat_eq p.pair.old c) s.copies none k p within) ∙ ap (λ (x : ChunkCopy). nat_eq x.pair.old c) is ∙ eq-eqb p.pair.old c same)
  where
    not_true : (b : Bool) → not b ≡ true → b ≡ false
    not_true true e = absurd (false≢true e)
    not_true false e = refl

pub saves_not : (c : ℕ) (s : SnapBooks) → lacks_chunk c s ≡ false → IsSaving c s
saves_not c s e = at (place_of s.pairs c) refl
  where
    at : (found : Option ℕ) → place_of s.pairs c ≡ found → IsSaving c s
    at (Some n) is = inl (λ none. some_ne_none n (sym is ∙ none))
    at None is = elim (cases_Bool (list_any (λ p. nat_eq p.pair.old c) s.copies)) [
      | inl any ↦ (let (k, p, within, p_is, same) = Any-from_list_any (λ (p : ChunkCopy). nat_eq p.pair.old c) s.copies any in inr (k, p, within, p_is, eqb-true p.pair.old c same))
      | inr none ↦ (let here : lacks_chunk c s ≡ true = rw (is, none) refl in absurd (true≢false (sym here ∙ e)))
    ]

-- what a snapshot saves, it doesn't lack
saved_not : (c : ℕ) (s : SnapBooks) → IsSaving c s → lacks_chunk c s ≡ false
saved_not c s saving = elim (cases_Bool (lacks_chunk c s)) [
  | inl lacks ↦ absurd (lacks_not c s lacks saving)
  | inr has ↦ has
]

pub lacks_still : (s s' : SnapBooks) → KeepsSaved s s' → s'.live ≡ true → (c : ℕ) → lacks_chunk c s' ≡ true → lacks_chunk c s ≡ true
lacks_still s s' keeps live c e = elim (cases_Bool (lacks_chunk c s)) [
  | inl lacks ↦ lacks
  | inr has ↦ absurd (lacks_not c s' e (keeps.saving live c (saves_not c s has)))
]

-- and what it lacks is not published
pub lacks_unpublished : (c : ℕ) (s : SnapBooks) → lacks_chunk c s ≡ true → is_published s.pairs s.marks c ≡ false
lacks_unpublished c s e = elim (cases_Bool (is_published s.pairs s.marks c)) [
  | inl here ↦ absurd (lacks_not c s e (inl (published_true s.pairs s.marks c here).placed))
  | inr none ↦ none
]

-- the merge's copy saves its chunk, which is not published
merging_saves : (n c : ℕ) (s : RoomSnap) → IsMerging n c s → IsSaving c s.books
merging_saves n c s (inl (k, p, within, is, (number, old))) = inr (k, p, within, is, old)
merging_saves n c s (inr (spare, (named, mark))) = inl named

published_idle : {l : Bool} (o : List ℕ) (rs : List Flight) (n c : ℕ) (s : RoomSnap) → LiveHolds l o rs s.books → IsPublished s.books.pairs s.books.marks c → IsMerging n c s → ⊥
published_idle o rs n c s h published (inl (k, p, within, is, (number, old))) =
    published.placed (ap (place_of s.books.pairs) (sym old) ∙ not_placed o rs s.books h k p within (sym is))
published_idle o rs n c s h published (inr (spare, (named, (k, m, within, is, (number, old))))) = subst (λ (x : Mark). x.chunk ≢ c) is (published.unmarked k m within) old

-- What an event must keep, where it leaves the snapshot live.
pub record KeepsSpace (s s' : RoomSnap) : Type 0 where
  pub saved : KeepsSaved s.books s'.books
  pub kept_back : s'.books.live ≡ true → s.kept_back ≤ s'.kept_back
  pub merging : s'.books.live ≡ true → (n : ℕ) → s'.merging ≡ Some n → s.merging ≡ Some n
  pub mine : s'.books.live ≡ true → (n c : ℕ) → s'.merging ≡ Some n → IsMerging n c s → IsMerging n c s'
  pub spare : s'.books.live ≡ true → s'.merging ≡ None → (s.merging ≡ None → s.spare ≡ true) → ((n : ℕ) → s.merging ≡ Some n → (c : ℕ) × IsMerging n c s) → s'.spare ≡ true

-- and each event but a publication, so that the merge goes on
pub record KeepsRoom (s s' : RoomSnap) : Type 0 where
  pub space : KeepsSpace s s'
  pub next : KeepsNext s.books s'.books

pub room_kept : (chunks : List ℕ) (s s' : RoomSnap) → KeepsSpace s s' → (s.books.live ≡ true → KeepsBack chunks s) → s'.books.live ≡ true → KeepsBack chunks s'
room_kept chunks s s' keeps was live =
    let h : KeepsBack chunks s = was (keeps.saved.live live) in
    record {
      nodes = (let few = count_le (λ c. lacks_chunk c s'.books) (λ c. lacks_chunk c s.books) chunks (lacks_still s.books s'.books keeps.saved live) in omega (arith, few, h.nodes, keeps.kept_back live));
      spare = λ none. keeps.spare live none h.spare (λ n is. (get_or chunks (h.merging n is).index 0, (h.merging n is).mine));
      merging = λ n is.
          (let old = h.merging n (keeps.merging live n is) in
          record {
            index = old.index;
            within = old.within;
            mine = keeps.mine live n (get_or chunks old.index 0) is old.mine;
            later = λ j lt inside. keeps.saved.saving live (get_or chunks j 0) (old.later j lt inside);
          });
    }

-- a list's elements behind one of them
behind : {X : Type 0} (P : X → Type 0) (front : List X) (x : X) (back : List X) → All P back → (j : ℕ) (d : X) → length front < j → j < length (front ++ x ∷ back) → P (get_or (front ++ x ∷ back) j d)
behind P front x back all j d lt within =
    let n : ℕ = length front + 1 in
    let at : get_or (front ++ x ∷ back) j d ≡ get_or back (j - (length front + 1)) d =
    ap (λ l. get_or l j d) (sym (append_assoc front (x ∷ []) back)) ∙ get_or-append_right (front ++ x ∷ []) back (length front + 1) j d (length-append front (x ∷ [])) (omega (arith, lt)) in
    subst P (sym at) (all (j - (length front + 1)) d (omega (arith, lt, within, length-append front (x ∷ back))))

middle : {X : Type 0} (front : List X) (x : X) (back : List X) (d : X) → get_or (front ++ x ∷ back) (length front) d ≡ x
middle front x back d = (let e : length front ≡ length front + 0 = omega arith in ap (λ i. get_or (front ++ x ∷ back) i d) e ∙ get_or-append-add front (x ∷ back) 0 d)

-- a copy that is started leaves fewer lacking
pub started_fewer : (front : List ℕ) (c : ℕ) (back : List ℕ) (p : ChunkCopy) (s s' : SnapBooks) → StartsCopy p s s' → p.pair.old ≡ c → lacks_chunk c s ≡ true
    → count_by (λ x. lacks_chunk x s') (front ++ c ∷ back) + 1 ≤ count_by (λ x. lacks_chunk x s) (front ++ c ∷ back)
started_fewer front c back p s s' e old lacks =
    count_less (λ x. lacks_chunk x s') (λ x. lacks_chunk x s) front c back still
    (saved_not c s' (subst (λ x. IsSaving x s') old (started_saving p s s' e))) lacks
  where
    still : (x : ℕ) → lacks_chunk x s' ≡ true → lacks_chunk x s ≡ true
    still x gone = elim (cases_Bool (lacks_chunk x s)) [
      | inl here ↦ here
      | inr has ↦ absurd (lacks_not x s' gone ((start_keeps p s s' e).saving x (saves_not x s has)))
    ]

-- The chunk that the merge takes up next, all that stand behind it being published: in a live snapshot that lacks it a copy
-- can be started.
module _ {l : Bool} (o : List ℕ) (rs : List Flight) (front : List ℕ) (c : ℕ) (back : List ℕ) (s : RoomSnap) (h : LiveHolds l o rs s.books) (room : KeepsBack (front ++ c ∷ back) s)
    (lacks : lacks_chunk c s.books ≡ true) (published : All (IsPublished s.books.pairs s.books.marks) back) where
  -- a copy of the merge's would be of this chunk, of one before it, or of one behind it
  not_busy : (n : ℕ) → MergesChunk (front ++ c ∷ back) n s → ⊥
  not_busy n m = elim (cases_order m.index (length front)) [
    | inl same ↦ (let is : get_or (front ++ c ∷ back) m.index 0 ≡ c = ap (λ i. get_or (front ++ c ∷ back) i 0) same ∙ middle front c back 0 in
        lacks_not c s.books lacks (subst (λ x. IsSaving x s.books) is (merging_saves n (get_or (front ++ c ∷ back) m.index 0) s m.mine)))
    | inr apart ↦ elim apart [
      | inl earlier ↦ lacks_not c s.books lacks
          (subst (λ x. IsSaving x s.books) (middle front c back 0) (m.later (length front) earlier (omega (arith, length-append front (c ∷ back)))))
      | inr later ↦ published_idle o rs n (get_or (front ++ c ∷ back) m.index 0) s h
          (behind (IsPublished s.books.pairs s.books.marks) front c back published m.index 0 later m.within) m.mine
    ]
  ]

  idle : s.merging ≡ None
  idle = at s.merging refl
    where
      at : (found : Option ℕ) → s.merging ≡ found → s.merging ≡ None
      at None is = is
      at (Some n) is = absurd (not_busy n (room.merging n is))

  pub can_merge : CanMerge s
  can_merge =
      let one = count_less (λ (x : ℕ). false) (λ x. lacks_chunk x s.books) front c back (λ x e. absurd (false≢true e)) refl lacks in
      record { some = omega (arith, one, room.nodes); spare = room.spare idle; idle = idle }

  -- and it is started
  pub room_started : (p : ChunkCopy) (s' : RoomSnap) → StartsMerging p s s' → p.pair.old ≡ c → KeepsBack (front ++ c ∷ back) s'
  room_started p s' e old =
      let fewer = started_fewer front c back p s.books s'.books e.start old lacks in
      record {
        nodes = omega (arith, fewer, room.nodes, e.kept_back);
        spare = λ none. absurd (some_ne_none p.number (sym e.merging ∙ none));
        merging = λ n is. record {
          index = length front;
          within = omega (arith, length-append front (c ∷ back));
          mine = subst (λ x. IsMerging n x s') (sym (middle front c back 0)) (inl (subst (λ (x : List ChunkCopy). Any (λ (r : ChunkCopy). (r.number ≡ n) × (r.pair.old ≡ c)) x) (sym e.start.copies)
              (length s.books.copies, p, omega (arith, length-append s.books.copies (p ∷ [])), middle s.books.copies p [] p, (number_is p.number n (sym e.merging ∙ is), old))));
          later = λ j lt within. inl (subst (λ (x : List Pair). place_of x (get_or (front ++ c ∷ back) j 0) ≢ None) (sym e.start.pairs)
              (behind (IsPublished s.books.pairs s.books.marks) front c back published j 0 lt within).placed);
        };
      }
    where
      number_is : (a b : ℕ) → Some a ≡ Some b → a ≡ b
      number_is a b is = cc

-- MergeCommit: the chunks of the copied pairs, which are published, go
pub room_committed : {l : Bool} (o : List ℕ) (rs : List Flight) (kept copied : List ℕ) (s : RoomSnap) → LiveHolds l o rs s.books → All (IsPublished s.books.pairs s.books.marks) copied → KeepsBack (kept ++ copied) s → KeepsBack kept s
room_committed o rs kept copied s h published room = record {
  nodes = omega (arith, room.nodes, sum_by-append (λ c. one_if (lacks_chunk c s.books)) kept copied);
  spare = room.spare;
  merging = λ n is. below n (room.merging n is);
}
  where
    below : (n : ℕ) → MergesChunk (kept ++ copied) n s → MergesChunk kept n s
    below n m = elim (cases_lt m.index (length kept)) [
      | inl lt ↦ record {
        index = m.index;
        within = lt;
        mine = subst (λ x. IsMerging n x s) (get_or_append_left kept copied 0 m.index lt) m.mine;
        later = λ j above inside. subst (λ x. IsSaving x s.books) (get_or_append_left kept copied 0 j inside) (m.later j above (omega (arith, inside, length-append kept copied)));
      }
      | inr ge ↦ (let is : get_or (kept ++ copied) m.index 0 ≡ get_or copied (m.index - length kept) 0 = get_or-append_right kept copied (length kept) m.index 0 refl ge in
          absurd (published_idle o rs n (get_or copied (m.index - length kept) 0) s h (published (m.index - length kept) 0 (omega (arith, ge, m.within, length-append kept copied)))
          (subst (λ x. IsMerging n x s) is m.mine)))
    ]

-- begin_merge: nodes for all chunks, the buffer, and no copy of the merge's
pub room_begun : (chunks : List ℕ) (s : RoomSnap) → count_by (λ c. lacks_chunk c s.books) chunks ≤ s.kept_back → s.spare ≡ true → s.merging ≡ None → KeepsBack chunks s
room_begun chunks s nodes spare idle = record { nodes = nodes; spare = λ _. spare; merging = λ n is. absurd (some_ne_none n (sym is ∙ idle)) }

-- chunks of `own` sectors that a merged pair touches: at most as many as its own chunk has of them
pub few_touched : (own chunk sectors : ℕ) (pairs : List Pair) → is_chunk own ≡ true → is_chunk chunk ≡ true → length (touched_by own chunk sectors pairs) ≤ length pairs * max 1 (chunk / own)
few_touched own chunk sectors [] ho hm = omega arith
few_touched own chunk sectors (q ∷ pairs) ho hm =
    let count : ℕ = count_of chunk sectors q.old in
    let here : List ℕ = chunks_over own (chunk * q.old) (count_of chunk sectors q.old) in
    let n : ℕ = touched own (span (chunk * q.old) (count_of chunk sectors q.old)) in
    let rest = few_touched own chunk sectors pairs ho hm in
    let one : touched own (span (chunk * q.old) (count_of chunk sectors q.old)) ≤ max 1 (chunk / own) = few_over own chunk q.old (count_of chunk sectors q.old) (chunk * q.old + count_of chunk sectors q.old) ho hm (omega arith) in
    let long : length (reverse (chunks_over own (chunk * q.old) (count_of chunk sectors q.old))) ≡ touched own (span (chunk * q.old) (count_of chunk sectors q.old)) =
    length-reverse (chunks_over own (chunk * q.old) (count_of chunk sectors q.old)) ∙ length-range_with_len (chunk * q.old / own) (touched own (span (chunk * q.old) (count_of chunk sectors q.old))) in
    let all = length-append (reverse (chunks_over own (chunk * q.old) (count_of chunk sectors q.old))) (touched_by own chunk sectors pairs) in
    let times : (length pairs + 1) * max 1 (chunk / own) ≡ length pairs * max 1 (chunk / own) + max 1 (chunk / own) = grind arith in
    omega (arith, rest, one, long, all, times)

pub few_lacking : (chunk sectors : ℕ) (pairs : List Pair) (s : SnapBooks) → is_chunk s.chunk ≡ true → is_chunk chunk ≡ true → count_by (λ c. lacks_chunk c s) (touched_by s.chunk chunk sectors pairs) ≤ length pairs * max 1 (chunk / s.chunk)
few_lacking chunk sectors pairs s ho hm = (let most = few_touched s.chunk chunk sectors pairs ho hm in let few = count_by-le-length (λ c. lacks_chunk c s) (touched_by s.chunk chunk sectors pairs) in omega (arith, most, few))

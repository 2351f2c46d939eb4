-- Each event of a merge leaves what the snapshots keep back for it, and the copies that it starts are taken from that.
use Rattle.std.proofs.Common.{Bool, ◌≡◌, ℕ, ◌*◌, ◌<◌, true, List, [], ◌∷◌, ◌++◌, Some, length, get_or, set, map, refl, sym, ◌∙◌, ap, subst, arith, append_assoc}
use Rattle.std.specs.Prelude.{reverse}
use Rattle.std.specs.List.{All}
use Rattle.std.proofs.lemmas.Grind.{flat_map-append}
use Rattle.std.proofs.lemmas.List.{get_or-map, length-map, reverse-append}
use Rattle.std.proofs.lemmas.List.Elements.{All-weaker, All-cons, All-nil, All-head, All-tail, All-append}
use Rattle.sector.specs.declared.pair.Pair.{Pair}
use Rattle.chunk.specs.Pieces.{chunks_over}
use Rattle.cow_format.specs.Pairs.{IsInside}
use Rattle.in_flight.specs.Copies.{count_of}
use Rattle.in_flight.specs.declared.copies.ChunkCopy.{ChunkCopy}
use Rattle.in_flight.specs.declared.flights.Flight.{Flight}
use Rattle.volume_laws.specs.Books.{SnapBooks, MergeBooks}
use Rattle.volume_laws.specs.Published.{IsPublished, IsSavedOver, next_over}
use Rattle.volume_laws.specs.Touched.{lacks_chunk, touched_by}
use Rattle.volume_laws.specs.Held.{LiveHolds, SnapHolds}
use Rattle.volume_laws.specs.Merging.{MergeHolds}
use Rattle.volume_laws.specs.MergeDue.{DueMerge, next_pair}
use Rattle.volume_laws.specs.MergeSteps.{FormsGroup, ReadsBack, WritesBack, FlushesBack, CommitsGroup, ReleasesGroup, ReadsArea, FailsMerge, Resumes, WritesStore}
use Rattle.volume_laws.specs.MergeWaits.{IsSavedIn, MergeSteady, MergeGoes}
use Rattle.volume_laws.specs.MergeRooms.{RoomSnap, room_books, KeepsBack, KeepBack, ComesNext, CanMerge, StartsMerging}
use Rattle.volume_laws.proofs.Lists.{All-front, All-back}
use Rattle.volume_laws.proofs.Nexts.{over_chunks, next_unpublished, next_is}
use Rattle.volume_laws.proofs.MergeSaved.{KeepsSaved, saved_in}
use Rattle.volume_laws.proofs.MergeTests.{last_is}
use Rattle.volume_laws.proofs.MergeRooms.{lacks_unpublished, can_merge, room_started, room_committed}
use Rattle.volume_laws.proofs.MergeRoomEvents.{rooms_set}

-- an event that leaves the merge's pairs
module _ (snaps : List RoomSnap) (d d' : DueMerge) (h : KeepBack d.books.chunk d.books.sectors d.books.pairs snaps) where
  by_books : (m : MergeBooks) → d'.books ≡ m → m.chunk ≡ d.books.chunk → m.sectors ≡ d.books.sectors → m.pairs ≡ d.books.pairs → KeepBack d'.books.chunk d'.books.sectors d'.books.pairs snaps
  by_books m is chunk sectors pairs =
      subst (λ (x : MergeBooks). KeepBack x.chunk x.sectors x.pairs snaps) (sym is)
      (subst (λ n. KeepBack n m.sectors m.pairs snaps) (sym chunk) (subst (λ n. KeepBack d.books.chunk n m.pairs snaps) (sym sectors) (subst (λ ps. KeepBack d.books.chunk d.books.sectors ps snaps) (sym pairs) h)))

  -- MergeGroup and MergeWrite, before their copies are started
  pub rooms_grouped : (kept group : List Pair) → FormsGroup kept group d d' → KeepBack d'.books.chunk d'.books.sectors d'.books.pairs snaps
  rooms_grouped kept group e = by_books (record d.books { waiting = group }) e.books refl refl refl

  pub rooms_written : (q : Pair) → WritesBack q d d' → KeepBack d'.books.chunk d'.books.sectors d'.books.pairs snaps
  rooms_written q e = by_books (record d.books { reading = []; copied = q ∷ d.books.copied }) e.books refl refl refl

  pub rooms_read : (rest : List Pair) (q : Pair) (bytes : List ℕ) → ReadsBack rest q bytes d d' → KeepBack d'.books.chunk d'.books.sectors d'.books.pairs snaps
  rooms_read rest q bytes e = by_books (record d.books { waiting = rest; reading = q ∷ []; buffer = bytes }) e.books refl refl refl

  pub rooms_flushed : FlushesBack d d' → KeepBack d'.books.chunk d'.books.sectors d'.books.pairs snaps
  rooms_flushed e = by_books d.books e.books refl refl refl

  pub rooms_released : ReleasesGroup d d' → KeepBack d'.books.chunk d'.books.sectors d'.books.pairs snaps
  rooms_released e = by_books (record d.books { waiting = []; reading = []; copied = []; released = [] }) e.books refl refl refl

  pub rooms_area : ReadsArea d d' → KeepBack d'.books.chunk d'.books.sectors d'.books.pairs snaps
  rooms_area e = by_books d.books e.books refl refl refl

  -- a fault, and what lets the merge run again
  pub rooms_failed : FailsMerge d d' → KeepBack d'.books.chunk d'.books.sectors d'.books.pairs snaps
  rooms_failed e = by_books (record d.books { waiting = []; reading = []; copied = []; released = [] }) e.books refl refl refl

  pub rooms_resumed : Resumes d d' → KeepBack d'.books.chunk d'.books.sectors d'.books.pairs snaps
  rooms_resumed e = by_books d.books e.books refl refl refl

  -- an origin write at its chunk's place
  pub rooms_stored : (store : List ℕ) → WritesStore store d d' → KeepBack d'.books.chunk d'.books.sectors d'.books.pairs snaps
  rooms_stored store e = by_books (record d.books { store = store }) e.books refl refl refl

-- what the pairs of one list touch, and those of another behind it
pub touched_append : (own chunk sectors : ℕ) (front back : List Pair) → touched_by own chunk sectors (front ++ back) ≡ touched_by own chunk sectors front ++ touched_by own chunk sectors back
touched_append own chunk sectors front back = flat_map-append (λ (q : Pair). reverse (chunks_over own (chunk * q.old) (count_of chunk sectors q.old))) front back

All-reverse : (P : ℕ → Type 0) (xs : List ℕ) → All P xs → All P (reverse xs)
All-reverse P [] all = All-nil P
All-reverse P (x ∷ xs) all =
    subst (All P) (sym (reverse-append (x ∷ []) xs)) (All-append P (reverse xs) (x ∷ []) (All-reverse P xs (All-tail P x xs all)) (All-cons P x [] (All-head P x xs all) (All-nil P)))

-- in one live snapshot, what is published wherever the pairs touch it is published in each chunk that they touch
pub touched_published : (s : SnapBooks) (chunk sectors : ℕ) → 0 < s.chunk → s.live ≡ true → (pairs : List Pair) → All (λ r. IsSavedOver (chunk * r.old) (count_of chunk sectors r.old) s) pairs
    → All (IsPublished s.pairs s.marks) (touched_by s.chunk chunk sectors pairs)
touched_published s chunk sectors some live [] saved = All-nil (IsPublished s.pairs s.marks)
touched_published s chunk sectors some live (q ∷ pairs) saved =
    All-append (IsPublished s.pairs s.marks) (reverse (chunks_over s.chunk (chunk * q.old) (count_of chunk sectors q.old))) (touched_by s.chunk chunk sectors pairs)
    (All-reverse (IsPublished s.pairs s.marks) (chunks_over s.chunk (chunk * q.old) (count_of chunk sectors q.old))
    (over_chunks (chunk * q.old) (count_of chunk sectors q.old) s some (All-head (λ (r : Pair). IsSavedOver (chunk * r.old) (count_of chunk sectors r.old) s) q pairs saved) live))
    (touched_published s chunk sectors some live pairs (All-tail (λ (r : Pair). IsSavedOver (chunk * r.old) (count_of chunk sectors r.old) s) q pairs saved))

-- of one snapshot among all
saved_here : (chunk sectors : ℕ) (snaps : List RoomSnap) (k : ℕ) (d : RoomSnap) → k < length snaps → (pairs : List Pair) → All (IsSavedIn chunk sectors (map room_books snaps)) pairs
    → All (λ r. IsSavedOver (chunk * r.old) (count_of chunk sectors r.old) (get_or snaps k d).books) pairs
saved_here chunk sectors snaps k d lt pairs saved = All-weaker (IsSavedIn chunk sectors (map room_books snaps)) (λ (r : Pair). IsSavedOver (chunk * r.old) (count_of chunk sectors r.old) (get_or snaps k d).books)
    (λ r all. subst (IsSavedOver (chunk * r.old) (count_of chunk sectors r.old)) (get_or-map room_books snaps k d d.books lt) (all k d.books (subst (λ n. k < n) (sym (length-map snaps room_books)) lt))) pairs saved

holds_in : {l : Bool} (o : List ℕ) (rs : List Flight) (snaps : List RoomSnap) (k : ℕ) (d : RoomSnap) → k < length snaps → All (SnapHolds l o rs) (map room_books snaps) → SnapHolds l o rs (get_or snaps k d).books
holds_in o rs snaps k d lt h = subst (SnapHolds _ o rs) (get_or-map room_books snaps k d d.books lt) (h k d.books (subst (λ n. k < n) (sym (length-map snaps room_books)) lt))

-- MergeCommit
pub rooms_committed : {l : Bool} (o : List ℕ) (rs : List Flight) (snaps : List RoomSnap) (kept : List Pair) (store : List ℕ) (d d' : DueMerge) → CommitsGroup kept store d d' → All (SnapHolds l o rs) (map room_books snaps) → MergeGoes (map room_books snaps) d
    → KeepBack d.books.chunk d.books.sectors d.books.pairs snaps → KeepBack d'.books.chunk d'.books.sectors d'.books.pairs snaps
rooms_committed o rs snaps kept store d d' e holds goes h =
    subst (λ (m : MergeBooks). KeepBack m.chunk m.sectors m.pairs snaps) (sym e.books) one
  where
    one : KeepBack d.books.chunk d.books.sectors kept snaps
    one k x lt live =
        let s : RoomSnap = get_or snaps k x in
        let alive = (holds_in o rs snaps k x lt holds).alive live in
        room_committed o rs (touched_by (get_or snaps k x).books.chunk d.books.chunk d.books.sectors kept) (touched_by (get_or snaps k x).books.chunk d.books.chunk d.books.sectors d.books.copied) (get_or snaps k x) alive
        (touched_published (get_or snaps k x).books d.books.chunk d.books.sectors alive.text.some live d.books.copied
        (saved_here d.books.chunk d.books.sectors snaps k x lt d.books.copied (All-front (IsSavedIn d.books.chunk d.books.sectors (map room_books snaps)) d.books.copied d.books.released goes.saved)))
        (subst (λ cs. KeepsBack cs (get_or snaps k x)) (ap (touched_by (get_or snaps k x).books.chunk d.books.chunk d.books.sectors) e.ends ∙ touched_append (get_or snaps k x).books.chunk d.books.chunk d.books.sectors kept d.books.copied) (h k x lt live))

-- The pair that a merge copies next: the one in the buffer, or the last that waits. All later ones are copied.
pub steady_next : (o : List ℕ) (rs : List Flight) (snaps : List SnapBooks) (d : DueMerge) → MergeHolds o rs d.books → MergeSteady snaps d → (q : Pair) → next_pair d.books.reading d.books.waiting ≡ Some q
    → ComesNext d.books.chunk d.books.sectors d.books.pairs snaps q
steady_next o rs snaps d merge steady q e = at d.books.reading refl
  where
    saved : All (IsSavedIn d.books.chunk d.books.sectors snaps) d.books.copied
    saved = All-front (IsSavedIn d.books.chunk d.books.sectors snaps) d.books.copied d.books.released steady.saved

    made : (front : List Pair) → d.books.pairs ≡ front ++ q ∷ d.books.copied → ComesNext d.books.chunk d.books.sectors d.books.pairs snaps q
    made front ends = record { front = front; back = d.books.copied; ends = ends; some = begins front ends; saved = saved }
      where
        begins : (front : List Pair) → d.books.pairs ≡ front ++ q ∷ d.books.copied → 0 < count_of d.books.chunk d.books.sectors q.old
        begins front ends =
            let all : All (IsInside d.books.chunk d.books.sectors d.books.size) (front ++ q ∷ d.books.copied) =
            subst (All (IsInside d.books.chunk d.books.sectors d.books.size)) ends (All-front (IsInside d.books.chunk d.books.sectors d.books.size) d.books.pairs d.books.released merge.text.inside) in
            let here = (All-head (IsInside d.books.chunk d.books.sectors d.books.size) q d.books.copied (All-back (IsInside d.books.chunk d.books.sectors d.books.size) front (q ∷ d.books.copied) all)).old in
            omega (arith, here, merge.text.some)

    at : (reading : List Pair) → d.books.reading ≡ reading → ComesNext d.books.chunk d.books.sectors d.books.pairs snaps q
    at [] is =
        let (rest, last) = last_is d.books.waiting q (sym (ap (λ x. next_pair x d.books.waiting) is) ∙ e) in
        made (steady.ending.0 ++ rest)
        (steady.ending.1 ∙ ap (λ x. steady.ending.0 ++ (d.books.waiting ++ (x ++ d.books.copied))) is ∙ ap (λ x. steady.ending.0 ++ (x ++ d.books.copied)) last
        ∙ ap (λ x. steady.ending.0 ++ x) (append_assoc rest (q ∷ []) d.books.copied) ∙ sym (append_assoc steady.ending.0 rest (q ∷ d.books.copied)))
    at (p ∷ []) is =
        let one : Some p ≡ Some q = sym (ap (λ x. next_pair x d.books.waiting) is) ∙ e in
        let same : p ≡ q = cc in
        made (steady.ending.0 ++ d.books.waiting)
        (steady.ending.1 ∙ ap (λ x. steady.ending.0 ++ (d.books.waiting ++ (x ++ d.books.copied))) (is ∙ ap (λ x. x ∷ []) same) ∙ sym (append_assoc steady.ending.0 d.books.waiting (q ∷ d.books.copied)))
    at (p ∷ r ∷ rest) is = absurd (omega (arith, ap length is, steady.staged.one))

-- it comes next still, where a snapshot changes
pub next_changed : (chunk sectors : ℕ) (pairs : List Pair) (snaps : List SnapBooks) (q : Pair) (k : ℕ) (s s' : SnapBooks) → k < length snaps → s ≡ get_or snaps k s → KeepsSaved s s' → ComesNext chunk sectors pairs snaps q → ComesNext chunk sectors pairs (set snaps k s') q
next_changed chunk sectors pairs snaps q k s s' within was keeps next = record {
  front = next.front;
  back = next.back;
  ends = next.ends;
  some = next.some;
  saved = All-weaker (IsSavedIn chunk sectors snaps) (IsSavedIn chunk sectors (set snaps k s')) (saved_in snaps k s s' within was keeps chunk sectors) next.back next.saved;
}

-- A snapshot lacks the chunk that is wanted of it for a pair: it stands among those that the merge's pairs touch, and behind
-- it lower ones, which are published, and those of later pairs.
pub record IsWanted (chunk sectors : ℕ) (pairs later : List Pair) (s : SnapBooks) (c : ℕ) : Type 0 where
  pub front : List ℕ
  pub lower : List ℕ
  pub is : touched_by s.chunk chunk sectors pairs ≡ front ++ c ∷ (reverse lower ++ touched_by s.chunk chunk sectors later)
  pub published : All (IsPublished s.pairs s.marks) lower

pub wanted_is : (chunk sectors : ℕ) (pairs : List Pair) (snaps : List SnapBooks) (q : Pair) (next : ComesNext chunk sectors pairs snaps q) (s : SnapBooks) → 0 < s.chunk → lacks_chunk (next_over (chunk * q.old) (count_of chunk sectors q.old) s) s ≡ true
    → IsWanted chunk sectors pairs next.back s (next_over (chunk * q.old) (count_of chunk sectors q.old) s)
wanted_is chunk sectors pairs snaps q next s some lacks =
    let c : ℕ = next_over (chunk * q.old) (count_of chunk sectors q.old) s in
    let unpublished = next_unpublished (chunk * q.old) (count_of chunk sectors q.old) s some next.some (lacks_unpublished (next_over (chunk * q.old) (count_of chunk sectors q.old) s) s lacks) in
    let one = next_is (chunk * q.old) (count_of chunk sectors q.old) s (next_over (chunk * q.old) (count_of chunk sectors q.old) s) unpublished in
    record {
      front = touched_by s.chunk chunk sectors next.front ++ reverse one.higher;
      lower = one.lower;
      is = ap (touched_by s.chunk chunk sectors) next.ends ∙ touched_append s.chunk chunk sectors next.front (q ∷ next.back)
          ∙ ap (λ x. touched_by s.chunk chunk sectors next.front ++ (x ++ touched_by s.chunk chunk sectors next.back)) (ap reverse one.is ∙ turned one.lower one.higher (next_over (chunk * q.old) (count_of chunk sectors q.old) s))
          ∙ joined (touched_by s.chunk chunk sectors next.front) (reverse one.higher) (next_over (chunk * q.old) (count_of chunk sectors q.old) s) (reverse one.lower) (touched_by s.chunk chunk sectors next.back);
      published = one.published;
    }
  where
    turned : (lower higher : List ℕ) (c : ℕ) → reverse (lower ++ c ∷ higher) ≡ reverse higher ++ c ∷ reverse lower
    turned lower higher c = reverse-append lower (c ∷ higher) ∙ ap (λ x. x ++ reverse lower) (reverse-append (c ∷ []) higher) ∙ append_assoc (reverse higher) (c ∷ []) (reverse lower)

    joined : (a b : List ℕ) (c : ℕ) (d e : List ℕ) → a ++ ((b ++ c ∷ d) ++ e) ≡ (a ++ b) ++ c ∷ (d ++ e)
    joined a b c d e = ap (λ x. a ++ x) (append_assoc b (c ∷ d) e) ∙ sym (append_assoc a b (c ∷ (d ++ e)))

-- A live snapshot that lacks that chunk can start its copy without memory, and once it is started, there is room for the rest.
module _ {l : Bool} (o : List ℕ) (rs : List Flight) (chunk sectors : ℕ) (pairs : List Pair) (snaps : List RoomSnap) (q : Pair) (holds : All (SnapHolds l o rs) (map room_books snaps)) (h : KeepBack chunk sectors pairs snaps)
    (next : ComesNext chunk sectors pairs (map room_books snaps) q) (k : ℕ) (s : RoomSnap) (within : k < length snaps) (was : s ≡ get_or snaps k s) (live : s.books.live ≡ true)
    (lacks : lacks_chunk (next_over (chunk * q.old) (count_of chunk sectors q.old) s.books) s.books ≡ true) where
  alive : LiveHolds l o rs s.books
  alive = (subst (λ (x : RoomSnap). SnapHolds l o rs x.books) (sym was) (holds_in o rs snaps k s within holds)).alive live

  wanted : IsWanted chunk sectors pairs next.back s.books (next_over (chunk * q.old) (count_of chunk sectors q.old) s.books)
  wanted = wanted_is chunk sectors pairs (map room_books snaps) q next s.books alive.text.some lacks

  abbrev behind : List ℕ
  behind = reverse wanted.lower ++ touched_by s.books.chunk chunk sectors next.back

  keeps_here : KeepsBack (wanted.front ++ next_over (chunk * q.old) (count_of chunk sectors q.old) s.books ∷ behind) s
  keeps_here = subst (λ cs. KeepsBack cs s) wanted.is (subst (λ (x : RoomSnap). x.books.live ≡ true → KeepsBack (touched_by x.books.chunk chunk sectors pairs) x) (sym was) (h k s within) live)

  published_here : All (IsPublished s.books.pairs s.books.marks) behind
  published_here = All-append (IsPublished s.books.pairs s.books.marks) (reverse wanted.lower) (touched_by s.books.chunk chunk sectors next.back)
      (All-reverse (IsPublished s.books.pairs s.books.marks) wanted.lower wanted.published)
      (touched_published s.books chunk sectors alive.text.some live next.back
      (subst (λ (x : RoomSnap). All (λ (r : Pair). IsSavedOver (chunk * r.old) (count_of chunk sectors r.old) x.books) next.back) (sym was) (saved_here chunk sectors snaps k s within next.back next.saved)))

  pub next_can : CanMerge s
  next_can = can_merge o rs wanted.front (next_over (chunk * q.old) (count_of chunk sectors q.old) s.books) behind s alive keeps_here lacks published_here

  pub next_started : (p : ChunkCopy) (s' : RoomSnap) → StartsMerging p s s' → p.pair.old ≡ next_over (chunk * q.old) (count_of chunk sectors q.old) s.books → KeepBack chunk sectors pairs (set snaps k s')
  next_started p s' e old =
      rooms_set chunk sectors pairs snaps k s'
      (subst (λ n. KeepsBack (touched_by n chunk sectors pairs) s') (sym e.start.same.chunk)
      (subst (λ cs. KeepsBack cs s') (sym wanted.is) (room_started o rs wanted.front (next_over (chunk * q.old) (count_of chunk sectors q.old) s.books) behind s alive keeps_here lacks published_here p s' e old))) h

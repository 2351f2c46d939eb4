-- Each event of a snapshot keeps what it keeps back for a merge.
use Rattle.std.proofs.Common.{◌≡◌, ◌≢◌, ◌⊎◌, inl, inr, ℕ, zero, suc, ◌<◌, Bool, true, false, List, [], ◌∷◌, ◌++◌, Option, Some, None, length, get_or, set, map, take, drop, refl, sym, ◌∙◌, ap, subst, arith, nat_eq, eq-eqb, if◌then◌else◌}
use Rattle.std.specs.Prelude.{◌||◌, Any}
use Rattle.std.specs.List.{All, remove, list_any}
use Rattle.std.proofs.lemmas.Bool.{cases_Bool, false≢true, eqb-true, eqb-false}
use Rattle.std.proofs.lemmas.List.{take-append-drop, take-map}
use Rattle.std.proofs.lemmas.List.Elements.{All-set}
use Rattle.sector.specs.declared.pair.Pair.{Pair}
use Rattle.cow_format.specs.Picture.{place_of}
use Rattle.in_flight.specs.Copies.{pair_of}
use Rattle.in_flight.specs.Flushed.{flushed_copy, safe_mark}
use Rattle.in_flight.specs.declared.copies.ChunkCopy.{ChunkCopy}
use Rattle.in_flight.specs.declared.copies.Mark.{Mark}
use Rattle.in_flight.specs.declared.flights.Flight.{Flight}
use Rattle.volume_laws.specs.Books.{SnapBooks}
use Rattle.volume_laws.specs.Held.{LiveHolds}
use Rattle.volume_laws.specs.Steps.{ReadsCopy, WritesCopy, ZeroesArea, Commits, FlushesStore, WritesMark, Unmarks, StartsCopy, WritesPlace, Overflows, SpoilsSnap, TriesMark, CopyGoesOn, mark_of}
use Rattle.volume_laws.specs.Touched.{touched_by}
use Rattle.volume_laws.specs.MergeRooms.{RoomSnap, IsCopyNumbered, IsMarkNumbered, IsMerging, KeepsBack, KeepBack, SameRoom, CommitsRoom, PublishesRoom, is_among, unpublished}
use Rattle.volume_laws.proofs.Lists.{Any-remove, All-remove, All-from_list_any}
use Rattle.volume_laws.proofs.Pairs.{some_ne_none}
use Rattle.volume_laws.proofs.Flushing.{any_mapped}
use Rattle.volume_laws.proofs.Keeping.{placed_behind, placed_more, named_by, any_set, any_more, any_after, any_split}
use Rattle.volume_laws.proofs.MergeSaved.{KeepsSaved, KeepsNext, copy_read_next, copy_write_next, zero_next, flush_next, start_next, commit_saved, commit_next, unmark_saved, place_next, dead_saved, dead_next}
use Rattle.volume_laws.proofs.Overflowing.{overflow_next}
use Rattle.volume_laws.proofs.MergeRooms.{KeepsSpace, KeepsRoom, room_kept}

-- an event that leaves what is kept back, and each copy and mark with its number
same_room : (s s' : RoomSnap) → SameRoom s s' → KeepsNext s.books s'.books → ((n c : ℕ) → IsCopyNumbered n c s.books → IsCopyNumbered n c s'.books) → ((n c : ℕ) → IsMarkNumbered n c s.books → IsMarkNumbered n c s'.books) → KeepsRoom s s'
same_room s s' same next copies marks = record {
  space = record {
    saved = next.saved;
    kept_back = λ _. omega (arith, same.kept_back);
    merging = λ _ n is. sym same.merging ∙ is;
    mine = λ _ n c _ mine. still n c mine;
    spare = λ _ none was _. same.spare ∙ was (sym same.merging ∙ none);
  };
  next = next;
}
  where
    still : (n c : ℕ) → IsMerging n c s → IsMerging n c s'
    still n c (inl copy) = inl (copies n c copy)
    still n c (inr (spare, mark)) = inr (same.spare ∙ spare, marks n c mark)

same_marks : (s s' : SnapBooks) → s'.pairs ≡ s.pairs → s'.marks ≡ s.marks → (n c : ℕ) → IsMarkNumbered n c s → IsMarkNumbered n c s'
same_marks s s' pairs marks n c (named, any) = ((λ none. named (ap (λ ps. place_of ps c) (sym pairs) ∙ none)), subst (Any (λ (m : Mark). (m.number ≡ n) × (m.chunk ≡ c))) (sym marks) any)

same_copies : (s s' : SnapBooks) → s'.copies ≡ s.copies → (n c : ℕ) → IsCopyNumbered n c s → IsCopyNumbered n c s'
same_copies s s' copies n c any = subst (Any (λ (p : ChunkCopy). (p.number ≡ n) × (p.pair.old ≡ c))) (sym copies) any

-- a copy goes on under its number
on_copies : (k : ℕ) (p q : ChunkCopy) (s s' : SnapBooks) → CopyGoesOn k p q s s' → q.number ≡ p.number → (n c : ℕ) → IsCopyNumbered n c s → IsCopyNumbered n c s'
on_copies k p q s s' e number n c any = subst (Any (λ (x : ChunkCopy). (x.number ≡ n) × (x.pair.old ≡ c))) (sym e.copies)
    (any_set (λ (x : ChunkCopy). (x.number ≡ n) × (x.pair.old ≡ c)) s.copies k p q e.within e.was (λ is. (number ∙ is.0, ap (λ (x : Pair). x.old) e.pair ∙ is.1)) any)

pub read_room : (o : List ℕ) (k : ℕ) (p q : ChunkCopy) (s s' : RoomSnap) → ReadsCopy o k p q s.books s'.books → q.number ≡ p.number → SameRoom s s' → KeepsRoom s s'
read_room o k p q s s' e number same = same_room s s' same (copy_read_next o k p q s.books s'.books e) (on_copies k p q s.books s'.books e.copy number) (same_marks s.books s'.books e.store.pairs e.marks)

pub write_room : (k : ℕ) (p q : ChunkCopy) (s s' : RoomSnap) → WritesCopy k p q s.books s'.books → q.number ≡ p.number → SameRoom s s' → KeepsRoom s s'
write_room k p q s s' e number same = same_room s s' same (copy_write_next k p q s.books s'.books e) (on_copies k p q s.books s'.books e.copy number) (same_marks s.books s'.books e.pairs e.marks)

pub zero_room : (a : ℕ) (s s' : RoomSnap) → ZeroesArea a s.books s'.books → SameRoom s s' → KeepsRoom s s'
zero_room a s s' e same = same_room s s' same (zero_next a s.books s'.books e) (same_copies s.books s'.books e.copies) (same_marks s.books s'.books e.pairs e.marks)

pub place_room : (c place off : ℕ) (bytes : List ℕ) (s s' : RoomSnap) → WritesPlace c place off bytes s.books s'.books → SameRoom s s' → KeepsRoom s s'
place_room c place off bytes s s' e same = same_room s s' same (place_next c place off bytes s.books s'.books e) (same_copies s.books s'.books e.copies) (same_marks s.books s'.books e.pairs e.marks)

-- its store overflowed
pub overflow_room : (s s' : RoomSnap) → Overflows s.books s'.books → SameRoom s s' → KeepsRoom s s'
overflow_room s s' e same = same_room s s' same (overflow_next s.books s'.books e) (same_copies s.books s'.books (ap (λ (x : SnapBooks). x.copies) e.becomes))
    (same_marks s.books s'.books (ap (λ (x : SnapBooks). x.pairs) e.becomes) (ap (λ (x : SnapBooks). x.marks) e.becomes))

-- FlushStore
pub flush_room : (s s' : RoomSnap) → FlushesStore s.books s'.books → SameRoom s s' → KeepsRoom s s'
flush_room s s' e same = same_room s s' same (flush_next s.books s'.books e)
    (λ n c any. subst (Any (λ (p : ChunkCopy). (p.number ≡ n) × (p.pair.old ≡ c))) (sym e.copies) (any_mapped flushed_copy (λ (p : ChunkCopy). (p.number ≡ n) × (p.pair.old ≡ c)) s.books.copies any))
    (λ n c both. (
      (λ none. both.0 (ap (λ ps. place_of ps c) (sym e.pairs) ∙ none)),
      subst (Any (λ (m : Mark). (m.number ≡ n) × (m.chunk ≡ c))) (sym e.marks) (any_mapped safe_mark (λ (m : Mark). (m.number ≡ n) × (m.chunk ≡ c)) s.books.marks both.1),
    ))

-- a request starts a copy
pub start_room : (p : ChunkCopy) (s s' : RoomSnap) → StartsCopy p s.books s'.books → SameRoom s s' → KeepsRoom s s'
start_room p s s' e same = same_room s s' same (start_next p s.books s'.books e)
    (λ n c any. subst (Any (λ (x : ChunkCopy). (x.number ≡ n) × (x.pair.old ≡ c))) (sym e.copies) (any_more (λ (x : ChunkCopy). (x.number ≡ n) × (x.pair.old ≡ c)) s.books.copies (p ∷ []) any))
    (same_marks s.books s'.books e.pairs e.marks)

-- a copy that is committed has its mark, and its buffer is back
numbered_marks : (n c : ℕ) (cs : List ChunkCopy) → Any (λ (p : ChunkCopy). (p.number ≡ n) × (p.pair.old ≡ c)) cs → Any (λ (m : Mark). (m.number ≡ n) × (m.chunk ≡ c)) (map mark_of cs)
numbered_marks n c [] (k, x, lt, is, holds) = absurd (omega (arith, lt))
numbered_marks n c (p ∷ cs) (zero, x, lt, is, holds) = (zero, mark_of p, omega arith, refl, subst (λ (y : ChunkCopy). (y.number ≡ n) × (y.pair.old ≡ c)) (sym is) holds)
numbered_marks n c (p ∷ cs) (suc k, x, lt, is, holds) = any_after (λ (m : Mark). (m.number ≡ n) × (m.chunk ≡ c)) (mark_of p ∷ []) (map mark_of cs) (numbered_marks n c cs (k, x, omega (arith, lt), is, holds))

among_is : (n c : ℕ) (cs : List ChunkCopy) → Any (λ (p : ChunkCopy). (p.number ≡ n) × (p.pair.old ≡ c)) cs → list_any (λ p. nat_eq p.number n) cs ≡ true
among_is n c cs (k, p, within, is, holds) = elim (cases_Bool (list_any (λ p. nat_eq p.number n) cs)) [
  | inl here ↦ here
  | inr none ↦ absurd (false≢true (sym (All-from_list_any (λ (x : ChunkCopy). nat_eq x.number n) cs none k p within) ∙ ap (λ (x : ChunkCopy). nat_eq x.number n) is ∙ eq-eqb p.number n holds.0))
]

or_left : (a b : Bool) → a ≡ true → (a || b) ≡ true
or_left true b e = refl
or_left false b e = absurd (false≢true e)

or_right : (a b : Bool) → b ≡ true → (a || b) ≡ true
or_right true b e = refl
or_right false b e = e

-- WriteArea
pub commit_room : {l : Bool} (o : List ℕ) (rs : List Flight) (count a : ℕ) (s s' : RoomSnap) → LiveHolds l o rs s.books → Commits count a s.books s'.books → CommitsRoom count s s' → KeepsRoom s s'
commit_room o rs count a s s' h e room = record {
  space = record {
    saved = saved;
    kept_back = λ _. omega (arith, room.kept_back);
    merging = λ _ n is. sym room.merging ∙ is;
    mine = λ _ n c is mine. still n c (sym room.merging ∙ is) mine;
    spare = λ _ none was _. kept (was (sym room.merging ∙ none));
  };
  next = commit_next o rs count a s.books s'.books h e;
}
  where
    saved : KeepsSaved s.books s'.books
    saved = commit_saved o rs count a s.books s'.books h e

    kept : s.spare ≡ true → s'.spare ≡ true
    kept is = room.spare ∙ or_left s.spare (is_among s.merging (take count s.books.copies)) is

    first : List ChunkCopy
    first = take count s.books.copies

    pairs : s'.books.pairs ≡ s.books.pairs ++ map pair_of (take count s.books.copies)
    pairs = e.pairs ∙ ap (λ x. s.books.pairs ++ x) (ap (take count) h.agree ∙ take-map pair_of count s.books.copies)

    placed : (c : ℕ) → place_of (s.books.pairs ++ map pair_of (take count s.books.copies)) c ≢ None → place_of s'.books.pairs c ≢ None
    placed c named none = named (ap (λ ps. place_of ps c) (sym pairs) ∙ none)

    -- the merge's copy is among the first, or goes on
    copy_on : (n c : ℕ) → s.merging ≡ Some n → IsCopyNumbered n c s.books → IsMerging n c s'
    copy_on n c is any = elim (any_split (λ (p : ChunkCopy). (p.number ≡ n) × (p.pair.old ≡ c)) (take count s.books.copies) (drop count s.books.copies)
        (subst (Any (λ (p : ChunkCopy). (p.number ≡ n) × (p.pair.old ≡ c))) (sym (take-append-drop count s.books.copies)) any)) [
          | inl (k, p, within, p_is, (number, old)) ↦ inr (
            room.spare ∙ ap (λ m. s.spare || is_among m (take count s.books.copies)) is ∙ or_right s.spare (list_any (λ p. nat_eq p.number n) (take count s.books.copies)) (among_is n c (take count s.books.copies) (k, p, within, p_is, (number, old))),
            (
              placed c (placed_behind s.books.pairs (map pair_of (take count s.books.copies)) c (named_by (take count s.books.copies) c (k, p, within, p_is, old))),
              subst (Any (λ (m : Mark). (m.number ≡ n) × (m.chunk ≡ c))) (sym e.marks)
                  (any_after (λ (m : Mark). (m.number ≡ n) × (m.chunk ≡ c)) s.books.marks (map mark_of (take count s.books.copies)) (numbered_marks n c (take count s.books.copies) (k, p, within, p_is, (number, old)))),
            ),
          )
          | inr rest ↦ inl (subst (Any (λ (p : ChunkCopy). (p.number ≡ n) × (p.pair.old ≡ c))) (sym e.copies) rest)
        ]

    still : (n c : ℕ) → s.merging ≡ Some n → IsMerging n c s → IsMerging n c s'
    still n c is (inl copy) = copy_on n c is copy
    still n c is (inr (spare, (named, any))) = inr (
      kept spare,
      (
        placed c (placed_more s.books.pairs (map pair_of (take count s.books.copies)) c named),
        subst (Any (λ (m : Mark). (m.number ≡ n) × (m.chunk ≡ c))) (sym e.marks) (any_more (λ (m : Mark). (m.number ≡ n) × (m.chunk ≡ c)) s.books.marks (map mark_of (take count s.books.copies)) any),
      ),
    )

-- Publish. No copy has the number of a mark.
unpublished_some : (k n : ℕ) (merging : Option ℕ) → unpublished k merging ≡ Some n → (merging ≡ Some n) × (n ≢ k)
unpublished_some k n None is = absurd (some_ne_none n (sym is))
unpublished_some k n (Some j) is = elim (cases_Bool (nat_eq j k)) [
  | inl same ↦ absurd (some_ne_none n (sym (ap (λ b. if b then None else Some j) (sym same) ∙ is)))
  | inr other ↦ (let at : Some j ≡ Some n = ap (λ b. if b then None else Some j) (sym other) ∙ is in let here : j ≡ n = cc in (at, λ same. eqb-false j k other (here ∙ same)))
]

unpublished_none : (k : ℕ) (merging : Option ℕ) → unpublished k merging ≡ None → (merging ≡ None) ⊎ (merging ≡ Some k)
unpublished_none k None is = inl refl
unpublished_none k (Some j) is = elim (cases_Bool (nat_eq j k)) [
  | inl same ↦ inr (ap Some (eqb-true j k same))
  | inr other ↦ absurd (some_ne_none j (ap (λ b. if b then None else Some j) (sym other) ∙ is))
]

pub publish_room : (k : ℕ) (m : Mark) (s s' : RoomSnap) → Unmarks k m s.books s'.books → PublishesRoom m s s' → All (λ p. p.number ≢ m.number) s.books.copies → KeepsSpace s s'
publish_room k m s s' e room apart = record {
  saved = unmark_saved k m s.books s'.books e;
  kept_back = λ _. omega (arith, room.kept_back);
  merging = λ _ n is. (unpublished_some m.number n s.merging (sym room.merging ∙ is)).0;
  mine = λ _ n c is mine. still n c (unpublished_some m.number n s.merging (sym room.merging ∙ is)).1 mine;
  spare = λ _ none was mine. room.spare ∙ free (unpublished_none m.number s.merging (sym room.merging ∙ none)) was mine;
}
  where
    still : (n c : ℕ) → n ≢ m.number → IsMerging n c s → IsMerging n c s'
    still n c other (inl copy) = inl (same_copies s.books s'.books e.copies n c copy)
    still n c other (inr (spare, (named, any))) = inr (
      room.spare ∙ spare,
      (
        (λ none. named (ap (λ ps. place_of ps c) (sym e.store.pairs) ∙ none)),
        subst (Any (λ (x : Mark). (x.number ≡ n) × (x.chunk ≡ c))) (sym e.marks)
            (Any-remove (λ (x : Mark). (x.number ≡ n) × (x.chunk ≡ c)) s.books.marks k m e.within e.was (λ is. other (sym is.0)) any),
      ),
    )

    free : (s.merging ≡ None) ⊎ (s.merging ≡ Some m.number) → (s.merging ≡ None → s.spare ≡ true) → ((n : ℕ) → s.merging ≡ Some n → (c : ℕ) × IsMerging n c s) → s.spare ≡ true
    free (inl none) was mine = was none
    free (inr some) was mine = at (mine m.number some)
      where
        at : (c : ℕ) × IsMerging m.number c s → s.spare ≡ true
        at (c, inl (j, p, within, is, (number, old))) = absurd (subst (λ (x : ChunkCopy). x.number ≢ m.number) is (apart j p within) number)
        at (c, inr (spare, mark)) = spare

-- a spoiled snapshot keeps nothing back
dead_room : (s s' : RoomSnap) → s'.books.live ≡ false → KeepsRoom s s'
dead_room s s' dead = record {
  space = record {
    saved = dead_saved s.books s'.books dead;
    kept_back = λ live. absurd (false≢true (sym dead ∙ live));
    merging = λ live. absurd (false≢true (sym dead ∙ live));
    mine = λ live. absurd (false≢true (sym dead ∙ live));
    spare = λ live. absurd (false≢true (sym dead ∙ live));
  };
  next = dead_next s.books s'.books dead;
}

pub spoil_room : (s s' : RoomSnap) → SpoilsSnap s.books s'.books → KeepsRoom s s'
spoil_room s s' e = dead_room s s' e.live

pub mark_room : (s s' : RoomSnap) → WritesMark s.books s'.books → KeepsRoom s s'
mark_room s s' e = dead_room s s' e.live

pub tried_room : (s s' : RoomSnap) → TriesMark s.books s'.books → KeepsRoom s s'
tried_room s s' e = dead_room s s' e.live

-- of all snapshots: one changes, or is detached
pub rooms_changed : (chunk sectors : ℕ) (pairs : List Pair) (snaps : List RoomSnap) (k : ℕ) (s s' : RoomSnap) → k < length snaps → s ≡ get_or snaps k s → KeepsSpace s s' → KeepBack chunk sectors pairs snaps → KeepBack chunk sectors pairs (set snaps k s')
rooms_changed chunk sectors pairs snaps k s s' within is keeps h =
    let was : s.books.live ≡ true → KeepsBack (touched_by s.books.chunk chunk sectors pairs) s =
    subst (λ (x : RoomSnap). x.books.live ≡ true → KeepsBack (touched_by x.books.chunk chunk sectors pairs) x) (sym is) (h k s within) in
    All-set (λ x. x.books.live ≡ true → KeepsBack (touched_by x.books.chunk chunk sectors pairs) x) snaps k s'
    (λ live. subst (λ n. KeepsBack (touched_by n chunk sectors pairs) s') (sym (keeps.saved.chunk live)) (room_kept (touched_by s.books.chunk chunk sectors pairs) s s' keeps was live)) h

pub rooms_set : (chunk sectors : ℕ) (pairs : List Pair) (snaps : List RoomSnap) (k : ℕ) (s' : RoomSnap) → KeepsBack (touched_by s'.books.chunk chunk sectors pairs) s' → KeepBack chunk sectors pairs snaps → KeepBack chunk sectors pairs (set snaps k s')
rooms_set chunk sectors pairs snaps k s' here h = All-set (λ x. x.books.live ≡ true → KeepsBack (touched_by x.books.chunk chunk sectors pairs) x) snaps k s' (λ _. here) h

pub rooms_detached : (chunk sectors : ℕ) (pairs : List Pair) (snaps : List RoomSnap) (k : ℕ) → KeepBack chunk sectors pairs snaps → KeepBack chunk sectors pairs (remove snaps k)
rooms_detached chunk sectors pairs snaps k h = All-remove (λ x. x.books.live ≡ true → KeepsBack (touched_by x.books.chunk chunk sectors pairs) x) snaps k h

-- A copy is published beside a merge: no other snapshot lacks what the merge waits for in it, so no other is spoiled.
use Rattle.std.proofs.Common.{◌≡◌, inl, inr, ℕ, ◌+◌, ◌*◌, ◌<◌, ◌≤◌, Bool, true, false, List, [], ◌∷◌, length, get_or, set, map, Option, Some, None, refl, sym, ◌∙◌, ap, subst, arith, nat_eq}
use Rattle.std.specs.Prelude.{◌&&◌}
use Rattle.std.specs.List.{All, remove, position}
use Rattle.std.proofs.lemmas.Bool.{eqb-true}
use Rattle.std.proofs.lemmas.List.Quantifiers.{position-Some}
use Rattle.std.proofs.lemmas.List.{length-map, length-set, get_or-map, get_or-set_same, get_or-set_other}
use Rattle.std.proofs.Math.Seq.{map-set_same}
use Rattle.sector.specs.declared.pair.Pair.{Pair}
use Rattle.device.specs.Layers.{Layer}
use Rattle.plain_machine.specs.declared.event.Event.TheVariants.{Publish}
use Rattle.in_flight.specs.Copies.{count_of}
use Rattle.in_flight.specs.declared.copies.Mark.{Mark}
use Rattle.in_flight.specs.Due.{is_publishable}
use Rattle.in_flight.specs.declared.flights.Flight.{Flight}
use Rattle.volume_laws.specs.Books.{SnapBooks}
use Rattle.volume_laws.specs.MergeDue.{last_of}
use Rattle.volume_laws.specs.MergeWaits.{IsSavedSoon, next_pairs}
use Rattle.volume_laws.specs.Published.{next_over}
use Rattle.volume_laws.specs.Waits.{IsSaving}
use Rattle.snapshot.specs.Kept.{Kept, books_of as snap_books, unpublished}
use Rattle.snapshot_list.specs.Finding.{is_mark_of}
use Rattle.snapshot_list.specs.Starting.{lacks_chunk, is_full_of}
use Rattle.merge.specs.Lists.{first_or, next_of_group, reading_of, waiting_of}
use Rattle.merge.specs.Merging.{Merging}
use Rattle.snapshot_list.specs.MergeStarting.{IsNextSaved, IsNextSavedBeside, LacksAtMost, next_for}
use Rattle.volume.specs.Volumed.{Volumed}
use Rattle.volume.specs.Whole.{IsWhole}
use Rattle.volume.specs.Causes.{HasDone, counts_of, counts_with, is_lost, lives_of, lives_saved, unmarked}
use Rattle.volume.proofs.MergeDue.{merged}
use Rattle.volume.proofs.Shown.{and_left}
use Rattle.volume.proofs.NextSaved.{next_lives, next_same}
use Rattle.volume.proofs.OneNext.{has_not, one_given, one_lost}

-- the pair that is copied next is the first of those that are
next_head : (reading : List Pair) (last : Option Pair) (q : Pair) → first_or reading last ≡ Some q → (rest : List Pair) × (next_pairs reading last ≡ q ∷ rest)
next_head [] None q e = absurd (cc)
next_head [] (Some p) q e = ([], (let same : p ≡ q = cc in ap (λ x. x ∷ []) same))
next_head (p ∷ reading) last q e = (reading, (let same : p ≡ q = cc in ap (λ x. x ∷ reading) same))

not_full : (a b : Bool) → a ≡ false → (a && b) ≡ false
not_full a b e = ap (λ x. x && b) e

module _ {B : Type 0} (contents : B → List ℕ) (layers : B → List Layer) (size : B → ℕ) (v : Volumed B) (h : IsWhole contents layers size v) (m : Merging B) (was : v.merge ≡ Some m) (q : Pair) (next : next_of_group m.group ≡ Some q) where
  abbrev sb : Kept B → SnapBooks
  sb = snap_books contents layers

  soon : IsSavedSoon m.state.chunk m.state.origin (map sb v.snaps) q
  soon =
      let (rest, head) = next_head (reading_of m.group) (last_of (waiting_of m.group)) q next in
      let all : All (IsSavedSoon m.state.chunk m.state.origin (map sb v.snaps)) (q ∷ rest) = subst (All (IsSavedSoon m.state.chunk m.state.origin (map sb v.snaps))) head ((merged contents layers size v h m was).goes true).next in
      all 0 q (omega arith)

  -- each snapshot has the chunk that is wanted of it, or a copy of it is under way
  pub has_next : (j : ℕ) (d : Kept B) → j < length v.snaps → lacks_chunk (next_for m.state.chunk m.state.origin q (get_or v.snaps j d)) (get_or v.snaps j d) ≡ false
  has_next j d lt =
      let s : Kept B = get_or v.snaps j d in
      let one : sb s ≡ get_or (map sb v.snaps) j (sb d) = sym (get_or-map sb v.snaps j d (sb d) lt) in
      has_not (next_for m.state.chunk m.state.origin q s) s
      (subst (λ (x : SnapBooks). x.live ≡ true → IsSaving (next_over (m.state.chunk * q.old) (count_of m.state.chunk m.state.origin q.old) x) x) (sym one) (soon j (sb d) (omega (arith, lt, length-map v.snaps sb))))

  -- so one that changes is the only one that may lack its own
  pub others_have : (k : ℕ) (s' : Kept B) → LacksAtMost (next_for m.state.chunk m.state.origin q) k (set v.snaps k s')
  others_have k s' j d lt ne =
      let within : j < length v.snaps = omega (arith, lt, length-set v.snaps k s') in
      subst (λ (x : Kept B). lacks_chunk (next_for m.state.chunk m.state.origin q x) x ≡ false) (sym (get_or-set_other v.snaps k j s' d ne)) (has_next j d within)

  -- and the only one that may be spoiled
  module _ (faults : B → ℕ) (number k index : ℕ) (s s' : Kept B) (w : Volumed B) (within : k < length v.snaps) (is : s ≡ get_or v.snaps k s) (mine : (x : Mark) → x ≡ get_or s.marks index x → x.number ≡ number)
      (live : s'.live ≡ s.live) (same : is_lost m.state.chunk m.state.origin q s' ≡ is_lost m.state.chunk m.state.origin q (unmarked index s)) where
    pub filled_cause : counts_of faults w ≡ counts_of faults v → lives_of w ≡ lives_saved m.state.chunk m.state.origin (Some q) (set v.snaps k s') → HasDone faults (Publish number) v w
    filled_cause counts lives =
        let at : s' ≡ get_or (set v.snaps k s') k s' = sym (get_or-set_same v.snaps k s' s' within) in
        let kept : map (λ (x : Kept B). x.live) (set v.snaps k s') ≡ lives_of v = map-set_same (λ (x : Kept B). x.live) v.snaps k s' s (live ∙ ap (λ (x : Kept B). x.live) is) in
        elim (one_lost (is_lost m.state.chunk m.state.origin q) k s' (set v.snaps k s') (omega (arith, within, length-set v.snaps k s')) at
        (λ j d lt ne. not_full (lacks_chunk (next_for m.state.chunk m.state.origin q (get_or (set v.snaps k s') j d)) (get_or (set v.snaps k s') j d)) (is_full_of (get_or (set v.snaps k s') j d)) (others_have k s' j d lt ne))) [
          | inl lost ↦ inr (record {
            place = k;
            snap = s;
            at = record { within = within; is = is };
            index = index;
            mine = mine;
            merge = m;
            is = was;
            pair = q;
            next = next;
            full = sym same ∙ lost.0;
            counts = counts;
            lives = lives ∙ lost.1 ∙ ap (λ bs. set bs k false) kept;
          })
          | inr fine ↦ inl (record { counts = counts; lives = lives ∙ fine.1 ∙ kept })
        ]

-- a mark that a search found has the number that was looked for
pub mark_number : {B : Type 0} (s : Kept B) (flights : List Flight) (number j : ℕ) → position (is_mark_of s flights number) s.marks ≡ Some j → (x : Mark) → x ≡ get_or s.marks j x → x.number ≡ number
mark_number s flights number j found x is =
    let here = position-Some (is_mark_of s flights number) s.marks j x found in
    eqb-true x.number number (and_left (nat_eq x.number number) (is_publishable s.number s.state.chunk flights x) (ap (is_mark_of s flights number) is ∙ here.1))

-- The mark at place j of snapshot k is taken away, and then the copies are started that a merge waits for, if one is begun.
module _ {B : Type 0} (contents : B → List ℕ) (layers : B → List Layer) (size : B → ℕ) (v : Volumed B) (h : IsWhole contents layers size v) (number k : ℕ) (s s' : Kept B) (within : k < length v.snaps) (is : s ≡ get_or v.snaps k s) (j : ℕ) (mark : Mark)
    (mine : (x : Mark) → x ≡ get_or s.marks j x → x.number ≡ number) (f : s' ≡ record s { marks = remove s.marks j; merging = unpublished mark.number s.merging })
    (ts : List (Kept B)) (n : ℕ) (fs gs : List Flight) (saved : IsNextSavedBeside contents layers v.merge (set v.snaps k s') ts v.copies n fs gs) where
  abbrev filled_to : Volumed B
  filled_to = record v { snaps = ts; copies = n; flights = gs }

  live : s'.live ≡ s.live
  live = ap (λ (x : Kept B). x.live) f

  lives_before : map (λ (x : Kept B). x.live) (set v.snaps k s') ≡ lives_of v
  lives_before = map-set_same (λ (x : Kept B). x.live) v.snaps k s' s (live ∙ ap (λ (x : Kept B). x.live) is)

  -- with the counts that some devices have
  counts_before : (count : B → ℕ) → map (λ (x : Kept B). count x.device) (set v.snaps k s') ≡ map (λ (x : Kept B). count x.device) v.snaps
  counts_before count = map-set_same (λ (x : Kept B). count x.device) v.snaps k s' s (ap (λ (x : Kept B). count x.device) f ∙ ap (λ (x : Kept B). count x.device) is)

  same_loss : (chunk sectors : ℕ) (q : Pair) → is_lost chunk sectors q s' ≡ is_lost chunk sectors q (unmarked j s)
  same_loss chunk sectors q = ap (is_lost chunk sectors q) f

  module _ (faults : B → ℕ) where
    counted : map (λ (x : Kept B). faults x.device) ts ≡ map (λ (x : Kept B). faults x.device) (set v.snaps k s') → counts_of faults filled_to ≡ counts_of faults v
    counted same = ap (λ ns. counts_with faults v.merge (faults v.origin ∷ ns)) (same ∙ counts_before faults)

    no_more : ts ≡ set v.snaps k s' → HasDone faults (Publish number) v filled_to
    no_more same = inl (record { counts = counted (ap (map (λ (x : Kept B). faults x.device)) same); lives = ap (map (λ (x : Kept B). x.live)) same ∙ lives_before })

    beside_pair : (m : Merging B) → v.merge ≡ Some m → (o : Option Pair) → next_of_group m.group ≡ o → IsNextSaved contents layers m.state.chunk m.state.origin o (set v.snaps k s') ts v.copies n fs gs → HasDone faults (Publish number) v filled_to
    beside_pair m was None next e = no_more e.0
    beside_pair m was (Some q) next e =
        let at : Kept B → ℕ = next_for m.state.chunk m.state.origin q in
        filled_cause contents layers size v h m was q next faults number k j s s' filled_to within is mine live (same_loss m.state.chunk m.state.origin q)
        (counted (next_same contents layers (next_for m.state.chunk m.state.origin q) (λ (x : Kept B). faults x.device) (λ x a b c d e f. refl) (λ x. refl) (set v.snaps k s') ts v.copies n fs gs e))
        (next_lives contents layers (next_for m.state.chunk m.state.origin q) (set v.snaps k s') ts v.copies n fs gs e)

    beside_merge : (o : Option (Merging B)) → v.merge ≡ o → IsNextSavedBeside contents layers o (set v.snaps k s') ts v.copies n fs gs → HasDone faults (Publish number) v filled_to
    beside_merge None was e = no_more e.0
    beside_merge (Some m) was e = beside_pair m was (next_of_group m.group) refl e

    pub published_cause : HasDone faults (Publish number) v filled_to
    published_cause = beside_merge v.merge refl saved

  -- one copy is started at most
  copies_pair : (m : Merging B) → v.merge ≡ Some m → (o : Option Pair) → next_of_group m.group ≡ o → IsNextSaved contents layers m.state.chunk m.state.origin o (set v.snaps k s') ts v.copies n fs gs → n ≤ v.copies + 1
  copies_pair m was None next e = omega (arith, e.1)
  copies_pair m was (Some q) next e = one_given contents layers (next_for m.state.chunk m.state.origin q) k (set v.snaps k s') ts v.copies n fs gs (others_have contents layers size v h m was q next k s') e

  copies_merge : (o : Option (Merging B)) → v.merge ≡ o → IsNextSavedBeside contents layers o (set v.snaps k s') ts v.copies n fs gs → n ≤ v.copies + 1
  copies_merge None was e = omega (arith, e.1)
  copies_merge (Some m) was e = copies_pair m was (next_of_group m.group) refl e

  pub published_copies : n ≤ v.copies + 1
  published_copies = copies_merge v.merge refl saved

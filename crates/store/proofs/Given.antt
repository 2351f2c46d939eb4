-- The places that a store has given away.
use Rattle.std.proofs.Common.{◌≡◌, ◌≢◌, inl, inr, ℕ, zero, suc, ◌+◌, ◌*◌, ◌/◌, ◌<◌, ◌≤◌, List, [], ◌∷◌, ◌++◌, length, take, drop, get_or, arith, refl, ap, ◌∙◌, sym, subst, Bool, true, false, append_assoc, append-nil, length-append, map}
use Rattle.std.proofs.lemmas.Bool.{false≢true, cases_eq, cond-true, cond-false, eq-eqb, ne_eqb}
use Rattle.std.proofs.lemmas.List.{map-append, take-append-drop, get_or-map, length-map, get_or_append_left, get_or-append-add}
use Rattle.std.proofs.lemmas.List.Elements.{All-push, All-append}
use Rattle.std.proofs.lemmas.List.Quantifiers.{all_pairs_push}
use Rattle.std.specs.Prelude.{AllPairs, Some, None}
use Rattle.std.specs.List.{All}
use Rattle.sector.specs.declared.pair.Pair.{Pair}
use Rattle.cow_format.specs.Places.{area_place, is_area_place}
use Rattle.cow_format.specs.Pairs.{IsApart, IsInside, AreWellFormed}
use Rattle.cow_format.specs.NextPlace.{IsNextPlace, stepped}
use Rattle.cow_format.specs.Picture.{place_of}
use Rattle.cow_format.proofs.AreaPlaces.{area_of}
use Rattle.cow_format.proofs.NextPlaces.{next-taken}
use Rattle.store.specs.Stored.{IsFront, AreGiven, new_of}
use Rattle.store.specs.declared.state.State.{State}

-- the area of the next pair, in a store whose current area has an empty slot
pub front_room : (ps : List Pair) (s : State) (area : List ℕ) → IsFront ps s area → s.filled < 32 * s.chunk → s.chunk * (area_place s.chunk (length ps / (32 * s.chunk)) + 1) ≤ s.size
front_room ps s area is below =
    let at : length ps / (32 * s.chunk) ≡ s.current = ap (λ n. n / (32 * s.chunk)) is.count ∙ area_of s.chunk s.current s.filled below in
    let P : ℕ → Type 0 = λ a. s.chunk * (area_place s.chunk a + 1) ≤ s.size in
    subst P (sym at) is.place

-- pairs that go from those under way to the committed ones
pub given_moved : (chunk origin size place : ℕ) (copying : Bool) (C P C' P' : List Pair) → AreGiven chunk origin size place copying C P → C' ++ P' ≡ C ++ P → chunk * (area_place chunk (length C' / (32 * chunk)) + 1) ≤ size → AreGiven chunk origin size place copying C' P'
given_moved chunk origin size place copying C P C' P' given same room = record {
  inside = subst (λ (ps : List Pair). All (IsInside chunk origin size) ps) (sym same) given.inside;
  apart = subst (λ (ps : List Pair). AllPairs IsApart ps) (sym same) given.apart;
  room = room;
  least = λ c. subst (λ (ps : List Pair). IsNextPlace chunk (map new_of ps) place) (sym same) (given.least c);
}

-- the first of a list, and the rest
pub split_pairs : {A : Type 0} (f : A → Pair) (C : List Pair) (P : List A) (count : ℕ) → (C ++ map f (take count P)) ++ map f (drop count P) ≡ C ++ map f P
split_pairs f C P count =
    append_assoc C (map f (take count P)) (map f (drop count P))
    ∙ ap (λ x. C ++ x) (sym (map-append f (take count P) (drop count P)) ∙ ap (map f) (take-append-drop count P))

-- a chunk without a pair is no pair's old chunk
pub none_named : (ps : List Pair) (c : ℕ) → place_of ps c ≡ None → All (λ p. p.old ≢ c) ps
none_named [] c none k d lt = absurd (omega arith)
none_named (p ∷ ps) c none k d lt = elim (cases_eq p.old c) [
  | inl e ↦ (let h : Some p.new ≡ None = sym (cond-true _ _ _ (eq-eqb _ _ e)) ∙ none in absurd (cc))
  | inr ne ↦ none_here p ps c ne (none_named ps c (sym (cond-false _ _ _ (ne_eqb _ _ ne)) ∙ none)) k d lt
]
  where
    none_here : (p : Pair) (ps : List Pair) (c : ℕ) → p.old ≢ c → All (λ q. q.old ≢ c) ps → All (λ q. q.old ≢ c) (p ∷ ps)
    none_here p ps c ne all zero d lt = ne
    none_here p ps c ne all (suc k) d lt = all k d (omega arith)

-- and the other way round
pub not_named : (ps : List Pair) (c : ℕ) → All (λ p. p.old ≢ c) ps → place_of ps c ≡ None
not_named [] c none = refl
not_named (p ∷ ps) c none = cond-false _ _ _ (ne_eqb _ _ (none 0 p (omega arith))) ∙ not_named ps c (λ k d lt. none (suc k) d (omega arith))

-- no pair of two lists names a chunk
pub place-both : (ps qs : List Pair) (c : ℕ) → place_of ps c ≡ None → place_of qs c ≡ None → place_of (ps ++ qs) c ≡ None
place-both ps qs c p q = not_named (ps ++ qs) c (All-append (λ x. x.old ≢ c) ps qs (none_named ps c p) (none_named qs c q))

-- a copy starts: its pair has the next place
pub given_begun : (chunk origin size place : ℕ) (C P : List Pair) (q : Pair) → 0 < chunk → AreGiven chunk origin size place true C P → q.new ≡ place → chunk * (place + 1) ≤ size → chunk * q.old < origin → place_of C q.old ≡ None → place_of P q.old ≡ None → AreGiven chunk origin size (stepped chunk (place + 1)) true C (P ++ q ∷ [])
given_begun chunk origin size place C P q pos given at fits begins none idle =
    let is = given.least refl in
    let same : C ++ (P ++ q ∷ []) ≡ (C ++ P) ++ q ∷ [] = sym (append_assoc C P (q ∷ [])) in
    let absent : All (λ p. p.old ≢ q.old) (C ++ P) = none_named (C ++ P) q.old (place-both C P q.old none idle) in
    let low : 0 < q.new = (let l = is.low in omega arith) in
    let inside : IsInside chunk origin size q = record { old = begins; new = (let Q : ℕ → Type 0 = λ n. chunk * (n + 1) ≤ size in subst Q (sym at) fits); low = low; free = ap (is_area_place chunk) at ∙ is.free } in
    let below : (k : ℕ) (d : Pair) → k < length (C ++ P) → (get_or (C ++ P) k d).new < place = λ k d lt. (
    let e : get_or (map new_of (C ++ P)) k (new_of d) ≡ (get_or (C ++ P) k d).new = get_or-map new_of (C ++ P) k d (new_of d) lt in
    let h = is.past k (new_of d) (let n = length-map (C ++ P) new_of in omega arith) in omega arith) in
    let more : map new_of (C ++ (P ++ q ∷ [])) ≡ map new_of (C ++ P) ++ place ∷ [] = ap (map new_of) same ∙ map-append new_of (C ++ P) (q ∷ []) ∙ ap (λ n. map new_of (C ++ P) ++ n ∷ []) at in
    record {
      inside = subst (λ (ps : List Pair). All (IsInside chunk origin size) ps) (sym same) (All-push (IsInside chunk origin size) (C ++ P) q given.inside inside);
      apart = subst (λ (ps : List Pair). AllPairs IsApart ps) (sym same) (all_pairs_push IsApart (C ++ P) q given.apart (λ k d lt. record { old = absent k d lt; new = (let h = below k d lt in omega arith) }));
      room = given.room;
      least = λ _. subst (λ (ns : List ℕ). IsNextPlace chunk ns (stepped chunk (place + 1))) (sym more) (next-taken chunk (map new_of (C ++ P)) place pos is);
    }

-- copies are dropped: no copy starts any more
pub given_dropped : (chunk origin size place : ℕ) (copying : Bool) (C P : List Pair) → AreGiven chunk origin size place copying C P → AreGiven chunk origin size place false C []
given_dropped chunk origin size place copying C P given =
    let len = length-append C P in
    let nil = append-nil C in
    let at : (k : ℕ) (d : Pair) → k < length C → get_or (C ++ P) k d ≡ get_or C k d = λ k d lt. get_or_append_left C P d k lt in
    record {
      inside = subst (λ (ps : List Pair). All (IsInside chunk origin size) ps) (sym nil) (λ k d lt. subst (λ (p : Pair). IsInside chunk origin size p) (at k d lt) (given.inside k d (omega arith)));
      apart = subst (λ (ps : List Pair). AllPairs IsApart ps) (sym nil) (λ j k d lt lt'. subst (λ (p : Pair). IsApart p (get_or C k d)) (at j d (omega arith)) (subst (λ (p : Pair). IsApart (get_or (C ++ P) j d) p) (at k d lt') (given.apart j k d lt (omega arith))));
      room = given.room;
      least = λ e. absurd (false≢true e);
    }

-- the new chunks of pairs under way are chunks
pub pending_new : (chunk origin size place : ℕ) (copying : Bool) (C P : List Pair) → AreGiven chunk origin size place copying C P → (i : ℕ) (d : Pair) → i < length P → IsInside chunk origin size (get_or P i d)
pending_new chunk origin size place copying C P given i d lt =
    let len = length-append C P in
    subst (λ (p : Pair). IsInside chunk origin size p) (get_or-append-add C P i d) (given.inside (length C + i) d (omega arith))

-- the committed pairs are well formed
pub given_formed : (chunk origin size place : ℕ) (copying : Bool) (C P : List Pair) → AreGiven chunk origin size place copying C P → AreWellFormed chunk origin size C
given_formed chunk origin size place copying C P given =
    let alone = given_dropped chunk origin size place copying C P given in
    let nil = append-nil C in
    record {
      inside = subst (λ (ps : List Pair). All (IsInside chunk origin size) ps) nil alone.inside;
      apart = subst (λ (ps : List Pair). AllPairs IsApart ps) nil alone.apart;
      room = given.room;
    }

-- pairs of a load
pub given_loaded : (chunk origin size place : ℕ) (C : List Pair) → AreWellFormed chunk origin size C → IsNextPlace chunk (map new_of C) place → AreGiven chunk origin size place true C []
given_loaded chunk origin size place C formed next =
    let nil = sym (append-nil C) in
    record {
      inside = subst (λ (ps : List Pair). All (IsInside chunk origin size) ps) nil formed.inside;
      apart = subst (λ (ps : List Pair). AllPairs IsApart ps) nil formed.apart;
      room = formed.room;
      least = λ _. subst (λ (ps : List Pair). IsNextPlace chunk (map new_of ps) place) nil next;
    }

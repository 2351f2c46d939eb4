-- The pairs of the copies that began first.
use Rattle.std.proofs.Common.{◌≡◌, ◌≢◌, ℕ, ◌+◌, ◌*◌, ◌<◌, ◌≤◌, List, [], ◌∷◌, ◌++◌, length, take, drop, get_or, arith, ap, ◌∙◌, sym, subst, Bool, true, false}
use Rattle.std.specs.Prelude.{None}
use Rattle.std.proofs.lemmas.List.{get_or-map, get_or-take, length-map, length-take-le, map_more, map-append}
use Rattle.sector.specs.declared.pair.Pair.{Pair}
use Rattle.cow_format.specs.NextPlace.{stepped}
use Rattle.cow_format.specs.Picture.{place_of}
use Rattle.exception_arena.specs.declared.begun.Begun.{Begun}
use Rattle.exception_arena.specs.Pending.{pair_of, pairs}
use Rattle.store.specs.Stored.{AreGiven}
use Rattle.store.proofs.Given.{split_pairs, pending_new, given_begun, given_dropped}

-- there are as many as are taken
pub length-first : (count : ℕ) (P : List Begun) → count ≤ length P → length (pairs (take count P)) ≡ count
length-first count P le = length-map (take count P) pair_of ∙ length-take-le count P le

-- one of them
pub get_or-first : (count i : ℕ) (P : List Begun) (d : Pair) → count ≤ length P → i < count → get_or (pairs (take count P)) i d ≡ get_or (pairs P) i d
get_or-first count i P d le lt =
    get_or-map pair_of (take count P) i (record { id = 0; pair = d }) d (let h = length-take-le count P le in omega arith)
    ∙ ap pair_of (get_or-take count P i (record { id = 0; pair = d }) lt)
    ∙ sym (get_or-map pair_of P i (record { id = 0; pair = d }) d (omega arith))

-- one more
pub first_more : (P : List Begun) (i : ℕ) (d : Begun) → i < length P → d ≡ get_or P i d → pairs (take (i + 1) P) ≡ pairs (take i P) ++ d.pair ∷ []
first_more P i d lt is = map_more pair_of P i d lt ∙ ap (λ x. pairs (take i P) ++ x.pair ∷ []) (sym is)

-- they have new chunks
pub first_valid : (chunk origin size place count : ℕ) (copying : Bool) (C : List Pair) (P : List Begun) → AreGiven chunk origin size place copying C (pairs P) → count ≤ length P → (i : ℕ) (d : Pair) → i < length (pairs (take count P)) → (get_or (pairs (take count P)) i d).new ≢ 0
first_valid chunk origin size place count copying C P given le i d lt e =
    let n = length-first count P le in
    let m : length (pairs P) ≡ length P = length-map P pair_of in
    let is = pending_new chunk origin size place copying C (pairs P) given i d (omega arith) in
    let low = is.low in
    let same : (get_or (pairs (take count P)) i d).new ≡ (get_or (pairs P) i d).new = ap (λ p. p.new) (get_or-first count i P d le (omega arith)) in
    omega arith

-- the committed pairs with them, and the others, are those from before
pub first_moved : (C : List Pair) (P : List Begun) (count : ℕ) → (C ++ pairs (take count P)) ++ pairs (drop count P) ≡ C ++ pairs P
first_moved C P count = split_pairs pair_of C P count

-- a copy was started
pub given_started : (chunk origin size place place' : ℕ) (copying : Bool) (C C' : List Pair) (P P' : List Begun) (b : Begun) → 0 < chunk → AreGiven chunk origin size place copying C (pairs P) → copying ≡ true → b.pair.new ≡ place → chunk * (place + 1) ≤ size → chunk * b.pair.old < origin → place_of C b.pair.old ≡ None → place_of (pairs P) b.pair.old ≡ None → C' ≡ C → P' ≡ P ++ b ∷ [] → place' ≡ stepped chunk (place + 1) → AreGiven chunk origin size place' copying C' (pairs P')
given_started chunk origin size place place' copying C C' P P' b pos given may new fits begins absent idle cs ps next =
    let more : pairs P' ≡ pairs P ++ b.pair ∷ [] = ap pairs ps ∙ map-append pair_of P (b ∷ []) in
    let free : AreGiven chunk origin size place true C (pairs P) = subst (λ (x : Bool). AreGiven chunk origin size place x C (pairs P)) may given in
    let begun = given_begun chunk origin size place C (pairs P) b.pair pos free new fits begins absent idle in
    subst (λ (x : Bool). AreGiven chunk origin size place' x C' (pairs P')) (sym may)
    (subst (λ (n : ℕ). AreGiven chunk origin size n true C' (pairs P')) (sym next)
    (subst (λ (qs : List Pair). AreGiven chunk origin size (stepped chunk (place + 1)) true C' qs) (sym more)
    (subst (λ (qs : List Pair). AreGiven chunk origin size (stepped chunk (place + 1)) true qs (pairs P ++ b.pair ∷ [])) (sym cs) begun)))

-- the copies were dropped
pub given_none : (chunk origin size place : ℕ) (copying : Bool) (C C' : List Pair) (P P' : List Begun) → AreGiven chunk origin size place copying C (pairs P) → C' ≡ C → P' ≡ [] → AreGiven chunk origin size place false C' (pairs P')
given_none chunk origin size place copying C C' P P' given cs ps =
    subst (λ (qs : List Pair). AreGiven chunk origin size place false C' qs) (sym (ap pairs ps))
    (subst (λ (qs : List Pair). AreGiven chunk origin size place false qs []) (sym cs) (given_dropped chunk origin size place copying C (pairs P) given))

-- The greatest numbers of pairs, and that those of pairs that are there fit.
use Rattle.std.proofs.Common.{◌≡◌, ℕ, ◌+◌, ◌-◌, ◌*◌, ◌^◌, ◌<◌, ◌≤◌, List, [], ◌∷◌, ◌++◌, length, get_or, take, map, max, arith, sym, subst}
use Rattle.std.specs.List.{All}
use Rattle.std.proofs.lemmas.List.{get_or-map, length-map, map_more}
use Rattle.std.proofs.lemmas.Nat.{mul-le}
use Rattle.sector.specs.declared.pair.Pair.{Pair}
use Rattle.cow_format.specs.Pairs.{IsInside}
use Rattle.chunk_alloc.specs.Greatest.{IsGreatest}
use Rattle.chunk_alloc.proofs.Greatest.{greatest-push}
use Rattle.store.proofs.Areas.{no_chunks}

-- one pair more
pub greatest_more : (f : Pair → ℕ) (pairs : List Pair) (i greatest n : ℕ) (d : Pair) → i < length pairs → IsGreatest (map f (take i pairs)) greatest → n ≡ max greatest (f (get_or pairs i d)) → IsGreatest (map f (take (i + 1) pairs)) n
greatest_more f pairs i greatest n d lt is more =
    let e : map f (take (i + 1) pairs) ≡ map f (take i pairs) ++ f (get_or pairs i d) ∷ [] = map_more f pairs i d lt in
    subst (λ (x : ℕ). IsGreatest (map f (take (i + 1) pairs)) x) (sym more) (subst (λ (ns : List ℕ). IsGreatest ns (max greatest (f (get_or pairs i d)))) (sym e) (greatest-push (map f (take i pairs)) greatest (f (get_or pairs i d)) is))

-- none is greater
pub greatest_all : (f : Pair → ℕ) (pairs : List Pair) (greatest : ℕ) → IsGreatest (map f pairs) greatest → (k : ℕ) → k < length pairs → f (get_or pairs k no_chunks) < greatest + 1
greatest_all f pairs greatest is k lt =
    let le = is.all k 0 (omega (arith, length-map pairs f)) in
    let e = get_or-map f pairs k no_chunks 0 lt in
    omega arith

-- the next number fits where the next one of each does
pub greatest_fits : (f : Pair → ℕ) (pairs : List Pair) (greatest : ℕ) → IsGreatest (map f pairs) greatest → All (λ pair. f pair + 1 < 2 ^ 64) pairs → greatest + 1 < 2 ^ 64
greatest_fits f pairs greatest is all =
    let below : greatest < 2 ^ 64 - 1 = is.one (2 ^ 64 - 1) (omega arith) (λ k d lt.
    let lt' : k < length pairs = omega (arith, length-map pairs f) in
    let e = get_or-map f pairs k no_chunks d lt' in
    let fits = all k no_chunks lt' in
    omega arith) in
    omega arith

-- numbers of pairs that are there fit, with the next one
pub inside_old : (chunk origin size : ℕ) (pairs : List Pair) → 0 < chunk → origin < 2 ^ 64 → All (IsInside chunk origin size) pairs → All (λ pair. pair.old + 1 < 2 ^ 64) pairs
inside_old chunk origin size pairs pos fits all k d lt =
    let below = (all k d lt).old in
    let up : 1 * (get_or pairs k d).old ≤ chunk * (get_or pairs k d).old = mul-le 1 _ chunk _ (omega arith) (omega arith) in
    omega arith

pub inside_new : (chunk origin size : ℕ) (pairs : List Pair) → 0 < chunk → size < 2 ^ 64 → All (IsInside chunk origin size) pairs → All (λ pair. pair.new + 1 < 2 ^ 64) pairs
inside_new chunk origin size pairs pos fits all k d lt =
    let below = (all k d lt).new in
    let up : 1 * ((get_or pairs k d).new + 1) ≤ chunk * ((get_or pairs k d).new + 1) = mul-le 1 _ chunk _ (omega arith) (omega arith) in
    omega arith

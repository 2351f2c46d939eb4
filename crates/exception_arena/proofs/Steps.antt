-- The steps of loops over several pairs.
use Rattle.std.proofs.Common.{◌≡◌, ℕ, ◌+◌, ◌-◌, ◌<◌, List, [], ◌∷◌, ◌++◌, Option, None, Some, IfSome, length, get_or, take, drop, ap, ◌∙◌, sym, append_assoc, arith}
use Rattle.std.proofs.lemmas.List.{map_more, get_or-drop, take-take, length-take-le, get_or-take}
use Rattle.sector.specs.declared.pair.Pair.{Pair}
use Rattle.exception_arena.specs.declared.begun.Begun.{Begun}
use Rattle.exception_arena.specs.Pending.{pair_of, pairs}

-- one pair more is committed
pub finish_step : (C : List Pair) (P : List Begun) (c c' : List Pair) (p : List Begun) (b : Begun) (i : ℕ) → i < length P → c ≡ C ++ pairs (take i P) → p ≡ drop i P → ((d : Begun) → b ≡ get_or p 0 d) → c' ≡ c ++ b.pair ∷ [] → c' ≡ C ++ pairs (take (i + 1) P)
finish_step C P c c' p b i lt is rest first more =
    let e : b ≡ get_or P i b = first b ∙ ap (λ x. get_or x 0 b) rest ∙ get_or-drop i P 0 b ∙ ap (λ x. get_or P x b) (omega arith) in
    more ∙ ap (λ x. x ++ b.pair ∷ []) is ∙ append_assoc C (pairs (take i P)) (b.pair ∷ [])
    ∙ ap (λ x. C ++ (pairs (take i P) ++ x ∷ [])) (ap (λ x. x.pair) e) ∙ ap (λ x. C ++ x) (sym (map_more pair_of P i b lt))

-- one pair less
pub remove_step : (C c c' : List Pair) (i : ℕ) → i < length C → c ≡ take (length C - i) C → c' ≡ take (length c - 1) c → c' ≡ take (length C - (i + 1)) C
remove_step C c c' i lt is less =
    let len : length c ≡ length C - i = ap length is ∙ length-take-le (length C - i) C (omega arith) in
    less ∙ ap (λ x. take (length c - 1) x) is ∙ take-take (length c - 1) (length C - i) C (omega arith) ∙ ap (λ n. take n C) (omega arith)

-- the last pair of those that are left
pub last_left : (C c : List Pair) (i : ℕ) (d : Pair) → i < length C → c ≡ take (length C - i) C → get_or c (length c - 1) d ≡ get_or C (length C - (i + 1)) d
last_left C c i d lt is =
    let len : length c ≡ length C - i = ap length is ∙ length-take-le (length C - i) C (omega arith) in
    ap (λ x. get_or x (length c - 1) d) is ∙ get_or-take (length C - i) C (length c - 1) d (omega arith) ∙ ap (λ n. get_or C n d) (omega arith)

-- a pair that was pending is the last one that is committed
pub committed_under : (under : Option Pair) (C c' : List Pair) (b x : Begun) → b ≡ x → IfSome under (λ pair. x.pair ≡ pair) → c' ≡ C ++ b.pair ∷ [] → IfSome under (λ pair. c' ≡ C ++ pair ∷ [])
committed_under None C c' b x is here more = tt
committed_under (Some pair) C c' b x is here more = more ∙ ap (λ y. C ++ y.pair ∷ []) is ∙ ap (λ y. C ++ y ∷ []) here

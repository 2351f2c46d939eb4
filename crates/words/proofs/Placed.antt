-- A room of 32 bytes that is put before a place of a longer one.
use Rattle.std.proofs.Common.{◌≡◌, ℕ, ◌+◌, ◌-◌, ◌≤◌, List, ◌++◌, length, take, drop, arith, ap, subst, sym, ◌∙◌}
use Rattle.std.proofs.lemmas.List.{drop-drop, drop-append-le, drop_at, length-take-le}
use borrow.Rule.Slice.PartMut.{post_of, put_mid}

-- what stands there from one of its places on
pub placed : (end start : ℕ) (xs ys : List ℕ) → end ≤ length xs → 32 ≤ end → length ys ≡ 32 → start ≤ 32 → drop (end - 32 + start) (put_mid (end - 32) (end - (end - 32)) xs ys) ≡ drop start ys ++ drop end xs
placed end start xs ys within space full few =
    let a = end - 32 in
    let rest = post_of a (end - a) xs in
    let before : drop a (take a xs ++ (ys ++ rest)) ≡ ys ++ rest = drop_at (take a xs) (ys ++ rest) a (length-take-le a xs (omega (arith, within))) in
    let after : rest ≡ drop end xs = drop-drop (end - a) a xs ∙ ap (λ n. drop n xs) (omega (arith, space)) in
    sym (drop-drop start a (take a xs ++ (ys ++ rest)))
    ∙ ap (drop start) before
    ∙ drop-append-le start ys rest (subst (λ n. start ≤ n) (sym full) few)
    ∙ ap (λ z. drop start ys ++ z) after

-- Bytes of a window are the image's.
use Rattle.std.proofs.Common.{◌≡◌, ℕ, ◌+◌, ◌-◌, ◌≤◌, List, length, take, drop, Option, Some, None, IfSome, arith, rules, refl, ap, ◌∙◌}
use Rattle.std.proofs.lemmas.List.{places, same_lists}
use Rattle.cow_image.specs.Windows.{IsWindowOf}

-- what lies in a window lies in the image
pub lies_inside : (known : Option (List ℕ)) (place : Option ℕ) (window : List ℕ) (first at n : ℕ) → IsWindowOf known place window → place ≡ Some first → first ≤ at → at - first + n ≤ length window → IfSome known (λ b. at + n ≤ length b)
lies_inside None place window first at n held is below fits = tt
lies_inside (Some b) place window first at n held is below fits = let stand = held b first refl is in let inside : first + length window ≤ length b = stand.inside in omega arith

part_of : (b window : List ℕ) (first at n room : ℕ) → first + length window ≤ length b → window ≡ take (length window) (drop first b) → first ≤ at → at - first + n ≤ length window → room ≡ n → take room (drop (at - first) window) ≡ take n (drop at b)
part_of b window first at n room inside same below fits is =
    ap (λ w. take room (drop (at - first) w)) same ∙ same_lists _ _ (search (rules, places)) (λ k d h. grind (arith, places))

-- a part of the window is the image's bytes there
pub lies_same : (known : Option (List ℕ)) (place : Option ℕ) (window lent out : List ℕ) (first at n : ℕ) → IsWindowOf known place window → place ≡ Some first → first ≤ at → at - first + n ≤ length window → lent ≡ window → out ≡ take (at - first + n - (at - first)) (drop (at - first) lent) → IfSome known (λ b. out ≡ take n (drop at b))
lies_same None place window lent out first at n held is below fits same got = tt
lies_same (Some b) place window lent out first at n held is below fits same got =
    let stand = held b first refl is in
    let room : at - first + n - (at - first) ≡ n = omega arith in
    got ∙ ap (λ w. take (at - first + n - (at - first)) (drop (at - first) w)) same ∙ part_of b window first at n _ stand.inside stand.same below fits room

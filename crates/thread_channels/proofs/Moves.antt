-- Each step keeps the tickets in balance.
use Rattle.std.proofs.Common.{◌≡◌, ◌≢◌, ℕ, zero, suc, ◌+◌, ◌-◌, ◌<◌, ◌≤◌, List, [], ◌∷◌, ◌++◌, set, refl, sym, ap, ◌∙◌, subst, ⊎_elim, arith, length-append}
use mathlib.Core.Option.{some, some-ne-none, some-injective}
use lib.ListN.{get_elem?}
use Rattle.atomic_table.proofs.Lists.{at_set, at_snoc}
use Rattle.crossbeam_channel.specs.Fifo.{Pushes, Pops, Forks, Merges, Learns}
use Rattle.thread_channels.specs.Balance.{hand, weigh, total, IdleIsEmpty, Balanced, IsLeft}
use Rattle.thread_channels.specs.declared.ticket.Ticket.{Ticket}
use Rattle.thread_channels.specs.declared.rule.Hand.{Hand}

pub weigh-append : (h : Ticket → ℕ) (xs ys : List Ticket) → weigh h (xs ++ ys) ≡ weigh h xs + weigh h ys
weigh-append h [] ys = omega arith
weigh-append h (x ∷ xs) ys = let e = weigh-append h xs ys in omega arith

-- the total after a change of one pass
total_set : (f : Hand → ℕ) (views : List Hand) (port : ℕ) (v w : Hand) → get_elem? views port ≡ some v → total f (set views port w) + f v ≡ total f views + f w
total_set f [] port v w at = absurd (some-ne-none v (sym at))
total_set f (x ∷ xs) zero v w at = let e = ap f (some-injective x v at) in omega arith
total_set f (x ∷ xs) (suc port) v w at = let e = total_set f xs port v w at in omega arith

total-push : (f : Hand → ℕ) (views : List Hand) (w : Hand) → total f (views ++ w ∷ []) ≡ total f views + f w
total-push f [] w = omega arith
total-push f (x ∷ xs) w = let e = total-push f xs w in omega arith

-- no pass has more than all
below_total : (f : Hand → ℕ) (views : List Hand) (port : ℕ) (v : Hand) → get_elem? views port ≡ some v → f v ≤ total f views
below_total f [] port v at = absurd (some-ne-none v (sym at))
below_total f (x ∷ xs) zero v at = let e = ap f (some-injective x v at) in omega arith
below_total f (x ∷ xs) (suc port) v at = let e = below_total f xs port v at in omega arith

-- where one pass has every part, the others have put and taken nothing
alone : (f : Hand → ℕ) (views : List Hand) (port : ℕ) (v : Hand) → get_elem? views port ≡ some v → total (λ u. u.parts) views ≡ v.parts
    → ((j : ℕ) (u : Hand) → get_elem? views j ≡ some u → u.parts ≡ 0 → f u ≡ 0) → total f views ≡ f v
alone f [] port v at all idle = absurd (some-ne-none v (sym at))
alone f (x ∷ xs) zero v at all idle =
    let e = ap f (some-injective x v at) in
    let p = ap (λ (u : Hand). u.parts) (some-injective x v at) in
    let rest = nobody xs (omega arith) (λ j u. idle (suc j) u) in
    omega arith
  where
    nobody : (ys : List Hand) → total (λ u. u.parts) ys ≡ 0 → ((j : ℕ) (u : Hand) → get_elem? ys j ≡ some u → u.parts ≡ 0 → f u ≡ 0) → total f ys ≡ 0
    nobody [] none idle = refl
    nobody (y ∷ ys) none idle =
        let a = idle 0 y refl (omega arith) in
        let b = nobody ys (omega arith) (λ j u. idle (suc j) u) in
        omega arith
alone f (x ∷ xs) (suc port) v at all idle =
    let low = below_total (λ (u : Hand). u.parts) xs port v at in
    let a = idle 0 x refl (omega arith) in
    let b = alone f xs port v at (omega arith) (λ j u. idle (suc j) u) in
    omega arith

idle_set : (views : List Hand) (port : ℕ) (w : Hand) → (w.parts ≡ 0 → (w.put ≡ []) × (w.taken ≡ [])) → IdleIsEmpty views → IdleIsEmpty (set views port w)
idle_set views port w mine idle j u at none = ⊎_elim
    (λ (t : (j ≡ port) × (w ≡ u)). subst (λ (y : Hand). y.parts ≡ 0 → (y.put ≡ []) × (y.taken ≡ [])) t.1 mine none)
    (λ (t : (j ≢ port) × (get_elem? views j ≡ some u)). idle j u t.1 none)
    (at_set views port j w u at)

pub puts : (port : ℕ) (v : Hand) (x : Ticket) → 0 < v.parts → Pushes Balanced 512 port v x (λ w. w ≡ hand v.parts (v.put ++ x ∷ []) v.taken)
puts port v x some_part items views room b at =
    let w = hand v.parts (v.put ++ x ∷ []) v.taken in (
      w,
      (
        (let s = total_set (λ u. u.parts) views port v w at in let p = b.0 in omega arith),
        (λ h.
            let s = total_set (λ u. weigh h u.put) views port v w at in
            let t = total_set (λ u. weigh h u.taken) views port v w at in
            let p = b.1 h in
            omega (arith, weigh-append h v.put (x ∷ []), weigh-append h items (x ∷ []))),
        idle_set views port w (λ none. absurd (omega arith)) b.2,
        omega (arith, length-append items (x ∷ [])),
      ),
      refl,
    )

pub takes : (port : ℕ) (v : Hand) → 0 < v.parts → Pops Balanced port v (λ x w. w ≡ hand v.parts v.put (v.taken ++ x ∷ []))
takes port v some_part x items views b at =
    let w = hand v.parts v.put (v.taken ++ x ∷ []) in (
      w,
      (
        (let s = total_set (λ u. u.parts) views port v w at in let p = b.0 in omega arith),
        (λ h.
            let s = total_set (λ u. weigh h u.put) views port v w at in
            let t = total_set (λ u. weigh h u.taken) views port v w at in
            let p = b.1 h in
            omega (arith, weigh-append h v.taken (x ∷ []))),
        idle_set views port w (λ none. absurd (omega arith)) b.2,
        (let few = b.3 in omega arith),
      ),
      refl,
    )

pub forks : (port : ℕ) (v : Hand) → 1 < v.parts → Forks Balanced port v (hand (v.parts - 1) v.put v.taken) (hand 1 [] [])
forks port v some_parts items views b at =
    let w = hand (v.parts - 1) v.put v.taken in
    let new = hand 1 [] [] in (
      (let s = total_set (λ u. u.parts) views port v w at in let p = b.0 in let q = total-push (λ u. u.parts) (set views port w) new in omega arith),
      (λ h.
          let s = total_set (λ u. weigh h u.put) views port v w at in
          let t = total_set (λ u. weigh h u.taken) views port v w at in
          let p = b.1 h in
          omega (arith, total-push (λ u. weigh h u.put) (set views port w) new, total-push (λ u. weigh h u.taken) (set views port w) new)),
      (λ j u e none. ⊎_elim
          (λ was. idle_set views port w (λ none. absurd (omega arith)) b.2 j u was none)
          (λ (same : new ≡ u). absurd (let p = ap (λ (y : Hand). y.parts) same in omega arith))
          (at_snoc (set views port w) new u j e)),
      b.3,
    )

pub merges : (port : ℕ) (v : Hand) (other : ℕ) (w : Hand) → Merges Balanced port v other w (hand (v.parts + w.parts) (v.put ++ w.put) (v.taken ++ w.taken)) (hand 0 [] [])
merges port v other w items views b at apart there =
    let both = hand (v.parts + w.parts) (v.put ++ w.put) (v.taken ++ w.taken) in
    let spent = hand 0 [] [] in
    let theirs : get_elem? views other ≡ some w = ⊎_elim (λ (t : (other ≡ port) × (both ≡ w)). absurd (apart t.0)) (λ (t : (other ≢ port) × (get_elem? views other ≡ some w)). t.1) (at_set views port other both w there) in (
      (let s = total_set (λ u. u.parts) views port v both at in let t = total_set (λ u. u.parts) (set views port both) other w spent there in let p = b.0 in omega arith),
      (λ h.
          let s = total_set (λ u. weigh h u.put) views port v both at in
          let t = total_set (λ u. weigh h u.taken) views port v both at in
          let s' = total_set (λ u. weigh h u.put) (set views port both) other w spent there in
          let t' = total_set (λ u. weigh h u.taken) (set views port both) other w spent there in
          let p = b.1 h in
          omega (arith, weigh-append h v.put w.put, weigh-append h v.taken w.taken)),
      idle_set (set views port both) other spent (λ none. (refl, refl))
          (idle_set views port both
          (λ none.
          let a = b.2 port v at (omega arith) in
          let c = b.2 other w theirs (omega arith) in
          (rw (a.0, c.0) refl, rw (a.1, c.1) refl))
          b.2),
      b.3,
    )

-- what the pass with every part knows of what the queue holds
pub learns : (port : ℕ) (v : Hand) → Learns Balanced port v (λ items. v.parts ≡ 1024 → IsLeft v.put v.taken items)
learns port v items views b at all =
    let every : total (λ u. u.parts) views ≡ v.parts = b.0 ∙ sym all in (
      (λ h.
          let put = alone (λ u. weigh h u.put) views port v at every (λ j u e none. ap (weigh h) (b.2 j u e none).0) in
          let taken = alone (λ u. weigh h u.taken) views port v at every (λ j u e none. ap (weigh h) (b.2 j u e none).1) in
          let p = b.1 h in
          omega (arith, weigh-append h v.taken items)),
      b.3,
    )

pub begins : Balanced [] (hand 1024 [] [] ∷ [])
begins = (refl, (λ h. refl), one, omega arith)
  where
    one : IdleIsEmpty (hand 1024 [] [] ∷ [])
    one zero v at none = absurd (let p = ap (λ (y : Hand). y.parts) (some-injective _ _ at) in omega arith)
    one (suc j) v at none = absurd (some-ne-none v (sym at))

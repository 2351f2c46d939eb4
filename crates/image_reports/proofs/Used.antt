-- How much of a store may be in use.
use Rattle.std.proofs.Common.{ℕ, ◌+◌, ◌*◌, ◌<◌, ◌≤◌, Bool, true, false, List, [], ◌∷◌, arith}
use Rattle.std.specs.Prelude.{fold, max, if◌then◌else◌}
use Rattle.std.specs.List.{All}
use Rattle.std.proofs.lemmas.List.Elements.{All-head, All-tail}
use Rattle.sector.specs.declared.pair.Pair.{Pair}
use Rattle.cow_format.specs.Places.{is_area_place}
use Rattle.cow_image.specs.Usage.{past_new, next_place, allocated_by}

past_low : (size start : ℕ) (pairs : List Pair) → All (λ pair. pair.new < size) pairs → start ≤ size + 2 → fold (λ past pair. max past (pair.new + 1)) start pairs ≤ size + 2
past_low size start [] all low = low
past_low size start (pair ∷ pairs) all low =
    let here : pair.new < size = All-head (λ (p : Pair). p.new < size) pair pairs all in
    past_low size (max start (pair.new + 1)) pairs (All-tail (λ (p : Pair). p.new < size) pair pairs all) (omega arith)

one_more : (b : Bool) (n m : ℕ) → n ≤ m → (if b then n + 1 else n) ≤ m + 1
one_more true n m le = omega arith
one_more false n m le = omega arith

times : (n m chunk most : ℕ) → n ≤ m → chunk ≤ most → n * chunk ≤ m * most
times n m chunk most le few = grind arith

pub used_low : (chunk size : ℕ) (pairs : List Pair) → chunk ≤ 1024 → size ≤ 68_719_476_736 → All (λ pair. pair.new < size) pairs → allocated_by chunk pairs ≤ 140_737_488_355_328
used_low chunk size pairs few small within =
    let low = past_low size 2 pairs within (omega arith) in
    let next : next_place chunk pairs ≤ 68_719_476_739 = let more = one_more (is_area_place chunk (past_new pairs)) (past_new pairs) (size + 2) low in omega arith in
    let all = times (next_place chunk pairs) 68_719_476_739 chunk 1024 next few in
    omega arith

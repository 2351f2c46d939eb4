-- Copies that lie in a store are near enough.
use Rattle.std.proofs.Common.{ℕ, ◌+◌, ◌-◌, ◌*◌, ◌/◌, ◌<◌, ◌≤◌, List, arith}
use Rattle.std.proofs.lemmas.Nat.{div_below}
use Rattle.std.specs.List.{All}
use Rattle.sector.specs.declared.pair.Pair.{Pair}

pub near : (pairs : List Pair) (size : ℕ) → size ≤ 68_719_476_736 → All (λ pair. pair.new < size) pairs → All (λ pair. pair.new < 68_719_476_736) pairs
near pairs size small within = λ k d lt. let low = within k d lt in omega arith

-- an origin has no more chunks than sectors
pub few_chunks : (size chunk : ℕ) → 0 < chunk → size ≤ 68_719_476_736 → (size + chunk - 1) / chunk ≤ 68_719_476_736
few_chunks size chunk some small =
    let few : (size + chunk - 1) / chunk < 68_719_476_737 = div_below (size + chunk - 1) chunk 68_719_476_737 some (omega (arith, some, small)) in
    omega (arith, few)

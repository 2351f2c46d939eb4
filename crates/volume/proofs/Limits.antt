-- A request that would pass no limit where it starts a copy in every snapshot passes none.
use Rattle.std.proofs.Common.{◌≡◌, ℕ, ◌+◌, ◌≤◌, false, List, length, Option, nat_le, nat_lt, inl, inr, arith}
use Rattle.std.specs.Prelude.{◌==◌, ◌&&◌, ◌||◌, sum_by}
use Rattle.std.proofs.lemmas.Bool.{cases_Bool, le-ltb, ltb-false, or_from, or_parts}
use Rattle.std.proofs.lemmas.List.Sums.{count_by-le-length}
use Rattle.in_flight.specs.declared.flights.Kind.{Kind}
use Rattle.in_flight.specs.declared.flights.Kind.TheVariants.{OriginRead, OriginWrite, OriginFlush, SnapRead, SnapWrite, SnapFlush}
use Rattle.snapshot.specs.Kept.{Kept}
use Rattle.snapshot_list.specs.Numbers.{count_in}
use Rattle.snapshot_list.specs.Starting.{starts}
use Rattle.merge.specs.Merging.{Merging}
use Rattle.snapshot_list.specs.Routing.{is_merged_at}
use Rattle.volume.specs.Submitting.{are_too_many, starting}
use Rattle.volume.specs.Volumed.{Volumed}

-- no request starts more copies than there are snapshots
few_start : {B : Type 0} (kind : Kind) (first : ℕ) (merge : Option (Merging B)) (snaps : List (Kept B)) → starting kind first merge snaps ≤ length snaps
few_start OriginRead first merge snaps = omega arith
few_start OriginWrite first merge snaps = elim (cases_Bool (is_merged_at first merge)) [
  | inl merged ↦ rw merged (omega arith)
  | inr other ↦ rw other (count_by-le-length (starts first) snaps)
]
few_start OriginFlush first merge snaps = omega arith
few_start (SnapRead number) first merge snaps = omega arith
few_start (SnapWrite number) first merge snaps = count_by-le-length (λ s. (s.number == number) && starts first s) snaps
few_start (SnapFlush number) first merge snaps = omega arith

-- what passes no limit with some copies passes none with fewer
fewer_pass : {B : Type 0} (few many : ℕ) (v : Volumed B) → few ≤ many → are_too_many many v ≡ false → are_too_many few v ≡ false
fewer_pass few many v le e =
    let one = or_parts (nat_le 64 (length v.flights) || nat_le 18_446_744_073_709_551_615 v.requests) (nat_lt 256 (sum_by count_in v.snaps + many)) e in
    let fits = ltb-false 256 (sum_by count_in v.snaps + many) one.1 in
    or_from (nat_le 64 (length v.flights) || nat_le 18_446_744_073_709_551_615 v.requests) (nat_lt 256 (sum_by count_in v.snaps + few)) one.0 (le-ltb 256 (sum_by count_in v.snaps + few) (omega (arith, fits, le)))

pub passes_none : {B : Type 0} (kind : Kind) (first : ℕ) (v : Volumed B) → are_too_many (length v.snaps) v ≡ false → are_too_many (starting kind first v.merge v.snaps) v ≡ false
passes_none kind first v e = fewer_pass (starting kind first v.merge v.snaps) (length v.snaps) v (few_start kind first v.merge v.snaps) e

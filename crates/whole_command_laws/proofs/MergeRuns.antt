-- Pairs of a merge: its groups, and what the end of a list is.
use Rattle.std.proofs.Common.{◌≡◌, inl, inr, ℕ, zero, ◌+◌, ◌*◌, ◌-◌, ◌/◌, ◌<◌, ◌≤◌, List, [], ◌∷◌, ◌++◌, length, take, get_or, arith, refl, ap, ◌∙◌, sym}
use Rattle.std.specs.Prelude.{replicate}
use Rattle.std.proofs.lemmas.Bool.{cases_Bool, cases_lt, cond-true, cond-false}
use Rattle.std.proofs.lemmas.List.{length-replicate}
use Rattle.std.proofs.lemmas.Nat.{mul-le, mod_below, div-add-mod'}
use Rattle.sector.specs.Bytes.{with_part}
use Rattle.sector.specs.declared.pair.Pair.{Pair}
use Rattle.cow_format.specs.Places.{chunk_at, area_place, ChangesOnly}
use Rattle.cow_format.specs.Pairs.{pairs_of, IsApart, IsInside, AreWellFormed}
use Rattle.cow_format.specs.Slots.{pair_in}
use Rattle.cow_format.proofs.AreaPlaces.{rows_below}
use Rattle.cow_format.proofs.Slots.{pairs-cleared}
use Rattle.whole_commands.proofs.Parts.{part_only, part_here, part_inside, part_outside, length-chunk_at}
use Rattle.whole_commands.proofs.PairParts.{pair_same, pair_of_zeros, zero_byte}
use Rattle.whole_commands.specs.Merges.{rise_from, last_run, without_slots}
use Rattle.volume_laws.proofs.Lists.{All-front, AllPairs-front}

-- a run stands at the end of its list
pub run_ends : (pairs : List Pair) → (front : List Pair) × (pairs ≡ front ++ last_run pairs)
run_ends [] = ([], refl)
run_ends (p ∷ pairs) = elim (cases_Bool (rise_from p pairs)) [
  | inl all ↦ ([], sym (cond-true _ _ _ all))
  | inr part ↦ (let (front, is) = run_ends pairs in (p ∷ front, ap (λ x. p ∷ x) is ∙ ap (λ x. p ∷ (front ++ x)) (sym (cond-false _ _ _ part))))
]

-- and has the last pair, if there is one
pub run_some : (p : Pair) (pairs : List Pair) → 0 < length (last_run (p ∷ pairs))
run_some p [] = omega arith
run_some p (q ∷ pairs) = elim (cases_Bool (rise_from p (q ∷ pairs))) [
  | inl all ↦ (let e : length (last_run (p ∷ q ∷ pairs)) ≡ length (p ∷ q ∷ pairs) = ap length (cond-true _ _ _ all) in omega arith)
  | inr part ↦ (let e : length (last_run (p ∷ q ∷ pairs)) ≡ length (last_run (q ∷ pairs)) = ap length (cond-false _ _ _ part) in let h = run_some q pairs in omega arith)
]

pub run_filled : (pairs : List Pair) → 0 < length pairs → 0 < length (last_run pairs)
run_filled [] some = absurd (omega arith)
run_filled (p ∷ pairs) some = run_some p pairs

-- an area that is full, or passed, comes no later than the list's last
pub area_of_last : (w a n : ℕ) → 0 < w → a * w ≤ n → a ≤ n / w
area_of_last w a n pos le = elim (cases_lt (n / w) a) [
  | inr ge ↦ omega arith
  | inl lt ↦ (let h = rows_below (n / w) a w lt in let e = div-add-mod' n w in let r = mod_below n w pos in absurd (omega arith))
]

-- a part of the pairs, the first ones, is well formed
pub formed_less : (chunk origin size a j : ℕ) (kept group : List Pair) → 0 < chunk → AreWellFormed chunk origin size (kept ++ group) → length kept ≤ length (kept ++ group) → AreWellFormed chunk origin size kept
formed_less chunk origin size a j kept group pos formed le =
    let w : ℕ = 32 * chunk in
    let e = div-add-mod' (length kept) (32 * chunk) in
    let before : length kept / (32 * chunk) ≤ length (kept ++ group) / (32 * chunk) = area_of_last (32 * chunk) (length kept / (32 * chunk)) (length (kept ++ group)) (omega arith) (omega arith) in
    let rise : length kept / (32 * chunk) * (32 * chunk + 1) ≤ length (kept ++ group) / (32 * chunk) * (32 * chunk + 1) = mul-le _ _ _ _ before (omega arith) in
    let rises : chunk * (area_place chunk (length kept / (32 * chunk)) + 1) ≤ chunk * (area_place chunk (length (kept ++ group) / (32 * chunk)) + 1) = mul-le _ _ _ _ (omega arith) (omega arith) in
    let room = formed.room in
    record {
      inside = All-front (IsInside chunk origin size) kept group formed.inside;
      apart = AllPairs-front IsApart kept group formed.apart;
      room = omega arith;
    }

-- slots of an area are zeroed
module _ (chunk a j n : ℕ) (store : List ℕ) (pos : 0 < chunk) (fits : j + n ≤ 32 * chunk) (there : 512 * (chunk * area_place chunk a + chunk) ≤ length store) where
  zeros_len : length (replicate (16 * n) zero) ≡ 16 * n
  zeros_len = length-replicate (16 * n) zero

  pub cleared_only : ChangesOnly chunk (area_place chunk a) store (without_slots chunk store a j n)
  cleared_only = let len = zeros_len in part_only chunk (area_place chunk a) (16 * j) store (replicate (16 * n) zero) (omega arith) (omega arith)

  cleared_area : length (chunk_at chunk store (area_place chunk a)) ≡ 512 * chunk
  cleared_area = length-chunk_at chunk (area_place chunk a) store there

  cleared_before : (k : ℕ) → k < j → pair_in (chunk_at chunk (without_slots chunk store a j n) (area_place chunk a)) k ≡ pair_in (chunk_at chunk store (area_place chunk a)) k
  cleared_before k lt =
      let len = zeros_len in
      let long = cleared_area in
      ap (λ x. pair_in x k) (part_here chunk (area_place chunk a) (16 * j) store (replicate (16 * n) zero) (omega arith) there)
      ∙ pair_same _ (chunk_at chunk store (area_place chunk a)) k (λ i lo hi. part_outside (chunk_at chunk store (area_place chunk a)) (replicate (16 * n) zero) (16 * j) i (omega arith) (inl (omega arith)))

  cleared_first : 0 < n → (pair_in (chunk_at chunk (without_slots chunk store a j n) (area_place chunk a)) j).new ≡ 0
  cleared_first some =
      let len = zeros_len in
      let long = cleared_area in
      ap (λ x. (pair_in x j).new) (part_here chunk (area_place chunk a) (16 * j) store (replicate (16 * n) zero) (omega arith) there)
      ∙ pair_of_zeros _ j (λ k lo hi. ap (λ x. get_or (with_part (chunk_at chunk store (area_place chunk a)) (16 * j) (replicate (16 * n) zero)) x 0) (let e : k ≡ 16 * j + (k - 16 * j) = omega arith in e)
      ∙ part_inside (chunk_at chunk store (area_place chunk a)) (replicate (16 * n) zero) (16 * j) (k - 16 * j) (omega arith) (omega arith) ∙ zero_byte (16 * n) (k - 16 * j) (omega arith))

  pub cleared_pairs : (ps : List Pair) → pairs_of chunk store ≡ ps → length ps ≡ a * (32 * chunk) + (j + n) → 0 < n → pairs_of chunk (without_slots chunk store a j n) ≡ take (a * (32 * chunk) + j) ps
  cleared_pairs ps is len some = pairs-cleared chunk a (j + n) j store (without_slots chunk store a j n) ps pos is len (omega arith) (omega arith) cleared_only cleared_before (cleared_first some)

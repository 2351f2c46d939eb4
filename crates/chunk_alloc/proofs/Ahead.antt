-- The place of the first area after the next place.
use Rattle.std.proofs.Common.{◌≡◌, ℕ, ◌+◌, ◌*◌, ◌/◌, ◌%◌, ◌<◌, ◌≤◌, arith, true, false, ap, ◌∙◌, sym, inl, inr}
use Rattle.std.proofs.lemmas.Bool.{cases_Bool, cases_lt, cases_eq, true≢false, cond-true, cond-false}
use Rattle.std.proofs.lemmas.Nat.{mul-le, mod-mul-add}
use Rattle.std.proofs.Math.Nat.{mod-add-div'}
use Rattle.cow_format.specs.Places.{area_place, is_area_place}
use Rattle.cow_format.specs.NextPlace.{stepped}
use Rattle.cow_format.proofs.AreaPlaces.{place_is, place_from, rows_below}

-- the area after an area
pub area_then : (chunk n : ℕ) → 0 < chunk → is_area_place chunk n ≡ true → is_area_place chunk (n + (32 * chunk + 1)) ≡ true
area_then chunk n pos at =
    let a : ℕ = n / (32 * chunk + 1) in
    let e : n ≡ area_place chunk a = place_from chunk n at in
    let more : (a + 1) * (32 * chunk + 1) ≡ a * (32 * chunk + 1) + (32 * chunk + 1) = grind arith in
    let there : n + (32 * chunk + 1) ≡ area_place chunk (a + 1) = omega arith in
    ap (is_area_place chunk) there ∙ place_is chunk (a + 1) pos

-- no area lies between a place and the first area after it
pub none_before : (chunk n area : ℕ) → is_area_place chunk area ≡ true → n < area → area ≤ n + 32 * chunk → is_area_place chunk n ≡ false
none_before chunk n area at lt near = elim (cases_Bool (is_area_place chunk n)) [
  | inr out ↦ out
  | inl is ↦ (
      let a : ℕ = n / (32 * chunk + 1) in
      let b : ℕ = area / (32 * chunk + 1) in
      let low : n ≡ area_place chunk a = place_from chunk n is in
      let high : area ≡ area_place chunk b = place_from chunk area at in
      elim (cases_lt a b) [
        | inl below ↦ (let h : a * (32 * chunk + 1) + (32 * chunk + 1) ≤ b * (32 * chunk + 1) = rows_below a b (32 * chunk + 1) below in absurd (omega arith))
        | inr past ↦ (let h : b * (32 * chunk + 1) ≤ a * (32 * chunk + 1) = mul-le b (32 * chunk + 1) a (32 * chunk + 1) past (omega arith) in absurd (omega arith))
      ])
]

-- of a place that is handed out, the next one
pub stepped_over : (chunk n area : ℕ) → is_area_place chunk area ≡ true → n ≡ area → n + 1 ≡ stepped chunk n
stepped_over chunk n area at same = sym (cond-true _ _ _ (ap (is_area_place chunk) same ∙ at))

pub stepped_same : (chunk n area : ℕ) → is_area_place chunk area ≡ true → n < area → area ≤ n + 32 * chunk → n ≡ stepped chunk n
stepped_same chunk n area at lt near = sym (cond-false _ _ _ (none_before chunk n area at lt near))

-- the first area after the place that a load leaves
pub loaded_after : (chunk greatest : ℕ) → 0 < chunk → (stepped chunk (greatest + 1) < area_place chunk (greatest / (32 * chunk + 1) + 1)) × (area_place chunk (greatest / (32 * chunk + 1) + 1) ≤ stepped chunk (greatest + 1) + 32 * chunk)
loaded_after chunk greatest pos =
    let d : ℕ = greatest / (32 * chunk + 1) in
    let r : ℕ = greatest % (32 * chunk + 1) in
    let all : r + d * (32 * chunk + 1) ≡ greatest = mod-add-div' greatest (32 * chunk + 1) in
    let rest : r < 32 * chunk + 1 = omega arith in
    let more : (d + 1) * (32 * chunk + 1) ≡ d * (32 * chunk + 1) + (32 * chunk + 1) = grind arith in
    elim (cases_Bool (is_area_place chunk (greatest + 1))) [
      | inl at ↦ (
          let a : ℕ = (greatest + 1) / (32 * chunk + 1) in
          let e : greatest + 1 ≡ area_place chunk a = place_from chunk (greatest + 1) at in
          let is : greatest ≡ a * (32 * chunk + 1) + 0 = omega arith in
          let none : r ≡ 0 = ap (λ n. n % (32 * chunk + 1)) is ∙ mod-mul-add a (32 * chunk + 1) 0 (omega arith) in
          let s : stepped chunk (greatest + 1) ≡ greatest + 1 + 1 = cond-true _ _ _ at in
          (omega arith, omega arith))
      | inr out ↦ (
          let s : stepped chunk (greatest + 1) ≡ greatest + 1 = cond-false _ _ _ out in
          elim (cases_eq r 0) [
            | inl none ↦ (
                let e : greatest + 1 ≡ area_place chunk d = omega arith in
                absurd (true≢false (sym (ap (is_area_place chunk) e ∙ place_is chunk d pos) ∙ out)))
            | inr some ↦ (omega arith, omega arith)
          ])
    ]

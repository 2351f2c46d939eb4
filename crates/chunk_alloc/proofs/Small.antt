-- Places inside a store, and those after an area.
use Rattle.std.proofs.Common.{◌≡◌, ℕ, ◌+◌, ◌*◌, ◌%◌, ◌<◌, ◌≤◌, arith, false, ap, ◌∙◌, inl, inr}
use Rattle.std.proofs.lemmas.Bool.{cases_lt, ne_eqb}
use Rattle.std.proofs.lemmas.Nat.{mul-le, mod-mul-add}
use Rattle.cow_format.specs.Places.{area_place, is_area_place}
use Rattle.cow_format.proofs.NextPlaces.{place_small}

-- an area that is wholly inside a store has a smaller number than its place, and both are below the store's sectors
pub area_small : (chunk area sectors : ℕ) → 0 < chunk → chunk * (area_place chunk area + 1) ≤ sectors → (area + 1 ≤ sectors) × (area_place chunk area + 1 ≤ sectors)
area_small chunk area sectors pos inside =
    let place : area_place chunk area + 1 ≤ sectors = place_small chunk (area_place chunk area) sectors pos inside in
    let low : area * 1 ≤ area * (32 * chunk + 1) = mul-le area 1 area (32 * chunk + 1) (omega arith) (omega arith) in
    (omega arith, omega arith)

-- the chunks after an area, as many as it has slots, are no area's place
pub copies_free : (chunk area slots : ℕ) → slots < 32 * chunk → is_area_place chunk (area_place chunk area + slots + 1) ≡ false
copies_free chunk area slots lt =
    elim (cases_lt (slots + 2) (32 * chunk + 1)) [
      | inl inside ↦ (
          let at : area_place chunk area + slots + 1 ≡ area * (32 * chunk + 1) + (slots + 2) = omega arith in
          let rest : (area_place chunk area + slots + 1) % (32 * chunk + 1) ≡ slots + 2 = ap (λ n. n % (32 * chunk + 1)) at ∙ mod-mul-add area (32 * chunk + 1) (slots + 2) inside in
          ne_eqb _ _ (omega arith))
      | inr last ↦ (
          let more : (area + 1) * (32 * chunk + 1) ≡ area * (32 * chunk + 1) + (32 * chunk + 1) = grind arith in
          let at : area_place chunk area + slots + 1 ≡ (area + 1) * (32 * chunk + 1) + 0 = omega arith in
          let rest : (area_place chunk area + slots + 1) % (32 * chunk + 1) ≡ 0 = ap (λ n. n % (32 * chunk + 1)) at ∙ mod-mul-add (area + 1) (32 * chunk + 1) 0 (omega arith) in
          ne_eqb _ _ (omega arith))
    ]

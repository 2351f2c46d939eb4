-- What a call leaves without caches, from what a step of the plain machine says already.
use Rattle.std.proofs.Common.{◌≡◌, ◌⊎◌, inl, inr, ℕ, ◌*◌, ◌<◌, List, length, refl, ◌∙◌}
use Rattle.std.specs.Prelude.{Option}
use Rattle.sector.specs.Bytes.{sector_at}
use Rattle.cow_format.specs.Pairs.{pairs_of}
use Rattle.cow_format.specs.Picture.{picture}
use Rattle.crash_laws.specs.Stop.{MayLeave, HoldsNow, Within}
use Rattle.crash_laws.specs.Again.{LoadsAgain, IsRefusedAgain}
use Rattle.crash_laws.specs.Clauses.{Given, Gives, OpensNone}
use Rattle.crash_laws.proofs.Areas.{torn_header}
use Rattle.crash_laws.proofs.Sectors.{torn_picture}

-- what is there may be left
left_now : (size : ℕ) (b : List ℕ) → length b ≡ 512 * size → MayLeave (HoldsNow b) size b
left_now size b whole = record { whole = whole; each = λ s lt. refl }

-- No value is open but one that was, and one that the call gives, where each sector of the array is so.
pub opens_none : {B : Type 0} (contents : B → List ℕ) (size : B → ℕ) (given : Option Given) (array : Option ℕ) (chunk : ℕ) (origin store : B) (o c : List ℕ) → length (contents origin) ≡ 512 * size origin → length (contents store) ≡ 512 * size store →
    ((s : ℕ) → s < size origin → (sector_at (picture chunk o c) s ≡ sector_at (picture chunk (contents origin) (contents store)) s) ⊎ Gives given array s (sector_at (picture chunk o c) s)) →
    OpensNone (λ d. HoldsNow (contents d)) size given array chunk origin store o c
opens_none contents size given array chunk origin store o c lo ls each = λ s lt. elim (each s lt) [
  | inl e ↦ inl (record { origin = contents origin; store = contents store; origin_left = left_now (size origin) (contents origin) lo; store_left = left_now (size store) (contents store) ls; is = e })
  | inr g ↦ inr g
]

-- A call over one snapshot that leaves its list of pairs, after which each sector of its array is as it was, or as the call
-- gives it: so it is within the call.
pub stops_same : {B : Type 0} (contents : B → List ℕ) (size : B → ℕ) (given : Option Given) (array : Option ℕ) (chunk : ℕ) (origin origin' store store' : B) → 0 < chunk → 0 < size store → size origin' ≡ size origin → length (contents origin) ≡ 512 * size origin → length (contents origin') ≡ 512 * size origin → length (contents store) ≡ 512 * size store → length (contents store') ≡ 512 * size store →
    pairs_of chunk (contents store') ≡ pairs_of chunk (contents store) → LoadsAgain chunk (size origin) (size store) (contents store) → (LoadsAgain chunk (size origin) (size store) (contents store') ⊎ IsRefusedAgain (contents store')) →
    ((s : ℕ) → s < size origin → (sector_at (picture chunk (contents origin') (contents store')) s ≡ sector_at (picture chunk (contents origin) (contents store)) s) ⊎ Gives given array s (sector_at (picture chunk (contents origin') (contents store')) s)) →
    (o c : List ℕ) → MayLeave (Within (HoldsNow (contents origin)) (HoldsNow (contents origin'))) (size origin) o → MayLeave (Within (HoldsNow (contents store)) (HoldsNow (contents store'))) (size store) c →
    (LoadsAgain chunk (size origin) (size store) c × OpensNone (λ d. HoldsNow (contents d)) size given array chunk origin store o c) ⊎ IsRefusedAgain c
stops_same contents size given array chunk origin origin' store store' pos some same lo lo' ls ls' pairs before after step o c left_o left_c =
    elim (torn_header (size store) (size origin) chunk (contents store) (contents store') c pos some left_c ls ls' pairs before after) [
      | inr bad ↦ inr bad
      | inl (loads, is) ↦ inl (
        loads,
        opens_none contents size given array chunk origin store o c lo ls (λ s lt. elim (torn_picture (size origin) (size store) chunk (contents origin) (contents origin') o (contents store) (contents store') c (pairs_of chunk (contents store)) pos left_o left_c lo lo' ls ls' refl pairs is s) [
          | inl e ↦ inl e
          | inr e ↦ elim (step s lt) [
            | inl f ↦ inl (e ∙ f)
            | inr g ↦ inr (rw e g)
          ]
        ]),
      )
    ]

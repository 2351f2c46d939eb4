-- Reads that may fail.
use Rattle.std.proofs.Common.{◌≡◌, ℕ, ◌+◌, ◌*◌, ◌<◌, ◌≤◌, List, Option, Some, None, refl, arith, ap, ◌∙◌, sym, subst, inl, inr}
use Rattle.sector.specs.declared.pair.Pair.{Pair}
use Rattle.cow_format.specs.Picture.{place_of}
use Rattle.cow_image.specs.Runs.{IsRun, place_after}
use Rattle.cow_image.specs.Fails.{ReadFails, PlaceFails, ShownFails}

read_fails : (f f' : ℕ → ℕ → Type 0) (at n : ℕ) → ((k m : ℕ) → f k m → f' k m) → ReadFails f at n → ReadFails f' at n
read_fails f f' at n calm (inl past) = inl past
read_fails f f' at n calm (inr fails) = inr (calm at n fails)

place_fails : (o o' c c' : ℕ → ℕ → Type 0) (chunk number inside n : ℕ) (place : Option ℕ) → ((k m : ℕ) → o k m → o' k m) → ((k m : ℕ) → c k m → c' k m) → PlaceFails o c chunk number inside n place → PlaceFails o' c' chunk number inside n place
place_fails o o' c c' chunk number inside n None calm calm' fails = read_fails o o' (512 * chunk * number + inside) n calm fails
place_fails o o' c c' chunk number inside n (Some place) calm calm' fails = read_fails c c' (512 * chunk * place + inside) n calm' fails

-- what may fail later might before
pub shown_calm : (o o' c c' : ℕ → ℕ → Type 0) (chunk : ℕ) (pairs : List Pair) (at count : ℕ) → ((k m : ℕ) → o k m → o' k m) → ((k m : ℕ) → c k m → c' k m) → ShownFails o c chunk pairs at count → ShownFails o' c' chunk pairs at count
shown_calm o o' c c' chunk pairs at count calm calm' (number, inside, n, from, to, fails) = (number, inside, n, from, to, place_fails o o' c c' chunk number inside n (place_of pairs number) calm calm' fails)

after_none : (place : Option ℕ) → place_after place 0 ≡ place
after_none None = refl
after_none (Some place) = let e : place + 0 ≡ place = omega arith in ap (λ (x : ℕ). Some x) e

place_here : (pairs : List Pair) (number chunks : ℕ) (place : Option ℕ) → IsRun pairs number place chunks → 0 < chunks → place ≡ place_of pairs number
place_here pairs number chunks place run some = let e : number + 0 ≡ number = omega arith in sym (ap (place_of pairs) (sym e) ∙ run 0 some ∙ after_none place)

-- what failed is a part of what was to be read
pub shown_fails : (o o' c c' : ℕ → ℕ → Type 0) (chunk : ℕ) (pairs : List Pair) (at count number inside n n' chunks : ℕ) (place : Option ℕ) → ((k m : ℕ) → o k m → o' k m) → ((k m : ℕ) → c k m → c' k m) → IsRun pairs number place chunks → 0 < chunks → n ≡ n' → at ≤ 512 * (chunk * number) + inside → 512 * (chunk * number) + inside + n' ≤ at + count → PlaceFails o c chunk number inside n place → ShownFails o' c' chunk pairs at count
shown_fails o o' c c' chunk pairs at count number inside n n' chunks place calm calm' run some is from to fails =
    let moved : PlaceFails o' c' chunk number inside n place = place_fails o o' c c' chunk number inside n place calm calm' fails in
    (number, inside, n', from, to, subst (λ (p : Option ℕ). PlaceFails o' c' chunk number inside n' p) (place_here pairs number chunks place run some) (subst (λ (m : ℕ). PlaceFails o' c' chunk number inside m place) is moved))

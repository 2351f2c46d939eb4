-- What was taken out of a list goes back to its place.
use Rattle.std.proofs.Common.{◌≡◌, ℕ, zero, suc, ◌<◌, List, [], ◌∷◌, length, get_or, set, refl, ap, ◌∙◌, arith}
use Rattle.std.specs.List.{remove, insert}
use Rattle.std.proofs.lemmas.List.{set-get_or}

-- another goes to its place
pub put_at : {X : Type 0} (xs : List X) (i : ℕ) (x : X) → i < length xs → insert (remove xs i) i x ≡ set xs i x
put_at [] i x lt = absurd (omega (arith, lt))
put_at (y ∷ xs) zero x lt = refl
put_at (y ∷ xs) (suc i) x lt = ap (λ zs. y ∷ zs) (put_at xs i x (omega (arith, lt)))

-- in steps, as the code goes
pub placed : {X : Type 0} (xs ys zs : List X) (i : ℕ) (x : X) → i < length xs → ys ≡ remove xs i → zs ≡ insert ys i x → zs ≡ set xs i x
placed xs ys zs i x lt out back = back ∙ ap (λ us. insert us i x) out ∙ put_at xs i x lt

-- the same that was there
pub restored : {X : Type 0} (xs ys zs : List X) (i : ℕ) (x y : X) → i < length xs → ys ≡ remove xs i → x ≡ get_or xs i x → y ≡ x → zs ≡ insert ys i y → zs ≡ xs
restored xs ys zs i x y lt out at same back = placed xs ys zs i y lt out back ∙ ap (λ u. set xs i u) (same ∙ at) ∙ set-get_or xs i x

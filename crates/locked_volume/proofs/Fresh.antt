-- What is new in a journal after a call, and what the keeper then knows.
use Rattle.std.proofs.Common.{◌≡◌, ◌⊎◌, inl, inr, ℕ, zero, suc, ◌-◌, ◌<◌, true, List, [], ◌∷◌, ◌++◌, length, map, take, drop, get_or, refl, sym, ap, ◌∙◌, subst, arith, append_assoc}
use Rattle.audited_volume.specs.declared.entry.Entry.{Entry}
use Rattle.audited_volume.specs.declared.entry.Entry.TheVariants.{Overflowed, Spoiled}
use Rattle.audited_volume.specs.Books.{AuditShape}
use Rattle.audited_volume.specs.PlacesTaken.{HasOverflowed, OnlySpoils}
use Rattle.locked_volume.specs.Keeping.{is_silent}
use Rattle.plain_machine.specs.declared.request.Request.{Request}

-- what stands after the front, as a slice of all
abbrev pub fresh_in : List Entry → List Entry → List Entry
fresh_in es fs = take (length es - length fs) (drop (length fs) es)

take_all : (xs : List Entry) (n : ℕ) → n ≡ length xs → take n xs ≡ xs
take_all xs n long = (λ i. take (long i) xs) ∙ go xs
  where
    go : (ys : List Entry) → take (length ys) ys ≡ ys
    go [] = refl
    go (y ∷ ys) = ap (λ (l : List Entry). y ∷ l) (go ys)

rest_is : (old more : List Entry) → drop (length old) (old ++ more) ≡ more
rest_is [] more = refl
rest_is (e ∷ old) more = rest_is old more

rest_long : (old more : List Entry) → length (old ++ more) - length old ≡ length more
rest_long [] more = omega arith
rest_long (e ∷ old) more = let h = rest_long old more in omega (arith, h)

-- what is new is what was added
pub fresh_is : (es fs old new more : List Entry) → es ≡ new → fs ≡ old → new ≡ old ++ more → fresh_in es fs ≡ more
fresh_is es fs old new more is was now =
    (λ i. fresh_in ((is ∙ now) i) (was i)) ∙ ap (λ (l : List Entry). take (length (old ++ more) - length old) l) (rest_is old more) ∙ take_all more _ (rest_long old more)

-- the entries since the rig was made, with what is new
pub knows_more : (start all es fs old new more : List Entry) → es ≡ new → fs ≡ old → old ≡ start ++ all → new ≡ old ++ more → new ≡ start ++ (all ++ fresh_in es fs)
knows_more start all es fs old new more is was had now =
    now ∙ ap (λ (l : List Entry). l ++ more) had ∙ append_assoc start all more ∙ ap (λ (l : List Entry). start ++ (all ++ l)) (sym (fresh_is es fs old new more is was now))

-- neither spoils nor a mark answer a request
spoils_silent : (which : List ℕ) (k : ℕ) (d : Entry) → k < length (map Spoiled which) → is_silent (get_or (map Spoiled which) k d) ≡ true
spoils_silent [] k d high = absurd (omega (arith, high))
spoils_silent (n ∷ ns) zero d high = refl
spoils_silent (n ∷ ns) (suc k) d high = spoils_silent ns k d (omega (arith, high))

pub fresh_spoils : (es fs old new : List Entry) (which : List ℕ) → es ≡ new → fs ≡ old → new ≡ old ++ map Spoiled which
    → (k : ℕ) (d : Entry) → k < length (fresh_in es fs) → is_silent (get_or (fresh_in es fs) k d) ≡ true
fresh_spoils es fs old new which is was now k d high =
    let same = fresh_is es fs old new (map Spoiled which) is was now in
    ap (λ (l : List Entry). is_silent (get_or l k d)) same ∙ spoils_silent which k d (subst (λ (l : List Entry). k < length l) same high)

mark_silent : (number k : ℕ) (d : Entry) → k < length (Overflowed number ∷ []) → is_silent (get_or (Overflowed number ∷ []) k d) ≡ true
mark_silent number zero d high = refl
mark_silent number (suc k) d high = absurd (omega (arith, high))

-- What is new after a request that was refused.
pub record AreNew (old new : List Entry) : Type 0 where
  pub more : List Entry
  pub are : new ≡ old ++ more
  pub silent : (k : ℕ) (d : Entry) → k < length more → is_silent (get_or more k d) ≡ true

pub noted_new : {B : Type 0} (request : Request) (old new : AuditShape B) → OnlySpoils old new ⊎ HasOverflowed request old new → AreNew old.entries new.entries
noted_new request old new (inl spoils) = record { more = map Spoiled spoils.which; are = spoils.entries; silent = spoils_silent spoils.which }
noted_new request old new (inr mark) = record { more = Overflowed mark.number ∷ []; are = mark.entries; silent = mark_silent mark.number }

pub fresh_new : (es fs old new : List Entry) → AreNew old new → es ≡ new → fs ≡ old → (k : ℕ) (d : Entry) → k < length (fresh_in es fs) → is_silent (get_or (fresh_in es fs) k d) ≡ true
fresh_new es fs old new fresh is was k d high =
    let same = fresh_is es fs old new fresh.more is was fresh.are in
    ap (λ (l : List Entry). is_silent (get_or l k d)) same ∙ fresh.silent k d (subst (λ (l : List Entry). k < length l) same high)

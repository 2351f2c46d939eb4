-- The picture over torn bytes, sector by sector.
use Rattle.std.proofs.Common.{◌≡◌, ◌⊎◌, inl, inr, ℕ, ◌+◌, ◌*◌, ◌/◌, ◌%◌, ◌-◌, ◌<◌, List, length, get_or, arith, ap, ◌∙◌, sym, length-take, length-drop, min}
use Rattle.std.specs.Prelude.{Option, Some, None}
use Rattle.std.proofs.lemmas.Nat.{mod_below, div-mul-add, mod-mul-add, div-add-mod'}
use Rattle.std.proofs.lemmas.List.{ext_get_or}
use Rattle.sector.specs.Bytes.{sector_at}
use Rattle.sector.proofs.Sectors.{byte_read}
use Rattle.sector.specs.declared.pair.Pair.{Pair}
use Rattle.cow_format.specs.Pairs.{pairs_of}
use Rattle.cow_format.specs.Picture.{place_of, byte_of, picture_at, picture}
use Rattle.cow_format.proofs.Pictures.{length-picture, get_or-picture}
use Rattle.crash_laws.specs.Stop.{IsTorn}
use Rattle.crash_laws.proofs.Torn.{torn_sector}

-- the chunk of a sector's bytes, and their place there
pub sector_chunk : (chunk s r : ℕ) → 0 < chunk → r < 512 → ((512 * s + r) / (512 * chunk) ≡ s / chunk) × ((512 * s + r) % (512 * chunk) ≡ 512 * (s % chunk) + r)
sector_chunk chunk s r pos lt =
    let e : s ≡ s / chunk * chunk + s % chunk = sym (div-add-mod' s chunk) in
    let b : s % chunk < chunk = mod_below s chunk pos in
    let c : ℕ = s / chunk in
    let q : ℕ = s % chunk in
    let at : 512 * (c * chunk + q) + r ≡ c * (512 * chunk) + (512 * q + r) = grind arith in
    let at' : 512 * s + r ≡ c * (512 * chunk) + (512 * q + r) = ap (λ x. 512 * x + r) e ∙ at in
    (ap (λ x. x / (512 * chunk)) at' ∙ div-mul-add c (512 * chunk) (512 * q + r) (omega arith), ap (λ x. x % (512 * chunk)) at' ∙ mod-mul-add c (512 * chunk) (512 * q + r) (omega arith))

-- one case of the place of its chunk
sector_by : (so ss chunk s : ℕ) (o o' ot st st' stt : List ℕ) (x : Option ℕ) → 0 < chunk → IsTorn so o o' ot → IsTorn ss st st' stt → length o ≡ 512 * so → length o' ≡ 512 * so → length st ≡ 512 * ss → length st' ≡ 512 * ss →
    ((r : ℕ) → r < 512 → byte_of chunk ot stt (512 * s + r) x ≡ byte_of chunk o st (512 * s + r) x) ⊎ ((r : ℕ) → r < 512 → byte_of chunk ot stt (512 * s + r) x ≡ byte_of chunk o' st' (512 * s + r) x)
sector_by so ss chunk s o o' ot st st' stt None pos to ts lo lo' ls ls' = elim (torn_sector so o o' ot to lo lo' s) [
  | inl f ↦ inl (λ r lt. f (512 * s + r) (omega arith) (omega arith))
  | inr f ↦ inr (λ r lt. f (512 * s + r) (omega arith) (omega arith))
]
sector_by so ss chunk s o o' ot st st' stt (Some n) pos to ts lo lo' ls ls' = elim (torn_sector ss st st' stt ts ls ls' (chunk * n + s % chunk)) [
  | inl f ↦ inl (λ r lt. let h = (sector_chunk chunk s r pos lt).1 in f (512 * (chunk * n) + (512 * s + r) % (512 * chunk)) (omega arith) (omega arith))
  | inr f ↦ inr (λ r lt. let h = (sector_chunk chunk s r pos lt).1 in f (512 * (chunk * n) + (512 * s + r) % (512 * chunk)) (omega arith) (omega arith))
]

-- sectors by their bytes
pub sectors_same : (a b : List ℕ) (s : ℕ) → length a ≡ length b → ((r : ℕ) → r < 512 → 512 * s + r < length b → get_or a (512 * s + r) 0 ≡ get_or b (512 * s + r) 0) → sector_at a s ≡ sector_at b s
sectors_same a b s len same = ext_get_or 0 _ _ (length_sector a ∙ ap (λ x. min 512 (x - 512 * s)) len ∙ sym (length_sector b))
    (λ k lt. let h = length_sector a in let short : k < 512 = omega arith in byte_read a s 1 k (omega arith) ∙ same k short (omega arith) ∙ sym (byte_read b s 1 k (omega arith))) where
      length_sector : (x : List ℕ) → length (sector_at x s) ≡ min 512 (length x - 512 * s)
      length_sector x = simp (length-take, length-drop)

-- Where the pairs are the same, each sector of the picture over torn bytes is that of the picture before or after.
pub torn_picture : (so ss chunk : ℕ) (o o' ot st st' stt : List ℕ) (ps : List Pair) → 0 < chunk → IsTorn so o o' ot → IsTorn ss st st' stt → length o ≡ 512 * so → length o' ≡ 512 * so → length st ≡ 512 * ss → length st' ≡ 512 * ss → pairs_of chunk st ≡ ps → pairs_of chunk st' ≡ ps → pairs_of chunk stt ≡ ps →
    (s : ℕ) → (sector_at (picture chunk ot stt) s ≡ sector_at (picture chunk o st) s) ⊎ (sector_at (picture chunk ot stt) s ≡ sector_at (picture chunk o' st') s)
torn_picture so ss chunk o o' ot st st' stt ps pos to ts lo lo' ls ls' is is' ist s =
    let lt : length ot ≡ 512 * so = to.whole in
    elim (sector_by so ss chunk s o o' ot st st' stt (place_of ps (s / chunk)) pos to ts lo lo' ls ls') [
      | inl f ↦ inl (by_bytes ot stt o st (lt ∙ sym lo) ist is f)
      | inr f ↦ inr (by_bytes ot stt o' st' (lt ∙ sym lo') ist is' f)
    ] where
      at : (x y : List ℕ) (r : ℕ) → r < 512 → picture_at chunk x y ps (512 * s + r) ≡ byte_of chunk x y (512 * s + r) (place_of ps (s / chunk))
      at x y r lt = ap (λ c. byte_of chunk x y (512 * s + r) (place_of ps c)) (sector_chunk chunk s r pos lt).0

      by_bytes : (x y u v : List ℕ) → length x ≡ length u → pairs_of chunk y ≡ ps → pairs_of chunk v ≡ ps → ((r : ℕ) → r < 512 → byte_of chunk x y (512 * s + r) (place_of ps (s / chunk)) ≡ byte_of chunk u v (512 * s + r) (place_of ps (s / chunk))) → sector_at (picture chunk x y) s ≡ sector_at (picture chunk u v) s
      by_bytes x y u v len px pu same = sectors_same _ _ s (length-picture chunk x y ∙ len ∙ sym (length-picture chunk u v))
          (λ r lt inside. let short : 512 * s + r < length u = omega (arith, length-picture chunk u v) in
          get_or-picture chunk x y (512 * s + r) (omega arith) ∙ ap (λ z. picture_at chunk x y z (512 * s + r)) px ∙ at x y r lt ∙ same r lt
          ∙ sym (get_or-picture chunk u v (512 * s + r) short ∙ ap (λ z. picture_at chunk u v z (512 * s + r)) pu ∙ at u v r lt))

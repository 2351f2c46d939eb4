-- What torn bytes show, by the pairs that they are loaded with.
use Rattle.std.proofs.Common.{◌≡◌, ◌≢◌, ◌⊎◌, inl, inr, ℕ, ◌+◌, ◌*◌, ◌-◌, ◌/◌, ◌%◌, ◌<◌, ◌≤◌, List, length, get_or, arith, refl, ap, ◌∙◌, sym, subst}
use Rattle.std.specs.Prelude.{Option, Some, None, AllPairs}
use Rattle.std.specs.List.{All}
use Rattle.std.proofs.lemmas.Bool.{cases_eq, cases_lt}
use Rattle.std.proofs.lemmas.Nat.{mod_below, div-add-mod', div-mul-add}
use Rattle.sector.specs.Bytes.{sector_at, with_sectors}
use Rattle.sector.specs.declared.pair.Pair.{Pair}
use Rattle.sector.proofs.Sectors.{kept_or_written}
use Rattle.cow_format.specs.Places.{ChangesOnly}
use Rattle.cow_format.specs.Pairs.{pairs_of, IsApart, IsInside}
use Rattle.cow_format.specs.Picture.{place_of, byte_of, picture_at, picture}
use Rattle.cow_format.proofs.Pictures.{place_found, place_apart, same_picture}
use Rattle.cow_format.proofs.Views.{picture-only}
use Rattle.crash_laws.specs.Stop.{IsTorn}
use Rattle.crash_laws.proofs.Torn.{torn_byte, torn_only}
use Rattle.crash_laws.proofs.Open.{sector_plain, sector_copied}

-- another chunk than a copy's is written, and the pairs stay
pub shown_beside : (size chunk n : ℕ) (origin old new torn : List ℕ) (ps : List Pair) → 0 < chunk → IsTorn size old new torn → length old ≡ 512 * size → ChangesOnly chunk n old new → pairs_of chunk old ≡ ps → pairs_of chunk torn ≡ ps → ((c : ℕ) → place_of ps c ≢ Some n) → picture chunk origin torn ≡ picture chunk origin old
shown_beside size chunk n origin old new torn ps pos is lo only was now unnamed =
    same_picture chunk origin old origin torn ps refl now
    (λ i lt. picture-only chunk n origin old torn ps pos (torn_only size chunk n old new torn is lo only) unnamed i ∙ sym (ap (λ x. picture_at chunk origin old x i) was))

-- a byte of the array, by the place of its chunk's copy: where it has one the origin disk is not asked
by_place : (chunk i : ℕ) (old torn store : List ℕ) (r : Option ℕ) → (r ≡ None → get_or torn i 0 ≡ get_or old i 0) → byte_of chunk torn store i r ≡ byte_of chunk old store i r
by_place chunk i old torn store None same = same refl
by_place chunk i old torn store (Some n) same = refl

-- sectors of a chunk that has a copy are written on the origin disk
pub shown_under : (sectors chunk q count : ℕ) (old new torn store : List ℕ) (ps : List Pair) → 0 < chunk → IsTorn sectors old new torn → length old ≡ 512 * sectors → length new ≡ 512 * sectors → ((i : ℕ) → (i < 512 * (chunk * q)) ⊎ (512 * (chunk * q + count) ≤ i) → get_or new i 0 ≡ get_or old i 0) → count ≤ chunk
    → pairs_of chunk store ≡ ps → place_of ps q ≢ None → picture chunk torn store ≡ picture chunk old store
shown_under sectors chunk q count old new torn store ps pos is lo ln rest few was named =
    same_picture chunk old store torn store ps (is.whole ∙ sym lo) was
    (λ i lt. by_place chunk i old torn store (place_of ps (i / (512 * chunk))) (λ none. torn_byte sectors old new torn is lo ln i (rest i (beside i none))) ∙ sym (ap (λ x. picture_at chunk old store x i) was))
  where
    up : 512 * (chunk * q) ≡ q * (512 * chunk)
    up = grind arith

    beside : (i : ℕ) → place_of ps (i / (512 * chunk)) ≡ None → (i < 512 * (chunk * q)) ⊎ (512 * (chunk * q + count) ≤ i)
    beside i none = elim (cases_lt i (512 * (chunk * q))) [
      | inl below ↦ inl below
      | inr from ↦ elim (cases_lt i (512 * (chunk * q) + 512 * chunk)) [
        | inr past ↦ inr (omega arith)
        | inl inside ↦ absurd (named (ap (place_of ps) (sym (within i from inside)) ∙ none))
      ]
    ]
      where
        within : (i : ℕ) → 512 * (chunk * q) ≤ i → i < 512 * (chunk * q) + 512 * chunk → i / (512 * chunk) ≡ q
        within i from inside =
            let e : i ≡ q * (512 * chunk) + (i - q * (512 * chunk)) = omega (arith, up) in
            ap (λ z. z / (512 * chunk)) e ∙ div-mul-add q (512 * chunk) (i - q * (512 * chunk)) (omega (arith, up))

-- a place that a pair of a list has lies in the store
place_fits : (chunk sectors size c n : ℕ) (ps : List Pair) → All (IsInside chunk sectors size) ps → place_of ps c ≡ Some n → chunk * (n + 1) ≤ size
place_fits chunk sectors size c n ps inside e =
    let (k, lt, at) = place_found ps c n e in
    let d : Pair = record { old = 0; new = 0 } in
    let h : chunk * ((get_or ps k d).new + 1) ≤ size = (inside k d lt).new in
    subst (λ (m : ℕ). chunk * (m + 1) ≤ size) (at d).1 h

-- a sector lies in one chunk
chunk_of : (chunk n x : ℕ) → x < chunk → (chunk * n + x) / chunk ≡ n
chunk_of chunk n x lt = let e : chunk * n + x ≡ n * chunk + x = grind arith in ap (λ y. y / chunk) e ∙ div-mul-add n chunk x lt

same_chunk : (chunk n m x : ℕ) → x < chunk → chunk * m ≤ chunk * n + x → chunk * n + x < chunk * m + chunk → n ≡ m
same_chunk chunk n m x lt low high =
    let e : chunk * n + x ≡ chunk * m + (chunk * n + x - chunk * m) = omega arith in
    sym (chunk_of chunk n x lt) ∙ ap (λ z. z / chunk) e ∙ chunk_of chunk m (chunk * n + x - chunk * m) (omega arith)

-- A sector of a chunk that has a copy at this place, by what that sector of the store is.
module _ (sectors size chunk c place first count : ℕ) (origin old new torn bytes : List ℕ) (ps : List Pair) (pos : 0 < chunk) (lo : length origin ≡ 512 * sectors) (is : IsTorn size old new torn) (whole : length old ≡ 512 * size)
    (was : pairs_of chunk old ≡ ps) (now : pairs_of chunk torn ≡ ps) (inside : All (IsInside chunk sectors size) ps) (apart : AllPairs IsApart ps) (named : place_of ps c ≡ Some place)
    (part : first + count ≤ chunk) (long : length bytes ≡ 512 * count) (wrote : (new ≡ old) ⊎ (new ≡ with_sectors old (chunk * place + first) bytes)) where
  abbrev pub IsOldOrGiven : ℕ → Type 0
  IsOldOrGiven s = (sector_at (picture chunk origin torn) s ≡ sector_at (picture chunk origin old) s) ⊎ ((chunk * c + first ≤ s) × (s < chunk * c + first + count) × (sector_at (picture chunk origin torn) s ≡ sector_at bytes (s - (chunk * c + first))))

  -- a sector of the store is as it was, or is one of those that are written
  store_sector : (x : ℕ) → x < size → (sector_at torn x ≡ sector_at old x) ⊎ ((chunk * place + first ≤ x) × (x < chunk * place + first + count) × (sector_at torn x ≡ sector_at bytes (x - (chunk * place + first))))
  store_sector x lt = elim (is.each x lt) [
    | inl e ↦ inl e
    | inr e ↦ elim wrote [
      | inl same ↦ inl (e ∙ ap (λ b. sector_at b x) same)
      | inr w ↦ (let fits = place_fits chunk sectors size c place ps inside named in
          let up : chunk * (place + 1) ≡ chunk * place + chunk = grind arith in
          kept_or_written new old (chunk * place + first) count bytes x (sector_at torn x) w (omega arith) long e)
    ]
  ]

  -- the chunk that has its copy at the place that is written
  one_chunk : (d n x : ℕ) → place_of ps d ≡ Some n → x < chunk → chunk * place + first ≤ chunk * n + x → chunk * n + x < chunk * place + first + count → (d ≡ c) × (n ≡ place)
  one_chunk d n x at lt low high =
      let same : n ≡ place = same_chunk chunk n place x lt (omega arith) (omega arith) in
      elim (cases_eq d c) [
        | inl e ↦ (e, same)
        | inr ne ↦ absurd (place_apart ps d n c place apart at named ne same)
      ]

  shown_by : (s : ℕ) (r : Option ℕ) → s < sectors → place_of ps (s / chunk) ≡ r → IsOldOrGiven s
  shown_by s None lt at = inl (sector_plain chunk sectors s origin torn ps pos lo lt now at ∙ sym (sector_plain chunk sectors s origin old ps pos lo lt was at))
  shown_by s (Some n) lt at =
      let fits = place_fits chunk sectors size (s / chunk) n ps inside at in
      let up : chunk * (n + 1) ≡ chunk * n + chunk = grind arith in
      let off : s % chunk < chunk = mod_below s chunk pos in
      let there : chunk * n + s % chunk < size = omega arith in
      let torn_is = sector_copied chunk sectors size s n origin torn ps pos lo is.whole lt there now at in
      elim (store_sector (chunk * n + s % chunk) there) [
        | inl e ↦ inl (torn_is ∙ e ∙ sym (sector_copied chunk sectors size s n origin old ps pos lo whole lt there was at))
        | inr w ↦ (let (d_is, n_is) = one_chunk (s / chunk) n (s % chunk) at off w.0 w.1 in
            let here : s ≡ chunk * c + s % chunk = sym (div-add-mod' s chunk) ∙ grind (arith, d_is) in
            let place_is : chunk * n ≡ chunk * place = ap (λ (m : ℕ). chunk * m) n_is in
            let low = w.0 in
            let high = w.1 in
            let far : chunk * n + s % chunk - (chunk * place + first) ≡ s - (chunk * c + first) = omega arith in
            inr (omega arith, omega arith, torn_is ∙ w.2 ∙ ap (sector_at bytes) far))
      ]

  -- part of the copy of a chunk is written: each sector of the array is as it was, or as it is written
  pub shown_written : (s : ℕ) → s < sectors → IsOldOrGiven s
  shown_written s lt = shown_by s (place_of ps (s / chunk)) lt refl

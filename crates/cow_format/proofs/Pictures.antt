-- Pictures.
use Rattle.std.proofs.Common.{◌≡◌, ◌≢◌, ◌⊎◌, inl, inr, ℕ, suc, ◌+◌, ◌*◌, ◌-◌, ◌/◌, ◌%◌, ◌<◌, ◌≤◌, List, [], ◌∷◌, ◌++◌, length, get_or, arith, refl, ap, ◌∙◌, sym, cond}
use Rattle.std.proofs.lemmas.Bool.{cases_lt, cases_order, eq-eqb, ne_eqb, cases_eq, cond-true, cond-false}
use lib.Dec.{eqb}
use Rattle.std.proofs.lemmas.List.FromFn.{length-range_with_len, get_or-range_with_len}
use Rattle.std.proofs.lemmas.Nat.{div-mul-add, mod-mul-add, mod_below, div-add-mod'}
use Rattle.std.proofs.lemmas.List.{length-map, get_or-map, ext_get_or}
use Rattle.std.specs.Prelude.{Option, Some, None, AllPairs}
use Rattle.std.specs.List.{range_with_len}
use Rattle.sector.specs.Bytes.{sectors_at, with_sectors}
use Rattle.sector.proofs.Sectors.{byte_read, byte_inside, byte_outside, length-with_sectors}
use Rattle.sector.specs.declared.pair.Pair.{Pair}
use Rattle.cow_format.specs.Pairs.{pairs_of, IsApart}
use Rattle.cow_format.specs.Picture.{place_of, byte_of, picture_at, picture}
use Rattle.cow_format.proofs.AreaPlaces.{chunks_apart}

-- the first pair that names a chunk
pub place_found : (ps : List Pair) (c n : ℕ) → place_of ps c ≡ Some n → (k : ℕ) × (k < length ps) × ((d : Pair) → ((get_or ps k d).old ≡ c) × ((get_or ps k d).new ≡ n))
place_found [] c n e = absurd (cc)
place_found (p ∷ ps) c n e = elim (cases_eq p.old c) [
  | inl same ↦ (let h : Some p.new ≡ Some n = sym (cond-true _ _ _ (eq-eqb _ _ same)) ∙ e in (0, omega arith, λ d. (same, cc)))
  | inr ne ↦ (let h : place_of ps c ≡ Some n = sym (cond-false _ _ _ (ne_eqb _ _ ne)) ∙ e in
      let (k, lt, at) = place_found ps c n h in (suc k, omega arith, at))
]

-- two chunks with a copy have two places
pub place_apart : (ps : List Pair) (c n c' n' : ℕ) → AllPairs IsApart ps → place_of ps c ≡ Some n → place_of ps c' ≡ Some n' → c ≢ c' → n ≢ n'
place_apart ps c n c' n' apart e e' ne same =
    let (k, lt, at) = place_found ps c n e in
    let (k', lt', at') = place_found ps c' n' e' in
    let d : Pair = record { old = 0; new = 0 } in
    elim (cases_order k k') [
      | inl eq ↦ ne (sym (at d).0 ∙ ap (λ x. (get_or ps x d).old) eq ∙ (at' d).0)
      | inr o ↦ elim o [
        | inl below ↦ (apart k k' d below lt').new ((at d).1 ∙ same ∙ sym (at' d).1)
        | inr above ↦ (apart k' k d above lt).new ((at' d).1 ∙ sym same ∙ sym (at d).1)
      ]
    ]

-- one pair more
pub place-push : (ps : List Pair) (p : Pair) (c : ℕ) → p.old ≢ c → place_of (ps ++ p ∷ []) c ≡ place_of ps c
place-push [] p c ne = cond-false _ _ _ (ne_eqb _ _ ne)
place-push (q ∷ ps) p c ne = ap (λ x. cond (eqb q.old c) (Some q.new) x) (place-push ps p c ne)

pub place-pushed : (ps : List Pair) (p : Pair) (c : ℕ) → place_of ps c ≡ None → p.old ≡ c → place_of (ps ++ p ∷ []) c ≡ Some p.new
place-pushed [] p c none same = cond-true _ _ _ (eq-eqb _ _ same)
place-pushed (q ∷ ps) p c none same = elim (cases_eq q.old c) [
  | inl e ↦ (let h : Some q.new ≡ None = sym (cond-true _ _ _ (eq-eqb _ _ e)) ∙ none in absurd (cc))
  | inr ne ↦ cond-false _ _ _ (ne_eqb _ _ ne) ∙ place-pushed ps p c (sym (cond-false _ _ _ (ne_eqb _ _ ne)) ∙ none) same
]

-- a byte's chunk, and its number there
byte_in : (chunk i : ℕ) → i ≡ 512 * (chunk * (i / (512 * chunk))) + i % (512 * chunk)
byte_in chunk i = let h = div-add-mod' i (512 * chunk) in grind arith

byte_below : (chunk i : ℕ) → 0 < chunk → i % (512 * chunk) < 512 * chunk
byte_below chunk i pos = mod_below i (512 * chunk) (omega arith)

-- d. one pair more, whose place has the origin's bytes
pub picture-push : (chunk : ℕ) (origin store : List ℕ) (ps : List Pair) (p : Pair) → place_of ps p.old ≡ None → ((i : ℕ) → i < length origin → i / (512 * chunk) ≡ p.old → get_or store (512 * (chunk * p.new) + i % (512 * chunk)) 0 ≡ get_or origin i 0) → (i : ℕ) → i < length origin → picture_at chunk origin store (ps ++ p ∷ []) i ≡ picture_at chunk origin store ps i
picture-push chunk origin store ps p none same i lt = elim (cases_eq p.old (i / (512 * chunk))) [
  | inr ne ↦ ap (byte_of chunk origin store i) (place-push ps p (i / (512 * chunk)) ne)
  | inl e ↦ (let absent : place_of ps (i / (512 * chunk)) ≡ None = sym (ap (place_of ps) e) ∙ none in
      ap (byte_of chunk origin store i) (place-pushed ps p (i / (512 * chunk)) absent e) ∙ same i lt (sym e) ∙ sym (ap (byte_of chunk origin store i) absent))
]

-- a write to the origin in a chunk that has a copy
pub picture-origin : (chunk c n first count : ℕ) (old new store : List ℕ) (ps : List Pair) → 0 < chunk → place_of ps c ≡ Some n → chunk * c ≤ first → first + count ≤ chunk * c + chunk → ((i : ℕ) → (i < 512 * first) ⊎ (512 * (first + count) ≤ i) → get_or new i 0 ≡ get_or old i 0) → (i : ℕ) → picture_at chunk new store ps i ≡ picture_at chunk old store ps i
picture-origin chunk c n first count old new store ps pos some low high rest i = elim (cases_eq (i / (512 * chunk)) c) [
  | inl e ↦ (let at : place_of ps (i / (512 * chunk)) ≡ Some n = ap (place_of ps) e ∙ some in
      ap (byte_of chunk new store i) at ∙ sym (ap (byte_of chunk old store i) at))
  | inr ne ↦ origin_other (place_of ps (i / (512 * chunk))) (rest i (elim (chunks_apart chunk (i / (512 * chunk)) c ne) [
    | inl x ↦ inl (let a = byte_in chunk i in let b = byte_below chunk i pos in omega arith)
    | inr x ↦ inr (let a = byte_in chunk i in omega arith)
  ]))
]
  where
    origin_other : (o : Option ℕ) → get_or new i 0 ≡ get_or old i 0 → byte_of chunk new store i o ≡ byte_of chunk old store i o
    origin_other None same = same
    origin_other (Some m) same = refl

-- a write to the store in a chunk that no pair names
store_other : (chunk i : ℕ) (origin old new : List ℕ) (o : Option ℕ) → ((n : ℕ) → o ≡ Some n → get_or new (512 * (chunk * n) + i % (512 * chunk)) 0 ≡ get_or old (512 * (chunk * n) + i % (512 * chunk)) 0) → byte_of chunk origin new i o ≡ byte_of chunk origin old i o
store_other chunk i origin old new None same = refl
store_other chunk i origin old new (Some n) same = same n refl

pub picture-store : (chunk m first count : ℕ) (origin old new : List ℕ) (ps : List Pair) → 0 < chunk → ((c : ℕ) → place_of ps c ≢ Some m) → chunk * m ≤ first → first + count ≤ chunk * m + chunk → ((i : ℕ) → (i < 512 * first) ⊎ (512 * (first + count) ≤ i) → get_or new i 0 ≡ get_or old i 0) → (i : ℕ) → picture_at chunk origin new ps i ≡ picture_at chunk origin old ps i
picture-store chunk m first count origin old new ps pos unnamed low high rest i =
    store_other chunk i origin old new (place_of ps (i / (512 * chunk))) (λ n e. rest (512 * (chunk * n) + i % (512 * chunk)) (elim (chunks_apart chunk n m (λ same. unnamed (i / (512 * chunk)) (e ∙ ap Some same))) [
      | inl x ↦ inl (let b = byte_below chunk i pos in omega arith)
      | inr x ↦ inr (omega arith)
    ]))

-- a write to the store in the chunk that has a chunk's copy writes the same bytes in the array
pub picture-write : (chunk c n off count : ℕ) (origin old new bytes : List ℕ) (ps : List Pair) → 0 < chunk → AllPairs IsApart ps → place_of ps c ≡ Some n → off + count ≤ chunk → ((i : ℕ) → (i < 512 * (chunk * n + off)) ⊎ (512 * (chunk * n + off + count) ≤ i) → get_or new i 0 ≡ get_or old i 0) → (i : ℕ) → (i < 512 * (chunk * c + off)) ⊎ (512 * (chunk * c + off + count) ≤ i) → picture_at chunk origin new ps i ≡ picture_at chunk origin old ps i
picture-write chunk c n off count origin old new bytes ps pos apart some fits rest i out =
    store_other chunk i origin old new (place_of ps (i / (512 * chunk))) (λ m e. rest (512 * (chunk * m) + i % (512 * chunk)) (elim (cases_eq c (i / (512 * chunk))) [
      | inl same ↦ (let eq : Some n ≡ Some m = sym some ∙ ap (place_of ps) same ∙ e in let here : n ≡ m = cc in
          let a = byte_in chunk i in
          let ac : chunk * c ≡ chunk * (i / (512 * chunk)) = ap (λ x. chunk * x) same in
          let am : chunk * n ≡ chunk * m = ap (λ x. chunk * x) here in
          elim out [ inl lo ↦ inl (omega arith) | inr hi ↦ inr (omega arith) ])
      | inr ne ↦ elim (chunks_apart chunk m n (λ same. place_apart ps c n (i / (512 * chunk)) m apart some e ne (sym same))) [
        | inl x ↦ inl (let b = byte_below chunk i pos in omega arith)
        | inr x ↦ inr (omega arith)
      ]
    ]))

-- and the bytes are read there
pub picture-written : (chunk c n off count : ℕ) (origin new bytes : List ℕ) (ps : List Pair) → 0 < chunk → place_of ps c ≡ Some n → off + count ≤ chunk → sectors_at new (chunk * n + off) count ≡ bytes → (k : ℕ) → k < 512 * count → picture_at chunk origin new ps (512 * (chunk * c + off) + k) ≡ get_or bytes k 0
picture-written chunk c n off count origin new bytes ps pos some fits is k lt =
    let i : ℕ = 512 * (chunk * c + off) + k in
    let at : 512 * (chunk * c + off) + k ≡ c * (512 * chunk) + (512 * off + k) = grind arith in
    let q : (512 * (chunk * c + off) + k) / (512 * chunk) ≡ c = ap (λ x. x / (512 * chunk)) at ∙ div-mul-add c (512 * chunk) (512 * off + k) (omega arith) in
    let r : (512 * (chunk * c + off) + k) % (512 * chunk) ≡ 512 * off + k = ap (λ x. x % (512 * chunk)) at ∙ mod-mul-add c (512 * chunk) (512 * off + k) (omega arith) in
    ap (byte_of chunk origin new (512 * (chunk * c + off) + k)) (ap (place_of ps) q ∙ some)
    ∙ ap (λ x. get_or new (512 * (chunk * n) + x) 0) r
    ∙ ap (λ x. get_or new x 0) (omega arith)
    ∙ sym (byte_read new (chunk * n + off) count k lt)
    ∙ ap (λ x. get_or x k 0) is

-- a chunk that has no copy is the origin's
pub picture-plain : (chunk c off count : ℕ) (origin store : List ℕ) (ps : List Pair) → 0 < chunk → place_of ps c ≡ None → off + count ≤ chunk → (k : ℕ) → k < 512 * count → picture_at chunk origin store ps (512 * (chunk * c + off) + k) ≡ get_or origin (512 * (chunk * c + off) + k) 0
picture-plain chunk c off count origin store ps pos none fits k lt =
    let at : 512 * (chunk * c + off) + k ≡ c * (512 * chunk) + (512 * off + k) = grind arith in
    let q : (512 * (chunk * c + off) + k) / (512 * chunk) ≡ c = ap (λ x. x / (512 * chunk)) at ∙ div-mul-add c (512 * chunk) (512 * off + k) (omega arith) in
    ap (byte_of chunk origin store (512 * (chunk * c + off) + k)) (ap (place_of ps) q ∙ none)

-- the front of a chunk that was copied, short at the end of the origin
pub front_copied : (chunk c n count : ℕ) (origin store : List ℕ) → 0 < chunk → sectors_at store (chunk * n) count ≡ sectors_at origin (chunk * c) count → count ≤ chunk → (length origin ≤ 512 * (chunk * c + count)) ⊎ (count ≡ chunk) → (i : ℕ) → i < length origin → i / (512 * chunk) ≡ c → get_or store (512 * (chunk * n) + i % (512 * chunk)) 0 ≡ get_or origin i 0
front_copied chunk c n count origin store pos same fits whole i lt at =
    let a = byte_in chunk i in
    let b = byte_below chunk i pos in
    let ac : chunk * (i / (512 * chunk)) ≡ chunk * c = ap (λ x. chunk * x) at in
    let e : i ≡ 512 * (chunk * c) + i % (512 * chunk) = omega arith in
    let short : i % (512 * chunk) < 512 * count = elim whole [ inl x ↦ omega arith | inr x ↦ omega arith ] in
    sym (byte_read store (chunk * n) count (i % (512 * chunk)) short)
    ∙ ap (λ x. get_or x (i % (512 * chunk)) 0) same
    ∙ byte_read origin (chunk * c) count (i % (512 * chunk)) short
    ∙ ap (λ x. get_or origin x 0) (sym e)

-- the array as a list
pub length-picture : (chunk : ℕ) (origin store : List ℕ) → length (picture chunk origin store) ≡ length origin
unfolding picture
length-picture chunk origin store = simp (length-map, length-range_with_len)

pub get_or-picture : (chunk : ℕ) (origin store : List ℕ) (i : ℕ) → i < length origin → get_or (picture chunk origin store) i 0 ≡ picture_at chunk origin store (pairs_of chunk store) i
unfolding picture
get_or-picture chunk origin store i lt =
    get_or-map (picture_at chunk origin store (pairs_of chunk store)) (range_with_len 0 (length origin)) i 0 0 (rw length-range_with_len lt)
    ∙ ap (picture_at chunk origin store (pairs_of chunk store)) (get_or-range_with_len 0 (length origin) i 0 lt ∙ omega arith)

-- two arrays are one, by their bytes
pub same_picture : (chunk : ℕ) (origin store origin' store' : List ℕ) (ps : List Pair) → length origin' ≡ length origin → pairs_of chunk store' ≡ ps → ((i : ℕ) → i < length origin → picture_at chunk origin' store' ps i ≡ picture_at chunk origin store (pairs_of chunk store) i) → picture chunk origin' store' ≡ picture chunk origin store
same_picture chunk origin store origin' store' ps len is same =
    ext_get_or 0 _ _ (length-picture chunk origin' store' ∙ len ∙ sym (length-picture chunk origin store))
    (λ i lt. let inside' : i < length origin' = rw (← length-picture chunk origin' store') lt in let inside : i < length origin = omega arith in
    get_or-picture chunk origin' store' i inside' ∙ ap (λ x. picture_at chunk origin' store' x i) is ∙ same i inside ∙ sym (get_or-picture chunk origin store i inside))

-- bytes that are these in a range and the same elsewhere
pub with_sectors-is : (a b : List ℕ) (first : ℕ) (new : List ℕ) → length a ≡ length b → 512 * first + length new ≤ length b → ((i : ℕ) → i < length b → (i < 512 * first) ⊎ (512 * first + length new ≤ i) → get_or a i 0 ≡ get_or b i 0) → ((k : ℕ) → k < length new → get_or a (512 * first + k) 0 ≡ get_or new k 0) → a ≡ with_sectors b first new
with_sectors-is a b first new len fits rest here =
    ext_get_or 0 _ _ (len ∙ sym (length-with_sectors b first new fits)) (λ i lt. elim (cases_lt i (512 * first)) [
      | inl lo ↦ rest i (omega arith) (inl lo) ∙ sym (byte_outside b first new i fits (inl lo))
      | inr from ↦ elim (cases_lt i (512 * first + length new)) [
        | inr hi ↦ rest i (omega arith) (inr hi) ∙ sym (byte_outside b first new i fits (inr hi))
        | inl below ↦ (let e : i ≡ 512 * first + (i - 512 * first) = omega arith in
            ap (λ x. get_or a x 0) e ∙ here (i - 512 * first) (omega arith)
            ∙ sym (byte_inside b first new (i - 512 * first) fits (omega arith)) ∙ sym (ap (λ x. get_or (with_sectors b first new) x 0) e))
      ]
    ])

-- the array with these bytes
pub picture_with : (chunk first count : ℕ) (origin store store' bytes : List ℕ) → pairs_of chunk store' ≡ pairs_of chunk store → length bytes ≡ 512 * count → 512 * (first + count) ≤ length origin → ((i : ℕ) → (i < 512 * first) ⊎ (512 * (first + count) ≤ i) → picture_at chunk origin store' (pairs_of chunk store) i ≡ picture_at chunk origin store (pairs_of chunk store) i) → ((k : ℕ) → k < 512 * count → picture_at chunk origin store' (pairs_of chunk store) (512 * first + k) ≡ get_or bytes k 0) → picture chunk origin store' ≡ with_sectors (picture chunk origin store) first bytes
picture_with chunk first count origin store store' bytes is len fits rest here =
    let whole = length-picture chunk origin store in
    let whole' = length-picture chunk origin store' in
    let read : (i : ℕ) → i < length origin → get_or (picture chunk origin store') i 0 ≡ picture_at chunk origin store' (pairs_of chunk store) i = λ i lt. get_or-picture chunk origin store' i lt ∙ ap (λ x. picture_at chunk origin store' x i) is in
    with_sectors-is _ _ first bytes (whole' ∙ sym whole) (omega arith)
    (λ i lt out. read i (omega arith) ∙ rest i (elim out [ inl lo ↦ inl lo | inr hi ↦ inr (omega arith) ]) ∙ sym (get_or-picture chunk origin store i (omega arith)))
    (λ k lt. read (512 * first + k) (omega arith) ∙ here k (omega arith))

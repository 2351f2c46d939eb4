-- Look-ups in lists of pairs of which a part is sure, and the sectors at a pair's place.
use Rattle.std.proofs.Common.{◌≡◌, ◌≢◌, inl, inr, ℕ, ◌+◌, ◌*◌, ◌-◌, ◌/◌, ◌%◌, ◌<◌, ◌≤◌, List, [], ◌∷◌, ◌++◌, length, take, drop, get_or, arith, refl, ap, ◌∙◌, sym, subst, length-take, length-drop, min, false}
use Rattle.std.specs.Prelude.{Some, None, ◌==◌}
use Rattle.std.specs.List.{All}
use Rattle.std.proofs.lemmas.Bool.{cases_Bool, cond-true, cond-false}
use Rattle.std.proofs.lemmas.List.{take-append-drop}
use Rattle.std.proofs.lemmas.Nat.{mod_below}
use Rattle.sector.specs.Bytes.{sector_at, with_sectors}
use Rattle.sector.proofs.Sectors.{byte_read, byte_outside, length-with_sectors}
use Rattle.sector.specs.declared.pair.Pair.{Pair}
use Rattle.cow_format.specs.Places.{is_area_place, ChangesOnly}
use Rattle.cow_format.specs.Pairs.{pairs_of, IsInside}
use Rattle.cow_format.specs.Picture.{place_of, picture, IsCopied}
use Rattle.cow_format.proofs.Slots.{changes_only, pairs-outside}
use Rattle.cow_format.proofs.Pictures.{place_found, length-picture}
use Rattle.cache_loss_laws.proofs.Parts.{from_bytes}
use Rattle.crash_laws.proofs.Sectors.{sector_chunk}

-- a look-up past a front that lacks the chunk
pub place_behind : (xs ys : List Pair) (c : ℕ) → place_of xs c ≡ None → place_of (xs ++ ys) c ≡ place_of ys c
place_behind [] ys c e = refl
place_behind (x ∷ xs) ys c e = elim (cases_Bool (x.old == c)) [
  | inl t ↦ (let no : Some x.new ≡ None = sym (cond-true _ _ _ t) ∙ e in absurd (cc))
  | inr f ↦ cond-false _ _ _ f ∙ place_behind xs ys c (sym (cond-false _ _ _ f) ∙ e)
]

-- in the list without its first pairs
pub place_later : (n : ℕ) (ps : List Pair) (c : ℕ) → place_of (take n ps) c ≡ None → place_of ps c ≡ place_of (drop n ps) c
place_later n ps c e = ap (λ z. place_of z c) (sym (take-append-drop n ps)) ∙ place_behind (take n ps) (drop n ps) c e

-- what holds of each pair holds of the one that names a chunk
pub place_all : (P : Pair → Type 0) (ps : List Pair) (c n : ℕ) → All P ps → place_of ps c ≡ Some n → (q : Pair) × P q × (q.old ≡ c) × (q.new ≡ n)
place_all P ps c n all e =
    let (k, lt, at) = place_found ps c n e in
    let d : Pair = record { old = 0; new = 0 } in
    (get_or ps k d, all k d lt, (at d).0, (at d).1)

-- its place lies in the store, and is no area's
pub record IsGoodPlace (chunk size n : ℕ) : Type 0 where
  pub fits : chunk * (n + 1) ≤ size
  pub free : is_area_place chunk n ≡ false
  pub low : 0 < n

pub place_good : (chunk sectors size c n : ℕ) (ps : List Pair) → All (IsInside chunk sectors size) ps → place_of ps c ≡ Some n → IsGoodPlace chunk size n
place_good chunk sectors size c n ps inside e =
    let (q, lies, old, new) = place_all (IsInside chunk sectors size) ps c n inside e in
    record {
      fits = subst (λ (m : ℕ). chunk * (m + 1) ≤ size) new lies.new;
      free = subst (λ (m : ℕ). is_area_place chunk m ≡ false) new lies.free;
      low = subst (λ (m : ℕ). 0 < m) new lies.low;
    }

-- a sector of it is one of the store
pub sector_fits : (chunk size n s : ℕ) → 0 < chunk → chunk * (n + 1) ≤ size → chunk * n + s % chunk < size
sector_fits chunk size n s pos fits =
    let up : chunk * (n + 1) ≡ chunk * n + chunk = grind arith in
    let off : s % chunk < chunk = mod_below s chunk pos in
    omega arith

-- another value in one sector of it leaves the pairs
pub pairs_with : (chunk n r size : ℕ) (c v : List ℕ) → 0 < chunk → r < chunk → is_area_place chunk n ≡ false → chunk * (n + 1) ≤ size → length c ≡ 512 * size → length v ≡ 512 → pairs_of chunk (with_sectors c (chunk * n + r) v) ≡ pairs_of chunk c
pairs_with chunk n r size c v pos lt free fits whole len =
    let up : chunk * (n + 1) ≡ chunk * n + chunk = grind arith in
    pairs-outside chunk n c (with_sectors c (chunk * n + r) v) pos free
    (changes_only chunk n (chunk * n + r) 1 c (with_sectors c (chunk * n + r) v) (length-with_sectors c (chunk * n + r) v (omega arith)) (omega arith) (omega arith)
    (λ i side. byte_outside c (chunk * n + r) v i (omega arith) (elim side [ inl below ↦ inl below | inr past ↦ inr (omega arith) ])))

-- a sector of the array has 512 bytes
pub length_shown : (chunk sectors s : ℕ) (o c : List ℕ) → length o ≡ 512 * sectors → s < sectors → length (sector_at (picture chunk o c) s) ≡ 512
length_shown chunk sectors s o c lo lt =
    let cut : length (sector_at (picture chunk o c) s) ≡ min 512 (length (picture chunk o c) - 512 * s) = simp (length-take, length-drop) in
    omega (arith, cut, length-picture chunk o c, lo)

-- a chunk that is not written has its sectors
pub sector_same : (chunk a n r size : ℕ) (old new : List ℕ) → ChangesOnly chunk a old new → n ≢ a → r < chunk → chunk * n + r < size → length old ≡ 512 * size → sector_at new (chunk * n + r) ≡ sector_at old (chunk * n + r)
sector_same chunk a n r size old new only ne lt fits whole =
    from_bytes new old (chunk * n + r) (chunk * n + r) size size (only.len ∙ whole) whole fits fits
    (λ i small. let at : 512 * (chunk * n + r) + i ≡ 512 * (chunk * n) + (512 * r + i) = omega arith in
    let short : 512 * r + i < 512 * chunk = omega arith in
    ap (λ x. get_or new x 0) at ∙ sym (byte_read new (chunk * n) chunk (512 * r + i) short) ∙ ap (λ x. get_or x (512 * r + i) 0) (only.rest n ne) ∙ byte_read old (chunk * n) chunk (512 * r + i) short ∙ sym (ap (λ x. get_or old x 0) at))

-- a copied chunk's sector at its place is the origin's
pub copy_sector : (chunk sectors size s : ℕ) (o c : List ℕ) (q : Pair) → 0 < chunk → length o ≡ 512 * sectors → length c ≡ 512 * size → s < sectors → chunk * q.new + s % chunk < size → s / chunk ≡ q.old → IsCopied chunk o c q → sector_at c (chunk * q.new + s % chunk) ≡ sector_at o s
copy_sector chunk sectors size s o c q pos lo lc lt fits named same =
    from_bytes c o (chunk * q.new + s % chunk) s size sectors lc lo fits lt
    (λ r small. let at = sector_chunk chunk s r pos small in
    let here : 512 * (chunk * q.new + s % chunk) + r ≡ 512 * (chunk * q.new) + (512 * s + r) % (512 * chunk) = omega (arith, at.1) in
    ap (λ x. get_or c x 0) here ∙ same.front (512 * s + r) (omega arith) (at.0 ∙ named))

-- Bytes at the last flush, sector by sector.
use Rattle.std.proofs.Common.{◌≡◌, ◌⊎◌, inl, inr, ℕ, zero, suc, ◌+◌, ◌*◌, ◌-◌, ◌/◌, ◌%◌, ◌<◌, ◌≤◌, List, [], ◌∷◌, ◌++◌, length, take, drop, get_or, replicate, min, refl, ap, ◌∙◌, sym, subst, arith, true, false, length-append, length-take, length-drop}
use Rattle.std.proofs.lemmas.Bool.{cases_lt, true≢false}
use Rattle.std.proofs.lemmas.List.{length-replicate, get_or-replicate, get_or_append_left, get_or-append_right, get_or_past}
use Rattle.std.proofs.lemmas.Grind.{same_number_lists}
use Rattle.sector.specs.Bytes.{with_sectors, sector_at}
use Rattle.sector.proofs.Sectors.{sectors_at_apart, sectors_at-with_inside, length-with_sectors, byte_read, byte_outside, written_back}
use Rattle.device.specs.declared.mark.Mark.{Mark}
use Rattle.device.specs.declared.mark.Mark.TheVariants.{Fresh, Same, Zero, Kept, Loaded}
use Rattle.device.specs.Listed.{place_in}
use Rattle.device.specs.Marks.{mark_at, flushed_sector, flushed_from, flushed_at, is_settled}

sector_length : (b : List ℕ) (s : ℕ) → length (sector_at b s) ≡ min 512 (length b - 512 * s)
sector_length b s = simp (length-take, length-drop)

pub sector_long : (b : List ℕ) (s : ℕ) → 512 * (s + 1) ≤ length b → length (sector_at b s) ≡ 512
sector_long b s fits = omega (arith, sector_length b s)

-- a sector of bytes to which others are added, and the sector that is added
pub sector_kept : (b more : List ℕ) (s : ℕ) → 512 * (s + 1) ≤ length b → sector_at (b ++ more) s ≡ sector_at b s
sector_kept b more s fits = same_number_lists _ _ (omega (arith, sector_length (b ++ more) s, sector_length b s, length-append b more)) (λ k lt.
    let short : k < 512 = omega (arith, sector_length (b ++ more) s) in
    byte_read (b ++ more) s 1 k (omega arith) ∙ get_or_append_left b more 0 (512 * s + k) (omega arith) ∙ sym (byte_read b s 1 k (omega arith)))

-- the sectors of a sector and what comes after it
pub sector_first : (x b : List ℕ) → length x ≡ 512 → sector_at (x ++ b) 0 ≡ x
sector_first x b long = same_number_lists _ _ (omega (arith, sector_length (x ++ b) 0, length-append x b)) (λ k lt.
    let short : k < 512 = omega (arith, sector_length (x ++ b) 0) in
    let at : 512 * 0 + k ≡ k = omega arith in
    byte_read (x ++ b) 0 1 k (omega arith) ∙ ap (λ n. get_or (x ++ b) n 0) at ∙ get_or_append_left x b 0 k (omega arith))

pub sector_after : (x b : List ℕ) (s : ℕ) → length x ≡ 512 → sector_at (x ++ b) (suc s) ≡ sector_at b s
sector_after x b s long = same_number_lists _ _ (omega (arith, sector_length (x ++ b) (suc s), sector_length b s, length-append x b)) (λ k lt.
    let short : k < 512 = omega (arith, sector_length (x ++ b) (suc s)) in
    let rest : 512 * suc s + k - 512 ≡ 512 * s + k = omega arith in
    byte_read (x ++ b) (suc s) 1 k (omega arith) ∙ get_or-append_right x b 512 (512 * suc s + k) 0 long (omega arith) ∙ ap (λ n. get_or b n 0) rest ∙ sym (byte_read b s 1 k (omega arith)))

-- bytes of zero
pub sector_zero : (b : List ℕ) (s : ℕ) → 512 * (s + 1) ≤ length b → ((i : ℕ) → i < 512 → get_or b (512 * s + i) 0 ≡ 0) → sector_at b s ≡ replicate 512 0
sector_zero b s fits none = same_number_lists _ _ (sector_long b s fits ∙ sym (length-replicate {A = ℕ} 512 0)) (λ k lt.
    let short : k < 512 = omega (arith, sector_long b s fits) in
    byte_read b s 1 k (omega arith) ∙ none k short ∙ sym (get_or-replicate 512 k 0 0 short))

-- what a sector's value of the last flush is, with other bytes
pub flushed_now : (a b kept aside : List ℕ) (t : ℕ) (m : Mark) → sector_at a t ≡ sector_at b t → flushed_sector a kept aside t m ≡ flushed_sector b kept aside t m
flushed_now a b kept aside t Fresh same = same
flushed_now a b kept aside t Same same = same
flushed_now a b kept aside t Zero same = refl
flushed_now a b kept aside t Kept same = refl
flushed_now a b kept aside t Loaded same = same

-- a settled sector has its value of the last flush
pub flushed_settled : (now kept aside : List ℕ) (t : ℕ) (m : Mark) → is_settled m ≡ true → flushed_sector now kept aside t m ≡ sector_at now t
flushed_settled now kept aside t Fresh is = refl
flushed_settled now kept aside t Same is = refl
flushed_settled now kept aside t Zero is = cc
flushed_settled now kept aside t Kept is = cc
flushed_settled now kept aside t Loaded is = refl

-- and one that is not has it elsewhere
pub flushed_unsettled : (a b kept aside : List ℕ) (t : ℕ) (m : Mark) → is_settled m ≡ false → flushed_sector a kept aside t m ≡ flushed_sector b kept aside t m
flushed_unsettled a b kept aside t Fresh is = cc
flushed_unsettled a b kept aside t Same is = cc
flushed_unsettled a b kept aside t Zero is = refl
flushed_unsettled a b kept aside t Kept is = refl
flushed_unsettled a b kept aside t Loaded is = cc

-- the same values are the same bytes
pub flushed_same : (a kept aside b kept' aside' : List ℕ) (s : ℕ) (marks marks' : List Mark) → length marks ≡ length marks' → ((j : ℕ) → j < length marks → flushed_sector a kept aside (s + j) (mark_at marks j) ≡ flushed_sector b kept' aside' (s + j) (mark_at marks' j)) → flushed_from a kept aside s marks ≡ flushed_from b kept' aside' s marks'
flushed_same a kept aside b kept' aside' s [] [] len same = refl
flushed_same a kept aside b kept' aside' s [] (m ∷ ms) len same = absurd (omega arith)
flushed_same a kept aside b kept' aside' s (m ∷ ms) [] len same = absurd (omega arith)
flushed_same a kept aside b kept' aside' s (m ∷ ms) (m' ∷ ms') len same =
    let first : flushed_sector a kept aside s m ≡ flushed_sector b kept' aside' s m' = subst (λ (k : ℕ). flushed_sector a kept aside k m ≡ flushed_sector b kept' aside' k m') (omega arith) (same 0 (omega arith)) in
    let rest : flushed_from a kept aside (s + 1) ms ≡ flushed_from b kept' aside' (s + 1) ms' = flushed_same a kept aside b kept' aside' (s + 1) ms ms' (omega arith)
    (λ j lt. let at : s + suc j ≡ s + 1 + j = omega arith in subst (λ (k : ℕ). flushed_sector a kept aside k (mark_at ms j) ≡ flushed_sector b kept' aside' k (mark_at ms' j)) at (same (suc j) (omega arith))) in
    ap (λ x. x ++ flushed_from a kept aside (s + 1) ms) first ∙ ap (λ x. flushed_sector b kept' aside' s m' ++ x) rest

-- of whole sectors
pub flushed_long : (a kept aside : List ℕ) (s : ℕ) (marks : List Mark) → ((j : ℕ) → j < length marks → length (flushed_sector a kept aside (s + j) (mark_at marks j)) ≡ 512) → length (flushed_from a kept aside s marks) ≡ 512 * length marks
flushed_long a kept aside s [] whole = refl
flushed_long a kept aside s (m ∷ ms) whole =
    let first : length (flushed_sector a kept aside s m) ≡ 512 = subst (λ (k : ℕ). length (flushed_sector a kept aside k m) ≡ 512) (omega arith) (whole 0 (omega arith)) in
    let rest = flushed_long a kept aside (s + 1) ms (λ j lt. let at : s + suc j ≡ s + 1 + j = omega arith in subst (λ (k : ℕ). length (flushed_sector a kept aside k (mark_at ms j)) ≡ 512) at (whole (suc j) (omega arith))) in
    omega (arith, length-append (flushed_sector a kept aside s m) (flushed_from a kept aside (s + 1) ms))

-- each of them
pub flushed_sectors : (a kept aside : List ℕ) (s : ℕ) (marks : List Mark) → ((j : ℕ) → j < length marks → length (flushed_sector a kept aside (s + j) (mark_at marks j)) ≡ 512) → (j : ℕ) → j < length marks → sector_at (flushed_from a kept aside s marks) j ≡ flushed_sector a kept aside (s + j) (mark_at marks j)
flushed_sectors a kept aside s [] whole j lt = absurd (omega arith)
flushed_sectors a kept aside s (m ∷ ms) whole zero lt =
    let first : length (flushed_sector a kept aside s m) ≡ 512 = subst (λ (k : ℕ). length (flushed_sector a kept aside k m) ≡ 512) (omega arith) (whole 0 (omega arith)) in
    let at : s ≡ s + 0 = omega arith in
    sector_first (flushed_sector a kept aside s m) (flushed_from a kept aside (s + 1) ms) first ∙ ap (λ k. flushed_sector a kept aside k m) at
flushed_sectors a kept aside s (m ∷ ms) whole (suc j) lt =
    let first : length (flushed_sector a kept aside s m) ≡ 512 = subst (λ (k : ℕ). length (flushed_sector a kept aside k m) ≡ 512) (omega arith) (whole 0 (omega arith)) in
    let at : s + 1 + j ≡ s + suc j = omega arith in
    sector_after (flushed_sector a kept aside s m) (flushed_from a kept aside (s + 1) ms) j first
    ∙ flushed_sectors a kept aside (s + 1) ms (λ i lt'. let at' : s + suc i ≡ s + 1 + i = omega arith in subst (λ (k : ℕ). length (flushed_sector a kept aside k (mark_at ms i)) ≡ 512) at' (whole (suc i) (omega arith))) j (omega arith)
    ∙ ap (λ k. flushed_sector a kept aside k (mark_at ms j)) at

-- bytes are the same where their sectors are
pub sectors_same : (n : ℕ) (a b : List ℕ) → length a ≡ 512 * n → length b ≡ 512 * n → ((t : ℕ) → t < n → sector_at a t ≡ sector_at b t) → a ≡ b
sectors_same n a b la lb same = same_number_lists _ _ (la ∙ sym lb) (λ i lt.
    let t : ℕ = i / 512 in
    let k : ℕ = i % 512 in
    let short : k < 512 = omega arith in
    let at : 512 * t + k ≡ i = omega arith in
    ap (λ j. get_or a j 0) (sym at) ∙ sym (byte_read a t 1 k (omega arith)) ∙ ap (λ x. get_or x k 0) (same t (omega arith)) ∙ byte_read b t 1 k (omega arith) ∙ ap (λ j. get_or b j 0) at)

-- each sector's value has 512 bytes
pub value_long : (now kept aside : List ℕ) (marks : List Mark) → length now ≡ 512 * length marks → ((s : ℕ) → mark_at marks s ≡ Kept → 512 * (place_in kept s + 1) ≤ length aside) → (t : ℕ) → t < length marks → length (flushed_at now kept aside marks t) ≡ 512
value_long now kept aside marks long there t lt = of (mark_at marks t) (there t)
  where
    of : (m : Mark) → (m ≡ Kept → 512 * (place_in kept t + 1) ≤ length aside) → length (flushed_sector now kept aside t m) ≡ 512
    of Fresh at = sector_long now t (omega arith)
    of Same at = sector_long now t (omega arith)
    of Zero at = length-replicate {A = ℕ} 512 0
    of Kept at = sector_long aside (place_in kept t) (at refl)
    of Loaded at = sector_long now t (omega arith)

-- the same for all sectors from the first on
pub all_long : (now kept aside : List ℕ) (marks : List Mark) → length now ≡ 512 * length marks → ((s : ℕ) → mark_at marks s ≡ Kept → 512 * (place_in kept s + 1) ≤ length aside) → length (flushed_from now kept aside 0 marks) ≡ 512 * length marks
all_long now kept aside marks long there = flushed_long now kept aside 0 marks (λ j lt. let at : j ≡ 0 + j = omega arith in subst (λ (k : ℕ). length (flushed_sector now kept aside k (mark_at marks j)) ≡ 512) at (value_long now kept aside marks long there j lt))

pub all_sectors : (now kept aside : List ℕ) (marks : List Mark) → length now ≡ 512 * length marks → ((s : ℕ) → mark_at marks s ≡ Kept → 512 * (place_in kept s + 1) ≤ length aside) → (t : ℕ) → t < length marks → sector_at (flushed_from now kept aside 0 marks) t ≡ flushed_at now kept aside marks t
all_sectors now kept aside marks long there t lt =
    let at : 0 + t ≡ t = omega arith in
    flushed_sectors now kept aside 0 marks (λ j lt'. let at' : j ≡ 0 + j = omega arith in subst (λ (k : ℕ). length (flushed_sector now kept aside k (mark_at marks j)) ≡ 512) at' (value_long now kept aside marks long there j lt')) t lt
    ∙ ap (λ k. flushed_sector now kept aside k (mark_at marks t)) at

pub all_same : (a kept aside b kept' aside' : List ℕ) (marks marks' : List Mark) → length marks ≡ length marks' → ((t : ℕ) → t < length marks → flushed_at a kept aside marks t ≡ flushed_at b kept' aside' marks' t) → flushed_from a kept aside 0 marks ≡ flushed_from b kept' aside' 0 marks'
all_same a kept aside b kept' aside' marks marks' len same = flushed_same a kept aside b kept' aside' 0 marks marks' len
    (λ j lt. let at : j ≡ 0 + j = omega arith in subst (λ (k : ℕ). flushed_sector a kept aside k (mark_at marks j) ≡ flushed_sector b kept' aside' k (mark_at marks' j)) at (same j lt))

-- where all are settled, the bytes are those of the last flush
pub all_settled : (now kept aside : List ℕ) (marks : List Mark) → length now ≡ 512 * length marks → ((t : ℕ) → is_settled (mark_at marks t) ≡ true) → flushed_from now kept aside 0 marks ≡ now
all_settled now kept aside marks long settled =
    let there : (s : ℕ) → mark_at marks s ≡ Kept → 512 * (place_in kept s + 1) ≤ length aside = λ s at. absurd (true≢false (sym (settled s) ∙ ap is_settled at)) in
    sectors_same (length marks) _ now (all_long now kept aside marks long there) long (λ t lt. all_sectors now kept aside marks long there t lt ∙ flushed_settled now kept aside t (mark_at marks t) (settled t))

-- a write of sectors whose values are kept aside leaves all values
pub write_flushed : (now now' new kept aside kept' aside' : List ℕ) (first count : ℕ) (marks marks' : List Mark) → length marks' ≡ length marks → now' ≡ with_sectors now first new → length new ≡ 512 * count → 512 * (first + count) ≤ length now → ((t : ℕ) → first ≤ t → t < first + count → is_settled (mark_at marks' t) ≡ false)
    → ((t : ℕ) → flushed_at now kept' aside' marks' t ≡ flushed_at now kept aside marks t) → flushed_from now' kept' aside' 0 marks' ≡ flushed_from now kept aside 0 marks
write_flushed now now' new kept aside kept' aside' first count marks marks' len is whole fits unsettled same = all_same now' kept' aside' now kept aside marks' marks len (λ t lt. elim (cases_lt t first) [
  | inl below ↦ outside t (inl (omega arith))
  | inr from ↦ elim (cases_lt t (first + count)) [
    | inl inside ↦ flushed_unsettled now' now kept' aside' t (mark_at marks' t) (unsettled t from inside) ∙ same t
    | inr past ↦ outside t (inr past)
  ]
])
  where
    outside : (t : ℕ) → (t + 1 ≤ first) ⊎ (first + count ≤ t) → flushed_at now' kept' aside' marks' t ≡ flushed_at now kept aside marks t
    outside t out = flushed_now now' now kept' aside' t (mark_at marks' t) (ap (λ b. sector_at b t) is ∙ sectors_at_apart now first count new t 1 (omega arith) whole out) ∙ same t

-- a load of sectors is one of their values of the last flush too
pub load_flushed : (now now' new kept aside kept' aside' : List ℕ) (first count : ℕ) (marks marks' : List Mark) → length now ≡ 512 * length marks → length marks' ≡ length marks → now' ≡ with_sectors now first new → length new ≡ 512 * count → first + count ≤ length marks
    → ((s : ℕ) → mark_at marks s ≡ Kept → 512 * (place_in kept s + 1) ≤ length aside) → ((s : ℕ) → mark_at marks' s ≡ Kept → 512 * (place_in kept' s + 1) ≤ length aside')
    → ((t : ℕ) → first ≤ t → t < first + count → flushed_at now' kept' aside' marks' t ≡ sector_at now' t) → ((t : ℕ) → (t < first) ⊎ (first + count ≤ t) → flushed_at now' kept' aside' marks' t ≡ flushed_at now' kept aside marks t)
    → flushed_from now' kept' aside' 0 marks' ≡ with_sectors (flushed_from now kept aside 0 marks) first new
load_flushed now now' new kept aside kept' aside' first count marks marks' long len is whole fits there there' own other =
    let fits' : 512 * first + length new ≤ length now = omega arith in
    let long' : length now' ≡ 512 * length marks' = omega (arith, ap length is, length-with_sectors now first new fits') in
    let before : length (flushed_from now kept aside 0 marks) ≡ 512 * length marks = all_long now kept aside marks long there in
    let fits'' : 512 * first + length new ≤ length (flushed_from now kept aside 0 marks) = omega arith in
    sectors_same (length marks) _ _ (all_long now' kept' aside' marks' long' there' ∙ ap (λ n. 512 * n) len) (length-with_sectors _ first new fits'' ∙ before)
    (λ t lt. all_sectors now' kept' aside' marks' long' there' t (omega arith) ∙ elim (cases_lt t first) [
      | inl below ↦ outside t lt (inl (omega arith))
      | inr from ↦ elim (cases_lt t (first + count)) [
        | inl inside ↦ own t from inside ∙ ap (λ b. sector_at b t) is ∙ sectors_at-with_inside now first count new t 1 fits' whole from (omega arith) ∙ sym (sectors_at-with_inside (flushed_from now kept aside 0 marks) first count new t 1 fits'' whole from (omega arith))
        | inr past ↦ outside t lt (inr past)
      ]
    ])
  where
    outside : (t : ℕ) → t < length marks → (t + 1 ≤ first) ⊎ (first + count ≤ t) → flushed_at now' kept' aside' marks' t ≡ sector_at (with_sectors (flushed_from now kept aside 0 marks) first new) t
    outside t lt out =
        let before = all_long now kept aside marks long there in
        other t (elim out [ inl below ↦ inl (omega arith) | inr past ↦ inr past ])
        ∙ flushed_now now' now kept aside t (mark_at marks t) (ap (λ b. sector_at b t) is ∙ sectors_at_apart now first count new t 1 (omega arith) whole out)
        ∙ sym (all_sectors now kept aside marks long there t lt)
        ∙ sym (sectors_at_apart (flushed_from now kept aside 0 marks) first count new t 1 (omega arith) whole out)

-- a vector after a write through its slice
pub long_back : (n m : ℕ) (x y : List ℕ) → length x ≡ n → n ≡ m → length (take n (x ++ drop (length x) y)) ≡ m
long_back n m x y len is = ap length (written_back n x y len) ∙ (len ∙ is)

-- a fresh sector is there, and zero
pub fresh_zero : (now : List ℕ) (marks : List Mark) → length now ≡ 512 * length marks → ((s i : ℕ) → mark_at marks s ≡ Fresh → i < 512 → get_or now (512 * s + i) 0 ≡ 0) → (t : ℕ) → mark_at marks t ≡ Fresh → sector_at now t ≡ replicate 512 0
fresh_zero now marks long fresh t at = elim (cases_lt t (length marks)) [
  | inl lt ↦ sector_zero now t (omega arith) (λ i short. fresh t i at short)
  | inr past ↦ absurd (let no : Same ≡ Fresh = sym (get_or_past marks t Same past) ∙ at in cc)
]

-- it is still after a write of others, and after what was written is lost
pub write_fresh : (now now' new : List ℕ) (first count : ℕ) (marks marks' : List Mark) → now' ≡ with_sectors now first new → length new ≡ 512 * count → 512 * (first + count) ≤ length now → ((t : ℕ) → first ≤ t → t < first + count → is_settled (mark_at marks' t) ≡ false) → ((t : ℕ) → (t < first) ⊎ (first + count ≤ t) → mark_at marks' t ≡ mark_at marks t)
    → ((s i : ℕ) → mark_at marks s ≡ Fresh → i < 512 → get_or now (512 * s + i) 0 ≡ 0) → (s i : ℕ) → mark_at marks' s ≡ Fresh → i < 512 → get_or now' (512 * s + i) 0 ≡ 0
write_fresh now now' new first count marks marks' is whole fits kept others fresh s i at short = elim (cases_lt s first) [
  | inl below ↦ ap (λ b. get_or b (512 * s + i) 0) is ∙ byte_outside now first new (512 * s + i) (omega arith) (inl (omega arith)) ∙ fresh s i (sym (others s (inl below)) ∙ at) short
  | inr from ↦ elim (cases_lt s (first + count)) [
    | inl inside ↦ absurd (true≢false (sym (ap is_settled at) ∙ kept s from inside))
    | inr past ↦ ap (λ b. get_or b (512 * s + i) 0) is ∙ byte_outside now first new (512 * s + i) (omega arith) (inr (omega arith)) ∙ fresh s i (sym (others s (inr past)) ∙ at) short
  ]
]

pub lose_fresh : (now now' kept aside : List ℕ) (marks marks' : List Mark) → ((t : ℕ) → sector_at now' t ≡ flushed_at now kept aside marks t) → ((t : ℕ) → mark_at marks' t ≡ Fresh → mark_at marks t ≡ Fresh)
    → ((s i : ℕ) → mark_at marks s ≡ Fresh → i < 512 → get_or now (512 * s + i) 0 ≡ 0) → (s i : ℕ) → mark_at marks' s ≡ Fresh → i < 512 → get_or now' (512 * s + i) 0 ≡ 0
lose_fresh now now' kept aside marks marks' back less fresh s i at short =
    sym (byte_read now' s 1 i (omega arith)) ∙ ap (λ x. get_or x i 0) (back s ∙ ap (flushed_sector now kept aside s) (less s at)) ∙ byte_read now s 1 i (omega arith) ∙ fresh s i (less s at) short

-- what is put back is the values of the last flush
pub lose_back : (now now' kept aside : List ℕ) (marks : List Mark) → length now ≡ 512 * length marks → length now' ≡ 512 * length marks → ((s : ℕ) → mark_at marks s ≡ Kept → 512 * (place_in kept s + 1) ≤ length aside) → ((t : ℕ) → sector_at now' t ≡ flushed_at now kept aside marks t) → now' ≡ flushed_from now kept aside 0 marks
lose_back now now' kept aside marks long long' there back = sectors_same (length marks) now' _ long' (all_long now kept aside marks long there) (λ t lt. back t ∙ sym (all_sectors now kept aside marks long there t lt))

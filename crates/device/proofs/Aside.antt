-- Values of the last flush, as they are kept aside, replaced and put back.
use Rattle.std.proofs.Common.{◌≡◌, ◌≢◌, ◌⊎◌, inl, inr, ℕ, ◌+◌, ◌*◌, ◌-◌, ◌<◌, ◌≤◌, List, ◌++◌, length, get_or, min, replicate, refl, ap, ◌∙◌, sym, subst, arith, true, length-append, length-take, length-drop}
use Rattle.std.specs.List.{range_with_len}
use Rattle.std.proofs.lemmas.List.{get_or-append_right, length-replicate}
use Rattle.std.proofs.lemmas.Bool.{cases_eq, cases_lt}
use Rattle.std.proofs.lemmas.Grind.{same_number_lists}
use Rattle.sector.specs.Bytes.{sectors_at, sector_at, with_sectors}
use Rattle.sector.proofs.Sectors.{byte_read, sectors_at-with_inside, sectors_at-with_same, sectors_at_apart}
use Rattle.device.specs.declared.mark.Mark.{Mark}
use Rattle.device.specs.declared.mark.Mark.TheVariants.{Fresh, Same, Zero, Kept, Loaded}
use Rattle.device.specs.Listed.{place_in}
use Rattle.device.specs.Marks.{mark_at, flushed_sector, flushed_at, is_kept, put_mark, AreKept, AreZeroed}
use Rattle.device.proofs.Listed.{place_left, place_right, place_in_range, place_at}
use Rattle.device.proofs.Marked.{where_is, not_kept, put_settled, kept_same, zeroed_same}
use Rattle.device.proofs.Flushed.{sector_long, sector_kept, flushed_settled}

-- a sector of some
pub sector_in : (b : List ℕ) (a n i : ℕ) → i < n → 512 * (a + n) ≤ length b → length (sectors_at b a n) ≡ 512 * n → sector_at (sectors_at b a n) i ≡ sector_at b (a + i)
sector_in b a n i lt fits long = same_number_lists _ _ (sector_long (sectors_at b a n) i (omega arith) ∙ sym (sector_long b (a + i) (omega arith))) (λ k below.
    let short : k < 512 = omega (arith, sector_long (sectors_at b a n) i (omega arith)) in
    let at : 512 * a + (512 * i + k) ≡ 512 * (a + i) + k = omega arith in
    byte_read (sectors_at b a n) i 1 k (omega arith) ∙ byte_read b a n (512 * i + k) (omega arith) ∙ ap (λ j. get_or b j 0) at ∙ sym (byte_read b (a + i) 1 k (omega arith)))

-- a sector of what was added
pub sector_past : (b more : List ℕ) (n i : ℕ) → length b ≡ 512 * n → 512 * (i + 1) ≤ length more → sector_at (b ++ more) (n + i) ≡ sector_at more i
sector_past b more n i long fits =
    let all = length-append b more in
    same_number_lists _ _ (sector_long (b ++ more) (n + i) (omega arith) ∙ sym (sector_long more i fits)) (λ k below.
    let short : k < 512 = omega (arith, sector_long (b ++ more) (n + i) (omega arith)) in
    let rest : 512 * (n + i) + k - 512 * n ≡ 512 * i + k = omega arith in
    byte_read (b ++ more) (n + i) 1 k (omega arith) ∙ get_or-append_right b more (512 * n) (512 * (n + i) + k) 0 long (omega arith) ∙ ap (λ j. get_or more j 0) rest ∙ sym (byte_read more i 1 k (omega arith)))

-- each value that is kept aside is there
pub there_of : (marks : List Mark) (kept aside : List ℕ) → length aside ≡ 512 * length kept → AreKept marks kept → (s : ℕ) → mark_at marks s ≡ Kept → 512 * (place_in kept s + 1) ≤ length aside
there_of marks kept aside whole are s is = let lt = are.all s (ap is_kept is) in omega arith

-- values that were kept aside before others
pub flushed_more : (now kept aside values : List ℕ) (a n t : ℕ) (m : Mark) → length aside ≡ 512 * length kept → (is_kept m ≡ true → place_in kept t < length kept) → flushed_sector now (kept ++ range_with_len a n) (aside ++ values) t m ≡ flushed_sector now kept aside t m
flushed_more now kept aside values a n t Fresh whole there = refl
flushed_more now kept aside values a n t Same whole there = refl
flushed_more now kept aside values a n t Zero whole there = refl
flushed_more now kept aside values a n t Kept whole there =
    let lt = there refl in
    ap (sector_at (aside ++ values)) (place_left kept (range_with_len a n) t lt) ∙ sector_kept aside values (place_in kept t) (omega arith)
flushed_more now kept aside values a n t Loaded whole there = refl

-- values of sectors that are kept aside
pub kept_flushed : (now kept aside values : List ℕ) (a n : ℕ) (marks marks' : List Mark) → length aside ≡ 512 * length kept → AreKept marks kept → ((t : ℕ) → a ≤ t → t < a + n → mark_at marks t ≡ Same) → ((t : ℕ) → a ≤ t → t < a + n → mark_at marks' t ≡ Kept) → ((t : ℕ) → (t < a) ⊎ (a + n ≤ t) → mark_at marks' t ≡ mark_at marks t)
    → values ≡ sectors_at now a n → length values ≡ 512 * n → 512 * (a + n) ≤ length now → (t : ℕ) → flushed_at now (kept ++ range_with_len a n) (aside ++ values) marks' t ≡ flushed_at now kept aside marks t
kept_flushed now kept aside values a n marks marks' whole are same new others is long fits t = elim (where_is a n t) [
  | inl near ↦ (
      let i : ℕ = t - a in
      let at : a + i ≡ t = omega (arith, near.0) in
      let lt : i < n = omega (arith, near.0, near.1) in
      let was = same t near.0 near.1 in
      let past = not_kept marks kept t are (ap is_kept was) in
      let place : place_in (kept ++ range_with_len a n) t ≡ length kept + i = place_right kept (range_with_len a n) t past ∙ ap (λ k. length kept + k) (place_in_range a n i t lt at) in
      let long' : length (sectors_at now a n) ≡ 512 * n = sym (ap length is) ∙ long in
      ap (flushed_sector now (kept ++ range_with_len a n) (aside ++ values) t) (new t near.0 near.1)
      ∙ ap (sector_at (aside ++ values)) place
      ∙ sector_past aside values (length kept) i whole (omega arith)
      ∙ ap (λ b. sector_at b i) is
      ∙ sector_in now a n i lt fits long'
      ∙ ap (sector_at now) at
      ∙ sym (ap (flushed_sector now kept aside t) was)
      )
  | inr out ↦ ap (flushed_sector now (kept ++ range_with_len a n) (aside ++ values) t) (others t out) ∙ flushed_more now kept aside values a n t (mark_at marks t) whole (are.all t)
]

-- sectors that were zero at the last flush
pub zero_flushed : (now kept aside : List ℕ) (a n : ℕ) (marks marks' : List Mark) → ((t : ℕ) → a ≤ t → t < a + n → mark_at marks t ≡ Fresh) → ((t : ℕ) → a ≤ t → t < a + n → mark_at marks' t ≡ Zero) → ((t : ℕ) → (t < a) ⊎ (a + n ≤ t) → mark_at marks' t ≡ mark_at marks t)
    → ((t : ℕ) → mark_at marks t ≡ Fresh → sector_at now t ≡ replicate 512 0) → (t : ℕ) → flushed_at now kept aside marks' t ≡ flushed_at now kept aside marks t
zero_flushed now kept aside a n marks marks' fresh new others zero t = elim (where_is a n t) [
  | inl near ↦ (
      let was = fresh t near.0 near.1 in
      ap (flushed_sector now kept aside t) (new t near.0 near.1) ∙ sym (zero t was) ∙ sym (ap (flushed_sector now kept aside t) was)
      )
  | inr out ↦ ap (flushed_sector now kept aside t) (others t out)
]

-- values that were made those of the last flush
pub put_flushed : (now kept aside : List ℕ) (a n : ℕ) (marks marks' : List Mark) → ((t : ℕ) → a ≤ t → t < a + n → mark_at marks' t ≡ put_mark (mark_at marks t)) → (t : ℕ) → a ≤ t → t < a + n → flushed_at now kept aside marks' t ≡ sector_at now t
put_flushed now kept aside a n marks marks' put t lo hi = ap (flushed_sector now kept aside t) (put t lo hi) ∙ flushed_settled now kept aside t (put_mark (mark_at marks t)) (put_settled (mark_at marks t))

-- values that are kept aside in the place of others
pub again_flushed : (now kept aside aside' : List ℕ) (a n : ℕ) (marks marks' : List Mark) → AreKept marks kept → ((t : ℕ) → a ≤ t → t < a + n → mark_at marks t ≡ Loaded) → ((t : ℕ) → a ≤ t → t < a + n → mark_at marks' t ≡ Kept) → ((t : ℕ) → (t < a) ⊎ (a + n ≤ t) → mark_at marks' t ≡ mark_at marks t)
    → ((j : ℕ) → j < length kept → a ≤ get_or kept j 0 → get_or kept j 0 < a + n → sector_at aside' j ≡ sector_at now (get_or kept j 0)) → ((j : ℕ) → j < length kept → (get_or kept j 0 < a) ⊎ (a + n ≤ get_or kept j 0) → sector_at aside' j ≡ sector_at aside j)
    → (t : ℕ) → flushed_at now kept aside' marks' t ≡ flushed_at now kept aside marks t
again_flushed now kept aside aside' a n marks marks' are loaded new others replaced same t = elim (where_is a n t) [
  | inl near ↦ (
      let was = loaded t near.0 near.1 in
      let there = are.all t (ap is_kept was) in
      let at = place_at kept t there in
      ap (flushed_sector now kept aside' t) (new t near.0 near.1) ∙ replaced (place_in kept t) there (subst (λ (k : ℕ). a ≤ k) (sym at) near.0) (subst (λ (k : ℕ). k < a + n) (sym at) near.1) ∙ ap (sector_at now) at ∙ sym (ap (flushed_sector now kept aside t) was)
      )
  | inr out ↦ ap (flushed_sector now kept aside' t) (others t out) ∙ of out (mark_at marks t) refl
]
  where
    of : (t < a) ⊎ (a + n ≤ t) → (m : Mark) → mark_at marks t ≡ m → flushed_sector now kept aside' t m ≡ flushed_sector now kept aside t m
    of out Fresh is = refl
    of out Same is = refl
    of out Zero is = refl
    of out Kept is = let there = are.all t (ap is_kept is) in same (place_in kept t) there (subst (λ (k : ℕ). (k < a) ⊎ (a + n ≤ k)) (sym (place_at kept t there)) out)
    of out Loaded is = refl

-- what is put back
pub taken_back : (now one two kept aside zeroed : List ℕ) (marks : List Mark) → AreZeroed marks zeroed → AreKept marks kept
    → ((t : ℕ) → mark_at marks t ≡ Zero → place_in zeroed t < length zeroed → sector_at one t ≡ replicate 512 0) → ((t : ℕ) → mark_at marks t ≢ Zero → sector_at one t ≡ sector_at now t)
    → ((t : ℕ) → mark_at marks t ≡ Kept → place_in kept t < length kept → sector_at two t ≡ sector_at aside (place_in kept t)) → ((t : ℕ) → mark_at marks t ≢ Kept → sector_at two t ≡ sector_at one t)
    → (t : ℕ) → sector_at two t ≡ flushed_at now kept aside marks t
taken_back now one two kept aside zeroed marks zeros keeps zero others back rest t = of (mark_at marks t) refl
  where
    still : (m : Mark) → mark_at marks t ≡ m → m ≢ Zero → m ≢ Kept → sector_at two t ≡ sector_at now t
    still m is not_zero not_kept = rest t (λ k. not_kept (sym is ∙ k)) ∙ others t (λ z. not_zero (sym is ∙ z))

    of : (m : Mark) → mark_at marks t ≡ m → sector_at two t ≡ flushed_at now kept aside marks t
    of Fresh is = still Fresh is (λ no. cc) (λ no. cc) ∙ sym (ap (flushed_sector now kept aside t) is)
    of Same is = still Same is (λ no. cc) (λ no. cc) ∙ sym (ap (flushed_sector now kept aside t) is)
    of Zero is = rest t (λ k. let no : Zero ≡ Kept = sym is ∙ k in cc) ∙ zero t is (zeros.all t is) ∙ sym (ap (flushed_sector now kept aside t) is)
    of Kept is = back t is (keeps.all t (ap is_kept is)) ∙ sym (ap (flushed_sector now kept aside t) is)
    of Loaded is = still Loaded is (λ no. cc) (λ no. cc) ∙ sym (ap (flushed_sector now kept aside t) is)

-- sectors after a write of some
pub sectors_long : (b : List ℕ) (a n : ℕ) → 512 * (a + n) ≤ length b → length (sectors_at b a n) ≡ 512 * n
sectors_long b a n fits = let long : length (sectors_at b a n) ≡ min (512 * n) (length b - 512 * a) = simp (length-take, length-drop) in omega arith

pub write_in : (b values : List ℕ) (w n k : ℕ) → 512 * (w + n) ≤ length b → length values ≡ 512 * n → k < n → sector_at (with_sectors b w values) (w + k) ≡ sector_at values k
write_in b values w n k fits whole lt = let at : w + k - w ≡ k = omega arith in sectors_at-with_inside b w n values (w + k) 1 (omega arith) whole (omega arith) (omega arith) ∙ ap (sector_at values) at

pub write_out : (b values : List ℕ) (w n j : ℕ) → 512 * (w + n) ≤ length b → length values ≡ 512 * n → (j < w) ⊎ (w + n ≤ j) → sector_at (with_sectors b w values) j ≡ sector_at b j
write_out b values w n j fits whole out = sectors_at_apart b w n values j 1 (omega arith) whole (elim out [ inl lt ↦ inl (omega arith) | inr ge ↦ inr ge ])

-- one value is put back
pub back_at : (now aside values : List ℕ) (s p t : ℕ) → 512 * (s + 1) ≤ length now → 512 * (p + 1) ≤ length aside → values ≡ sectors_at aside p 1 → t ≡ s → sector_at (with_sectors now s values) t ≡ sector_at aside p
back_at now aside values s p t fits there is at =
    let long : length values ≡ 512 * 1 = ap length is ∙ sectors_long aside p 1 there in
    ap (sector_at (with_sectors now s values)) at ∙ sectors_at-with_same now s 1 values (omega arith) long ∙ is

pub back_beside : (now aside values : List ℕ) (s p t : ℕ) → 512 * (s + 1) ≤ length now → 512 * (p + 1) ≤ length aside → values ≡ sectors_at aside p 1 → t ≢ s → sector_at (with_sectors now s values) t ≡ sector_at now t
back_beside now aside values s p t fits there is ne =
    let long : length values ≡ 512 * 1 = ap length is ∙ sectors_long aside p 1 there in
    write_out now values s 1 t fits long (elim (cases_lt t s) [ inl lt ↦ inl lt | inr ge ↦ inr (omega arith) ])

-- the values of some sectors of a span replace those that are kept aside
pub replaced_in : (aside now values : List ℕ) (place begin from to i : ℕ) → begin ≤ from → from ≤ begin + i → begin + i < to → 512 * to ≤ length now → 512 * (place + (from - begin) + (to - from)) ≤ length aside → values ≡ sectors_at now from (to - from) → sector_at (with_sectors aside (place + (from - begin)) values) (place + i) ≡ sector_at now (begin + i)
replaced_in aside now values place begin from to i low lo hi inside fits is =
    let n : ℕ = to - from in
    let k : ℕ = begin + i - from in
    let w : ℕ = place + (from - begin) in
    let at : w + k ≡ place + i = omega arith in
    let at' : from + k ≡ begin + i = omega arith in
    let whole : length (sectors_at now from n) ≡ 512 * n = sectors_long now from n (omega arith) in
    ap (sector_at (with_sectors aside w values)) (sym at) ∙ write_in aside values w n k fits (ap length is ∙ whole) (omega arith) ∙ ap (λ b. sector_at b k) is ∙ sector_in now from n k (omega arith) (omega arith) whole ∙ ap (sector_at now) at'

-- beside a list of sectors that change from one mark to another
pub kept_beside : (marks marks' : List Mark) (kept : List ℕ) (a n : ℕ) → ((t : ℕ) → a ≤ t → t < a + n → mark_at marks t ≡ Fresh) → ((t : ℕ) → a ≤ t → t < a + n → mark_at marks' t ≡ Zero) → ((t : ℕ) → (t < a) ⊎ (a + n ≤ t) → mark_at marks' t ≡ mark_at marks t) → AreKept marks kept → AreKept marks' kept
kept_beside marks marks' kept a n was new = kept_same marks marks' kept a n (λ t lo hi. ap is_kept (new t lo hi) ∙ sym (ap is_kept (was t lo hi)))

pub zeroed_beside : (marks marks' : List Mark) (zeroed : List ℕ) (a n : ℕ) → length marks' ≡ length marks → ((t : ℕ) → a ≤ t → t < a + n → mark_at marks' t ≡ Kept) → ((t : ℕ) → (t < a) ⊎ (a + n ≤ t) → mark_at marks' t ≡ mark_at marks t) → AreZeroed marks zeroed → AreZeroed marks' zeroed
zeroed_beside marks marks' zeroed a n len new others = zeroed_same marks marks' zeroed len
    (λ t is. elim (where_is a n t) [ inl near ↦ absurd (let no : Kept ≡ Zero = sym (new t near.0 near.1) ∙ is in cc) | inr out ↦ sym (others t out) ∙ is ])
    (λ t is. elim (where_is a n t) [ inl near ↦ absurd (let no : Kept ≡ Fresh = sym (new t near.0 near.1) ∙ is in cc) | inr out ↦ sym (others t out) ∙ is ])

-- a sector that is made zero, and the others
pub zeros_at : (b : List ℕ) (s t : ℕ) → 512 * (s + 1) ≤ length b → t ≡ s → sector_at (with_sectors b s (replicate 512 0)) t ≡ replicate 512 0
zeros_at b s t fits is =
    let long : length (replicate {A = ℕ} 512 0) ≡ 512 * 1 = length-replicate {A = ℕ} 512 0 in
    ap (sector_at (with_sectors b s (replicate 512 0))) is ∙ sectors_at-with_same b s 1 (replicate 512 0) (omega arith) long

pub zeros_beside : (b : List ℕ) (s t : ℕ) → 512 * (s + 1) ≤ length b → t ≢ s → sector_at (with_sectors b s (replicate 512 0)) t ≡ sector_at b t
zeros_beside b s t fits ne = let long : length (replicate {A = ℕ} 512 0) ≡ 512 * 1 = length-replicate {A = ℕ} 512 0 in write_out b (replicate 512 0) s 1 t fits long (elim (cases_lt t s) [ inl lt ↦ inl lt | inr ge ↦ inr (omega arith) ])

pub zeros_still : (b : List ℕ) (s t : ℕ) → 512 * (s + 1) ≤ length b → sector_at b t ≡ replicate 512 0 → sector_at (with_sectors b s (replicate 512 0)) t ≡ replicate 512 0
zeros_still b s t fits zero = elim (cases_eq t s) [ inl e ↦ zeros_at b s t fits e | inr ne ↦ zeros_beside b s t fits ne ∙ zero ]

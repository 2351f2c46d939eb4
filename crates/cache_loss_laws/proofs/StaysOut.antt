-- A chunk that no content of a store which may be left has in its list stays so, where the slots only lose pairs: beside a merge,
-- whose commits clear slots and whose other calls write none.
use Rattle.std.proofs.Common.{◌≡◌, ◌≢◌, ◌⊎◌, inl, inr, ℕ, zero, suc, ◌+◌, ◌*◌, ◌<◌, ◌≤◌, List, ◌++◌, length, take, min, ◌-◌, get_or, arith, refl, ap, ◌∙◌, sym, subst}
use Rattle.std.specs.List.{All}
use Rattle.std.proofs.Math.ListN.{get_or-append}
use Rattle.std.specs.Prelude.{Option, Some, None}
use Rattle.std.proofs.lemmas.Bool.{cases_eq, cases_lt}
use Rattle.std.proofs.lemmas.List.{ext_get_or, get_or-take, length-take, length-drop, length-take-le}
use Rattle.sector.specs.Bytes.{sector_at, with_sectors}
use Rattle.sector.specs.declared.pair.Pair.{Pair}
use Rattle.sector.proofs.Sectors.{length-with_sectors, sectors_at-with_same, sectors_at_apart, byte_outside}
use Rattle.cow_format.specs.Slots.{pair_in}
use Rattle.cow_format.specs.Places.{slot}
use Rattle.cow_format.specs.Pairs.{pairs_of, IsInside}
use Rattle.cow_format.specs.Picture.{place_of}
use Rattle.cow_format.proofs.Slots.{IsListed-of, changes_only, slot-outside}
use Rattle.crash_laws.specs.Stop.{MayLeave}
use Rattle.crash_laws.specs.Firm.{AddsNow}
use Rattle.crash_laws.specs.May.{sector_of, number_of, MayList}
use Rattle.crash_laws.proofs.May.{slot_there, may_pairs}
use Rattle.crash_laws.proofs.Opens.{left_with}
use Rattle.cache_loss_laws.proofs.Parts.{place_first}
use Rattle.cache_loss_laws.proofs.Places.{place_good}

put : (b v : List ℕ) (size s t : ℕ) → length b ≡ 512 * size → length v ≡ 512 → s < size → t < size → ((t ≡ s) × (sector_at (with_sectors b s v) t ≡ v)) ⊎ (sector_at (with_sectors b s v) t ≡ sector_at b t)
put b v size s t whole len ls lt = elim (cases_eq t s) [
  | inl e ↦ inl (e, ap (λ x. sector_at (with_sectors b s v) x) e ∙ sectors_at-with_same b s 1 v (omega arith) (omega arith))
  | inr ne ↦ inr (sectors_at_apart b s 1 v t 1 (omega arith) (omega arith) (order t s ne))
] where
  order : (t s : ℕ) → t ≢ s → (t + 1 ≤ s) ⊎ (s + 1 ≤ t)
  order t s ne = elim (cases_lt t s) [ inl x ↦ inl (omega arith) | inr x ↦ inr (omega (arith, ne)) ]

module _ (chunk size : ℕ) (sh sh' : ℕ → List ℕ → Type 0) (c c' : List ℕ) (pos : 0 < chunk) (now : MayLeave sh size c) (adds : AddsNow sh sh' c') (fewer : (k : ℕ) → (slot chunk c' k ≡ slot chunk c k) ⊎ ((slot chunk c' k).new ≡ 0))
    (d : List ℕ) (left : MayLeave sh' size d) (short : (k : ℕ) → k < length (pairs_of chunk d) → sector_of chunk k < size) where
  -- the content with its first sectors mended: each is what is left, if that might be left before, or else what was there
  pub record Mended (n : ℕ) : Type 0 where
    pub e : List ℕ
    pub before : MayLeave sh size e
    pub low : (s : ℕ) → s < n → s < size → (sector_at e s ≡ sector_at d s) ⊎ ((sector_at d s ≡ sector_at c' s) × (sector_at e s ≡ sector_at c s))
    pub high : (s : ℕ) → n ≤ s → s < size → sector_at e s ≡ sector_at c s

  long : (s : ℕ) → s < size → length (sector_at d s) ≡ 512
  long s lt = let whole = left.whole in (let x : length (sector_at d s) ≡ min 512 (length d - 512 * s) = simp (length-take, length-drop) in omega (arith, x, whole, lt))

  mend : (n : ℕ) → n < size → Mended n → sh n (sector_at d n) ⊎ (sector_at d n ≡ sector_at c' n) → Mended (suc n)
  mend n lt m (inl was) = record {
    e = with_sectors m.e n (sector_at d n);
    before = left_with sh size n m.e (sector_at d n) m.before lt (long n lt) was;
    low = λ s below inside. elim (put m.e (sector_at d n) size n s m.before.whole (long n lt) lt inside) [
      | inl (e, is) ↦ inl (is ∙ ap (sector_at d) (sym e))
      | inr is ↦ elim (cases_eq s n) [
        | inl e ↦ inl (ap (sector_at (with_sectors m.e n (sector_at d n))) e ∙ sectors_at-with_same m.e n 1 (sector_at d n) (let w = m.before.whole in let l = long n lt in omega arith) (let l = long n lt in omega arith) ∙ ap (sector_at d) (sym e))
        | inr ne ↦ elim (m.low s (omega (arith, below, ne)) inside) [ inl x ↦ inl (is ∙ x) | inr x ↦ inr (x.0, is ∙ x.1) ]
      ]
    ];
    high = λ s ge inside. elim (put m.e (sector_at d n) size n s m.before.whole (long n lt) lt inside) [
      | inl (e, is) ↦ absurd (omega (arith, e, ge))
      | inr is ↦ is ∙ m.high s (omega (arith, ge)) inside
    ];
  }
  mend n lt m (inr there) = record {
    e = m.e;
    before = m.before;
    low = λ s below inside. elim (cases_eq s n) [
      | inl e ↦ inr (ap (sector_at d) e ∙ there ∙ ap (sector_at c') (sym e), m.high s (omega (arith, e)) inside)
      | inr ne ↦ m.low s (omega (arith, below, ne)) inside
    ];
    high = λ s ge inside. m.high s (omega (arith, ge)) inside;
  }

  mended : (n : ℕ) → n ≤ size → Mended n
  mended zero le = record { e = c; before = now; low = λ s lt. absurd (omega (arith, lt)); high = λ s ge lt. refl }
  mended (suc n) le = mend n (omega (arith, le)) (mended n (omega (arith, le))) (adds n (sector_at d n) (left.each n (omega (arith, le))))

  pub all : Mended size
  all = mended size (omega arith)

  -- a slot that is in use is the same in both
  slot_same : (k : ℕ) → sector_of chunk k < size → (slot chunk d k).new ≢ 0 → slot chunk all.e k ≡ slot chunk d k
  slot_same k inside used = elim (all.low (sector_of chunk k) inside inside) [
    | inl same ↦ sym (slot_there chunk all.e k pos) ∙ ap (λ z. pair_in z (number_of chunk k)) same ∙ slot_there chunk d k pos
    | inr there ↦
        (let is : slot chunk d k ≡ slot chunk c' k = sym (slot_there chunk d k pos) ∙ ap (λ z. pair_in z (number_of chunk k)) there.0 ∙ slot_there chunk c' k pos in
        let was : slot chunk all.e k ≡ slot chunk c k = sym (slot_there chunk all.e k pos) ∙ ap (λ z. pair_in z (number_of chunk k)) there.1 ∙ slot_there chunk c k pos in
        elim (fewer k) [
          | inl same ↦ was ∙ sym same ∙ sym is
          | inr none ↦ absurd (used (ap (λ (p : Pair). p.new) is ∙ none))
        ])
  ]

  abbrev pub ps : List Pair
  ps = pairs_of chunk d

  abbrev pub qs : List Pair
  qs = pairs_of chunk all.e

  reach : length ps ≤ length qs
  reach = elim (cases_lt (length qs) (length ps)) [
    | inl lt ↦
        (let l = IsListed-of chunk d ps pos refl in
        let g = IsListed-of chunk all.e qs pos refl in
        absurd (l.valid (length qs) lt (ap (λ (p : Pair). p.new) (sym (slot_same (length qs) (short (length qs) lt) (used (length qs) lt))) ∙ g.ends)))
    | inr ge ↦ omega (arith, ge)
  ] where
    used : (k : ℕ) → k < length ps → (slot chunk d k).new ≢ 0
    used k lt = let l = IsListed-of chunk d ps pos refl in λ e. l.valid k lt e

  first : take (length ps) qs ≡ ps
  first = let l = IsListed-of chunk d ps pos refl in let g = IsListed-of chunk all.e qs pos refl in let none : Pair = record { old = 0; new = 0 } in
      let len : length (take (length ps) qs) ≡ length ps = length-take-le (length ps) qs reach in
      ext_get_or none (take (length ps) qs) ps len (λ i lt. let below : i < length ps = omega (arith, lt, len) in
      get_or-take (length ps) qs i none below ∙ sym (g.each i none (omega (arith, below, reach))) ∙ slot_same i (short i below) (λ e. l.valid i below e) ∙ l.each i none below)

  -- what it has now it might have had before
  pub place_before : (x n : ℕ) → place_of ps x ≡ Some n → place_of qs x ≡ Some n
  place_before x n at = place_first (length ps) qs x n (ap (λ z. place_of z x) first ∙ at)

  pub stays_out : (x : ℕ) → ((b : List ℕ) → MayLeave sh size b → place_of (pairs_of chunk b) x ≡ None) → place_of ps x ≡ None
  stays_out x out = by (place_of ps x) refl where
    by : (y : Option ℕ) → place_of ps x ≡ y → place_of ps x ≡ None
    by None at = at
    by (Some n) at = (let no : Some n ≡ None = sym (place_before x n at) ∙ out all.e all.before in cc)

-- where all slots that may be in a list are known, they lie inside the store
pub short_lists : (chunk certain last size : ℕ) (pairs : List Pair) (holds : ℕ → List ℕ → Type 0) (d : List ℕ) → 0 < chunk → MayList chunk certain last pairs holds → ((k : ℕ) → k ≤ last → sector_of chunk k < size) → MayLeave holds size d → (k : ℕ) → k < length (pairs_of chunk d) → sector_of chunk k < size
short_lists chunk certain last size pairs holds d pos list inside left k lt =
    let (m, low, high, is) = may_pairs chunk certain last size pairs holds d pos list inside left in
    inside k (let reach = list.reach in omega (arith, lt, reach, high, ap length is ∙ length-take-le m pairs high))

-- a write at a pair's place leaves all slots
pub placed_slots : (chunk sectors size named n r count : ℕ) (ps : List Pair) (c bytes : List ℕ) → 0 < chunk → All (IsInside chunk sectors size) ps → place_of ps named ≡ Some n → r + count ≤ chunk → length bytes ≡ 512 * count → length c ≡ 512 * size
    → (k : ℕ) → slot chunk (with_sectors c (chunk * n + r) bytes) k ≡ slot chunk c k
placed_slots chunk sectors size named n r count ps c bytes pos inside at within long whole k =
    let good = place_good chunk sectors size named n ps inside at in
    let fits : chunk * (n + 1) ≤ size = good.fits in
    let up : chunk * (n + 1) ≡ chunk * n + chunk = grind arith in
    let short : 512 * (chunk * n + r) + length bytes ≤ length c = omega arith in
    slot-outside chunk n c (with_sectors c (chunk * n + r) bytes) pos good.free
    (changes_only chunk n (chunk * n + r) count c (with_sectors c (chunk * n + r) bytes) (length-with_sectors c (chunk * n + r) bytes short) (omega arith) (omega arith)
    (λ i side. byte_outside c (chunk * n + r) bytes i short (elim side [ inl below ↦ inl below | inr past ↦ inr (omega arith) ]))) k

-- a commit of a merge empties the slots of its group, and leaves all others
pub cleared_slots : (chunk : ℕ) (kept gone : List Pair) (c c' : List ℕ) → 0 < chunk → pairs_of chunk c ≡ kept ++ gone → pairs_of chunk c' ≡ kept → ((k : ℕ) → length kept ≤ k → k < length (kept ++ gone) → (slot chunk c' k).new ≡ 0)
    → ((k : ℕ) → length (kept ++ gone) ≤ k → slot chunk c' k ≡ slot chunk c k) → (k : ℕ) → (slot chunk c' k ≡ slot chunk c k) ⊎ ((slot chunk c' k).new ≡ 0)
cleared_slots chunk kept gone c c' pos was now empty others k = elim (cases_lt k (length (kept ++ gone))) [
  | inr past ↦ inl (others k past)
  | inl below ↦ elim (cases_lt k (length kept)) [
    | inr from ↦ inr (empty k from below)
    | inl low ↦ inl (
        let d : Pair = slot chunk c k in
        let l = IsListed-of chunk c (kept ++ gone) pos was in
        let g = IsListed-of chunk c' kept pos now in
        g.each k d low ∙ sym (get_or-append kept gone d k low) ∙ sym (l.each k d below))
  ]
]

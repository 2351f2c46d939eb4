-- The areas of a store are read one after the other.
use Rattle.std.proofs.Common.{◌≡◌, inl, inr, ℕ, zero, suc, ◌+◌, ◌*◌, ◌-◌, ◌/◌, ◌<◌, ◌≤◌, true, false, List, [], ◌∷◌, length, arith, refl, ap, ◌∙◌, sym, subst}
use Rattle.std.specs.Prelude.{nat_lt, Option, Some, None}
use Rattle.std.proofs.lemmas.Bool.{cases_Bool, cond-true, cond-false, lt-ltb, le-ltb}
use Rattle.sector.specs.declared.refusal.Refusal.{Refusal}
use Rattle.sector.specs.declared.refusal.Refusal.TheVariants.{Io, Damaged}
use Rattle.sector.specs.declared.pair.Pair.{Pair}
use Rattle.device.specs.declared.operation.Operation.{Operation}
use Rattle.device.specs.declared.operation.Operation.TheVariants.{Reads}
use Rattle.device.specs.Layers.{Layer, fate, is_answered, layers_after}
use Rattle.cow_format.specs.Places.{area_place}
use Rattle.cow_format.specs.Pairs.{pairs_of}
use Rattle.cow_format.proofs.AreaPlaces.{area_of}
use Rattle.store.specs.Loaded.{IsPrefix, IsRead}
use Rattle.store.specs.Reading.{Reading, ended, all_read, read_on, read_areas, read_pairs, AreRead}
use Rattle.store.proofs.Loads.{prefix_low}

none_refused : (refusal : Refusal) (old mid : List Layer) → ended refusal old ≡ all_read mid → ⊥
none_refused refusal old mid e = let h : ◌≡◌ {A = Option Refusal} (Some refusal) None = ap (λ (r : Reading). r.refused) e in absurd (cc)

same_layers : (r s : Reading) → r ≡ s → r.layers ≡ s.layers
same_layers r s e = ap (λ (x : Reading). x.layers) e

-- areas that were read, and then more
areas_more : (chunk size a n m : ℕ) (old mid : List Layer) → read_areas chunk size a n old ≡ all_read mid → read_areas chunk size a (n + m) old ≡ read_areas chunk size (a + n) m mid
areas_more chunk size a zero m old mid e =
    let none : zero + m ≡ m = omega arith in
    let here : a ≡ a + zero = omega arith in
    ap (λ k. read_areas chunk size a k old) none ∙ ap (λ (x : List Layer). read_areas chunk size a m x) (same_layers _ _ e) ∙ ap (λ b. read_areas chunk size b m mid) here
areas_more chunk size a (suc n) m old mid e =
    let op : Operation = Reads (chunk * area_place chunk a) chunk in
    let one : suc n + m ≡ suc (n + m) = omega arith in
    let on : a + 1 + n ≡ a + suc n = omega arith in
    ap (λ k. read_areas chunk size a k old) one ∙ elim (cases_Bool (nat_lt size (chunk * (area_place chunk a + 1)))) [
      | inl lacks ↦ absurd (none_refused Damaged old mid (sym (cond-true _ _ _ lacks) ∙ e))
      | inr there ↦ elim (cases_Bool (is_answered (fate old (Reads (chunk * area_place chunk a) chunk)))) [
        | inr fails ↦ absurd (none_refused Io (layers_after old (Reads (chunk * area_place chunk a) chunk)) mid (sym (cond-false _ _ _ there ∙ cond-false _ _ _ fails) ∙ e))
        | inl ok ↦ cond-false _ _ _ there ∙ cond-true _ _ _ ok
            ∙ areas_more chunk size (a + 1) n m (layers_after old (Reads (chunk * area_place chunk a) chunk)) mid (sym (cond-false _ _ _ there ∙ cond-true _ _ _ ok) ∙ e)
            ∙ ap (λ b. read_areas chunk size b m mid) on
      ]
    ]

-- what the areas after them give
areas_on : (chunk size a k : ℕ) (old mid : List Layer) (r : Reading) → read_areas chunk size 0 a old ≡ all_read mid → read_areas chunk size a (suc k) mid ≡ r → read_areas chunk size 0 (a + suc k) old ≡ r
areas_on chunk size a k old mid r before here =
    let e : 0 + a ≡ a = omega arith in
    areas_more chunk size 0 a (suc k) old mid before ∙ ap (λ b. read_areas chunk size b (suc k) mid) e ∙ here

-- an area more
pub area_read : (chunk size a : ℕ) (old mid new : List Layer) → read_areas chunk size 0 a old ≡ all_read mid → chunk * (area_place chunk a + 1) ≤ size → true ≡ is_answered (fate mid (Reads (chunk * area_place chunk a) chunk)) → new ≡ layers_after mid (Reads (chunk * area_place chunk a) chunk) → read_areas chunk size 0 (a + 1) old ≡ all_read new
area_read chunk size a old mid new before inside ok is =
    areas_on chunk size a 0 old mid (all_read new) before (cond-false _ _ _ (le-ltb _ _ inside) ∙ cond-true _ _ _ (sym ok) ∙ ap all_read (sym is))

-- so many areas have at least one more
up_to : (chunk size a : ℕ) (b : List ℕ) (old : List Layer) (r : Reading) → a ≤ length (pairs_of chunk b) / (32 * chunk) → ((k : ℕ) → read_areas chunk size 0 (a + suc k) old ≡ r) → read_pairs chunk size b old ≡ r
up_to chunk size a b old r le at =
    let last : ℕ = length (pairs_of chunk b) / (32 * chunk) in
    let e : length (pairs_of chunk b) / (32 * chunk) + 1 ≡ a + suc (length (pairs_of chunk b) / (32 * chunk) - a) = omega arith in
    ap (λ n. read_areas chunk size 0 n old) e ∙ at (length (pairs_of chunk b) / (32 * chunk) - a)

-- a read that fails
pub area_fails : (chunk size a : ℕ) (b : List ℕ) (ps : List Pair) (old mid new : List Layer) → 0 < chunk → IsPrefix chunk b a ps → read_areas chunk size 0 a old ≡ all_read mid → chunk * (area_place chunk a + 1) ≤ size → false ≡ is_answered (fate mid (Reads (chunk * area_place chunk a) chunk)) → new ≡ layers_after mid (Reads (chunk * area_place chunk a) chunk) → read_pairs chunk size b old ≡ ended Io new
area_fails chunk size a b ps old mid new pos pre before inside fails is =
    up_to chunk size a b old (ended Io new) (prefix_low chunk a b ps pos pre)
    (λ k. areas_on chunk size a k old mid (ended Io new) before (cond-false _ _ _ (le-ltb _ _ inside) ∙ cond-false _ _ _ (sym fails) ∙ ap (ended Io) (sym is)))

-- an area that is not there
pub area_lacks : (chunk size a : ℕ) (b : List ℕ) (ps : List Pair) (old mid : List Layer) → 0 < chunk → IsPrefix chunk b a ps → read_areas chunk size 0 a old ≡ all_read mid → size < chunk * (area_place chunk a + 1) → read_pairs chunk size b old ≡ ended Damaged mid
area_lacks chunk size a b ps old mid pos pre before past =
    up_to chunk size a b old (ended Damaged mid) (prefix_low chunk a b ps pos pre)
    (λ k. areas_on chunk size a k old mid (ended Damaged mid) before (cond-true _ _ _ (lt-ltb _ _ past)))

-- the area of the first empty slot is the last
pub pairs_read : (chunk size a : ℕ) (b area : List ℕ) (ps : List Pair) (old new : List Layer) → 0 < chunk → IsRead chunk size b a ps area → read_areas chunk size 0 (a + 1) old ≡ all_read new → read_pairs chunk size b old ≡ all_read new
pairs_read chunk size a b area ps old new pos read is =
    let low = read.low in let high = read.high in
    let e : length ps ≡ a * (32 * chunk) + (length ps - a * (32 * chunk)) = omega arith in
    let at : length ps / (32 * chunk) ≡ a = ap (λ n. n / (32 * chunk)) e ∙ area_of chunk a (length ps - a * (32 * chunk)) (omega arith) in
    ap (λ (qs : List Pair). read_areas chunk size 0 (length qs / (32 * chunk) + 1) old) read.all ∙ ap (λ n. read_areas chunk size 0 (n + 1) old) at ∙ is

-- one read first
one_more : (old new : List Layer) (first count : ℕ) → AreRead (layers_after old (Reads first count)) new → AreRead old new
one_more old new first count (ranges, is) = ((first, count) ∷ ranges, is)

pub no_more : (old : List Layer) → AreRead old old
no_more old = ([], refl)

pub reads_on : (old : List Layer) (first count : ℕ) (next : List Layer → Reading) → ((mid : List Layer) → AreRead mid (next mid).layers) → AreRead old (read_on old (Reads first count) next).layers
reads_on old first count next more = elim (cases_Bool (is_answered (fate old (Reads first count)))) [
  | inl ok ↦ subst (λ (r : Reading). AreRead old r.layers) (sym (cond-true _ _ _ ok)) (one_more old (next (layers_after old (Reads first count))).layers first count (more (layers_after old (Reads first count))))
  | inr fails ↦ subst (λ (r : Reading). AreRead old r.layers) (sym (cond-false _ _ _ fails)) (one_more old (layers_after old (Reads first count)) first count (no_more (layers_after old (Reads first count))))
]

pub reads_areas : (chunk size a n : ℕ) (old : List Layer) → AreRead old (read_areas chunk size a n old).layers
reads_areas chunk size a zero old = no_more old
reads_areas chunk size a (suc n) old = elim (cases_Bool (nat_lt size (chunk * (area_place chunk a + 1)))) [
  | inl lacks ↦ subst (λ (r : Reading). AreRead old r.layers) (sym (cond-true _ _ _ lacks)) (no_more old)
  | inr there ↦ subst (λ (r : Reading). AreRead old r.layers) (sym (cond-false _ _ _ there)) (reads_on old (chunk * area_place chunk a) chunk (read_areas chunk size (a + 1) n) (reads_areas chunk size (a + 1) n))
]

-- areas that were read, by their reads
pub areas_are_read : (chunk size a n : ℕ) (old new : List Layer) → read_areas chunk size a n old ≡ all_read new → AreRead old new
areas_are_read chunk size a n old new is = subst (AreRead old) (same_layers _ _ is) (reads_areas chunk size a n old)

-- a first read, and then others
pub first_read : (old mid new : List Layer) (first count : ℕ) → mid ≡ layers_after old (Reads first count) → AreRead mid new → AreRead old new
first_read old mid new first count is reads = one_more old new first count (subst (λ (x : List Layer). AreRead x new) is reads)

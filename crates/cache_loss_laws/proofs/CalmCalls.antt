-- The calls that leave a snapshot's list and its copies, each by what it says of its write.
use Rattle.std.proofs.Common.{◌≡◌, ◌≢◌, ◌⊎◌, inl, inr, ℕ, ◌+◌, ◌*◌, ◌-◌, ◌/◌, ◌%◌, ◌<◌, ◌≤◌, Bool, true, false, List, length, take, arith, refl, ap, ◌∙◌, sym, subst, Err}
use Rattle.std.specs.Prelude.{Some, None}
use Rattle.std.proofs.lemmas.Bool.{true≢false, ne_eqb, cases_eq}
use Rattle.std.proofs.lemmas.Nat.{mod_below}
use Rattle.std.proofs.Math.Nat.{div-mul-le_self}
use Rattle.sector.specs.Bytes.{sector_at, with_sectors}
use Rattle.sector.specs.declared.pair.Pair.{Pair}
use Rattle.sector.specs.declared.refusal.Refusal.TheVariants.{Invalid}
use Rattle.sector.proofs.Sectors.{sector_after_write, length-with_sectors, byte_outside}
use Rattle.cow_header.specs.HeaderText.{found_in}
use Rattle.cow_format.specs.Places.{area_place, is_area_place, slot, ChangesOnly}
use Rattle.cow_format.specs.Picture.{place_of}
use Rattle.cow_format.proofs.AreaPlaces.{place_is, places_apart}
use Rattle.cow_format.proofs.Pictures.{place_apart}
use Rattle.cow_format.proofs.Slots.{changes_only, slot-outside}
use Rattle.crash_laws.specs.May.{sector_of}
use Rattle.crash_laws.proofs.Loads.{header_kept}
use Rattle.cache_loss_laws.specs.Kept.{Kept, last_of, IsThere, SnapLasts}
use Rattle.cache_loss_laws.specs.Calm.{IsCalm, IsCalmSnap}
use Rattle.cache_loss_laws.specs.Lost.{GivesPlace}
use Rattle.cache_loss_laws.proofs.Parts.{place_first}
use Rattle.cache_loss_laws.proofs.Places.{place_good, sector_fits, sector_same}

-- no sector of an area is at a place that is no area's
pub area_off : (chunk n k : ℕ) → 0 < chunk → is_area_place chunk n ≡ false → area_place chunk (k / (32 * chunk)) ≢ n
area_off chunk n k pos free e = true≢false (sym (place_is chunk (k / (32 * chunk)) pos) ∙ ap (is_area_place chunk) e ∙ free)

-- the header is no area, and lies before all of them
pub head_free : (chunk : ℕ) → 0 < chunk → is_area_place chunk 0 ≡ false
head_free chunk pos = ne_eqb _ _ (λ e. (let h : 0 % (32 * chunk + 1) ≡ 0 = omega arith in omega arith))

-- an area after the last slot
pub area_past : (v : Kept) → 0 < v.chunk → v.firm ≡ false → (k : ℕ) → k ≤ last_of v → area_place v.chunk (k / (32 * v.chunk)) ≢ area_place v.chunk (v.current + 1)
area_past v pos loose k le = places_apart v.chunk (k / (32 * v.chunk)) (v.current + 1) (λ e. by v.firm refl e) where
  by : (x : Bool) → v.firm ≡ x → k / (32 * v.chunk) ≡ v.current + 1 → ⊥
  by true is e = absurd (true≢false (sym is ∙ loose))
  by false is e =
      let last : k ≤ (v.current + 1) * (32 * v.chunk) - 1 = subst (λ (x : Bool). k ≤ last_of (record v { firm = x })) is le in
      let low : (v.current + 1) * (32 * v.chunk) ≤ k = (let h = div-mul-le_self k (32 * v.chunk) in subst (λ (q : ℕ). q * (32 * v.chunk) ≤ k) e h) in
      let some : 1 ≤ (v.current + 1) * (32 * v.chunk) = (let more : (v.current + 1) * (32 * v.chunk) ≡ v.current * (32 * v.chunk) + 32 * v.chunk = grind arith in omega arith) in
      omega arith

module _ (oh sh : ℕ → List ℕ → Type 0) (o c : List ℕ) (ready : Pair → Type 0) (v : Kept) (t : IsThere oh sh o c ready v) (h : SnapLasts oh sh o c ready v) where
  -- a sector of an area, and one at a pair's place, where another chunk is written
  area_same : (n k : ℕ) (c' : List ℕ) → ChangesOnly v.chunk n c c' → k ≤ last_of v → area_place v.chunk (k / (32 * v.chunk)) ≢ n → sector_at c' (sector_of v.chunk k) ≡ sector_at c (sector_of v.chunk k)
  area_same n k c' only le ne =
      let pos = t.some in
      let small : k % (32 * v.chunk) < 32 * v.chunk = mod_below k (32 * v.chunk) (omega arith) in
      sector_same v.chunk n (area_place v.chunk (k / (32 * v.chunk))) (k % (32 * v.chunk) / 32) v.size c c' only ne (omega arith) (h.inside k le) t.store_now.whole

  place_same : (n m s : ℕ) (c' : List ℕ) → ChangesOnly v.chunk n c c' → place_of v.pairs (s / v.chunk) ≡ Some m → m ≢ n → sector_at c' (v.chunk * m + s % v.chunk) ≡ sector_at c (v.chunk * m + s % v.chunk)
  place_same n m s c' only at ne =
      let good = place_good v.chunk v.sectors v.size (s / v.chunk) m v.pairs t.formed.inside at in
      sector_same v.chunk n m (s % v.chunk) v.size c c' only ne (mod_below s v.chunk t.some) (sector_fits v.chunk v.size m s t.some good.fits) t.store_now.whole

  copy_same : (n : ℕ) (q : Pair) (s : ℕ) (c' : List ℕ) → ChangesOnly v.chunk n c c' → ready q → q.new ≢ n → sector_at c' (v.chunk * q.new + s % v.chunk) ≡ sector_at c (v.chunk * q.new + s % v.chunk)
  copy_same n q s c' only r ne = sector_same v.chunk n q.new (s % v.chunk) v.size c c' only ne (mod_below s v.chunk t.some) (sector_fits v.chunk v.size q.new s t.some (t.lies q r).new) t.store_now.whole

  -- A chunk of the store is written that is no area of the list and no place of a pair.
  calm_elsewhere : (n : ℕ) (c' : List ℕ) (given : ℕ → List ℕ → Type 0) → ChangesOnly v.chunk n c c' → ((k : ℕ) → k ≤ last_of v → area_place v.chunk (k / (32 * v.chunk)) ≢ n) → ((x m : ℕ) → place_of v.pairs x ≡ Some m → m ≢ n) → IsCalm v.chunk v.sectors v.sure (last_of v) v.pairs o o c c' given
  calm_elsewhere n c' given only areas places = record {
    lists = λ k le. area_same n k c' only le (areas k le);
    surely = λ s m lt at. (let there = place_first v.sure v.pairs (s / v.chunk) m at in inl (place_same n m s c' only there (places (s / v.chunk) m there)));
    perhaps = λ s m lt none at. place_same n m s c' only at (places (s / v.chunk) m at);
    disk = λ s lt none. refl;
  }

  -- No byte changes: a read, a call that failed, a flush, a publication, a spoil. Copies may be given up.
  pub calm_same : (ready' : Pair → Type 0) (given : ℕ → List ℕ → Type 0) → ((q : Pair) → ready' q → ready q) → IsCalmSnap o o c c ready ready' v.zeroed v.marked given v
  calm_same ready' given fewer = record {
    calm = record { lists = λ k le. refl; surely = λ s n lt at. inl refl; perhaps = λ s n lt none at. refl; disk = λ s lt none. refl };
    first = inl refl;
    keeps = λ e. e;
    ahead = h.ahead;
    copies = λ q r. (fewer q r, λ s lt named. refl);
  }

  -- A copy is written to its place, which no pair and no copy that was flushed has.
  pub calm_copy_write : (n : ℕ) (c' : List ℕ) (given : ℕ → List ℕ → Type 0) → ChangesOnly v.chunk n c c' → is_area_place v.chunk n ≡ false → 0 < n → ((x m : ℕ) → place_of v.pairs x ≡ Some m → m ≢ n) → ((q : Pair) → ready q → q.new ≢ n) → IsCalmSnap o o c c' ready ready v.zeroed v.marked given v
  calm_copy_write n c' given only free low places others = record {
    calm = calm_elsewhere n c' given only (λ k le. area_off v.chunk n k t.some free) places;
    first = inl (header_kept v.chunk n c c' t.some (λ e. omega (arith, e, low)) only);
    keeps = λ e. e;
    ahead = λ z k lo hi. (let at = h.ahead z k lo hi in (ap (λ p. p.new) (slot-outside v.chunk n c c' t.some free only k) ∙ at.0, at.1));
    copies = λ q r. (r, λ s lt named. copy_same n q s c' only r (others q r));
  }

  -- The next area is zeroed. It was not, so that it is not one whose slots are known.
  pub calm_zero : (c' : List ℕ) (given : ℕ → List ℕ → Type 0) → ChangesOnly v.chunk (area_place v.chunk (v.current + 1)) c c' → v.firm ≡ false
      → ((k : ℕ) → (v.current + 1) * (32 * v.chunk) ≤ k → k < (v.current + 2) * (32 * v.chunk) → ((slot v.chunk c' k).new ≡ 0) × (sector_of v.chunk k < v.size)) → IsCalmSnap o o c c' ready ready true v.marked given v
  calm_zero c' given only loose zero = record {
    calm = calm_elsewhere (area_place v.chunk (v.current + 1)) c' given only (λ k le. area_past v t.some loose k le)
        (λ x m at e. (let good = place_good v.chunk v.sectors v.size x m v.pairs t.formed.inside at in no_area (v.current + 1) m good.free e));
    first = inl (header_kept v.chunk (area_place v.chunk (v.current + 1)) c c' t.some (λ e. omega (arith, e)) only);
    keeps = λ e. e;
    ahead = λ z. zero;
    copies = λ q r. (r, λ s lt named. copy_same (area_place v.chunk (v.current + 1)) q s c' only r (no_area (v.current + 1) q.new (t.lies q r).free));
  } where
    no_area : (a m : ℕ) → is_area_place v.chunk m ≡ false → m ≢ area_place v.chunk a
    no_area a m free e = true≢false (sym (place_is v.chunk a t.some) ∙ sym (ap (is_area_place v.chunk) e) ∙ free)

  -- The header is marked invalid.
  pub calm_mark : (c' : List ℕ) (given : ℕ → List ℕ → Type 0) → ChangesOnly v.chunk 0 c c' → found_in (sector_at c' 0) ≡ Err Invalid → IsCalmSnap o o c c' ready ready v.zeroed true given v
  calm_mark c' given only bad = record {
    calm = calm_elsewhere 0 c' given only (λ k le. area_off v.chunk 0 k t.some (head_free v.chunk t.some)) (λ x m at e. (let good = place_good v.chunk v.sectors v.size x m v.pairs t.formed.inside at in let low = good.low in omega (arith, e, low)));
    first = inr (refl, bad);
    keeps = λ e. refl;
    ahead = λ z k lo hi. (let at = h.ahead z k lo hi in (ap (λ p. p.new) (slot-outside v.chunk 0 c c' t.some (head_free v.chunk t.some) only k) ∙ at.0, at.1));
    copies = λ q r. (r, λ s lt named. copy_same 0 q s c' only r (λ e. (let low = (t.lies q r).low in omega (arith, e, low))));
  }

  -- The origin's disk is written in chunks alone that are surely in the list.
  pub calm_disk_write : (o' : List ℕ) (given : ℕ → List ℕ → Type 0) → ((s : ℕ) → s < v.sectors → place_of (take v.sure v.pairs) (s / v.chunk) ≡ None → sector_at o' s ≡ sector_at o s) → IsCalmSnap o o' c c ready ready v.zeroed v.marked given v
  calm_disk_write o' given beside = record {
    calm = record { lists = λ k le. refl; surely = λ s n lt at. inl refl; perhaps = λ s n lt none at. refl; disk = beside };
    first = inl refl;
    keeps = λ e. e;
    ahead = h.ahead;
    copies = λ q r. (r, λ s lt named. refl);
  }

  -- A write of the snapshot's own array at the place of a chunk that is surely in the list: so many sectors from its r-th on.
  module _ (named n r count : ℕ) (bytes : List ℕ) (at_n : place_of (take v.sure v.pairs) named ≡ Some n) (within : r + count ≤ v.chunk) (long : length bytes ≡ 512 * count) where
    abbrev then : List ℕ
    then = with_sectors c (v.chunk * n + r) bytes

    listed_n : place_of v.pairs named ≡ Some n
    listed_n = place_first v.sure v.pairs named n at_n

    place_is_good : v.chunk * n + v.chunk ≤ v.size
    place_is_good =
        let up : v.chunk * (n + 1) ≡ v.chunk * n + v.chunk = grind arith in
        let fits = (place_good v.chunk v.sectors v.size named n v.pairs t.formed.inside listed_n).fits in
        omega arith

    free : is_area_place v.chunk n ≡ false
    free = (place_good v.chunk v.sectors v.size named n v.pairs t.formed.inside listed_n).free

    low : 0 < n
    low = (place_good v.chunk v.sectors v.size named n v.pairs t.formed.inside listed_n).low

    whole_then : 512 * (v.chunk * n + r) + length bytes ≤ length c
    whole_then = let whole = t.store_now.whole in let fits = place_is_good in omega (arith, long)

    only : ChangesOnly v.chunk n c then
    only = changes_only v.chunk n (v.chunk * n + r) count c then (length-with_sectors c (v.chunk * n + r) bytes whole_then) (omega arith) (omega arith)
        (λ i side. byte_outside c (v.chunk * n + r) bytes i whole_then (elim side [ inl below ↦ inl below | inr past ↦ inr (omega (arith, long)) ]))

    -- another chunk has another place
    other_place : (x m : ℕ) → place_of v.pairs x ≡ Some m → x ≢ named → m ≢ n
    other_place x m at ne = place_apart v.pairs x m named n t.formed.apart at listed_n ne

    own : (s : ℕ) → s / v.chunk ≡ named → (sector_at then (v.chunk * n + s % v.chunk) ≡ sector_at c (v.chunk * n + s % v.chunk)) ⊎ GivesPlace v.chunk named r count bytes s (sector_at then (v.chunk * n + s % v.chunk))
    own s its = elim (sector_after_write c (v.chunk * n + r) count bytes (v.chunk * n + s % v.chunk) whole_then long) [
      | inl same ↦ inl same
      | inr w ↦ (let lo = w.0 in let hi = w.1 in
          let shift : v.chunk * n + s % v.chunk - (v.chunk * n + r) ≡ s % v.chunk - r = omega arith in
          inr (its, omega arith, omega arith, w.2 ∙ ap (sector_at bytes) shift))
    ]

    pub calm_own_write : ((q : Pair) → ready q → q.new ≢ n) → IsCalmSnap o o c (with_sectors c (v.chunk * n + r) bytes) ready ready v.zeroed v.marked (GivesPlace v.chunk named r count bytes) v
    calm_own_write others = record {
      calm = record {
        lists = λ k le. area_same n k then only le (area_off v.chunk n k t.some free);
        surely = λ s m lt at. elim (cases_eq (s / v.chunk) named) [
          | inl this ↦ (let there : m ≡ n = some_same m n (sym at ∙ ap (place_of (take v.sure v.pairs)) this ∙ at_n) in
              subst (λ (x : ℕ). (sector_at then (v.chunk * x + s % v.chunk) ≡ sector_at c (v.chunk * x + s % v.chunk)) ⊎ GivesPlace v.chunk named r count bytes s (sector_at then (v.chunk * x + s % v.chunk))) (sym there) (own s this))
          | inr ne ↦ (let there = place_first v.sure v.pairs (s / v.chunk) m at in inl (place_same n m s then only there (other_place (s / v.chunk) m there ne)))
        ];
        perhaps = λ s m lt none at. place_same n m s then only at (other_place (s / v.chunk) m at (λ e. some_none n (sym at_n ∙ sym (ap (place_of (take v.sure v.pairs)) e) ∙ none)));
        disk = λ s lt none. refl;
      };
      first = inl (header_kept v.chunk n c then t.some (λ e. omega (arith, e, low)) only);
      keeps = λ e. e;
      ahead = λ z k lo hi. (let at = h.ahead z k lo hi in (ap (λ p. p.new) (slot-outside v.chunk n c then t.some free only k) ∙ at.0, at.1));
      copies = λ q r. (r, λ s lt named. copy_same n q s then only r (others q r));
    } where
      some_same : (m n : ℕ) → Some m ≡ Some n → m ≡ n
      some_same m n e = cc

      some_none : (m : ℕ) → Some m ≡ None → ⊥
      some_none m e = cc

-- The other calls over a merge's store of which not all is flushed: writes of the origin disk, and writes of the origin's array at
-- a place of the store. Pairs that were taken away may come back then too.
use Rattle.std.proofs.Common.{◌≡◌, ◌≢◌, ◌⊎◌, inl, inr, ℕ, ◌+◌, ◌*◌, ◌-◌, ◌/◌, ◌%◌, ◌<◌, ◌≤◌, List, ◌++◌, length, take, get_or, arith, refl, ap, ◌∙◌, sym, subst, length-take, length-drop}
use Rattle.std.specs.Prelude.{Option, Some, None, false}
use Rattle.std.proofs.Math.Seq.{take-append-add}
use Rattle.std.proofs.lemmas.Bool.{cases_lt, cases_eq, true≢false}
use Rattle.std.proofs.lemmas.Nat.{mod_below}
use Rattle.sector.specs.Bytes.{sector_at, sectors_at, with_sectors}
use Rattle.sector.proofs.Sectors.{length-with_sectors, sectors_at-with_inside, sectors_at_apart, sector_after_write, byte_outside, byte_read}
use Rattle.sector.specs.declared.pair.Pair.{Pair}
use Rattle.cow_format.specs.Places.{area_place, is_area_place, ChangesOnly}
use Rattle.cow_format.specs.Pairs.{pairs_of, AreWellFormed}
use Rattle.cow_format.specs.Picture.{place_of, picture}
use Rattle.cow_format.proofs.AreaPlaces.{chunks_apart, place_is}
use Rattle.cow_format.proofs.Pictures.{place_apart}
use Rattle.cow_format.proofs.Slots.{changes_only, pairs-outside, slot-outside}
use Rattle.crash_laws.specs.Stop.{MayLeave, Within}
use Rattle.crash_laws.specs.Again.{IsOpen}
use Rattle.crash_laws.specs.Firm.{AddsNow}
use Rattle.crash_laws.specs.May.{sector_of, MayList}
use Rattle.cache_loss_laws.specs.Lasting.{LastsMerging}
use Rattle.crash_laws.proofs.May.{may_pairs, may_kept}
use Rattle.crash_laws.proofs.Open.{sector_plain, sector_copied}
use Rattle.cache_loss_laws.proofs.Parts.{from_bytes, place_first, place_longer}
use Rattle.crash_laws.proofs.Opens.{open_plain, open_copied}
use Rattle.crash_laws.proofs.Loads.{formed_first}
use Rattle.cache_loss_laws.proofs.Places.{place_good, sector_fits, pairs_with, length_shown}

-- a part of some bytes
length_part : (b : List ℕ) (first count size : ℕ) → length b ≡ 512 * size → first + count ≤ size → length (sectors_at b first count) ≡ 512 * count
length_part b first count size whole fits = simp (length-take, length-drop) (omega arith)

part_sector : (b : List ℕ) (first count size x : ℕ) → length b ≡ 512 * size → first + count ≤ size → first ≤ x → x < first + count → sector_at (sectors_at b first count) (x - first) ≡ sector_at b x
part_sector b first count size x whole fits lo hi =
    from_bytes (sectors_at b first count) b (x - first) x count size (length_part b first count size whole fits) whole (omega arith) (omega arith)
    (λ r small. byte_read b first count (512 * (x - first) + r) (omega arith) ∙ ap (λ i. get_or b i 0) (omega arith))

-- Contents that the store might be left with before a call, with the list of these, and the same at the places of pairs that are gone.
pub record IsBefore (chunk sectors size : ℕ) (ps gone : List Pair) (sh : ℕ → List ℕ → Type 0) (d : List ℕ) : Type 0 where
  pub bytes : List ℕ
  pub left : MayLeave sh size bytes
  pub pairs : pairs_of chunk bytes ≡ pairs_of chunk d
  pub same : (s n : ℕ) → s < sectors → place_of ps (s / chunk) ≡ None → place_of (ps ++ gone) (s / chunk) ≡ Some n → sector_at d (chunk * n + s % chunk) ≡ sector_at bytes (chunk * n + s % chunk)

module _ (chunk sectors size last : ℕ) (ps gone : List Pair) (oh sh ho hs : ℕ → List ℕ → Type 0) (given : ℕ → List ℕ → Type 0) (o c : List ℕ) (h : LastsMerging chunk sectors size last ps gone oh sh o c)
    (list : MayList chunk (length ps) last (ps ++ gone) hs)
    (at_store : (s n : ℕ) (v : List ℕ) → s < sectors → place_of ps (s / chunk) ≡ Some n → hs (chunk * n + s % chunk) v → sh (chunk * n + s % chunk) v ⊎ given s v)
    (at_disk : (s : ℕ) (v : List ℕ) → s < sectors → place_of ps (s / chunk) ≡ None → ho s v → oh s v ⊎ given s v)
    (before : (d : List ℕ) → MayLeave hs size d → IsBefore chunk sectors size ps gone sh d) where
  -- all pairs that are left are there
  with_all : (m n k : ℕ) → length ps ≤ m → place_of ps k ≡ Some n → place_of (take m (ps ++ gone)) k ≡ Some n
  with_all m n k le e =
      let j : m ≡ length ps + (m - length ps) = omega arith in
      ap (λ z. place_of z k) (ap (λ z. take z (ps ++ gone)) j ∙ take-append-add ps gone (m - length ps)) ∙ place_longer ps (take (m - length ps) gone) k n e

  module _ (b d : List ℕ) (left_b : MayLeave ho sectors b) (left_d : MayLeave hs size d) where
    by : (m : ℕ) → length ps ≤ m → pairs_of chunk d ≡ take m (ps ++ gone) → (s : ℕ) → s < sectors → (x y : Option ℕ) → place_of ps (s / chunk) ≡ x → place_of (take m (ps ++ gone)) (s / chunk) ≡ y
        → IsOpen chunk oh sh sectors size s (sector_at (picture chunk b d) s) ⊎ given s (sector_at (picture chunk b d) s)
    by m le is s lt (Some n) y ex ey =
        let good = place_good chunk sectors size (s / chunk) n (ps ++ gone) h.formed.inside (place_longer ps gone (s / chunk) n ex) in
        let fits = sector_fits chunk size n s h.some good.fits in
        let len = length_shown chunk sectors s b d left_b.whole lt in
        let shown : sector_at (picture chunk b d) s ≡ sector_at d (chunk * n + s % chunk) = sector_copied chunk sectors size s n b d (take m (ps ++ gone)) h.some left_b.whole left_d.whole lt fits is (with_all m n (s / chunk) le ex) in
        elim (at_store s n (sector_at d (chunk * n + s % chunk)) lt ex (left_d.each (chunk * n + s % chunk) fits)) [
          | inl old ↦ inl (open_copied chunk sectors size s n oh sh o c (sector_at (picture chunk b d) s) h.some h.disk_now h.store_now lt fits len (subst (sh (chunk * n + s % chunk)) (sym shown) old) (ap (λ z. place_of z (s / chunk)) h.listed ∙ ex)
              (pairs_with chunk n (s % chunk) size c (sector_at (picture chunk b d) s) h.some (mod_below s chunk h.some) good.free good.fits h.store_now.whole len))
          | inr g ↦ inr (subst (given s) (sym shown) g)
        ]
    by m le is s lt None None ex ey =
        let shown : sector_at (picture chunk b d) s ≡ sector_at b s = sector_plain chunk sectors s b d (take m (ps ++ gone)) h.some left_b.whole lt is ey in
        elim (at_disk s (sector_at b s) lt ex (left_b.each s lt)) [
          | inl old ↦ inl (open_plain chunk sectors size s oh sh o c (sector_at (picture chunk b d) s) h.some h.disk_now h.store_now lt (length_shown chunk sectors s b d left_b.whole lt) (subst (oh s) (sym shown) old) (ap (λ z. place_of z (s / chunk)) h.listed ∙ ex))
          | inr g ↦ inr (subst (given s) (sym shown) g)
        ]
    by m le is s lt None (Some n) ex ey =
        let at : place_of (ps ++ gone) (s / chunk) ≡ Some n = place_first m (ps ++ gone) (s / chunk) n ey in
        let good = place_good chunk sectors size (s / chunk) n (ps ++ gone) h.formed.inside at in
        let fits = sector_fits chunk size n s h.some good.fits in
        let then = before d left_d in
        inl (record {
          origin = o;
          store = then.bytes;
          origin_left = h.disk_now;
          store_left = then.left;
          is = sector_copied chunk sectors size s n b d (take m (ps ++ gone)) h.some left_b.whole left_d.whole lt fits is ey ∙ then.same s n lt ex at
              ∙ sym (sector_copied chunk sectors size s n o then.bytes (take m (ps ++ gone)) h.some h.disk_now.whole then.left.whole lt fits (then.pairs ∙ is) ey);
        })

    pub merge_formed : AreWellFormed chunk sectors size (pairs_of chunk d)
    merge_formed =
        let (m, lo, hi, is) = may_pairs chunk (length ps) last size (ps ++ gone) hs d h.some list h.inside left_d in
        subst (AreWellFormed chunk sectors size) (sym is) (formed_first chunk sectors size m (ps ++ gone) h.some h.formed hi)

    pub merge_opens : (s : ℕ) → s < sectors → IsOpen chunk oh sh sectors size s (sector_at (picture chunk b d) s) ⊎ given s (sector_at (picture chunk b d) s)
    merge_opens s lt =
        let (m, lo, hi, is) = may_pairs chunk (length ps) last size (ps ++ gone) hs d h.some list h.inside left_d in
        by m lo is s lt (place_of ps (s / chunk)) (place_of (take m (ps ++ gone)) (s / chunk)) refl refl

-- A write of the origin's array at a pair's place on the store: so many sectors from the place's r-th on.
module _ (chunk sectors size last : ℕ) (ps gone : List Pair) (oh sh oh' sh' : ℕ → List ℕ → Type 0) (o c new : List ℕ) (h : LastsMerging chunk sectors size last ps gone oh sh o c)
    (named n r count : ℕ) (at_n : place_of ps named ≡ Some n) (within : r + count ≤ chunk) (len_new : length new ≡ 512 * count)
    (adds_o : AddsNow oh oh' o) (adds_s : AddsNow sh sh' (with_sectors c (chunk * n + r) new)) where
  -- what the write gives to a sector of the array
  abbrev AtPlace : ℕ → List ℕ → Type 0
  AtPlace s v = (s / chunk ≡ named) × (r ≤ s % chunk) × (s % chunk < r + count) × (v ≡ sector_at new (s % chunk - r))

  place_is_good : chunk * n + chunk ≤ size
  place_is_good =
      let up : chunk * (n + 1) ≡ chunk * n + chunk = grind arith in
      let fits = (place_good chunk sectors size named n (ps ++ gone) h.formed.inside (place_longer ps gone named n at_n)).fits in
      omega arith

  whole_now : 512 * (chunk * n + r) + length new ≤ length c
  whole_now = let whole = h.store_now.whole in let fits = place_is_good in omega arith

  -- another pair's place has none of these sectors
  elsewhere : (k m t : ℕ) → place_of (ps ++ gone) k ≡ Some m → k ≢ named → t < chunk → (chunk * m + t + 1 ≤ chunk * n + r) ⊎ (chunk * n + r + count ≤ chunk * m + t)
  elsewhere k m t at ne lt = elim (chunks_apart chunk m n (place_apart (ps ++ gone) k m named n h.formed.apart at (place_longer ps gone named n at_n) ne)) [
    | inl below ↦ inl (omega arith)
    | inr above ↦ inr (omega arith)
  ]

  store_cases : (x : ℕ) (v : List ℕ) → Within sh sh' x v → sh x v ⊎ (v ≡ sector_at (with_sectors c (chunk * n + r) new) x)
  store_cases x v (inl was) = inl was
  store_cases x v (inr there) = adds_s x v there

  written_store : (s m : ℕ) (v : List ℕ) → s < sectors → place_of ps (s / chunk) ≡ Some m → Within sh sh' (chunk * m + s % chunk) v → sh (chunk * m + s % chunk) v ⊎ AtPlace s v
  written_store s m v lt at x =
      let good = place_good chunk sectors size (s / chunk) m (ps ++ gone) h.formed.inside (place_longer ps gone (s / chunk) m at) in
      let fits = sector_fits chunk size m s h.some good.fits in
      let off : s % chunk < chunk = mod_below s chunk h.some in
      elim (store_cases (chunk * m + s % chunk) v x) [
        | inl was ↦ inl was
        | inr e ↦ elim (sector_after_write c (chunk * n + r) count new (chunk * m + s % chunk) whole_now len_new) [
          | inl same ↦ inl (subst (sh (chunk * m + s % chunk)) (sym (e ∙ same)) (h.store_now.each (chunk * m + s % chunk) fits))
          | inr w ↦ elim (cases_eq (s / chunk) named) [
            | inl this ↦ (let there : m ≡ n = some_same m n (sym at ∙ ap (place_of ps) this ∙ at_n) in
                let first : chunk * m ≡ chunk * n = ap (λ z. chunk * z) there in
                let lo = w.0 in let hi = w.1 in
                let shift : chunk * m + s % chunk - (chunk * n + r) ≡ s % chunk - r = omega arith in
                inr (this, omega arith, omega arith, e ∙ w.2 ∙ ap (sector_at new) shift))
            | inr other ↦ absurd (let lo = w.0 in let hi = w.1 in not_both (chunk * m + s % chunk) lo hi (elsewhere (s / chunk) m (s % chunk) (place_longer ps gone (s / chunk) m at) other off))
          ]
        ]
      ] where
        some_same : (m n : ℕ) → Some m ≡ Some n → m ≡ n
        some_same m n e = cc

        not_both : (x : ℕ) → chunk * n + r ≤ x → x < chunk * n + r + count → (x + 1 ≤ chunk * n + r) ⊎ (chunk * n + r + count ≤ x) → ⊥
        not_both x lo hi (inl below) = omega arith
        not_both x lo hi (inr above) = omega arith

  -- the written sectors put back
  abbrev back : List ℕ → List ℕ
  back d = with_sectors d (chunk * n + r) (sectors_at c (chunk * n + r) count)

  len_part : length (sectors_at c (chunk * n + r) count) ≡ 512 * count
  len_part = length_part c (chunk * n + r) count size h.store_now.whole (let fits = place_is_good in omega arith)

  put_back : (d : List ℕ) → MayLeave (Within sh sh') size d → IsBefore chunk sectors size ps gone sh d
  put_back d left = let whole = left.whole in let fits = place_is_good in
      let inside : 512 * (chunk * n + r) + length (sectors_at c (chunk * n + r) count) ≤ length d = omega (arith, len_part) in
      let free = (place_good chunk sectors size named n (ps ++ gone) h.formed.inside (place_longer ps gone named n at_n)).free in
      record {
        bytes = back d;
        left = record {
          whole = length-with_sectors d (chunk * n + r) (sectors_at c (chunk * n + r) count) inside ∙ left.whole;
          each = λ x lt. elim (is_inside x) [
            | inl (lo, hi) ↦ subst (sh x) (sym (sectors_at-with_inside d (chunk * n + r) count (sectors_at c (chunk * n + r) count) x 1 inside len_part lo (omega arith) ∙ part_sector c (chunk * n + r) count size x h.store_now.whole (omega arith) lo hi)) (h.store_now.each x lt)
            | inr out ↦ subst (sh x) (sym (sectors_at_apart d (chunk * n + r) count (sectors_at c (chunk * n + r) count) x 1 inside len_part out)) (elim (store_cases x (sector_at d x) (left.each x lt)) [
              | inl was ↦ was
              | inr e ↦ subst (sh x) (sym (e ∙ sectors_at_apart c (chunk * n + r) count new x 1 whole_now len_new out)) (h.store_now.each x lt)
            ])
          ];
        };
        pairs = pairs-outside chunk n d (back d) h.some free (changes_only chunk n (chunk * n + r) count d (back d) (length-with_sectors d (chunk * n + r) (sectors_at c (chunk * n + r) count) inside) (omega arith) (omega arith)
            (λ i side. byte_outside d (chunk * n + r) (sectors_at c (chunk * n + r) count) i inside (elim side [ inl below ↦ inl below | inr past ↦ inr (omega (arith, len_part)) ])));
        same = λ s m lt none at. sym (sectors_at_apart d (chunk * n + r) count (sectors_at c (chunk * n + r) count) (chunk * m + s % chunk) 1 inside len_part
            (elsewhere (s / chunk) m (s % chunk) at (λ e. no_place m (sym none ∙ ap (place_of ps) e ∙ at_n)) (mod_below s chunk h.some)));
      } where
        is_inside : (x : ℕ) → ((chunk * n + r ≤ x) × (x < chunk * n + r + count)) ⊎ ((x + 1 ≤ chunk * n + r) ⊎ (chunk * n + r + count ≤ x))
        is_inside x = elim (cases_lt x (chunk * n + r)) [
          | inl below ↦ inr (inl (omega arith))
          | inr from ↦ elim (cases_lt x (chunk * n + r + count)) [ inl lt ↦ inl (from, lt) | inr past ↦ inr (inr past) ]
        ]

        no_place : (m : ℕ) → None ≡ Some n → ⊥
        no_place m e = cc

  disk_old : (s : ℕ) (v : List ℕ) → s < sectors → place_of ps (s / chunk) ≡ None → Within oh oh' s v → oh s v ⊎ AtPlace s v
  disk_old s v lt none (inl x) = inl x
  disk_old s v lt none (inr x) = elim (adds_o s v x) [ inl was ↦ inl was | inr e ↦ inl (subst (oh s) (sym e) (h.disk_now.each s lt)) ]

  free_place : is_area_place chunk n ≡ false
  free_place = (place_good chunk sectors size named n (ps ++ gone) h.formed.inside (place_longer ps gone named n at_n)).free

  only : ChangesOnly chunk n c (with_sectors c (chunk * n + r) new)
  only = changes_only chunk n (chunk * n + r) count c (with_sectors c (chunk * n + r) new) (length-with_sectors c (chunk * n + r) new whole_now) (omega arith) (omega arith)
      (λ i side. byte_outside c (chunk * n + r) new i whole_now (elim side [ inl below ↦ inl below | inr past ↦ inr (omega (arith, len_new)) ]))

  -- no sector of an area is written
  area_apart : (k : ℕ) → (sector_of chunk k + 1 ≤ chunk * n + r) ⊎ (chunk * n + r + count ≤ sector_of chunk k)
  area_apart k =
      let a : ℕ = area_place chunk (k / (32 * chunk)) in
      let pos = h.some in
      let small : k % (32 * chunk) < 32 * chunk = mod_below k (32 * chunk) (omega arith) in
      let off : k % (32 * chunk) / 32 < chunk = omega arith in
      let ne : area_place chunk (k / (32 * chunk)) ≢ n = λ e. true≢false (sym (place_is chunk (k / (32 * chunk)) h.some) ∙ ap (is_area_place chunk) e ∙ free_place) in
      elim (chunks_apart chunk (area_place chunk (k / (32 * chunk))) n ne) [ inl below ↦ inl (omega arith) | inr above ↦ inr (omega arith) ]

  list_of : (holds : ℕ → List ℕ → Type 0) → ((x : ℕ) (v : List ℕ) → holds x v → sh x v ⊎ (v ≡ sector_at (with_sectors c (chunk * n + r) new) x)) → MayList chunk (length ps) last (ps ++ gone) holds
  list_of holds cases = may_kept chunk (length ps) last (ps ++ gone) sh holds h.list (λ k v le x. elim (cases (sector_of chunk k) v x) [
    | inl was ↦ was
    | inr e ↦ subst (sh (sector_of chunk k)) (sym (e ∙ sectors_at_apart c (chunk * n + r) count new (sector_of chunk k) 1 whole_now len_new (area_apart k))) (h.store_now.each (sector_of chunk k) (h.inside k le))
  ])

  pub place_write_stops : (b d : List ℕ) → MayLeave (Within oh oh') sectors b → MayLeave (Within sh sh') size d → AreWellFormed chunk sectors size (pairs_of chunk d) × ((s : ℕ) → s < sectors → IsOpen chunk oh sh sectors size s (sector_at (picture chunk b d) s) ⊎ AtPlace s (sector_at (picture chunk b d) s))
  place_write_stops b d left_b left_d = (
    merge_formed chunk sectors size last ps gone oh sh (Within oh oh') (Within sh sh') AtPlace o c h (list_of (Within sh sh') store_cases) written_store disk_old put_back b d left_b left_d,
    merge_opens chunk sectors size last ps gone oh sh (Within oh oh') (Within sh sh') AtPlace o c h (list_of (Within sh sh') store_cases) written_store disk_old put_back b d left_b left_d,
  )

  pub place_write_lasts : MayLeave oh' sectors o → MayLeave sh' size (with_sectors c (chunk * n + r) new) → LastsMerging chunk sectors size last ps gone oh' sh' o (with_sectors c (chunk * n + r) new)
  place_write_lasts disk_now store_now = record {
    some = h.some;
    disk_now = disk_now;
    store_now = store_now;
    listed = pairs-outside chunk n c (with_sectors c (chunk * n + r) new) h.some free_place only ∙ h.listed;
    formed = h.formed;
    list = list_of sh' adds_s;
    inside = h.inside;
    cleared = λ k lo hi. ap (λ p. p.new) (slot-outside chunk n c (with_sectors c (chunk * n + r) new) h.some free_place only k) ∙ h.cleared k lo hi;
  }

-- A write of the origin disk: of the origin's array where the chunk has no copy there, or of a chunk that is copied back.
module _ (chunk sectors size last : ℕ) (ps gone : List Pair) (oh sh oh' sh' : ℕ → List ℕ → Type 0) (o o' c : List ℕ) (given : ℕ → List ℕ → Type 0) (h : LastsMerging chunk sectors size last ps gone oh sh o c)
    (adds_o : AddsNow oh oh' o') (adds_s : AddsNow sh sh' c)
    (gives : (s : ℕ) → s < sectors → place_of ps (s / chunk) ≡ None → (sector_at o' s ≡ sector_at o s) ⊎ given s (sector_at o' s)) where
  store_old : (x : ℕ) (v : List ℕ) → x < size → Within sh sh' x v → sh x v
  store_old x v lt (inl was) = was
  store_old x v lt (inr there) = elim (adds_s x v there) [ inl was ↦ was | inr e ↦ subst (sh x) (sym e) (h.store_now.each x lt) ]

  disk_given : (s : ℕ) (v : List ℕ) → s < sectors → place_of ps (s / chunk) ≡ None → Within oh oh' s v → oh s v ⊎ given s v
  disk_given s v lt none (inl x) = inl x
  disk_given s v lt none (inr x) = elim (adds_o s v x) [
    | inl was ↦ inl was
    | inr e ↦ elim (gives s lt none) [
      | inl same ↦ inl (subst (oh s) (sym (e ∙ same)) (h.disk_now.each s lt))
      | inr g ↦ inr (subst (given s) (sym e) g)
    ]
  ]

  store_same : (s n : ℕ) (v : List ℕ) → s < sectors → place_of ps (s / chunk) ≡ Some n → Within sh sh' (chunk * n + s % chunk) v → sh (chunk * n + s % chunk) v ⊎ given s v
  store_same s n v lt at x = inl (store_old (chunk * n + s % chunk) v (sector_fits chunk size n s h.some (place_good chunk sectors size (s / chunk) n (ps ++ gone) h.formed.inside (place_longer ps gone (s / chunk) n at)).fits) x)

  as_it_is : (d : List ℕ) → MayLeave (Within sh sh') size d → IsBefore chunk sectors size ps gone sh d
  as_it_is d left = record {
    bytes = d;
    left = record { whole = left.whole; each = λ x lt. store_old x (sector_at d x) lt (left.each x lt) };
    pairs = refl;
    same = λ s n lt none at. refl;
  }

  same_list : MayList chunk (length ps) last (ps ++ gone) (Within sh sh')
  same_list = may_kept chunk (length ps) last (ps ++ gone) sh (Within sh sh') h.list (λ k v le x. store_old (sector_of chunk k) v (h.inside k le) x)

  pub disk_write_merge_stops : (b d : List ℕ) → MayLeave (Within oh oh') sectors b → MayLeave (Within sh sh') size d → AreWellFormed chunk sectors size (pairs_of chunk d) × ((s : ℕ) → s < sectors → IsOpen chunk oh sh sectors size s (sector_at (picture chunk b d) s) ⊎ given s (sector_at (picture chunk b d) s))
  disk_write_merge_stops b d left_b left_d = (
    merge_formed chunk sectors size last ps gone oh sh (Within oh oh') (Within sh sh') given o c h same_list store_same disk_given as_it_is b d left_b left_d,
    merge_opens chunk sectors size last ps gone oh sh (Within oh oh') (Within sh sh') given o c h same_list store_same disk_given as_it_is b d left_b left_d,
  )

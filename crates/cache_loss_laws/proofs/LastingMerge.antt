-- A merge's commit over a store of which not all is flushed: whatever a stop within it leaves opens no value of the origin's array.
use Rattle.std.proofs.Common.{◌≡◌, ◌≢◌, ◌⊎◌, inl, inr, ℕ, ◌+◌, ◌*◌, ◌-◌, ◌/◌, ◌%◌, ◌<◌, ◌≤◌, List, ◌++◌, length, take, drop, arith, refl, ap, ◌∙◌, sym, subst, length-append, append_assoc}
use Rattle.std.specs.Prelude.{Option, Some, None, false}
use Rattle.std.specs.List.{All}
use Rattle.std.proofs.Math.Seq.{drop-append-add}
use Rattle.std.proofs.lemmas.Bool.{true≢false, cases_lt}
use Rattle.std.proofs.lemmas.List.{take-append-le, length-take-le, get_or_append_left}
use Rattle.std.proofs.lemmas.List.Elements.{All-drop}
use Rattle.std.proofs.lemmas.Nat.{mod_below}
use Rattle.sector.specs.Bytes.{sector_at}
use Rattle.sector.specs.declared.pair.Pair.{Pair}
use Rattle.cow_format.specs.Slots.{pair_in}
use Rattle.cow_format.specs.Places.{area_place, is_area_place, slot, ChangesOnly}
use Rattle.cow_format.specs.Pairs.{pairs_of, AreWellFormed, IsInside}
use Rattle.cow_format.specs.Picture.{place_of, picture}
use Rattle.cow_format.proofs.AreaPlaces.{place_is}
use Rattle.cow_format.proofs.Slots.{IsListed-of}
use Rattle.crash_laws.specs.Stop.{MayLeave, Within}
use Rattle.crash_laws.specs.Again.{IsOpen}
use Rattle.crash_laws.specs.Firm.{AddsNow}
use Rattle.crash_laws.specs.May.{sector_of, number_of, SlotMay, MayList}
use Rattle.cache_loss_laws.specs.Lasting.{LastsMerging, IsBackFirm, ClearsSlots}
use Rattle.crash_laws.proofs.May.{slot_there, may_pairs, may_less, may_write}
use Rattle.crash_laws.proofs.Open.{sector_plain, sector_copied}
use Rattle.cache_loss_laws.proofs.Parts.{place_first}
use Rattle.crash_laws.proofs.Opens.{open_plain, open_copied}
use Rattle.crash_laws.proofs.Loads.{formed_first}
use Rattle.cache_loss_laws.proofs.Places.{place_later, place_all, place_good, sector_fits, pairs_with, length_shown, sector_same, copy_sector}

module _ (chunk sectors size last a : ℕ) (kept group gone : List Pair) (oh sh oh' sh' : ℕ → List ℕ → Type 0) (o c c' : List ℕ) (h : LastsMerging chunk sectors size last (kept ++ group) gone oh sh o c)
    (adds_o : AddsNow oh oh' o) (adds_s : AddsNow sh sh' c') (only : ChangesOnly chunk (area_place chunk a) c c') (now : pairs_of chunk c' ≡ kept)
    (cleared : (k : ℕ) → length kept ≤ k → k ≤ last → (slot chunk c' k).new ≡ 0) (clears : ClearsSlots chunk size (length kept) (length (kept ++ group)) c c') (back : All (IsBackFirm chunk sectors oh o c) group) where
  abbrev ps : List Pair
  ps = kept ++ group

  abbrev all : List Pair
  all = ps ++ gone

  few : length kept ≤ length ps
  few = omega (arith, length-append kept group)

  slots_then : (k : ℕ) → k ≤ last → SlotMay (length kept) all k (slot chunk c' k)
  slots_then k le = let l = IsListed-of chunk c' kept h.some now in record {
    sure = λ d lt. l.each k d lt ∙ sym (get_or_append_left kept group d k lt) ∙ sym (get_or_append_left ps gone d k (omega (arith, few, lt)));
    maybe = λ d lo hi. inr (cleared k lo le);
    past = λ ge. cleared k (omega (arith, ge, few, length-append ps gone)) le;
  }

  list_with : (holds : ℕ → List ℕ → Type 0) → ((s : ℕ) (v : List ℕ) → holds s v → sh s v ⊎ (v ≡ sector_at c' s)) → MayList chunk (length kept) last all holds
  list_with holds cases = may_write chunk (length kept) last all sh holds c' h.some (may_less chunk (length ps) (length kept) last all sh h.list few) (λ k v le x. cases (sector_of chunk k) v x) slots_then

  store_cases : (s : ℕ) (v : List ℕ) → Within sh sh' s v → sh s v ⊎ (v ≡ sector_at c' s)
  store_cases s v (inl x) = inl x
  store_cases s v (inr x) = adds_s s v x

  -- the origin disk is not written
  disk_old : (s : ℕ) (v : List ℕ) → s < sectors → Within oh oh' s v → oh s v
  disk_old s v lt (inl x) = x
  disk_old s v lt (inr x) = elim (adds_o s v x) [ inl was ↦ was | inr e ↦ subst (oh s) (sym e) (h.disk_now.each s lt) ]

  not_area : (n : ℕ) → is_area_place chunk n ≡ false → n ≢ area_place chunk a
  not_area n free e = true≢false (sym (place_is chunk a h.some) ∙ sym (ap (is_area_place chunk) e) ∙ free)

  module _ (b d : List ℕ) (left_b : MayLeave (Within oh oh') sectors b) (left_d : MayLeave (Within sh sh') size d) where
    old_disk : MayLeave oh sectors b
    old_disk = record { whole = left_b.whole; each = λ s lt. disk_old s (sector_at b s) lt (left_b.each s lt) }

    -- Where a pair is there that was gone before, no slot of the group is cleared: these bytes might be left before.
    old_store : (m : ℕ) → length ps < m → m ≤ length all → pairs_of chunk d ≡ take m all → MayLeave sh size d
    old_store m past high is = record {
      whole = left_d.whole;
      each = λ x lt. elim (store_cases x (sector_at d x) (left_d.each x lt)) [
        | inl was ↦ was
        | inr e ↦ elim (clears x lt) [
          | inl same ↦ subst (sh x) (sym (e ∙ same)) (h.store_now.each x lt)
          | inr there ↦ absurd (slot_there_too m past high is x e there.0 there.1 there.2 there.3)
        ]
      ];
    } where
      slot_there_too : (m : ℕ) → length ps < m → m ≤ length all → pairs_of chunk d ≡ take m all → (x : ℕ) → sector_at d x ≡ sector_at c' x → (k : ℕ) → length kept ≤ k → k < length ps → sector_of chunk k ≡ x → ⊥
      slot_there_too m past high is x e k low below at =
          let l = IsListed-of chunk d (take m all) h.some is in
          let long : length (take m all) ≡ m = length-take-le m all high in
          let reach = h.list.reach in
          let same : slot chunk d k ≡ slot chunk c' k =
          sym (slot_there chunk d k h.some) ∙ ap (λ y. pair_in y (number_of chunk k)) (ap (sector_at d) at ∙ e ∙ sym (ap (sector_at c') at)) ∙ slot_there chunk c' k h.some in
          l.valid k (omega arith) (ap (λ p. p.new) same ∙ cleared k low (omega (arith, length-append ps gone)))

    now_open : (s : ℕ) (v : List ℕ) → v ≡ sector_at (picture chunk o c) s → IsOpen chunk oh sh sectors size s v
    now_open s v e = record { origin = o; store = c; origin_left = h.disk_now; store_left = h.store_now; is = e }

    inside_ps : All (IsInside chunk sectors size) ps
    inside_ps = λ k d lt. subst (IsInside chunk sectors size) (get_or_append_left ps gone d k lt) (h.formed.inside k d (omega (arith, lt, length-append ps gone)))

    -- a chunk whose pair is gone now, and was not before, is copied back
    by : (m : ℕ) → length kept ≤ m → m ≤ length ps → pairs_of chunk d ≡ take m ps → (s : ℕ) → s < sectors → (x y : Option ℕ) → place_of (take m ps) (s / chunk) ≡ x → place_of ps (s / chunk) ≡ y → IsOpen chunk oh sh sectors size s (sector_at (picture chunk b d) s)
    by m low high is s lt (Some n) y ex ey =
        let at : place_of ps (s / chunk) ≡ Some n = place_first m ps (s / chunk) n ex in
        let good = place_good chunk sectors size (s / chunk) n ps inside_ps at in
        let fits = sector_fits chunk size n s h.some good.fits in
        let len = length_shown chunk sectors s b d left_b.whole lt in
        let shown : sector_at (picture chunk b d) s ≡ sector_at d (chunk * n + s % chunk) = sector_copied chunk sectors size s n b d (take m ps) h.some left_b.whole left_d.whole lt fits is ex in
        let held : sh (chunk * n + s % chunk) (sector_at d (chunk * n + s % chunk)) = elim (store_cases (chunk * n + s % chunk) (sector_at d (chunk * n + s % chunk)) (left_d.each (chunk * n + s % chunk) fits)) [
          | inl was ↦ was
          | inr e ↦ subst (sh (chunk * n + s % chunk)) (sym (e ∙ sector_same chunk (area_place chunk a) n (s % chunk) size c c' only (not_area n good.free) (mod_below s chunk h.some) fits h.store_now.whole)) (h.store_now.each (chunk * n + s % chunk) fits)
        ] in
        open_copied chunk sectors size s n oh sh o c (sector_at (picture chunk b d) s) h.some h.disk_now h.store_now lt fits len (subst (sh (chunk * n + s % chunk)) (sym shown) held) (ap (λ z. place_of z (s / chunk)) h.listed ∙ at)
        (pairs_with chunk n (s % chunk) size c (sector_at (picture chunk b d) s) h.some (mod_below s chunk h.some) good.free good.fits h.store_now.whole len)
    by m low high is s lt None None ex ey =
        let shown : sector_at (picture chunk b d) s ≡ sector_at b s = sector_plain chunk sectors s b d (take m ps) h.some left_b.whole lt is ex in
        open_plain chunk sectors size s oh sh o c (sector_at (picture chunk b d) s) h.some h.disk_now h.store_now lt (length_shown chunk sectors s b d left_b.whole lt) (subst (oh s) (sym shown) (old_disk.each s lt)) (ap (λ z. place_of z (s / chunk)) h.listed ∙ ey)
    by m low high is s lt None (Some n) ex ey =
        let shown : sector_at (picture chunk b d) s ≡ sector_at b s = sector_plain chunk sectors s b d (take m ps) h.some left_b.whole lt is ex in
        let j : ℕ = m - length kept in
        let e : m ≡ length kept + j = omega arith in
        let left : drop m ps ≡ drop j group = ap (λ z. drop z ps) e ∙ drop-append-add kept group j in
        let (q, firm, old, new) = place_all (IsBackFirm chunk sectors oh o c) (drop j group) (s / chunk) n (All-drop (IsBackFirm chunk sectors oh o c) j group back) (ap (λ z. place_of z (s / chunk)) (sym left) ∙ sym (place_later m ps (s / chunk) ex) ∙ ey) in
        let good = place_good chunk sectors size (s / chunk) n ps inside_ps ey in
        let fits = sector_fits chunk size n s h.some good.fits in
        let fits' : chunk * q.new + s % chunk < size = subst (λ (i : ℕ). chunk * i + s % chunk < size) (sym new) fits in
        let here : sector_at c (chunk * n + s % chunk) ≡ sector_at o s = subst (λ (i : ℕ). sector_at c (chunk * i + s % chunk) ≡ sector_at o s) new (copy_sector chunk sectors size s o c q h.some h.disk_now.whole h.store_now.whole lt fits' (sym old) firm.same) in
        now_open s (sector_at (picture chunk b d) s) (shown ∙ firm.firm s lt (sym old) (sector_at b s) (old_disk.each s lt) ∙ sym here ∙ sym (sector_copied chunk sectors size s n o c ps h.some h.disk_now.whole h.store_now.whole lt fits h.listed ey))

    pub commit_opens : (s : ℕ) → s < sectors → IsOpen chunk oh sh sectors size s (sector_at (picture chunk b d) s)
    commit_opens s lt =
        let (m, lo, hi, is) = may_pairs chunk (length kept) last size all (Within sh sh') d h.some (list_with (Within sh sh') store_cases) h.inside left_d in
        elim (cases_lt (length ps) m) [
          | inl past ↦ record { origin = b; store = d; origin_left = old_disk; store_left = old_store m past hi is; is = refl }
          | inr few' ↦ (let within : m ≤ length ps = omega arith in by m lo within (is ∙ take-append-le m ps gone within) s lt _ _ refl refl)
        ]

    pub commit_formed : AreWellFormed chunk sectors size (pairs_of chunk d)
    commit_formed =
        let (m, lo, hi, is) = may_pairs chunk (length kept) last size all (Within sh sh') d h.some (list_with (Within sh sh') store_cases) h.inside left_d in
        subst (AreWellFormed chunk sectors size) (sym is) (formed_first chunk sectors size m all h.some h.formed hi)

  -- what lasts after it: the group's pairs may come back
  pub commit_lasts : MayLeave oh' sectors o → MayLeave sh' size c' → LastsMerging chunk sectors size last kept (group ++ gone) oh' sh' o c'
  commit_lasts disk_now store_now = let whole : all ≡ kept ++ (group ++ gone) = append_assoc kept group gone in record {
    some = h.some;
    disk_now = disk_now;
    store_now = store_now;
    listed = now;
    formed = subst (AreWellFormed chunk sectors size) whole h.formed;
    list = subst (λ z. MayList chunk (length kept) last z sh') whole (list_with sh' adds_s);
    inside = h.inside;
    cleared = cleared;
  }

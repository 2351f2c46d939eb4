-- A commit over a snapshot of which not all is flushed: it leaves what lasts, and whatever a stop within it leaves opens no value.
use Rattle.std.proofs.Common.{◌≡◌, ◌≢◌, ◌⊎◌, inl, inr, ℕ, ◌+◌, ◌*◌, ◌/◌, ◌%◌, ◌<◌, ◌≤◌, List, ◌++◌, length, take, drop, get_or, arith, refl, ap, ◌∙◌, sym, subst, length-append}
use Rattle.std.specs.Prelude.{Option, Some, None, false}
use Rattle.std.specs.List.{All}
use Rattle.std.proofs.lemmas.Bool.{true≢false}
use Rattle.std.proofs.lemmas.List.{take-append-le, drop-append-le}
use Rattle.std.proofs.lemmas.List.Elements.{All-append, All-drop}
use Rattle.std.proofs.lemmas.Nat.{mod_below}
use Rattle.sector.specs.Bytes.{sector_at}
use Rattle.sector.specs.declared.pair.Pair.{Pair}
use Rattle.cow_format.specs.Places.{area_place, is_area_place, slot, ChangesOnly}
use Rattle.cow_format.specs.Pairs.{pairs_of, AreWellFormed, IsInside}
use Rattle.cow_format.specs.Picture.{place_of, picture}
use Rattle.cow_format.proofs.AreaPlaces.{place_is}
use Rattle.cow_format.proofs.Slots.{IsListed-of}
use Rattle.cow_format.proofs.Views.{byte_same}
use Rattle.crash_laws.specs.Stop.{MayLeave, Within}
use Rattle.crash_laws.specs.Again.{IsOpen}
use Rattle.crash_laws.specs.Firm.{IsFirmAt, AddsNow}
use Rattle.crash_laws.specs.May.{sector_of, SlotMay, MayList}
use Rattle.cache_loss_laws.specs.Lasting.{IsCopyFirm, Lasts}
use Rattle.crash_laws.proofs.May.{may_more, may_write}
use Rattle.crash_laws.proofs.Open.{sector_plain, sector_copied}
use Rattle.cache_loss_laws.proofs.Parts.{place_first}
use Rattle.cache_loss_laws.proofs.Places.{place_later, place_all, place_good, sector_fits, sector_same, copy_sector}
use Rattle.cache_loss_laws.proofs.Lasting.{stop_formed, stop_opens}

-- no value is given
abbrev NoneGiven : ℕ → List ℕ → Type 0
NoneGiven s v = ⊥

none_given : {A : Type 0} → A ⊎ ⊥ → A
none_given (inl a) = a
none_given (inr x) = absurd x

module _ (chunk sectors size sure last : ℕ) (ps : List Pair) (oh sh : ℕ → List ℕ → Type 0) (o c : List ℕ) (h : Lasts chunk sectors size sure last ps oh sh o c) where
  -- a sector whose chunk is not surely there shows the origin's bytes
  shown_by : (s : ℕ) → s < sectors → (x : Option ℕ) → place_of (take sure ps) (s / chunk) ≡ None → place_of ps (s / chunk) ≡ x → sector_at (picture chunk o c) s ≡ sector_at o s
  shown_by s lt None none at = sector_plain chunk sectors s o c ps h.some h.disk_now.whole lt h.listed at
  shown_by s lt (Some n) none at =
      let fits : chunk * n + s % chunk < size = sector_fits chunk size n s h.some (place_good chunk sectors size (s / chunk) n ps h.formed.inside at).fits in
      let (q, firm, old, new) = place_all (IsCopyFirm chunk sectors sh o c) (drop sure ps) (s / chunk) n h.placed (sym (place_later sure ps (s / chunk) none) ∙ at) in
      let fits' : chunk * q.new + s % chunk < size = subst (λ (m : ℕ). chunk * m + s % chunk < size) (sym new) fits in
      sector_copied chunk sectors size s n o c ps h.some h.disk_now.whole h.store_now.whole lt fits h.listed at
      ∙ subst (λ (m : ℕ). sector_at c (chunk * m + s % chunk) ≡ sector_at o s) new (copy_sector chunk sectors size s o c q h.some h.disk_now.whole h.store_now.whole lt fits' (sym old) firm.same)

  pub shown_disk : (s : ℕ) → s < sectors → place_of (take sure ps) (s / chunk) ≡ None → sector_at (picture chunk o c) s ≡ sector_at o s
  shown_disk s lt none = shown_by s lt (place_of ps (s / chunk)) none refl

-- WriteArea: the pairs of copies that were written and flushed are committed by one write of area a.
module _ (chunk sectors size sure last a : ℕ) (ps qs : List Pair) (oh sh oh' sh' : ℕ → List ℕ → Type 0) (o c c' : List ℕ) (h : Lasts chunk sectors size sure last ps oh sh o c)
    (adds_o : AddsNow oh oh' o) (adds_s : AddsNow sh sh' c') (only : ChangesOnly chunk (area_place chunk a) c c') (now : pairs_of chunk c' ≡ ps ++ qs) (formed : AreWellFormed chunk sectors size (ps ++ qs))
    (reach : length ps + length qs ≤ last) (rest : (k : ℕ) → length (ps ++ qs) ≤ k → k ≤ last → (slot chunk c' k).new ≡ 0) (copies : All (IsCopyFirm chunk sectors sh o c) qs) where
  low : sure ≤ length ps
  low = h.list.low

  -- each pair that is not surely there has its chunk at its place
  firm_all : All (IsCopyFirm chunk sectors sh o c) (drop sure (ps ++ qs))
  firm_all = subst (All (IsCopyFirm chunk sectors sh o c)) (sym (drop-append-le sure ps qs low)) (All-append (IsCopyFirm chunk sectors sh o c) (drop sure ps) qs h.placed copies)

  -- no place of a pair is the area's
  not_area : (n : ℕ) → is_area_place chunk n ≡ false → n ≢ area_place chunk a
  not_area n free e = true≢false (sym (place_is chunk a h.some) ∙ sym (ap (is_area_place chunk) e) ∙ free)

  same_there : (n s : ℕ) → is_area_place chunk n ≡ false → chunk * n + s % chunk < size → sector_at c' (chunk * n + s % chunk) ≡ sector_at c (chunk * n + s % chunk)
  same_there n s free fits = sector_same chunk (area_place chunk a) n (s % chunk) size c c' only (not_area n free) (mod_below s chunk h.some) fits h.store_now.whole

  valid : (k : ℕ) (d : Pair) → k < length (ps ++ qs) → (get_or (ps ++ qs) k d).new ≢ 0
  valid k d lt e = let p = (formed.inside k d lt).low in omega (arith, p, e)

  slots_then : (k : ℕ) → k ≤ last → SlotMay sure (ps ++ qs) k (slot chunk c' k)
  slots_then k le = let l = IsListed-of chunk c' (ps ++ qs) h.some now in record {
    sure = λ d lt. l.each k d (omega (arith, low, lt, length-append ps qs));
    maybe = λ d lo hi. inl (l.each k d hi);
    past = λ ge. rest k ge le;
  }

  list_with : (holds : ℕ → List ℕ → Type 0) → ((s : ℕ) (v : List ℕ) → holds s v → sh s v ⊎ (v ≡ sector_at c' s)) → MayList chunk sure last (ps ++ qs) holds
  list_with holds cases = may_write chunk sure last (ps ++ qs) sh holds c' h.some (may_more chunk sure last ps qs sh h.list reach valid) (λ k v le x. cases (sector_of chunk k) v x) slots_then

  -- what the store may hold within the call
  store_cases : (s : ℕ) (v : List ℕ) → Within sh sh' s v → sh s v ⊎ (v ≡ sector_at c' s)
  store_cases s v (inl x) = inl x
  store_cases s v (inr x) = adds_s s v x

  disk_cases : (s : ℕ) (v : List ℕ) → Within oh oh' s v → oh s v ⊎ (v ≡ sector_at o s)
  disk_cases s v (inl x) = inl x
  disk_cases s v (inr x) = adds_o s v x

  at_sure : (s n : ℕ) (v : List ℕ) → s < sectors → place_of (take sure ps) (s / chunk) ≡ Some n → Within sh sh' (chunk * n + s % chunk) v → sh (chunk * n + s % chunk) v ⊎ NoneGiven s v
  at_sure s n v lt at x =
      let good = place_good chunk sectors size (s / chunk) n ps h.formed.inside (place_first sure ps (s / chunk) n at) in
      let fits = sector_fits chunk size n s h.some good.fits in
      elim (store_cases (chunk * n + s % chunk) v x) [
        | inl old ↦ inl old
        | inr e ↦ inl (subst (sh (chunk * n + s % chunk)) (sym (e ∙ same_there n s good.free fits)) (h.store_now.each (chunk * n + s % chunk) fits))
      ]

  at_disk : (s : ℕ) (v : List ℕ) → s < sectors → place_of (take sure ps) (s / chunk) ≡ None → Within oh oh' s v → (v ≡ sector_at (picture chunk o c) s) ⊎ NoneGiven s v
  at_disk s v lt none x =
      let shown = shown_disk chunk sectors size sure last ps oh sh o c h s lt none in
      elim (disk_cases s v x) [ inl old ↦ inl (h.disk s lt none v old ∙ sym shown) | inr e ↦ inl (e ∙ sym shown) ]

  at_place : (s n : ℕ) (v : List ℕ) → s < sectors → place_of (take sure ps) (s / chunk) ≡ None → place_of (ps ++ qs) (s / chunk) ≡ Some n → Within sh sh' (chunk * n + s % chunk) v → v ≡ sector_at (picture chunk o c) s
  at_place s n v lt none at x =
      let good = place_good chunk sectors size (s / chunk) n (ps ++ qs) formed.inside at in
      let fits = sector_fits chunk size n s h.some good.fits in
      let none' : place_of (take sure (ps ++ qs)) (s / chunk) ≡ None = ap (λ z. place_of z (s / chunk)) (take-append-le sure ps qs low) ∙ none in
      let (q, firm, old, new) = place_all (IsCopyFirm chunk sectors sh o c) (drop sure (ps ++ qs)) (s / chunk) n firm_all (sym (place_later sure (ps ++ qs) (s / chunk) none') ∙ at) in
      let fits' : chunk * q.new + s % chunk < size = subst (λ (m : ℕ). chunk * m + s % chunk < size) (sym new) fits in
      let here : sector_at c (chunk * n + s % chunk) ≡ sector_at o s =
      subst (λ (m : ℕ). sector_at c (chunk * m + s % chunk) ≡ sector_at o s) new (copy_sector chunk sectors size s o c q h.some h.disk_now.whole h.store_now.whole lt fits' (sym old) firm.same) in
      let only_this : IsFirmAt sh c (chunk * n + s % chunk) = subst (λ (m : ℕ). IsFirmAt sh c (chunk * m + s % chunk)) new (firm.firm s lt (sym old)) in
      let shown = shown_disk chunk sectors size sure last ps oh sh o c h s lt none in
      elim (store_cases (chunk * n + s % chunk) v x) [
        | inl was ↦ only_this v was ∙ here ∙ sym shown
        | inr e ↦ e ∙ same_there n s good.free fits ∙ here ∙ sym shown
      ]

  -- whatever a stop before, within or after it leaves
  pub area_stops : (b d : List ℕ) → MayLeave (Within oh oh') sectors b → MayLeave (Within sh sh') size d → AreWellFormed chunk sectors size (pairs_of chunk d) × ((s : ℕ) → s < sectors → IsOpen chunk oh sh sectors size s (sector_at (picture chunk b d) s))
  area_stops b d left_b left_d = (
    stop_formed chunk sectors size sure last oh sh (Within oh oh') (Within sh sh') NoneGiven o c ps qs h.some h.disk_now h.store_now h.listed low (list_with (Within sh sh') store_cases) h.inside formed at_sure at_disk at_place b d left_b left_d,
    λ s lt. none_given (stop_opens chunk sectors size sure last oh sh (Within oh oh') (Within sh sh') NoneGiven o c ps qs h.some h.disk_now h.store_now h.listed low (list_with (Within sh sh') store_cases) h.inside formed at_sure at_disk at_place b d left_b left_d s lt),
  )

  -- a place of a pair after it
  pub moved : (q : Pair) → IsInside chunk sectors size q → IsCopyFirm chunk sectors sh o c q → IsCopyFirm chunk sectors sh' o c' q
  moved q lies firm = record {
    same = record { front = λ i lt named. byte_same chunk (area_place chunk a) q.new (i % (512 * chunk)) c c' only (not_area q.new lies.free) (let pos = h.some in mod_below i (512 * chunk) (omega arith)) ∙ firm.same.front i lt named };
    firm = λ s lt named v x. elim (adds_s (chunk * q.new + s % chunk) v x) [
      | inl was ↦ firm.firm s lt named v was ∙ sym (same_there q.new s lies.free (sector_fits chunk size q.new s h.some lies.new))
      | inr e ↦ e
    ];
  }

  -- what lasts after it: no pair more is sure
  pub area_lasts : MayLeave oh' sectors o → MayLeave sh' size c' → Lasts chunk sectors size sure last (ps ++ qs) oh' sh' o c'
  area_lasts disk_now store_now = record {
    some = h.some;
    disk_now = disk_now;
    store_now = store_now;
    listed = now;
    formed = formed;
    list = list_with sh' adds_s;
    inside = h.inside;
    disk = λ s lt none v x. (let none' : place_of (take sure ps) (s / chunk) ≡ None = ap (λ z. place_of z (s / chunk)) (sym (take-append-le sure ps qs low)) ∙ none in
        elim (adds_o s v x) [ inl was ↦ h.disk s lt none' v was | inr e ↦ e ]);
    placed = λ k d lt. moved (get_or (drop sure (ps ++ qs)) k d) (All-drop (IsInside chunk sectors size) sure (ps ++ qs) formed.inside k d lt) (firm_all k d lt);
  }

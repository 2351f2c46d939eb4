-- A merge's invariant over each call.
use Rattle.std.proofs.Common.{◌≡◌, ◌⊎◌, inl, inr, ℕ, ◌+◌, ◌*◌, ◌/◌, ◌<◌, ◌≤◌, Bool, true, false, List, [], ◌++◌, length, take, arith, refl, ap, ◌∙◌, sym, subst, length-append, append-nil, Ok}
use Rattle.std.specs.Prelude.{Some, None}
use Rattle.std.specs.List.{All}
use Rattle.std.proofs.lemmas.Bool.{true≢false, cases_lt}
use Rattle.std.proofs.lemmas.List.{take_all, take-append-le}
use Rattle.sector.specs.Bytes.{sector_at, with_sectors}
use Rattle.sector.specs.declared.pair.Pair.{Pair}
use Rattle.sector.proofs.Sectors.{length-with_sectors, byte_outside}
use Rattle.cow_header.specs.HeaderText.{found_in}
use Rattle.cow_header.specs.declared.found.Found.TheVariants.{Header}
use Rattle.cow_format.specs.Places.{area_place, slot, ChangesOnly}
use Rattle.cow_format.specs.Pairs.{pairs_of, AreWellFormed}
use Rattle.cow_format.specs.Picture.{place_of, picture, IsCopied}
use Rattle.cow_format.proofs.Slots.{changes_only, IsListed-of}
use Rattle.crash_laws.specs.Stop.{MayLeave, Within}
use Rattle.crash_laws.specs.Firm.{IsFirmAt, IsFirm, AddsNow}
use Rattle.crash_laws.specs.May.{sector_of, SlotMay, MayList}
use Rattle.crash_laws.proofs.May.{slot_there, may_kept, may_flush}
use Rattle.crash_laws.proofs.Open.{sector_plain}
use Rattle.crash_laws.specs.Again.{IsOpen}
use Rattle.crash_laws.proofs.Loads.{header_kept, formed_first}
use Rattle.cache_loss_laws.specs.Lasting.{LastsMerging, IsBackFirm, ClearsSlots}
use Rattle.cache_loss_laws.specs.Lost.{NoneGiven, GivesPlace}
use Rattle.cache_loss_laws.specs.Kept.{Kept, last_of, IsThere, SnapLasts}
use Rattle.cache_loss_laws.specs.Merging.{Merging, IsMergeThere, MergeLasts, StopsMergeLost, KeepsBack, OpensFinished}
use Rattle.cache_loss_laws.proofs.Places.{IsGoodPlace, place_good}
use Rattle.cache_loss_laws.proofs.Parts.{place_longer}
use Rattle.cache_loss_laws.proofs.LastingMerge.{commit_formed, commit_opens, commit_lasts}
use Rattle.cache_loss_laws.proofs.LastingMergeWrites.{place_write_stops, place_write_lasts, disk_write_merge_stops}

-- A merge is begun of a snapshot whose pairs are all sure and whose header was not marked. It hands over what is open: disk and
-- store are the same.
pub begin_lasts : (oh sh : ℕ → List ℕ → Type 0) (o c : List ℕ) (ready : Pair → Type 0) (v : Kept) → IsThere oh sh o c ready v → SnapLasts oh sh o c ready v → v.marked ≡ false → v.sure ≡ length v.pairs
    → MergeLasts oh sh o c (record { chunk = v.chunk; sectors = v.sectors; size = v.size; pairs = v.pairs; copied = []; flushed = false })
begin_lasts oh sh o c ready v t h unmarked all = record {
  gone = [];
  last = last_of v;
  header = λ w there. elim (h.header w there) [ inl good ↦ good | inr bad ↦ absurd (true≢false (sym bad.0 ∙ unmarked)) ];
  list = subst (λ z. MayList v.chunk (length v.pairs) (last_of v) z sh) (sym (append-nil v.pairs)) (subst (λ n. MayList v.chunk n (last_of v) v.pairs sh) all h.list);
  inside = h.inside;
  cleared = λ k lo hi. (let at = h.list.slots k (sector_at c (sector_of v.chunk k)) hi (t.store_now.each (sector_of v.chunk k) (h.inside k hi)) in ap (λ p. p.new) (sym (slot_there v.chunk c k t.some)) ∙ at.past lo);
  formed = subst (AreWellFormed v.chunk v.sectors v.size) (sym (append-nil v.pairs)) t.formed;
  back = λ f. absurd (true≢false (sym f));
}

-- the invariant over what is there
pub merging_of : (oh sh : ℕ → List ℕ → Type 0) (o c : List ℕ) (m : Merging) (t : IsMergeThere oh sh o c m) (h : MergeLasts oh sh o c m) → LastsMerging m.chunk m.sectors m.size h.last m.pairs h.gone oh sh o c
merging_of oh sh o c m t h = record {
  some = t.some;
  disk_now = t.disk_now;
  store_now = t.store_now;
  listed = t.listed;
  formed = h.formed;
  list = h.list;
  inside = h.inside;
  cleared = h.cleared;
}

merge_first : (oh sh : ℕ → List ℕ → Type 0) (o c : List ℕ) (m : Merging) → MergeLasts oh sh o c m → 0 < m.size
merge_first oh sh o c m h = let at = h.inside 0 (omega arith) in omega (arith, at)

-- The header is good after a call that leaves the first sector.
header_then : (oh sh sh' : ℕ → List ℕ → Type 0) (o c c' : List ℕ) (m : Merging) → IsMergeThere oh sh o c m → MergeLasts oh sh o c m → AddsNow sh sh' c' → sector_at c' 0 ≡ sector_at c 0 → (w : List ℕ) → Within sh sh' 0 w → found_in w ≡ Ok (Header m.chunk)
header_then oh sh sh' o c c' m t h adds same w (inl was) = h.header w was
header_then oh sh sh' o c c' m t h adds same w (inr there) = elim (adds 0 w there) [
  | inl was ↦ h.header w was
  | inr e ↦ h.header w (subst (sh 0) (sym (e ∙ same)) (t.store_now.each 0 (merge_first oh sh o c m h)))
]

-- what is said of the chunks that were copied back
back_then : (oh sh oh' : ℕ → List ℕ → Type 0) (o o' c : List ℕ) (copied : List Pair) (flushed : Bool) (m : Merging) → MergeLasts oh sh o c m → AddsNow oh oh' o' → KeepsBack o o' copied flushed m → flushed ≡ true → All (λ q. (s : ℕ) → s < m.sectors → s / m.chunk ≡ q.old → IsFirmAt oh' o' s) copied
back_then oh sh oh' o o' c copied flushed m h adds keeps f =
    let (was, these, same) = keeps f in
    subst (All (λ q. (s : ℕ) → s < m.sectors → s / m.chunk ≡ q.old → IsFirmAt oh' o' s)) (sym these)
    (λ k d lt s at named w x. elim (adds s w x) [ inl old ↦ h.back was k d lt s at named w old ∙ sym (same k d lt s at named) | inr e ↦ e ])

-- The origin's disk is written: of its array where the store has no pair, or a chunk that is copied back. Or nothing is.
module _ (oh sh oh' sh' : ℕ → List ℕ → Type 0) (o o' c : List ℕ) (m : Merging) (given : ℕ → List ℕ → Type 0) (t : IsMergeThere oh sh o c m) (h : MergeLasts oh sh o c m) (adds_o : AddsNow oh oh' o') (adds_s : AddsNow sh sh' c) where
  pub disk_stops : ((s : ℕ) → s < m.sectors → place_of m.pairs (s / m.chunk) ≡ None → (sector_at o' s ≡ sector_at o s) ⊎ given s (sector_at o' s)) → StopsMergeLost oh sh oh' sh' given m
  disk_stops gives b d left_b left_d =
      let r = disk_write_merge_stops m.chunk m.sectors m.size h.last m.pairs h.gone oh sh oh' sh' o o' c given (merging_of oh sh o c m t h) adds_o adds_s gives b d left_b left_d in
      (record { header = header_then oh sh sh' o c c m t h adds_s refl (sector_at d 0) (left_d.each 0 (merge_first oh sh o c m h)); formed = r.0 }, r.1)

  pub disk_lasts : (copied : List Pair) (flushed : Bool) → KeepsBack o o' copied flushed m → MergeLasts oh' sh' o' c (record m { copied = copied; flushed = flushed })
  disk_lasts copied flushed keeps = record {
    gone = h.gone;
    last = h.last;
    header = λ w there. header_then oh sh sh' o c c m t h adds_s refl w (inr there);
    list = may_kept m.chunk (length m.pairs) h.last (m.pairs ++ h.gone) sh sh' h.list (λ k w le x. elim (adds_s (sector_of m.chunk k) w x) [
      | inl was ↦ was
      | inr e ↦ subst (sh (sector_of m.chunk k)) (sym e) (t.store_now.each (sector_of m.chunk k) (h.inside k le))
    ]);
    inside = h.inside;
    cleared = h.cleared;
    formed = h.formed;
    back = back_then oh sh oh' o o' c copied flushed m h adds_o keeps;
  }

-- MergeFlush: the origin's disk is flushed after the group's chunks were copied back. It opens nothing (`disk_stops` with the
-- same bytes).
pub origin_flush_lasts : (oh sh oh' sh' : ℕ → List ℕ → Type 0) (o c : List ℕ) (m : Merging) → IsMergeThere oh sh o c m → MergeLasts oh sh o c m → AddsNow sh sh' c → IsFirm oh' o m.sectors → MergeLasts oh' sh' o c (record m { flushed = true })
origin_flush_lasts oh sh oh' sh' o c m t h adds_s firm = record {
  gone = h.gone;
  last = h.last;
  header = λ w there. header_then oh sh sh' o c c m t h adds_s refl w (inr there);
  list = may_kept m.chunk (length m.pairs) h.last (m.pairs ++ h.gone) sh sh' h.list (λ k w le x. elim (adds_s (sector_of m.chunk k) w x) [
    | inl was ↦ was
    | inr e ↦ subst (sh (sector_of m.chunk k)) (sym e) (t.store_now.each (sector_of m.chunk k) (h.inside k le))
  ]);
  inside = h.inside;
  cleared = h.cleared;
  formed = h.formed;
  back = λ f k d lt s at named. firm s at;
}

-- The merging store is flushed: no pair that was taken away comes back. It opens nothing either.
module _ (oh sh oh' sh' : ℕ → List ℕ → Type 0) (o c : List ℕ) (m : Merging) (t : IsMergeThere oh sh o c m) (h : MergeLasts oh sh o c m) (adds_o : AddsNow oh oh' o) (firm : IsFirm sh' c m.size) where
  few : length m.pairs ≤ length (m.pairs ++ h.gone)
  few = omega (arith, length-append m.pairs h.gone)

  formed_now : AreWellFormed m.chunk m.sectors m.size m.pairs
  formed_now = subst (AreWellFormed m.chunk m.sectors m.size) (take_front m.pairs h.gone) (formed_first m.chunk m.sectors m.size (length m.pairs) (m.pairs ++ h.gone) t.some h.formed few) where
    take_front : (xs ys : List Pair) → take (length xs) (xs ++ ys) ≡ xs
    take_front xs ys = take-append-le (length xs) xs ys (omega arith) ∙ take_all (length xs) xs (omega arith)

  slots_now : (k : ℕ) → k ≤ h.last → SlotMay (length m.pairs) m.pairs k (slot m.chunk c k)
  slots_now k le = let l = IsListed-of m.chunk c m.pairs t.some t.listed in record {
    sure = λ d lt. l.each k d lt;
    maybe = λ d lo hi. inl (l.each k d hi);
    past = λ ge. h.cleared k ge le;
  }

  pub store_flush_lasts : MergeLasts oh' sh' o c m
  store_flush_lasts = record {
    gone = [];
    last = h.last;
    header = λ w there. h.header w (subst (sh 0) (sym (firm 0 (merge_first oh sh o c m h) w there)) (t.store_now.each 0 (merge_first oh sh o c m h)));
    list = subst (λ z. MayList m.chunk (length m.pairs) h.last z sh') (sym (append-nil m.pairs))
        (may_flush m.chunk h.last m.pairs sh' c t.some (let reach = h.list.reach in omega (arith, few, reach)) (λ k d lt e. (let p = (formed_now.inside k d lt).low in omega (arith, p, e)))
        (λ k w le x. firm (sector_of m.chunk k) (h.inside k le) w x) slots_now);
    inside = h.inside;
    cleared = h.cleared;
    formed = subst (AreWellFormed m.chunk m.sectors m.size) (sym (append-nil m.pairs)) formed_now;
    back = λ f k d lt s at named w x. elim (adds_o s w x) [ inl was ↦ h.back f k d lt s at named w was | inr e ↦ e ];
  }

-- A write of the origin's array at a pair's place on the store: so many sectors from the place's r-th on.
module _ (oh sh oh' sh' : ℕ → List ℕ → Type 0) (o c bytes : List ℕ) (m : Merging) (named n r count : ℕ) (t : IsMergeThere oh sh o c m) (h : MergeLasts oh sh o c m) (at_n : place_of m.pairs named ≡ Some n) (within : r + count ≤ m.chunk) (long : length bytes ≡ 512 * count)
    (adds_o : AddsNow oh oh' o) (adds_s : AddsNow sh sh' (with_sectors c (m.chunk * n + r) bytes)) where
  abbrev then : List ℕ
  then = with_sectors c (m.chunk * n + r) bytes

  good : IsGoodPlace m.chunk m.size n
  good = place_good m.chunk m.sectors m.size named n (m.pairs ++ h.gone) h.formed.inside (place_longer m.pairs h.gone named n at_n)

  whole_then : 512 * (m.chunk * n + r) + length bytes ≤ length c
  whole_then =
      let up : m.chunk * (n + 1) ≡ m.chunk * n + m.chunk = grind arith in
      let whole = t.store_now.whole in
      let fits = good.fits in
      omega (arith, long)

  only : ChangesOnly m.chunk n c then
  only = changes_only m.chunk n (m.chunk * n + r) count c then (length-with_sectors c (m.chunk * n + r) bytes whole_then) (omega arith) (omega arith)
      (λ i side. byte_outside c (m.chunk * n + r) bytes i whole_then (elim side [ inl below ↦ inl below | inr past ↦ inr (omega (arith, long)) ]))

  first_same : sector_at then 0 ≡ sector_at c 0
  first_same = header_kept m.chunk n c then t.some (λ e. (let low = good.low in omega (arith, e, low))) only

  pub place_stops : StopsMergeLost oh sh oh' sh' (GivesPlace m.chunk named r count bytes) m
  place_stops b d left_b left_d =
      let w = place_write_stops m.chunk m.sectors m.size h.last m.pairs h.gone oh sh oh' sh' o c bytes (merging_of oh sh o c m t h) named n r count at_n within long adds_o adds_s b d left_b left_d in
      (record { header = header_then oh sh sh' o c then m t h adds_s first_same (sector_at d 0) (left_d.each 0 (merge_first oh sh o c m h)); formed = w.0 }, w.1)

  pub place_lasts : MayLeave oh' m.sectors o → MayLeave sh' m.size (with_sectors c (m.chunk * n + r) bytes) → MergeLasts oh' sh' o (with_sectors c (m.chunk * n + r) bytes) m
  place_lasts disk_now store_now =
      let w = place_write_lasts m.chunk m.sectors m.size h.last m.pairs h.gone oh sh oh' sh' o c bytes (merging_of oh sh o c m t h) named n r count at_n within long adds_o adds_s disk_now store_now in
      record {
        gone = h.gone;
        last = h.last;
        header = λ x there. header_then oh sh sh' o c then m t h adds_s first_same x (inr there);
        list = w.list;
        inside = w.inside;
        cleared = w.cleared;
        formed = w.formed;
        back = λ f k d lt s at its x there. elim (adds_o s x there) [ inl was ↦ h.back f k d lt s at its x was | inr e ↦ e ];
      }

-- MergeCommit: the slots of the group are cleared, whose chunks were copied back and flushed. Its pairs may come back from then on.
module _ (oh sh oh' sh' : ℕ → List ℕ → Type 0) (o c c' : List ℕ) (m : Merging) (kept : List Pair) (a : ℕ) (t : IsMergeThere oh sh o c m) (h : MergeLasts oh sh o c m) (parts : m.pairs ≡ kept ++ m.copied) (flushed : m.flushed ≡ true)
    (adds_o : AddsNow oh oh' o) (adds_s : AddsNow sh sh' c') (only : ChangesOnly m.chunk (area_place m.chunk a) c c') (now : pairs_of m.chunk c' ≡ kept)
    (zero : (k : ℕ) → length kept ≤ k → k < length (kept ++ m.copied) → (slot m.chunk c' k).new ≡ 0) (others : (k : ℕ) → length (kept ++ m.copied) ≤ k → slot m.chunk c' k ≡ slot m.chunk c k) (clears : ClearsSlots m.chunk m.size (length kept) (length (kept ++ m.copied)) c c') (same : All (IsCopied m.chunk o c) m.copied) where
  cleared : (k : ℕ) → length kept ≤ k → k ≤ h.last → (slot m.chunk c' k).new ≡ 0
  cleared k lo hi = elim (cases_lt k (length (kept ++ m.copied))) [
    | inl below ↦ zero k lo below
    | inr from ↦ ap (λ p. p.new) (others k from) ∙ h.cleared k (subst (λ (z : List Pair). length z ≤ k) (sym parts) from) hi
  ]

  back_firm : All (IsBackFirm m.chunk m.sectors oh o c) m.copied
  back_firm k d lt = record { same = same k d lt; firm = λ s at named. h.back flushed k d lt s at named }

  core : LastsMerging m.chunk m.sectors m.size h.last (kept ++ m.copied) h.gone oh sh o c
  core = subst (λ z. LastsMerging m.chunk m.sectors m.size h.last z h.gone oh sh o c) parts (merging_of oh sh o c m t h)

  first_kept : sector_at c' 0 ≡ sector_at c 0
  first_kept = header_kept m.chunk (area_place m.chunk a) c c' t.some (λ e. omega (arith, e)) only

  pub clear_stops : StopsMergeLost oh sh oh' sh' NoneGiven m
  clear_stops b d left_b left_d = (
    record {
      header = header_then oh sh sh' o c c' m t h adds_s first_kept (sector_at d 0) (left_d.each 0 (merge_first oh sh o c m h));
      formed = commit_formed m.chunk m.sectors m.size h.last a kept m.copied h.gone oh sh oh' sh' o c c' core adds_o adds_s only now cleared clears back_firm b d left_b left_d;
    },
    λ s lt. inl (commit_opens m.chunk m.sectors m.size h.last a kept m.copied h.gone oh sh oh' sh' o c c' core adds_o adds_s only now cleared clears back_firm b d left_b left_d s lt),
  )

  -- copied: those of the next group, none of which is flushed
  pub clear_lasts : (copied : List Pair) → MayLeave oh' m.sectors o → MayLeave sh' m.size c' → MergeLasts oh' sh' o c' (record m { pairs = kept; copied = copied; flushed = false })
  clear_lasts copied disk_now store_now =
      let w = commit_lasts m.chunk m.sectors m.size h.last a kept m.copied h.gone oh sh oh' sh' o c c' core adds_o adds_s only now cleared clears back_firm disk_now store_now in
      record {
        gone = m.copied ++ h.gone;
        last = h.last;
        header = λ x there. header_then oh sh sh' o c c' m t h adds_s first_kept x (inr there);
        list = w.list;
        inside = w.inside;
        cleared = w.cleared;
        formed = w.formed;
        back = λ f. absurd (true≢false (sym f));
      }

-- A merge is finished where no pair is left: whatever a call leaves of the origin's disk alone was open for the origin, with the
-- store, or is given.
pub finish_opens : (oh sh oh' sh' given : ℕ → List ℕ → Type 0) (o c : List ℕ) (m : Merging) → IsMergeThere oh sh o c m → m.pairs ≡ [] → StopsMergeLost oh sh oh' sh' given m → OpensFinished oh sh (Within oh oh') given m
finish_opens oh sh oh' sh' given o c m t none stops b left s lt =
    let kept : MayLeave (Within sh sh') m.size c = record { whole = t.store_now.whole; each = λ x at. inl (t.store_now.each x at) } in
    let plain : sector_at (picture m.chunk b c) s ≡ sector_at b s = sector_plain m.chunk m.sectors s b c [] t.some left.whole lt (t.listed ∙ none) refl in
    elim ((stops b c left kept).1 s lt) [ inl there ↦ inl (subst (IsOpen m.chunk oh sh m.sectors m.size s) plain there) | inr g ↦ inr (subst (given s) plain g) ]

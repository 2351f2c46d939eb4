-- A snapshot's store is flushed: all its pairs are sure, the zeroed area's slots are known, and what copies were written is firm.
use Rattle.std.proofs.Common.{◌≡◌, ◌⊎◌, inl, inr, ℕ, ◌+◌, ◌*◌, ◌/◌, ◌%◌, ◌<◌, ◌≤◌, Bool, true, false, List, length, arith, refl, ap, ◌∙◌, sym, subst, length-drop}
use Rattle.std.specs.Prelude.{None}
use Rattle.std.proofs.lemmas.Bool.{cases_lt}
use Rattle.std.proofs.lemmas.List.{take_all}
use Rattle.sector.specs.Bytes.{sector_at}
use Rattle.sector.specs.declared.pair.Pair.{Pair}
use Rattle.cow_format.specs.Places.{slot}
use Rattle.cow_format.specs.Picture.{place_of, IsCopied}
use Rattle.cow_format.proofs.Slots.{IsListed-of}
use Rattle.crash_laws.specs.Firm.{AddsNow, IsFirm}
use Rattle.crash_laws.specs.May.{sector_of, SlotMay}
use Rattle.crash_laws.proofs.May.{slot_there, may_flush}
use Rattle.cache_loss_laws.specs.Kept.{Kept, last_slot, last_of, IsThere, SnapLasts}
use Rattle.cache_loss_laws.proofs.Copied.{none_before}
use Rattle.cache_loss_laws.proofs.Kept.{has_first}
use Rattle.cache_loss_laws.proofs.Places.{sector_fits}

-- the slots that are known after it: those that were, or those of the zeroed area
pub last_known : (v : Kept) → 0 < v.chunk → (k : ℕ) → k ≤ last_slot v.chunk v.current v.zeroed → (k ≤ last_of v) ⊎ ((v.zeroed ≡ true) × ((v.current + 1) * (32 * v.chunk) ≤ k) × (k < (v.current + 2) * (32 * v.chunk)))
last_known v pos k le = by v.zeroed v.firm refl refl le where
  one : (v.current + 1) * (32 * v.chunk) ≡ v.current * (32 * v.chunk) + 32 * v.chunk
  one = grind arith

  two : (v.current + 2) * (32 * v.chunk) ≡ v.current * (32 * v.chunk) + 32 * v.chunk + 32 * v.chunk
  two = grind arith

  by : (z f : Bool) → v.zeroed ≡ z → v.firm ≡ f → k ≤ last_slot v.chunk v.current z → (k ≤ last_of v) ⊎ ((v.zeroed ≡ true) × ((v.current + 1) * (32 * v.chunk) ≤ k) × (k < (v.current + 2) * (32 * v.chunk)))
  by true true ez ef le = inl (subst (λ (f : Bool). k ≤ last_slot v.chunk v.current f) (sym ef) le)
  by true false ez ef le = elim (cases_lt k ((v.current + 1) * (32 * v.chunk))) [
    | inl below ↦ inl (subst (λ (f : Bool). k ≤ last_slot v.chunk v.current f) (sym ef) (omega (arith, one, below)))
    | inr from ↦ inr (ez, from, omega (arith, two, le, pos))
  ]
  by false true ez ef le = inl (subst (λ (f : Bool). k ≤ last_slot v.chunk v.current f) (sym ef) (omega (arith, one, two, le)))
  by false false ez ef le = inl (subst (λ (f : Bool). k ≤ last_slot v.chunk v.current f) (sym ef) le)

module _ (oh sh oh' sh' : ℕ → List ℕ → Type 0) (o c : List ℕ) (ready ready' : Pair → Type 0) (v : Kept) (t : IsThere oh sh o c ready v) (h : SnapLasts oh sh o c ready v)
    (adds_o : AddsNow oh oh' o) (firm : IsFirm sh' c v.size) (reach : length v.pairs < (v.current + 1) * (32 * v.chunk)) where
  -- each slot up to the last one known has its pair, or none
  slots_now : (k : ℕ) → k ≤ last_slot v.chunk v.current v.zeroed → SlotMay (length v.pairs) v.pairs k (slot v.chunk c k)
  slots_now k le = let l = IsListed-of v.chunk c v.pairs t.some t.listed in record {
    sure = λ d lt. l.each k d lt;
    maybe = λ d lo hi. inl (l.each k d hi);
    past = λ ge. elim (last_known v t.some k le) [
      | inl known ↦ (let at = h.list.slots k (sector_at c (sector_of v.chunk k)) known (t.store_now.each (sector_of v.chunk k) (h.inside k known)) in ap (λ p. p.new) (sym (slot_there v.chunk c k t.some)) ∙ at.past ge)
      | inr next ↦ (h.ahead next.0 k next.1 next.2).0
    ];
  }

  inside_now : (k : ℕ) → k ≤ last_slot v.chunk v.current v.zeroed → sector_of v.chunk k < v.size
  inside_now k le = elim (last_known v t.some k le) [ inl known ↦ h.inside k known | inr next ↦ (h.ahead next.0 k next.1 next.2).1 ]

  reach_now : length v.pairs ≤ last_slot v.chunk v.current v.zeroed
  reach_now = by v.zeroed where
    two : (v.current + 2) * (32 * v.chunk) ≡ (v.current + 1) * (32 * v.chunk) + 32 * v.chunk
    two = grind arith

    by : (z : Bool) → length v.pairs ≤ last_slot v.chunk v.current z
    by true = omega (arith, two, reach)
    by false = omega (arith, reach)

  -- The invariant with all pairs sure, and the zeroed area known. ready': the pairs of copies that are written.
  pub flush_lasts : ((q : Pair) → ready' q → IsCopied v.chunk o c q × (v.chunk * (q.new + 1) ≤ v.size)) → SnapLasts oh' sh' o c ready' (record v { firm = v.zeroed; sure = length v.pairs })
  flush_lasts written = record {
    header = λ w there. h.header w (subst (sh 0) (sym (firm 0 (has_first oh sh o c ready v h) w there)) (t.store_now.each 0 (has_first oh sh o c ready v h)));
    list = may_flush v.chunk (last_slot v.chunk v.current v.zeroed) v.pairs sh' c t.some reach_now h.list.valid (λ k w le x. firm (sector_of v.chunk k) (inside_now k le) w x) slots_now;
    inside = inside_now;
    ahead = h.ahead;
    disk = λ s lt none w x. (let none' : place_of v.pairs (s / v.chunk) ≡ None = ap (λ z. place_of z (s / v.chunk)) (sym (take_all (length v.pairs) v.pairs (omega arith))) ∙ none in
        elim (adds_o s w x) [ inl was ↦ h.disk s lt (none_before v.sure v.pairs (s / v.chunk) none') w was | inr e ↦ e ]);
    placed = λ k d lt. absurd (omega (arith, lt, length-drop (length v.pairs) v.pairs));
    copies = λ q r. record {
      same = (written q r).0;
      firm = λ s lt named. firm (v.chunk * q.new + s % v.chunk) (sector_fits v.chunk v.size q.new s t.some (written q r).1);
    };
  }

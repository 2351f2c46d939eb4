-- An attach that answers flushed origin and store: a snapshot's invariant begins.
use Rattle.std.proofs.Common.{◌≡◌, inl, ℕ, ◌+◌, ◌*◌, ◌<◌, ◌≤◌, false, List, length, arith, ap, ◌∙◌, sym, subst, length-drop, Ok}
use Rattle.std.specs.Prelude.{Bool, slice_index_or}
use Rattle.std.proofs.lemmas.Bool.{true≢false}
use Rattle.sector.specs.Bytes.{sector_at}
use Rattle.sector.specs.declared.pair.Pair.{Pair}
use Rattle.cow_header.specs.HeaderText.{found_in}
use Rattle.cow_header.specs.declared.found.Found.TheVariants.{Header}
use Rattle.cow_format.specs.Places.{slot}
use Rattle.cow_format.proofs.Slots.{IsListed-of}
use Rattle.crash_laws.specs.Firm.{IsFirm}
use Rattle.crash_laws.specs.May.{sector_of, SlotMay}
use Rattle.crash_laws.proofs.May.{may_flush}
use Rattle.cache_loss_laws.specs.Kept.{Kept, last_slot, IsThere, SnapLasts}

-- ready: of a snapshot that was just attached none
module _ (oh sh : ℕ → List ℕ → Type 0) (o c : List ℕ) (ready : Pair → Type 0) (v : Kept) (t : IsThere oh sh o c ready v) (none : (q : Pair) → ready q → ⊥)
    (unzeroed : v.zeroed ≡ false) (loose : v.firm ≡ false) (all : v.sure ≡ length v.pairs) (firm_o : IsFirm oh o v.sectors) (firm_s : IsFirm sh c v.size)
    (header : found_in (sector_at c 0) ≡ Ok (Header v.chunk)) (reach : length v.pairs < (v.current + 1) * (32 * v.chunk))
    (past : (k : ℕ) → length v.pairs ≤ k → k < (v.current + 1) * (32 * v.chunk) → (slot v.chunk c k).new ≡ 0) (inside : (k : ℕ) → k < (v.current + 1) * (32 * v.chunk) → sector_of v.chunk k < v.size) where
  below : (k : ℕ) → k ≤ last_slot v.chunk v.current false → k < (v.current + 1) * (32 * v.chunk)
  below k le = omega (arith, le, reach)

  slots_now : (k : ℕ) → k ≤ last_slot v.chunk v.current false → SlotMay (length v.pairs) v.pairs k (slot v.chunk c k)
  slots_now k le = let l = IsListed-of v.chunk c v.pairs t.some t.listed in record {
    sure = λ d lt. l.each k d lt;
    maybe = λ d lo hi. inl (l.each k d hi);
    past = λ ge. past k ge (below k le);
  }

  valid : (k : ℕ) (d : Pair) → k < length v.pairs → (slice_index_or v.pairs k d).new ≡ 0 → ⊥
  valid k d lt e = let p = (t.formed.inside k d lt).low in omega (arith, p, e)

  begins : SnapLasts oh sh o c ready (record v { zeroed = false; firm = false; sure = length v.pairs })
  begins = record {
    header = λ w there. inl (ap found_in (firm_s 0 (let at = inside 0 (below 0 (omega arith)) in omega (arith, at)) w there) ∙ header);
    list = may_flush v.chunk (last_slot v.chunk v.current false) v.pairs sh c t.some (omega (arith, reach)) valid (λ k w le x. firm_s (sector_of v.chunk k) (inside k (below k le)) w x) slots_now;
    inside = λ k le. inside k (below k le);
    ahead = λ z. absurd (true≢false (sym z));
    disk = λ s lt no. firm_o s lt;
    placed = λ k d lt. absurd (omega (arith, lt, length-drop (length v.pairs) v.pairs));
    copies = λ q r. absurd (none q r);
  }

  -- the invariant of the new snapshot
  pub attach_lasts : SnapLasts oh sh o c ready v
  attach_lasts = subst (λ (z : Bool). SnapLasts oh sh o c ready (record v { zeroed = z; firm = v.firm; sure = v.sure })) (sym unzeroed)
      (subst (λ (f : Bool). SnapLasts oh sh o c ready (record v { zeroed = false; firm = f; sure = v.sure })) (sym loose)
      (subst (λ (n : ℕ). SnapLasts oh sh o c ready (record v { zeroed = false; firm = false; sure = n })) (sym all) begins))

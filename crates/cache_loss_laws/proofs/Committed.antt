-- WriteArea over a snapshot's invariant: pairs of copies that were flushed are committed by one write of the current area, within
-- it or so that they fill it. It fills it only where the next area is zeroed and flushed: the slots that are known stay the same.
use Rattle.std.proofs.Common.{◌≡◌, ◌≢◌, ◌⊎◌, inl, inr, ℕ, ◌+◌, ◌-◌, ◌*◌, ◌/◌, ◌%◌, ◌<◌, ◌≤◌, true, false, List, ◌++◌, length, get_or, arith, ap, ◌∙◌, sym, subst, length-append, Ok, Err}
use Rattle.std.specs.List.{All}
use Rattle.std.proofs.lemmas.Bool.{true≢false, cases_lt}
use Rattle.std.proofs.lemmas.Nat.{mod_below, div-add-mod'}
use Rattle.sector.specs.Bytes.{sector_at}
use Rattle.sector.specs.declared.pair.Pair.{Pair}
use Rattle.sector.specs.declared.refusal.Refusal.TheVariants.{Invalid}
use Rattle.cow_header.specs.HeaderText.{found_in}
use Rattle.cow_header.specs.declared.found.Found.TheVariants.{Header}
use Rattle.cow_format.specs.Places.{area_place, slot, ChangesOnly}
use Rattle.cow_format.specs.Pairs.{pairs_of, AreWellFormed}
use Rattle.cow_format.proofs.Slots.{slot-other}
use Rattle.crash_laws.specs.Stop.{MayLeave, Within}
use Rattle.crash_laws.specs.Firm.{AddsNow}
use Rattle.crash_laws.specs.May.{sector_of}
use Rattle.crash_laws.proofs.May.{slot_there}
use Rattle.crash_laws.proofs.Loads.{header_kept}
use Rattle.cache_loss_laws.specs.Lasting.{IsCopyFirm, Lasts}
use Rattle.cache_loss_laws.specs.Lost.{NoneGiven}
use Rattle.cache_loss_laws.specs.Kept.{Kept, last_slot, last_of, IsThere, SnapLasts}
use Rattle.cache_loss_laws.specs.Calm.{StopsSnapLost}
use Rattle.cache_loss_laws.proofs.Kept.{lasts_of, has_first}
use Rattle.cache_loss_laws.proofs.LastingCalls.{area_stops, area_lasts, moved}

module _ (oh sh oh' sh' : ℕ → List ℕ → Type 0) (o c c' : List ℕ) (ready ready' : Pair → Type 0) (v : Kept) (qs : List Pair) (t : IsThere oh sh o c ready v) (h : SnapLasts oh sh o c ready v)
    (adds_o : AddsNow oh oh' o) (adds_s : AddsNow sh sh' c') (only : ChangesOnly v.chunk (area_place v.chunk v.current) c c') (now : pairs_of v.chunk c' ≡ v.pairs ++ qs) (formed : AreWellFormed v.chunk v.sectors v.size (v.pairs ++ qs))
    (flushed : All ready qs) (rest : (k : ℕ) → length (v.pairs ++ qs) ≤ k → k < (v.current + 1) * (32 * v.chunk) → (slot v.chunk c' k).new ≡ 0) (reach : length v.pairs + length qs ≤ last_of v) (fewer : (q : Pair) → ready' q → ready q) where
  -- the next area is not written
  not_current : (k : ℕ) → (v.current + 1) * (32 * v.chunk) ≤ k → k / (32 * v.chunk) ≢ v.current
  not_current k lo e =
      let pos = t.some in
      let one : (v.current + 1) * (32 * v.chunk) ≡ v.current * (32 * v.chunk) + 32 * v.chunk = grind arith in
      let parts : k / (32 * v.chunk) * (32 * v.chunk) + k % (32 * v.chunk) ≡ k = div-add-mod' k (32 * v.chunk) in
      let its : k / (32 * v.chunk) * (32 * v.chunk) ≡ v.current * (32 * v.chunk) = ap (λ q. q * (32 * v.chunk)) e in
      let small : k % (32 * v.chunk) < 32 * v.chunk = mod_below k (32 * v.chunk) (omega (arith, pos)) in
      omega (arith, one, parts, its, small, lo)

  -- each slot behind the pairs is empty, as far as they are known
  rest_all : (k : ℕ) → length (v.pairs ++ qs) ≤ k → k ≤ last_of v → (slot v.chunk c' k).new ≡ 0
  rest_all k lo le = elim (cases_lt k ((v.current + 1) * (32 * v.chunk))) [
    | inl below ↦ rest k lo below
    | inr from ↦ (let at = h.list.slots k (sector_at c (sector_of v.chunk k)) le (t.store_now.each (sector_of v.chunk k) (h.inside k le)) in
        ap (λ p. p.new) (slot-other v.chunk v.current c c' only k (not_current k from) ∙ sym (slot_there v.chunk c k t.some)) ∙ at.past (omega (arith, lo, length-append v.pairs qs)))
  ]

  copies_of : All (IsCopyFirm v.chunk v.sectors sh o c) qs
  copies_of k d lt = h.copies (get_or qs k d) (flushed k d lt)

  first_same : sector_at c' 0 ≡ sector_at c 0
  first_same = header_kept v.chunk (area_place v.chunk v.current) c c' t.some (λ e. omega (arith, e)) only

  header_cases : (w : List ℕ) → Within sh sh' 0 w → (found_in w ≡ Ok (Header v.chunk)) ⊎ ((v.marked ≡ true) × (found_in w ≡ Err Invalid))
  header_cases w (inl was) = h.header w was
  header_cases w (inr there) = elim (adds_s 0 w there) [
    | inl was ↦ h.header w was
    | inr e ↦ h.header w (subst (sh 0) (sym (e ∙ first_same)) (t.store_now.each 0 (has_first oh sh o c ready v h)))
  ]

  -- whatever a stop before, within or after it leaves is loaded again, with the first of the new pairs, and opens nothing
  pub commit_stops : StopsSnapLost oh sh oh' sh' v.marked NoneGiven v
  commit_stops b d left_b left_d =
      let r = area_stops v.chunk v.sectors v.size v.sure (last_of v) v.current v.pairs qs oh sh oh' sh' o c c' (lasts_of oh sh o c ready v t h) adds_o adds_s only now formed reach rest_all copies_of b d left_b left_d in
      elim (header_cases (sector_at d 0) (left_d.each 0 (has_first oh sh o c ready v h))) [
        | inl good ↦ inl (record { header = good; formed = r.0 }, λ s lt. inl (r.1 s lt))
        | inr bad ↦ inr bad
      ]

  module _ (disk_now : MayLeave oh' v.sectors o) (store_now : MayLeave sh' v.size c') where
    then : Lasts v.chunk v.sectors v.size v.sure (last_of v) (v.pairs ++ qs) oh' sh' o c'
    then = area_lasts v.chunk v.sectors v.size v.sure (last_of v) v.current v.pairs qs oh sh oh' sh' o c c' (lasts_of oh sh o c ready v t h) adds_o adds_s only now formed reach rest_all copies_of disk_now store_now

    copies_then : (q : Pair) → ready' q → IsCopyFirm v.chunk v.sectors sh' o c' q
    copies_then q r = moved v.chunk v.sectors v.size v.sure (last_of v) v.current v.pairs qs oh sh oh' sh' o c c' (lasts_of oh sh o c ready v t h) adds_o adds_s only now formed reach rest_all copies_of q (t.lies q (fewer q r)) (h.copies q (fewer q r))

    -- the invariant after it, where the area is not filled
    pub commit_lasts : SnapLasts oh' sh' o c' ready' (record v { pairs = v.pairs ++ qs })
    commit_lasts = record {
      header = λ w there. header_cases w (inr there);
      list = then.list;
      inside = then.inside;
      ahead = λ z k lo hi. (let at = h.ahead z k lo hi in (ap (λ p. p.new) (slot-other v.chunk v.current c c' only k (not_current k lo)) ∙ at.0, at.1));
      disk = then.disk;
      placed = then.placed;
      copies = copies_then;
    }

    -- and where it is: the next area is the current one, and the one after that is not zeroed
    same_last : v.firm ≡ true → last_of v ≡ last_slot v.chunk (v.current + 1) false
    same_last firm = ap (last_slot v.chunk v.current) firm ∙ ap (λ n. n * (32 * v.chunk) - 1) (omega arith)

    pub commit_fills : v.firm ≡ true → SnapLasts oh' sh' o c' ready' (record v { current = v.current + 1; zeroed = false; firm = false; pairs = v.pairs ++ qs })
    commit_fills firm = let filled : Lasts v.chunk v.sectors v.size v.sure (last_slot v.chunk (v.current + 1) false) (v.pairs ++ qs) oh' sh' o c' = subst (λ n. Lasts v.chunk v.sectors v.size v.sure n (v.pairs ++ qs) oh' sh' o c') (same_last firm) then in record {
      header = λ w there. header_cases w (inr there);
      list = filled.list;
      inside = filled.inside;
      ahead = λ z. absurd (true≢false (sym z));
      disk = filled.disk;
      placed = filled.placed;
      copies = copies_then;
    }

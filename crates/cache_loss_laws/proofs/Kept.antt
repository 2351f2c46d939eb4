-- A snapshot's invariant over a call that leaves its list and its copies.
use Rattle.std.proofs.Common.{◌≡◌, ◌⊎◌, inl, inr, ℕ, ◌<◌, Bool, true, List, arith, ap, ◌∙◌, sym, subst, Ok, Err}
use Rattle.sector.specs.Bytes.{sector_at}
use Rattle.sector.specs.declared.pair.Pair.{Pair}
use Rattle.sector.specs.declared.refusal.Refusal.TheVariants.{Invalid}
use Rattle.cow_header.specs.HeaderText.{found_in}
use Rattle.cow_header.specs.declared.found.Found.TheVariants.{Header}
use Rattle.crash_laws.specs.Stop.{MayLeave, Within}
use Rattle.crash_laws.specs.Firm.{AddsNow, IsFirm}
use Rattle.crash_laws.specs.Again.{IsRefusedAgain}
use Rattle.cache_loss_laws.specs.Lasting.{Lasts}
use Rattle.cache_loss_laws.specs.Kept.{Kept, last_of, IsThere, SnapLasts, SnapRefused}
use Rattle.cache_loss_laws.specs.Calm.{IsCalmSnap, StopsSnapLost}
use Rattle.cache_loss_laws.proofs.Copied.{none_before}
use Rattle.cache_loss_laws.proofs.CalmLaw.{calm_formed, calm_opens, calm_list, calm_disk, calm_placed, calm_copy}

-- the invariant over what is there
pub lasts_of : (oh sh : ℕ → List ℕ → Type 0) (o c : List ℕ) (ready : Pair → Type 0) (v : Kept) → IsThere oh sh o c ready v → SnapLasts oh sh o c ready v → Lasts v.chunk v.sectors v.size v.sure (last_of v) v.pairs oh sh o c
lasts_of oh sh o c ready v t h = record {
  some = t.some;
  disk_now = t.disk_now;
  store_now = t.store_now;
  listed = t.listed;
  formed = t.formed;
  list = h.list;
  inside = h.inside;
  disk = h.disk;
  placed = h.placed;
}

-- the store has a first sector
pub has_first : (oh sh : ℕ → List ℕ → Type 0) (o c : List ℕ) (ready : Pair → Type 0) (v : Kept) → SnapLasts oh sh o c ready v → 0 < v.size
has_first oh sh o c ready v h = let at = h.inside 0 (omega arith) in omega (arith, at)

module _ (oh sh oh' sh' : ℕ → List ℕ → Type 0) (o o' c c' : List ℕ) (ready ready' : Pair → Type 0) (zeroed marked : Bool) (given : ℕ → List ℕ → Type 0) (v : Kept)
    (t : IsThere oh sh o c ready v) (h : SnapLasts oh sh o c ready v) (is : IsCalmSnap o o' c c' ready ready' zeroed marked given v) (adds_o : AddsNow oh oh' o') (adds_s : AddsNow sh sh' c') where
  was_header : (w : List ℕ) → sh 0 w → (found_in w ≡ Ok (Header v.chunk)) ⊎ ((marked ≡ true) × (found_in w ≡ Err Invalid))
  was_header w there = elim (h.header w there) [ inl good ↦ inl good | inr bad ↦ inr (is.keeps bad.0, bad.1) ]

  header_cases : (w : List ℕ) → Within sh sh' 0 w → (found_in w ≡ Ok (Header v.chunk)) ⊎ ((marked ≡ true) × (found_in w ≡ Err Invalid))
  header_cases w (inl was) = was_header w was
  header_cases w (inr there) = elim (adds_s 0 w there) [
    | inl was ↦ was_header w was
    | inr e ↦ elim is.first [
      | inl same ↦ was_header w (subst (sh 0) (sym (e ∙ same)) (t.store_now.each 0 (has_first oh sh o c ready v h)))
      | inr bad ↦ inr (bad.0, ap found_in e ∙ bad.1)
    ]
  ]

  -- whatever a stop before, within or after it leaves
  pub calm_stops : StopsSnapLost oh sh oh' sh' marked given v
  calm_stops b d left_b left_d =
      let l = lasts_of oh sh o c ready v t h in
      elim (header_cases (sector_at d 0) (left_d.each 0 (has_first oh sh o c ready v h))) [
        | inl good ↦ inl (
          record { header = good; formed = calm_formed v.chunk v.sectors v.size v.sure (last_of v) v.pairs oh sh oh' sh' o o' c c' given l is.calm adds_o adds_s b d left_b left_d },
          calm_opens v.chunk v.sectors v.size v.sure (last_of v) v.pairs oh sh oh' sh' o o' c c' given l is.calm adds_o adds_s b d left_b left_d,
        )
        | inr bad ↦ inr bad
      ]

  -- and the invariant holds after it
  pub calm_lasts : MayLeave oh' v.sectors o' → SnapLasts oh' sh' o' c' ready' (record v { zeroed = zeroed; marked = marked })
  calm_lasts disk_now =
      let l = lasts_of oh sh o c ready v t h in
      record {
        header = λ w there. header_cases w (inr there);
        list = calm_list v.chunk v.sectors v.size v.sure (last_of v) v.pairs oh sh oh' sh' o o' c c' given l is.calm adds_o adds_s;
        inside = h.inside;
        ahead = is.ahead;
        disk = calm_disk v.chunk v.sectors v.size v.sure (last_of v) v.pairs oh sh oh' sh' o o' c c' given l is.calm adds_o adds_s;
        placed = calm_placed v.chunk v.sectors v.size v.sure (last_of v) v.pairs oh sh oh' sh' o o' c c' given l is.calm adds_o adds_s disk_now;
        copies = λ q r. let was = (is.copies q r).0 in
            calm_copy v.chunk v.sectors v.size v.sure (last_of v) v.pairs oh sh oh' sh' o o' c c' given l is.calm adds_o adds_s q (t.lies q was) (none_before v.sure v.pairs q.old (t.unlisted q was)) (is.copies q r).1 disk_now (h.copies q was);
      }

-- A spoiled snapshot whose mark was flushed is refused, whatever a stop leaves of it, and stays so while its first sector is not
-- written.
pub mark_flushed : (sh : ℕ → List ℕ → Type 0) (c : List ℕ) (size : ℕ) → 0 < size → IsFirm sh c size → found_in (sector_at c 0) ≡ Err Invalid → SnapRefused sh
mark_flushed sh c size pos firm bad = record { header = λ w there. ap found_in (firm 0 pos w there) ∙ bad }

pub refused_lasts : (sh sh' : ℕ → List ℕ → Type 0) (c c' : List ℕ) → SnapRefused sh → sh 0 (sector_at c 0) → AddsNow sh sh' c' → sector_at c' 0 ≡ sector_at c 0 → SnapRefused sh'
refused_lasts sh sh' c c' h now adds same = record { header = λ w there. elim (adds 0 w there) [ inl was ↦ h.header w was | inr e ↦ ap found_in (e ∙ same) ∙ h.header (sector_at c 0) now ] }

pub refused_stops : (sh sh' : ℕ → List ℕ → Type 0) (size : ℕ) → 0 < size → SnapRefused sh → SnapRefused sh' → (d : List ℕ) → MayLeave (Within sh sh') size d → IsRefusedAgain d
refused_stops sh sh' size pos h h' d left = elim (left.each 0 pos) [ inl was ↦ h.header (sector_at d 0) was | inr there ↦ h'.header (sector_at d 0) there ]

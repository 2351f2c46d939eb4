-- Whatever a stop within a call leaves is loaded again, and shows values that were open before, or that the call gives: from
-- what each sector may hold then.
use Rattle.std.proofs.Common.{◌≡◌, ◌⊎◌, inl, inr, ℕ, ◌+◌, ◌*◌, ◌/◌, ◌%◌, ◌<◌, ◌≤◌, List, ◌++◌, length, take, refl, ap, ◌∙◌, sym, subst}
use Rattle.std.specs.Prelude.{Option, Some, None}
use Rattle.std.proofs.lemmas.List.{take-append-le}
use Rattle.std.proofs.lemmas.Nat.{mod_below}
use Rattle.sector.specs.Bytes.{sector_at}
use Rattle.sector.specs.declared.pair.Pair.{Pair}
use Rattle.cow_format.specs.Pairs.{pairs_of, AreWellFormed}
use Rattle.cow_format.specs.Picture.{place_of, picture}
use Rattle.crash_laws.specs.Stop.{MayLeave}
use Rattle.crash_laws.specs.Again.{IsOpen}
use Rattle.crash_laws.specs.May.{sector_of, MayList}
use Rattle.crash_laws.specs.Open.{MayShowAt}
use Rattle.crash_laws.proofs.May.{may_pairs}
use Rattle.crash_laws.proofs.Open.{may_show}
use Rattle.cache_loss_laws.proofs.Parts.{place_first, place_longer}
use Rattle.crash_laws.proofs.Opens.{open_copied}
use Rattle.crash_laws.proofs.Loads.{formed_first}
use Rattle.cache_loss_laws.proofs.Places.{place_good, sector_fits, pairs_with, length_shown}

-- oh, sh: what origin disk and store might hold before; ho, hs: before, within or after the call
module _ (chunk sectors size sure last : ℕ) (oh sh ho hs : ℕ → List ℕ → Type 0) (given : ℕ → List ℕ → Type 0) (o c : List ℕ) (ps qs : List Pair) (pos : 0 < chunk)
    (left_o : MayLeave oh sectors o) (left_c : MayLeave sh size c) (listed : pairs_of chunk c ≡ ps) (low : sure ≤ length ps)
    (list : MayList chunk sure last (ps ++ qs) hs) (inside : (k : ℕ) → k ≤ last → sector_of chunk k < size) (formed : AreWellFormed chunk sectors size (ps ++ qs))
    (at_sure : (s n : ℕ) (v : List ℕ) → s < sectors → place_of (take sure ps) (s / chunk) ≡ Some n → hs (chunk * n + s % chunk) v → sh (chunk * n + s % chunk) v ⊎ given s v)
    (at_disk : (s : ℕ) (v : List ℕ) → s < sectors → place_of (take sure ps) (s / chunk) ≡ None → ho s v → (v ≡ sector_at (picture chunk o c) s) ⊎ given s v)
    (at_place : (s n : ℕ) (v : List ℕ) → s < sectors → place_of (take sure ps) (s / chunk) ≡ None → place_of (ps ++ qs) (s / chunk) ≡ Some n → hs (chunk * n + s % chunk) v → v ≡ sector_at (picture chunk o c) s) where
  now_open : (s : ℕ) (v : List ℕ) → v ≡ sector_at (picture chunk o c) s → IsOpen chunk oh sh sectors size s v
  now_open s v e = record { origin = o; store = c; origin_left = left_o; store_left = left_c; is = e }

  -- a sure place is one of the present list
  sure_now : (s n : ℕ) → place_of (take sure ps) (s / chunk) ≡ Some n → place_of (pairs_of chunk c) (s / chunk) ≡ Some n
  sure_now s n e = ap (λ z. place_of z (s / chunk)) listed ∙ place_first sure ps (s / chunk) n e

  sure_then : (s n : ℕ) → place_of (take sure ps) (s / chunk) ≡ Some n → place_of (ps ++ qs) (s / chunk) ≡ Some n
  sure_then s n e = place_longer ps qs (s / chunk) n (place_first sure ps (s / chunk) n e)

  module _ (b d : List ℕ) (left_b : MayLeave ho sectors b) (left_d : MayLeave hs size d) where
    by : (s : ℕ) → s < sectors → (x y : Option ℕ) → place_of (take sure ps) (s / chunk) ≡ x → place_of (ps ++ qs) (s / chunk) ≡ y → MayShowAt ho hs chunk s x y (sector_at (picture chunk b d) s)
        → IsOpen chunk oh sh sectors size s (sector_at (picture chunk b d) s) ⊎ given s (sector_at (picture chunk b d) s)
    by s lt (Some n) y ex ey h =
        let good = place_good chunk sectors size (s / chunk) n (ps ++ qs) formed.inside (sure_then s n ex) in
        let fits : chunk * n + s % chunk < size = sector_fits chunk size n s pos good.fits in
        let len = length_shown chunk sectors s b d left_b.whole lt in
        elim (at_sure s n (sector_at (picture chunk b d) s) lt ex h) [
          | inl old ↦ inl (open_copied chunk sectors size s n oh sh o c (sector_at (picture chunk b d) s) pos left_o left_c lt fits len old (sure_now s n ex)
              (pairs_with chunk n (s % chunk) size c (sector_at (picture chunk b d) s) pos (mod_below s chunk pos) good.free good.fits left_c.whole len))
          | inr g ↦ inr g
        ]
    by s lt None None ex ey h = elim (at_disk s (sector_at (picture chunk b d) s) lt ex h) [ inl e ↦ inl (now_open s _ e) | inr g ↦ inr g ]
    by s lt None (Some n) ex ey h = elim h [
      | inl there ↦ inl (now_open s _ (at_place s n (sector_at (picture chunk b d) s) lt ex ey there))
      | inr disk ↦ elim (at_disk s (sector_at (picture chunk b d) s) lt ex disk) [ inl e ↦ inl (now_open s _ e) | inr g ↦ inr g ]
    ]

    pub stop_formed : AreWellFormed chunk sectors size (pairs_of chunk d)
    stop_formed =
        let (m, lo, hi, is) = may_pairs chunk sure last size (ps ++ qs) hs d pos list inside left_d in
        subst (AreWellFormed chunk sectors size) (sym is) (formed_first chunk sectors size m (ps ++ qs) pos formed hi)

    pub stop_opens : (s : ℕ) → s < sectors → IsOpen chunk oh sh sectors size s (sector_at (picture chunk b d) s) ⊎ given s (sector_at (picture chunk b d) s)
    stop_opens s lt =
        let (m, lo, hi, is) = may_pairs chunk sure last size (ps ++ qs) hs d pos list inside left_d in
        let shown = may_show ho hs chunk sure m sectors size s (ps ++ qs) b d pos lo left_b left_d is lt
        (λ n e. sector_fits chunk size n s pos (place_good chunk sectors size (s / chunk) n (ps ++ qs) formed.inside e).fits) in
        by s lt _ _ refl refl (subst (λ (z : List Pair). MayShowAt ho hs chunk s (place_of z (s / chunk)) (place_of (ps ++ qs) (s / chunk)) (sector_at (picture chunk b d) s)) (take-append-le sure ps qs low) shown)

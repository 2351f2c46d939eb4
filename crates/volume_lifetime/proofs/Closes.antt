-- What an Issue of a flush closes: the array of a flush that is answered holds nothing but what is there, or what was there at its
-- first Issue, and what a write since gives.
use Rattle.std.proofs.Common.{◌≡◌, ◌⊎◌, inl, inr, ℕ, zero, suc, ◌+◌, ◌*◌, ◌/◌, ◌<◌, Bool, true, false, List, [], ◌∷◌, length, get_or, map, Option, None, Some, refl, sym, ◌∙◌, ap, subst, arith}
use Rattle.std.specs.Prelude.{◌==◌, AllPairs, if◌then◌else◌}
use Rattle.std.proofs.lemmas.Bool.{cases_Bool, cond-true, cond-false, eqb-true, eq-eqb}
use Rattle.std.proofs.lemmas.List.{get_or-map, get_or_default, length-map}
use Rattle.sector.specs.Bytes.{sector_at}
use Rattle.device.specs.Layers.{Layer, is_loud}
use Rattle.cow_format.specs.Pairs.{pairs_of}
use Rattle.cow_format.specs.Picture.{picture, place_of}
use Rattle.crash_laws.specs.Again.{IsOpen}
use Rattle.crash_laws.specs.Firm.{IsFirm}
use Rattle.crash_laws.specs.Stop.{MayLeave}
use Rattle.crash_laws.proofs.Open.{sector_plain}
use Rattle.cache_loss_laws.proofs.Closing.{firm_same, store_closes}
use Rattle.plain_machine.specs.Plain.{Entry, Invalid, Live, Plain, saved_under}
use Rattle.snapshot.specs.Kept.{Kept, books_of as snap_books}
use Rattle.snapshot_list.specs.Numbers.{number_of_snap}
use Rattle.merge.specs.Merging.{Merging}
use Rattle.volume.specs.AddedUp.{IsLeftAt, IsOpenIn, IsOpenOrigin, IsOpenSnap, IsSomeOf}
use Rattle.volume.specs.Causes.{IsAt}
use Rattle.volume.specs.Closing.{ClosesAll}
use Rattle.volume.specs.Layering.{Measures}
use Rattle.volume.specs.Shown.{shown_entry, shown_origin}
use Rattle.volume.specs.Stopping.{IsOut}
use Rattle.volume.specs.Volumed.{Volumed, is_loud_in_all, plain_of}
use Rattle.volume.proofs.LastCloses.{apart_numbers}
use Rattle.volume.proofs.Shown.{loud_books}
use Rattle.volume_lifetime.specs.Flushed.{Allows, Asked, Flushed, array_in, bytes_of, with_bytes}

-- the snapshot at a place is the one of its number, where numbers ascend
saved_at : {B : Type 0} (contents : B → List ℕ) (origin : List ℕ) (snaps : List (Kept B)) (k : ℕ) (s : Kept B) → k < length snaps → s ≡ get_or snaps k s
    → ((j : ℕ) → j < k → ((get_or snaps j s).number == s.number) ≡ false) → saved_under s.number (map (shown_entry contents origin) snaps) ≡ Some (shown_entry contents origin s).saved
saved_at contents origin [] k s lt is before = absurd (omega (arith, lt))
saved_at contents origin (y ∷ ys) zero s lt is before = (let here : (y.number == s.number) ≡ true = eq-eqb y.number s.number (ap (λ (x : Kept _). x.number) (sym is)) in cond-true _ _ _ here ∙ ap (λ (x : Kept _). Some (shown_entry contents origin x).saved) (sym is))
saved_at contents origin (y ∷ ys) (suc k) s lt is before = cond-false _ _ _ (before 0 (omega arith)) ∙ saved_at contents origin ys k s (omega (arith, lt)) is (λ j below. before (suc j) (omega (arith, below)))

module _ {B : Type 0} (holds : B → ℕ → List ℕ → Type 0) (m : Measures B) (layers : B → List Layer) (whole : (d : B) → length (m.contents d) ≡ 512 * m.size d) (here : (d : B) (s : ℕ) → s < m.size d → holds d s (sector_at (m.contents d) s)) where
  leaves : (d : B) → MayLeave (holds d) (m.size d) (m.contents d)
  leaves d = record { whole = whole d; each = here d }

  module _ (w : Volumed B) (loud : is_loud_in_all layers w ≡ true) where
    pub origin_loud : is_loud (layers w.origin) ≡ true
    origin_loud = (loud_books m.contents layers m.size w loud).origin

    pub snap_loud : (k : ℕ) (s : Kept B) → IsAt k s w → is_loud (layers s.device) ≡ true
    snap_loud k s at =
        let sb = snap_books m.contents layers in
        let lt = at.within in
        ap (λ (x : Kept B). is_loud (layers x.device)) at.is ∙ sym (ap (λ x. x.loud) (get_or-map sb w.snaps k s (sb s) lt)) ∙ (loud_books m.contents layers m.size w loud).snaps k (sb s) (omega (arith, lt, length-map w.snaps sb))

    -- a live snapshot's array
    module _ (unique : AllPairs (λ a b. a < b) (map number_of_snap w.snaps)) where
      earlier : (k : ℕ) (s : Kept B) → IsAt k s w → (j : ℕ) → j < k → ((get_or w.snaps j s).number == s.number) ≡ false
      earlier k s at j below = elim (cases_Bool ((get_or w.snaps j s).number == s.number)) [
        | inr other ↦ other
        | inl same ↦
            (let lt = at.within in
            let low : j < length w.snaps = omega (arith, below, lt) in
            let nj : get_or (map number_of_snap w.snaps) j 0 ≡ (get_or w.snaps j s).number = get_or-map number_of_snap w.snaps j s 0 low in
            let nk : get_or (map number_of_snap w.snaps) k 0 ≡ s.number = get_or-map number_of_snap w.snaps k s 0 lt ∙ ap number_of_snap (sym at.is) in
            let long = length-map w.snaps number_of_snap in
            let one : j ≡ k = apart_numbers (map number_of_snap w.snaps) unique j k 0 (omega (arith, low, long)) (omega (arith, lt, long)) (nj ∙ eqb-true (get_or w.snaps j s).number s.number same ∙ sym nk) in
            absurd (omega (arith, below, one)))
      ]

      pub snap_array : (k : ℕ) (s : Kept B) → IsAt k s w → s.live ≡ true → array_in (Some s.number) (plain_of m.contents layers w) ≡ picture s.state.chunk (m.contents w.origin) (m.contents s.device)
      snap_array k s at live = ap bytes_of (saved_at m.contents (m.contents w.origin) w.snaps k s at.within at.is (earlier k s at)) ∙ ap (λ b. bytes_of (Some (if b then Live (picture s.state.chunk (m.contents w.origin) (m.contents s.device)) else Invalid))) live

      -- a snapshot whose store was flushed
      pub snap_answered : (n : ℕ) (f : Flushed) → f.array ≡ Some n
          → ((k : ℕ) (s : Kept B) → k < length w.snaps → s ≡ get_or w.snaps k s → s.number ≡ n → is_loud (layers w.origin) ≡ true → is_loud (layers s.device) ≡ true → ClosesAll holds m.contents m.size s.state.chunk w.origin s.device)
          → (s : ℕ) (x : List ℕ) → IsOpenIn holds m.size w (Some n) s x → Allows (with_bytes (plain_of m.contents layers w) f) s x
      snap_answered n f is closes s x may =
          let o = may.1 in
          let present : x ≡ sector_at (picture o.snap.state.chunk (m.contents w.origin) (m.contents o.snap.device)) s = closes o.place o.snap o.at.within o.at.is o.mine origin_loud (snap_loud o.place o.snap o.at) s x may.0 o.shows in
          let array : array_in f.array (plain_of m.contents layers w) ≡ picture o.snap.state.chunk (m.contents w.origin) (m.contents o.snap.device) =
          ap (λ a. array_in a (plain_of m.contents layers w)) is ∙ ap (λ k. array_in (Some k) (plain_of m.contents layers w)) (sym o.mine) ∙ snap_array o.place o.snap o.at o.live in
          inl (inl (present ∙ ap (λ b. sector_at b s) (sym array)))

  -- The merging store was flushed: each sector is taken from it, and closed, or is in no list.
  pub merging_closed : (w : Volumed B) (g : Merging B) → w.merge ≡ Some g → 0 < g.state.chunk → IsFirm (holds g.device) (m.contents g.device) (m.size g.device) → (f : Flushed) → f.array ≡ None → (s : ℕ) → s < m.size w.origin
      → ((x : List ℕ) → IsOpenIn holds m.size w None s x → Allows (with_bytes (plain_of m.contents layers w) f) s x) ⊎ IsOut holds m.size g.state.chunk g.device (s / g.state.chunk)
  merging_closed w g is pos firm f none s lt = by (place_of (pairs_of g.state.chunk (m.contents g.device)) (s / g.state.chunk)) refl
    where
      only : (c : List ℕ) → MayLeave (holds g.device) (m.size g.device) c → c ≡ m.contents g.device
      only c left = firm_same (holds g.device) (m.contents g.device) c (m.size g.device) (whole g.device) firm left

      array : array_in f.array (plain_of m.contents layers w) ≡ picture g.state.chunk (m.contents w.origin) (m.contents g.device)
      array = ap (λ a. array_in a (plain_of m.contents layers w)) none ∙ ap (shown_origin m.contents w.origin) is

      by : (p : Option ℕ) → place_of (pairs_of g.state.chunk (m.contents g.device)) (s / g.state.chunk) ≡ p → ((x : List ℕ) → IsOpenIn holds m.size w None s x → Allows (with_bytes (plain_of m.contents layers w) f) s x) ⊎ IsOut holds m.size g.state.chunk g.device (s / g.state.chunk)
      by None at = inr (λ d left. ap (λ b. place_of (pairs_of g.state.chunk b) (s / g.state.chunk)) (only d left) ∙ at)
      by (Some n) at = inl (λ x may.
          let shows : IsOpen g.state.chunk (holds w.origin) (holds g.device) (m.size w.origin) (m.size g.device) s x = subst (λ z. IsOpenOrigin holds m.size w.origin z s x) is may.1 in
          inl (inl (store_closes g.state.chunk (m.size w.origin) (m.size g.device) (holds w.origin) (holds g.device) (m.contents w.origin) (m.contents g.device) pos (leaves w.origin) (leaves g.device) firm s x lt
          (λ o c lo lc e. (let no : Some n ≡ None = sym at ∙ ap (λ b. place_of (pairs_of g.state.chunk b) (s / g.state.chunk)) (sym (only c lc)) ∙ e in cc)) shows ∙ ap (λ b. sector_at b s) (sym array))))

  -- The disk was flushed: a sector that is in no list of the merging store is what is there, and so is each where no merge is begun.
  pub out_closed : (w : Volumed B) (g : Merging B) → w.merge ≡ Some g → 0 < g.state.chunk → IsFirm (holds w.origin) (m.contents w.origin) (m.size w.origin) → (f : Flushed) → f.array ≡ None → (s : ℕ) (x : List ℕ) → IsOut holds m.size g.state.chunk g.device (s / g.state.chunk)
      → IsOpenIn holds m.size w None s x → Allows (with_bytes (plain_of m.contents layers w) f) s x
  out_closed w g is pos firm f none s x out may =
      let shows : IsOpen g.state.chunk (holds w.origin) (holds g.device) (m.size w.origin) (m.size g.device) s x = subst (λ z. IsOpenOrigin holds m.size w.origin z s x) is may.1 in
      let array : array_in f.array (plain_of m.contents layers w) ≡ picture g.state.chunk (m.contents w.origin) (m.contents g.device) = ap (λ a. array_in a (plain_of m.contents layers w)) none ∙ ap (shown_origin m.contents w.origin) is in
      let only : shows.origin ≡ m.contents w.origin = firm_same (holds w.origin) (m.contents w.origin) shows.origin (m.size w.origin) (whole w.origin) firm shows.origin_left in
      inl (inl (shows.is ∙ sector_plain g.state.chunk (m.size w.origin) s shows.origin shows.store (pairs_of g.state.chunk shows.store) pos shows.origin_left.whole may.0 refl (out shows.store shows.store_left)
      ∙ ap (λ b. sector_at b s) only ∙ sym (sector_plain g.state.chunk (m.size w.origin) s (m.contents w.origin) (m.contents g.device) (pairs_of g.state.chunk (m.contents g.device)) pos (whole w.origin) may.0 refl (out (m.contents g.device) (leaves g.device)))
      ∙ ap (λ b. sector_at b s) (sym array)))

  pub disk_closed : (w : Volumed B) → w.merge ≡ None → IsFirm (holds w.origin) (m.contents w.origin) (m.size w.origin) → (f : Flushed) → f.array ≡ None → (s : ℕ) (x : List ℕ) → IsOpenIn holds m.size w None s x → Allows (with_bytes (plain_of m.contents layers w) f) s x
  disk_closed w is firm f none s x may =
      let left : IsLeftAt (holds w.origin) (m.size w.origin) s x = subst (λ z. IsOpenOrigin holds m.size w.origin z s x) is may.1 in
      let array : array_in f.array (plain_of m.contents layers w) ≡ m.contents w.origin = ap (λ a. array_in a (plain_of m.contents layers w)) none ∙ ap (shown_origin m.contents w.origin) is in
      inl (inl (left.is ∙ firm s may.0 (sector_at left.bytes s) (left.left.each s may.0) ∙ ap (λ b. sector_at b s) (sym array)))

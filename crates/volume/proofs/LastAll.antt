-- What a call does to all snapshots of a volume: what lasts of them afterwards, and what a stop leaves of their stores.
use Rattle.std.proofs.Common.{◌≡◌, ◌⊎◌, inl, inr, ℕ, ◌*◌, ◌<◌, List, Option, length, get_or, refl, sym, ◌∙◌, ap, subst, arith}
use Rattle.std.specs.List.{All}
use Rattle.std.proofs.lemmas.Bool.{cases_eq}
use Rattle.std.proofs.lemmas.List.{length-map, get_or-map, get_or_default, get_or-set_other, length-set}
use Rattle.std.proofs.lemmas.Grind.{get_or-set_at}
use Rattle.sector.specs.Bytes.{sector_at}
use Rattle.device.specs.Layers.{Layer}
use Rattle.in_flight.specs.declared.flights.Flight.{Flight}
use Rattle.crash_laws.specs.Clauses.{Given}
use Rattle.volume_laws.proofs.WholeOne.{snap_holds}
use Rattle.snapshot.specs.Kept.{Kept, books_of as snap_books}
use Rattle.volume.specs.Volumed.{Volumed, books_of}
use Rattle.volume.specs.Whole.{IsWhole, IsAttached}
use Rattle.volume.specs.SnapLasting.{SnapLasting}
use Rattle.volume.specs.Lasting.{StopsSnaps}
use Rattle.volume.proofs.Changing.{changed}
use Rattle.volume.proofs.LastOne.{IsKeptSnap, IsSameDevice, IsLeft, Stays, Spoils, Goes, left_goes, same_device}

module _ {B : Type 0} (holds : B → ℕ → List ℕ → Type 0) (contents : B → List ℕ) (layers : B → List Layer) (size : B → ℕ) (whole : (d : B) → length (contents d) ≡ 512 * size d) (here : (d : B) (s : ℕ) → s < size d → holds d s (sector_at (contents d) s)) where
  pub record GoesAll (given : Option Given) (v w : Volumed B) : Type 0 where
    pub lasts : All (SnapLasting holds contents layers size w.origin) w.snaps
    pub stops : StopsSnaps holds layers size given v w

  module _ (v : Volumed B) (h : IsWhole contents layers size v) (l : All (SnapLasting holds contents layers size v.origin) v.snaps) where
    pub kept_at : (k : ℕ) (s : Kept B) → k < length v.snaps → s ≡ get_or v.snaps k s → IsKeptSnap contents layers size v.origin v.flights s
    kept_at k s within is =
        let sb = snap_books contents layers in
        let one : IsAttached v.copies (size v.origin) s = subst (IsAttached v.copies (size v.origin)) (sym is) (h.snaps k s within) in
        record {
          some = one.some;
          fits = one.origin;
          holds = snap_holds (books_of contents layers size v) k (sb s) h.holds (omega (arith, within, length-map v.snaps sb)) (ap sb is ∙ sym (get_or-map sb v.snaps k s (sb s) within));
        }

    pub lasting_at : (k : ℕ) (s : Kept B) → k < length v.snaps → s ≡ get_or v.snaps k s → SnapLasting holds contents layers size v.origin s
    lasting_at k s within is = subst (SnapLasting holds contents layers size v.origin) (sym is) (l k s within)

    module _ (given : Option Given) where
      pub all_go : (w : Volumed B) → length w.snaps ≡ length v.snaps → ((k : ℕ) (s t : Kept B) → k < length v.snaps → s ≡ get_or v.snaps k s → t ≡ get_or w.snaps k t → Goes holds contents layers size whole here given v.origin w.origin s t) → GoesAll given v w
      all_go w len each = record {
        lasts = λ k d lt. (let within : k < length v.snaps = omega (arith, lt, len) in
            (each k (get_or v.snaps k d) (get_or w.snaps k d) within (get_or_default v.snaps k d (get_or v.snaps k d) within) (get_or_default w.snaps k d (get_or w.snaps k d) lt)).lasts);
        stops = λ k s t within is are lo ls. (each k s t within is are).stops lo ls;
      }

      -- none is written: each is as it was, or is spoiled, or loses copies
      pub all_left : (w : Volumed B) → length w.snaps ≡ length v.snaps → IsSameDevice holds contents layers size v.origin w.origin
          → ((k : ℕ) (s t : Kept B) → k < length v.snaps → s ≡ get_or v.snaps k s → t ≡ get_or w.snaps k t → IsSameDevice holds contents layers size s.device t.device × IsLeft s t × (Stays s t ⊎ Spoils s t)) → GoesAll given v w
      all_left w len disk each = all_go w len (λ k s t within is are. (let e = each k s t within is are in left_goes holds contents layers size whole here v.origin v.flights s (kept_at k s within is) (lasting_at k s within is) given w.origin t disk e.0 e.1 e.2))

      -- one is written, or spoiled, and the others are as they were
      pub one_goes : (k : ℕ) (s s' : Kept B) (o' : B) (flights : List Flight) → k < length v.snaps → s ≡ get_or v.snaps k s → IsSameDevice holds contents layers size v.origin o' → Goes holds contents layers size whole here given v.origin o' s s' → GoesAll given v (changed v o' k s' flights)
      one_goes k s s' o' flights within is disk goes = all_go (changed v o' k s' flights) (length-set v.snaps k s') (λ j x y lt at are. elim (cases_eq j k) [
        | inl e ↦ (let ex : x ≡ s = at ∙ ap (λ i. get_or v.snaps i x) e ∙ get_or_default v.snaps k x s within ∙ sym is in
            let ey : y ≡ s' = are ∙ get_or-set_at v.snaps k j s' y e within in
            subst (λ z. Goes holds contents layers size whole here given v.origin o' z y) (sym ex) (subst (Goes holds contents layers size whole here given v.origin o' s) (sym ey) goes))
        | inr ne ↦ (let ey : y ≡ x = are ∙ get_or-set_other v.snaps k j s' y ne ∙ get_or_default v.snaps j y x lt ∙ sym at in
            subst (Goes holds contents layers size whole here given v.origin o' x) (sym ey)
            (left_goes holds contents layers size whole here v.origin v.flights x (kept_at j x lt at) (lasting_at j x lt at) given o' x disk (same_device holds contents layers size whole here x.device)
            (record { chunk = refl; current = refl; zeroed = refl; firm = refl; sure = refl; marked = refl; pairs = refl }) (inl (refl, refl, refl, λ q r. r))))
      ])

      -- the origin's device is met, or nothing is, and the snapshots are as they were
      pub none_goes : (w : Volumed B) → w.snaps ≡ v.snaps → IsSameDevice holds contents layers size v.origin w.origin → GoesAll given v w
      none_goes w same disk = all_left w (ap length same) disk (λ k s t within is are. (let e : t ≡ s = are ∙ ap (λ xs. get_or xs k t) same ∙ get_or_default v.snaps k t s within ∙ sym is in
          subst (λ z. IsSameDevice holds contents layers size s.device z.device × IsLeft s z × (Stays s z ⊎ Spoils s z)) (sym e)
          (same_device holds contents layers size whole here s.device, record { chunk = refl; current = refl; zeroed = refl; firm = refl; sure = refl; marked = refl; pairs = refl }, inl (refl, refl, refl, λ q r. r))))

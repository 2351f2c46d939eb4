-- Moments, each of which saves what the one before it held: a history that may be read.
use Rattle.std.proofs.Common.{◌≡◌, ◌⊎◌, inl, inr, ℕ, zero, suc, ◌+◌, ◌-◌, ◌*◌, ◌/◌, ◌%◌, ◌<◌, List, ◌++◌, length, get_or, Option, None, Some, refl, arith, ap, ◌∙◌, sym, subst, append_assoc}
use Rattle.std.proofs.Math.Nat.{mod-lt}
use Rattle.sector.specs.declared.pair.Pair.{Pair}
use Rattle.cow_format.specs.Pairs.{pairs_of}
use Rattle.cow_format.specs.Picture.{place_of}
use Rattle.device.specs.Layers.{Layer}
use Rattle.read_beside_writer.specs.Moments.{Files, IsLive, IsSavedFirst, IsSaving}
use Rattle.read_beside_writer.proofs.Places.{place_front, none_front}
use Rattle.read_beside_writer.proofs.Slots.{behind, front}
use Rattle.copy_before_write_laws.specs.Saves.{AreMoments, IsBetween, IsWithin}
use Rattle.copy_before_write_laws.proofs.Copies.{origin_saved}

some_other : {X : Type 0} (x y : X) → Some x ≡ Some y → x ≡ y
some_other x y e = cc

-- from one moment over another to a third
pub saved_after : (chunk : ℕ) (a b c : Files) → 0 < chunk → length b.origin ≡ length a.origin → IsSavedFirst chunk a b → IsSavedFirst chunk b c → IsSavedFirst chunk a c
saved_after chunk a b c pos long x y = record {
  grows = (let (more, first) = behind (pairs_of chunk a.store) (pairs_of chunk b.store) x.grows in
      let (rest, then) = behind (pairs_of chunk b.store) (pairs_of chunk c.store) y.grows in
      front (pairs_of chunk a.store) (pairs_of chunk c.store) (more ++ rest) (then ∙ ap (λ (l : List Pair). l ++ rest) first ∙ append_assoc (pairs_of chunk a.store) more rest));
  stays = λ n p i place lt. y.stays n p i (placed n p place) lt ∙ x.stays n p i place lt;
  copied = λ i p lt none place. by i p lt none place (place_of (pairs_of chunk b.store) (i / (512 * chunk))) refl;
  saved = λ i none. (let (rest, then) = behind (pairs_of chunk b.store) (pairs_of chunk c.store) y.grows in
      let before : place_of (pairs_of chunk b.store) (i / (512 * chunk)) ≡ None = none_front (pairs_of chunk b.store) rest (i / (512 * chunk)) (ap (λ (l : List Pair). place_of l (i / (512 * chunk))) (sym then) ∙ none) in
      y.saved i none ∙ x.saved i before);
} where
  placed : (n p : ℕ) → place_of (pairs_of chunk a.store) n ≡ Some p → place_of (pairs_of chunk b.store) n ≡ Some p
  placed n p place =
      let (more, first) = behind (pairs_of chunk a.store) (pairs_of chunk b.store) x.grows in
      ap (λ (l : List Pair). place_of l n) first ∙ place_front (pairs_of chunk a.store) more n p place

  later : (n p : ℕ) → place_of (pairs_of chunk b.store) n ≡ Some p → place_of (pairs_of chunk c.store) n ≡ Some p
  later n p place =
      let (rest, then) = behind (pairs_of chunk b.store) (pairs_of chunk c.store) y.grows in
      ap (λ (l : List Pair). place_of l n) then ∙ place_front (pairs_of chunk b.store) rest n p place

  by : (i p : ℕ) → i < length a.origin → place_of (pairs_of chunk a.store) (i / (512 * chunk)) ≡ None → place_of (pairs_of chunk c.store) (i / (512 * chunk)) ≡ Some p → (q : Option ℕ) → place_of (pairs_of chunk b.store) (i / (512 * chunk)) ≡ q
      → get_or c.store (512 * (chunk * p) + i % (512 * chunk)) 0 ≡ get_or a.origin i 0
  by i p lt none place None was = y.copied i p (omega (arith, lt, long)) was place ∙ x.saved i was
  by i p lt none place (Some q) was =
      let same : q ≡ p = some_other q p (sym (later (i / (512 * chunk)) q was) ∙ place) in
      let here : place_of (pairs_of chunk b.store) (i / (512 * chunk)) ≡ Some p = was ∙ ap Some same in
      y.stays (i / (512 * chunk)) p (i % (512 * chunk)) here (mod-lt i (omega (arith, pos))) ∙ x.copied i p lt none here

-- A history of which each moment saves what the one before it held, while the origin is as long, is that of a writer that saves first.
pub steps_saving : (chunk : ℕ) (files : ℕ → Files) → 0 < chunk → ((m : ℕ) → length (files (suc m)).origin ≡ length (files m).origin) → ((m : ℕ) → IsLive chunk (files (suc m)) → IsLive chunk (files m) × IsSavedFirst chunk (files m) (files (suc m))) → IsSaving chunk files
steps_saving chunk files pos long step before after le live = subst (λ n. IsLive chunk (files n) → IsLive chunk (files before) × IsSavedFirst chunk (files before) (files n)) (let e : after - before + before ≡ after = omega (arith, le) in e) (on (after - before)) live
  where
    on : (n : ℕ) → IsLive chunk (files (n + before)) → IsLive chunk (files before) × IsSavedFirst chunk (files before) (files (n + before))
    on zero live = (let e : 0 + before ≡ before = omega arith in
        (subst (λ k. IsLive chunk (files k)) e live, subst (λ k. IsSavedFirst chunk (files before) (files k)) (sym e) (origin_saved chunk (files before).origin (files before).origin (files before).store (λ i none. refl))))
    on (suc n) live =
        let e : suc n + before ≡ suc (n + before) = omega arith in
        let (was, last) = step (n + before) (subst (λ k. IsLive chunk (files k)) e live) in
        let (first, saved) = on n was in
        (first, subst (λ k. IsSavedFirst chunk (files before) (files k)) (sym e) (saved_after chunk (files before) (files (n + before)) (files (suc (n + before))) pos (lengths n) saved last))
      where
        lengths : (n : ℕ) → length (files (n + before)).origin ≡ length (files before).origin
        lengths zero = ap (λ k. length (files k).origin) (omega arith)
        lengths (suc n) = ap (λ k. length (files k).origin) (omega arith) ∙ long (n + before) ∙ lengths n

-- A moment of an event is its beginning, and one is its end.
pub begins : (sectors size : ℕ) (old new : Files) → length old.origin ≡ 512 * sectors → length old.store ≡ 512 * size → IsBetween sectors size old new old
begins sectors size old new origin store = record {
  origin = record { whole = origin; each = λ s lt. inl refl };
  store = record { whole = store; each = λ s lt. inl refl };
}

pub ends : (sectors size : ℕ) (old new : Files) → length new.origin ≡ 512 * sectors → length new.store ≡ 512 * size → IsBetween sectors size old new new
ends sectors size old new origin store = record {
  origin = record { whole = origin; each = λ s lt. inr refl };
  store = record { whole = store; each = λ s lt. inr refl };
}

-- The moments of a volume that runs are the history of a writer that saves first.
pub moments_saving : {B : Type 0} (contents : B → List ℕ) (layers : B → List Layer) (size : B → ℕ) (chunk : ℕ) (files : ℕ → Files) → 0 < chunk → AreMoments contents layers size chunk files → IsSaving chunk files
moments_saving contents layers size chunk files pos are = steps_saving chunk files pos (λ m. long m (are m)) (λ m live. step m live (are m))
  where
    long : (m : ℕ) → (files (suc m) ≡ files m) ⊎ IsWithin contents layers size chunk (files m) (files (suc m)) → length (files (suc m)).origin ≡ length (files m).origin
    long m (inl same) = ap (λ (f : Files). length f.origin) same
    long m (inr e) = e.rest.origin.whole ∙ sym e.first.origin.whole

    still : (a b : Files) → a ≡ b → IsLive chunk a → IsLive chunk b × IsSavedFirst chunk b a
    still a b is live = (subst (IsLive chunk) is live, subst (IsSavedFirst chunk b) (sym is) (origin_saved chunk b.origin b.origin b.store (λ i none. refl)))

    step : (m : ℕ) → IsLive chunk (files (suc m)) → (files (suc m) ≡ files m) ⊎ IsWithin contents layers size chunk (files m) (files (suc m)) → IsLive chunk (files m) × IsSavedFirst chunk (files m) (files (suc m))
    step m live (inl same) = still (files (suc m)) (files m) same live
    step m live (inr e) = subst (λ c. IsLive c (files m) × IsSavedFirst c (files m) (files (suc m))) e.chunk_is
        (e.saves.each e.place e.snap e.becomes e.within e.was e.is e.loud e.fresh e.unwritten (files m) (files (suc m)) e.first e.rest (subst (λ c. IsLive c (files (suc m))) (sym e.chunk_is) live))

-- A flush closes the sectors that every content takes from the device that was flushed: no fact of the volume is needed.
use Rattle.std.proofs.Common.{◌≡◌, ◌≢◌, ℕ, ◌*◌, ◌/◌, ◌<◌, List, length, take, arith, refl, ap, ◌∙◌, sym}
use Rattle.std.specs.Prelude.{Option, Some, None, true, false}
use Rattle.std.proofs.Math.Seq.{take-length}
use Rattle.std.proofs.lemmas.List.{ext_get_or}
use Rattle.sector.specs.Bytes.{sector_at}
use Rattle.sector.specs.declared.pair.Pair.{Pair}
use Rattle.cow_format.specs.Pairs.{pairs_of}
use Rattle.cow_format.specs.Picture.{place_of, picture}
use Rattle.cow_format.proofs.Pictures.{length-picture}
use Rattle.crash_laws.specs.Stop.{MayLeave}
use Rattle.crash_laws.specs.Firm.{IsFirm}
use Rattle.crash_laws.specs.Again.{IsOpen}
use Rattle.cache_loss_laws.specs.Closing.{Closes}
use Rattle.cache_loss_laws.specs.Kept.{Kept, IsThere, SnapLasts}
use Rattle.cache_loss_laws.proofs.Parts.{byte_same_sector, from_bytes, picture_byte}
use Rattle.crash_laws.proofs.Open.{sector_plain}

-- a device that was flushed is left with what is there
pub firm_same : (holds : ℕ → List ℕ → Type 0) (now b : List ℕ) (size : ℕ) → length now ≡ 512 * size → IsFirm holds now size → MayLeave holds size b → b ≡ now
firm_same holds now b size len firm left = let whole = left.whole in ext_get_or 0 b now (left.whole ∙ sym len)
    (λ i lt. let inside : i / 512 < size = omega arith in byte_same_sector b now (i / 512) i (firm (i / 512) inside (sector_at b (i / 512)) (left.each (i / 512) inside)) (omega arith) (omega arith))

-- a sector that is taken from the store does not change with the origin disk
of_store : (chunk sectors s : ℕ) (o o' c : List ℕ) (x : Option ℕ) → 0 < chunk → length o ≡ 512 * sectors → length o' ≡ 512 * sectors → s < sectors → place_of (pairs_of chunk c) (s / chunk) ≡ x → place_of (pairs_of chunk c) (s / chunk) ≢ None → sector_at (picture chunk o c) s ≡ sector_at (picture chunk o' c) s
of_store chunk sectors s o o' c None pos lo lo' lt at ne = absurd (ne at)
of_store chunk sectors s o o' c (Some n) pos lo lo' lt at ne =
    from_bytes (picture chunk o c) (picture chunk o' c) s s sectors sectors (length-picture chunk o c ∙ lo) (length-picture chunk o' c ∙ lo') lt lt
    (λ r small. picture_byte chunk sectors s r o c (pairs_of chunk c) (Some n) pos lo lt small refl at ∙ sym (picture_byte chunk sectors s r o' c (pairs_of chunk c) (Some n) pos lo' lt small refl at))

pub store_closes : (chunk sectors size : ℕ) (oh sh : ℕ → List ℕ → Type 0) (o c : List ℕ) → 0 < chunk → MayLeave oh sectors o → MayLeave sh size c → IsFirm sh c size → Closes true chunk oh sh sectors size o c
store_closes chunk sectors size oh sh o c pos lo lc firm s v lt taken shown =
    shown.is ∙ ap (λ z. sector_at (picture chunk shown.origin z) s) (firm_same sh c shown.store size lc.whole firm shown.store_left)
    ∙ of_store chunk sectors s shown.origin o c (place_of (pairs_of chunk c) (s / chunk)) pos shown.origin_left.whole lo.whole lt refl (taken o c lo lc)

pub origin_closes : (chunk sectors size : ℕ) (oh sh : ℕ → List ℕ → Type 0) (o c : List ℕ) → 0 < chunk → MayLeave oh sectors o → MayLeave sh size c → IsFirm oh o sectors → Closes false chunk oh sh sectors size o c
origin_closes chunk sectors size oh sh o c pos lo lc firm s v lt taken shown =
    shown.is ∙ sector_plain chunk sectors s shown.origin shown.store (pairs_of chunk shown.store) pos shown.origin_left.whole lt refl (taken shown.origin shown.store shown.origin_left shown.store_left)
    ∙ ap (λ z. sector_at z s) (firm_same oh o shown.origin sectors lo.whole firm shown.origin_left)
    ∙ sym (sector_plain chunk sectors s o c (pairs_of chunk c) pos lo.whole lt refl (taken o c lo lc))

-- Where both devices were flushed, as after an attach, no value of the array is open but the present one.
pub both_close : (chunk sectors size : ℕ) (oh sh : ℕ → List ℕ → Type 0) (o c : List ℕ) → MayLeave oh sectors o → MayLeave sh size c → IsFirm oh o sectors → IsFirm sh c size → (s : ℕ) (v : List ℕ) → IsOpen chunk oh sh sectors size s v → v ≡ sector_at (picture chunk o c) s
both_close chunk sectors size oh sh o c lo lc firm_o firm_s s v shown =
    shown.is ∙ ap (λ z. sector_at (picture chunk shown.origin z) s) (firm_same sh c shown.store size lc.whole firm_s shown.store_left)
    ∙ ap (λ z. sector_at (picture chunk z c) s) (firm_same oh o shown.origin sectors lo.whole firm_o shown.origin_left)

-- A live snapshot whose store was flushed, all of whose pairs are then surely in its list: in no sector at all is a value open but
-- the present one.
pub snap_closes_all : (oh sh : ℕ → List ℕ → Type 0) (o c : List ℕ) (ready : Pair → Type 0) (v : Kept) → IsThere oh sh o c ready v → SnapLasts oh sh o c ready v → v.sure ≡ length v.pairs → IsFirm sh c v.size
    → (s : ℕ) (x : List ℕ) → s < v.sectors → IsOpen v.chunk oh sh v.sectors v.size s x → x ≡ sector_at (picture v.chunk o c) s
snap_closes_all oh sh o c ready v t h sure firm s x lt shown =
    shown.is ∙ ap (λ z. sector_at (picture v.chunk shown.origin z) s) (firm_same sh c shown.store v.size t.store_now.whole firm shown.store_left)
    ∙ by (place_of v.pairs (s / v.chunk)) refl
  where
    by : (p : Option ℕ) → place_of v.pairs (s / v.chunk) ≡ p → sector_at (picture v.chunk shown.origin c) s ≡ sector_at (picture v.chunk o c) s
    by (Some n) at = from_bytes (picture v.chunk shown.origin c) (picture v.chunk o c) s s v.sectors v.sectors (length-picture v.chunk shown.origin c ∙ shown.origin_left.whole) (length-picture v.chunk o c ∙ t.disk_now.whole) lt lt
        (λ r small. picture_byte v.chunk v.sectors s r shown.origin c v.pairs (Some n) t.some shown.origin_left.whole lt small t.listed at ∙ sym (picture_byte v.chunk v.sectors s r o c v.pairs (Some n) t.some t.disk_now.whole lt small t.listed at))
    by None at =
        sector_plain v.chunk v.sectors s shown.origin c v.pairs t.some shown.origin_left.whole lt t.listed at
        ∙ h.disk s lt (ap (λ z. place_of z (s / v.chunk)) (ap (λ k. take k v.pairs) sure ∙ take-length v.pairs) ∙ at) (sector_at shown.origin s) (shown.origin_left.each s lt)
        ∙ sym (sector_plain v.chunk v.sectors s o c v.pairs t.some t.disk_now.whole lt t.listed at)

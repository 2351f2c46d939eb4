-- Each sector of the picture over contents that may be left is one that may be shown.
use Rattle.std.proofs.Common.{◌≡◌, inl, inr, ℕ, ◌+◌, ◌*◌, ◌/◌, ◌%◌, ◌<◌, ◌≤◌, List, [], ◌∷◌, ◌++◌, length, take, drop, get_or, arith, refl, ap, ◌∙◌, sym, subst, length-take, length-drop}
use Rattle.std.specs.Prelude.{Option, Some, None, ◌==◌}
use Rattle.std.proofs.lemmas.Bool.{cases_Bool, cond-true, cond-false}
use Rattle.std.proofs.lemmas.List.{take-take, take-append-drop, ext_get_or}
use Rattle.sector.specs.Bytes.{sector_at}
use Rattle.sector.proofs.Sectors.{byte_read}
use Rattle.sector.specs.declared.pair.Pair.{Pair}
use Rattle.cow_format.specs.Pairs.{pairs_of}
use Rattle.cow_format.specs.Picture.{place_of, byte_of, picture_at, picture}
use Rattle.cow_format.proofs.Pictures.{length-picture, get_or-picture}
use Rattle.crash_laws.specs.Stop.{MayLeave}
use Rattle.crash_laws.specs.Open.{MayShowAt, MayShow}
use Rattle.crash_laws.proofs.Sectors.{sector_chunk}

-- a look-up in a beginning of a list
place_longer : (xs ys : List Pair) (c n : ℕ) → place_of xs c ≡ Some n → place_of (xs ++ ys) c ≡ Some n
place_longer [] ys c n e = cc
place_longer (x ∷ xs) ys c n e = elim (cases_Bool (x.old == c)) [
  | inl t ↦ cond-true _ _ _ t ∙ sym (cond-true _ _ _ t) ∙ e
  | inr f ↦ cond-false _ _ _ f ∙ place_longer xs ys c n (sym (cond-false _ _ _ f) ∙ e)
]

place_first : (m : ℕ) (xs : List Pair) (c n : ℕ) → place_of (take m xs) c ≡ Some n → place_of xs c ≡ Some n
place_first m xs c n e = ap (λ z. place_of z c) (sym (take-append-drop m xs)) ∙ place_longer (take m xs) (drop m xs) c n e

place_less : (k m : ℕ) (xs : List Pair) (c n : ℕ) → k ≤ m → place_of (take k xs) c ≡ Some n → place_of (take m xs) c ≡ Some n
place_less k m xs c n le e = place_first k (take m xs) c n (ap (λ z. place_of z c) (take-take k m xs le) ∙ e)

-- a sector of the picture
length_sector : (x : List ℕ) (s size : ℕ) → length x ≡ 512 * size → s < size → length (sector_at x s) ≡ 512
length_sector x s size whole lt = simp (length-take, length-drop) (omega arith)

from_bytes : (a b : List ℕ) (s t n m : ℕ) → length a ≡ 512 * n → length b ≡ 512 * m → s < n → t < m → ((r : ℕ) → r < 512 → get_or a (512 * s + r) 0 ≡ get_or b (512 * t + r) 0) → sector_at a s ≡ sector_at b t
from_bytes a b s t n m la lb ls lt same =
    let x = length_sector a s n la ls in
    let y = length_sector b t m lb lt in
    ext_get_or 0 _ _ (x ∙ sym y) (λ k h. let short : k < 512 = omega arith in byte_read a s 1 k (omega arith) ∙ same k short ∙ sym (byte_read b t 1 k (omega arith)))

picture_byte : (chunk sectors s r : ℕ) (o c : List ℕ) (ps : List Pair) (x : Option ℕ) → 0 < chunk → length o ≡ 512 * sectors → s < sectors → r < 512 → pairs_of chunk c ≡ ps → place_of ps (s / chunk) ≡ x → get_or (picture chunk o c) (512 * s + r) 0 ≡ byte_of chunk o c (512 * s + r) x
picture_byte chunk sectors s r o c ps x pos lo ls lr is at =
    get_or-picture chunk o c (512 * s + r) (omega arith) ∙ ap (λ z. picture_at chunk o c z (512 * s + r)) is
    ∙ ap (byte_of chunk o c (512 * s + r)) (ap (place_of ps) (sector_chunk chunk s r pos lr).0 ∙ at)

pub sector_plain : (chunk sectors s : ℕ) (o c : List ℕ) (ps : List Pair) → 0 < chunk → length o ≡ 512 * sectors → s < sectors → pairs_of chunk c ≡ ps → place_of ps (s / chunk) ≡ None → sector_at (picture chunk o c) s ≡ sector_at o s
sector_plain chunk sectors s o c ps pos lo ls is at =
    from_bytes _ _ s s sectors sectors (length-picture chunk o c ∙ lo) lo ls ls (λ r lr. picture_byte chunk sectors s r o c ps None pos lo ls lr is at)

pub sector_copied : (chunk sectors size s n : ℕ) (o c : List ℕ) (ps : List Pair) → 0 < chunk → length o ≡ 512 * sectors → length c ≡ 512 * size → s < sectors → chunk * n + s % chunk < size → pairs_of chunk c ≡ ps → place_of ps (s / chunk) ≡ Some n → sector_at (picture chunk o c) s ≡ sector_at c (chunk * n + s % chunk)
sector_copied chunk sectors size s n o c ps pos lo lc ls inside is at =
    from_bytes _ _ s (chunk * n + s % chunk) sectors size (length-picture chunk o c ∙ lo) lc ls inside
    (λ r lr. picture_byte chunk sectors s r o c ps (Some n) pos lo ls lr is at ∙ ap (λ z. get_or c z 0) (let h = (sector_chunk chunk s r pos lr).1 in omega arith))

-- all cases of a chunk's place: surely, perhaps, or not at all; and by the pairs that are there
shown_by : (origin_holds store_holds : ℕ → List ℕ → Type 0) (chunk certain m sectors size s : ℕ) (pairs : List Pair) (o c : List ℕ) (sure maybe here : Option ℕ) → 0 < chunk → certain ≤ m → MayLeave origin_holds sectors o → MayLeave store_holds size c → pairs_of chunk c ≡ take m pairs → s < sectors →
    ((n : ℕ) → place_of pairs (s / chunk) ≡ Some n → chunk * n + s % chunk < size) → place_of (take certain pairs) (s / chunk) ≡ sure → place_of pairs (s / chunk) ≡ maybe → place_of (take m pairs) (s / chunk) ≡ here →
    MayShowAt origin_holds store_holds chunk s sure maybe (sector_at (picture chunk o c) s)
shown_by oh sh chunk certain m sectors size s pairs o c (Some n) maybe here pos le lo lc is ls inside es em eh =
    let there = place_less certain m pairs (s / chunk) n le es in
    let fits = inside n (place_first certain pairs (s / chunk) n es) in
    subst (sh (chunk * n + s % chunk)) (sym (sector_copied chunk sectors size s n o c (take m pairs) pos lo.whole lc.whole ls fits is there)) (lc.each _ fits)
shown_by oh sh chunk certain m sectors size s pairs o c None None None pos le lo lc is ls inside es em eh =
    subst (oh s) (sym (sector_plain chunk sectors s o c (take m pairs) pos lo.whole ls is eh)) (lo.each s ls)
shown_by oh sh chunk certain m sectors size s pairs o c None None (Some k) pos le lo lc is ls inside es em eh =
    let no : Some k ≡ None = sym (place_first m pairs (s / chunk) k eh) ∙ em in cc
shown_by oh sh chunk certain m sectors size s pairs o c None (Some n) None pos le lo lc is ls inside es em eh =
    inr (subst (oh s) (sym (sector_plain chunk sectors s o c (take m pairs) pos lo.whole ls is eh)) (lo.each s ls))
shown_by oh sh chunk certain m sectors size s pairs o c None (Some n) (Some k) pos le lo lc is ls inside es em eh =
    let same : k ≡ n = (let e : Some k ≡ Some n = sym (place_first m pairs (s / chunk) k eh) ∙ em in cc) in
    let fits = inside k (place_first m pairs (s / chunk) k eh) in
    inl (subst (λ x. sh (chunk * x + s % chunk) (sector_at (picture chunk o c) s)) same
    (subst (sh (chunk * k + s % chunk)) (sym (sector_copied chunk sectors size s k o c (take m pairs) pos lo.whole lc.whole ls fits is eh)) (lc.each _ fits)))

-- Each sector of the picture over contents that may be left.
pub may_show : (origin_holds store_holds : ℕ → List ℕ → Type 0) (chunk certain m sectors size s : ℕ) (pairs : List Pair) (o c : List ℕ) → 0 < chunk → certain ≤ m → MayLeave origin_holds sectors o → MayLeave store_holds size c → pairs_of chunk c ≡ take m pairs → s < sectors →
    ((n : ℕ) → place_of pairs (s / chunk) ≡ Some n → chunk * n + s % chunk < size) → MayShow origin_holds store_holds chunk certain pairs s (sector_at (picture chunk o c) s)
may_show oh sh chunk certain m sectors size s pairs o c pos le lo lc is ls inside =
    shown_by oh sh chunk certain m sectors size s pairs o c _ _ _ pos le lo lc is ls inside refl refl refl

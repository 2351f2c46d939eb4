-- A slot in the sector that holds it; and what a slot tells of the list of pairs.
use Rattle.std.proofs.Common.{◌≡◌, ◌≢◌, ℕ, suc, ◌+◌, ◌*◌, ◌/◌, ◌%◌, ◌<◌, ◌≤◌, List, [], ◌∷◌, ◌++◌, length, take, drop, get_or, Option, None, Some, IfSome, refl, arith, ap, ◌∙◌, sym, length-append, append_assoc, append-nil}
use Rattle.std.proofs.Math.Nat.{div-add-mod', mod-lt, div-lt_iff_lt-mul}
use Rattle.std.proofs.lemmas.List.{take-append-drop, take_at}
use Rattle.sector.specs.Bytes.{sector_at, sectors_at}
use Rattle.sector.proofs.Numbers.{moved_number}
use Rattle.sector.specs.Number.{number_at}
use Rattle.sector.specs.declared.pair.Pair.{Pair}
use Rattle.cow_format.specs.Slots.{pair_in}
use Rattle.cow_format.specs.Places.{area_place, slot}
use Rattle.cow_format.specs.Pairs.{pairs_of}
use Rattle.cow_format.proofs.Slots.{IsListed-pairs}
use Rattle.cow_image.proofs.Shown.{byte_got}
use Rattle.read_beside_writer.specs.Moments.{Files, IsReadOnce}

number_in : (b : List ℕ) (first s sector count at : ℕ) → sector ≡ first + s → s < count → at + 8 ≤ 512 → number_at (sector_at b sector) at 8 ≡ number_at (sectors_at b first count) (512 * s + at) 8
number_in b first s sector count at is inside fits = moved_number (sector_at b sector) (sectors_at b first count) at (512 * s) 8 (λ i low high.
    (let here : 512 * sector + i ≡ 512 * first + (512 * s + i) = omega arith in
    byte_got b (512 * sector) 512 i (omega arith) ∙ ap (λ (n : ℕ). get_or b n 0) here ∙ sym (byte_got b (512 * first) (512 * count) (512 * s + i) (omega arith))))

pair_there : (b : List ℕ) (first s sector count j k : ℕ) → sector ≡ first + s → s < count → j < 32 → k ≡ 32 * s + j → pair_in (sector_at b sector) j ≡ pair_in (sectors_at b first count) k
pair_there b first s sector count j k is inside less at =
    let old : number_at (sector_at b sector) (16 * j) 8 ≡ number_at (sectors_at b first count) (16 * k) 8 =
    number_in b first s sector count (16 * j) is inside (omega arith) ∙ ap (λ (n : ℕ). number_at (sectors_at b first count) n 8) (omega arith) in
    let new : number_at (sector_at b sector) (16 * j + 8) 8 ≡ number_at (sectors_at b first count) (16 * k + 8) 8 =
    number_in b first s sector count (16 * j + 8) is inside (omega arith) ∙ ap (λ (n : ℕ). number_at (sectors_at b first count) n 8) (omega arith) in
    rw (old, new) refl

-- the slot of a number, in its sector
pub slot_there : (chunk : ℕ) (b : List ℕ) (number sector : ℕ) → 0 < chunk → sector ≡ chunk * (number / (32 * chunk) * (32 * chunk + 1) + 1) + number % (32 * chunk) / 32 → pair_in (sector_at b sector) (number % (32 * chunk) % 32) ≡ slot chunk b number
slot_there chunk b number sector some is =
    let inside = number % (32 * chunk) in
    let less : inside < 32 * chunk = mod-lt number (omega arith) in
    let split : inside / 32 * 32 + inside % 32 ≡ inside = div-add-mod' inside 32 in
    pair_there b (chunk * area_place chunk (number / (32 * chunk))) (inside / 32) sector chunk (inside % 32) inside is ((div-lt_iff_lt-mul (omega arith)).1 (omega arith)) (mod-lt inside (omega arith)) (omega arith)

-- a front of a list, and what comes behind it
pub behind : (ps qs : List Pair) → take (length ps) qs ≡ ps → (more : List Pair) × (qs ≡ ps ++ more)
behind ps qs is = (drop (length ps) qs, sym (take-append-drop (length ps) qs) ∙ ap (λ (l : List Pair). l ++ drop (length ps) qs) is)

pub front : (ps qs more : List Pair) → qs ≡ ps ++ more → take (length ps) qs ≡ ps
front ps qs more is = ap (take (length ps)) is ∙ take_at ps more (length ps) refl

-- a slot that is in use, behind pairs that are known
pub one_more : (chunk : ℕ) (b : List ℕ) (ps : List Pair) (x : Pair) → 0 < chunk → (more : List Pair) × (pairs_of chunk b ≡ ps ++ more) → x ≡ slot chunk b (length ps) → x.new ≢ 0 → (more : List Pair) × (pairs_of chunk b ≡ (ps ++ x ∷ []) ++ more)
one_more chunk b ps x some ([], is) here used =
    let listed = IsListed-pairs chunk b some in
    let end : length (pairs_of chunk b) ≡ length ps = ap length (is ∙ append-nil ps) in
    let empty : (slot chunk b (length ps)).new ≡ 0 = ap (λ (n : ℕ). (slot chunk b n).new) (sym end) ∙ listed.ends in
    absurd (used (ap (λ (p : Pair). p.new) here ∙ empty))
one_more chunk b ps x some (y ∷ more, is) here used =
    let listed = IsListed-pairs chunk b some in
    let long : length (pairs_of chunk b) ≡ length ps + suc (length more) = ap length is ∙ length-append ps (y ∷ more) in
    let at : get_or (pairs_of chunk b) (length ps) x ≡ y = ap (λ (l : List Pair). get_or l (length ps) x) is ∙ here_in ps y more x in
    let same : x ≡ y = here ∙ listed.each (length ps) x (omega arith) ∙ at in
    (more, is ∙ ap (λ (p : Pair). ps ++ p ∷ more) (sym same) ∙ sym (append_assoc ps (x ∷ []) more))
  where
    here_in : (ps : List Pair) (y : Pair) (more : List Pair) (d : Pair) → get_or (ps ++ y ∷ more) (length ps) d ≡ y
    here_in [] y more d = refl
    here_in (p ∷ ps) y more d = here_in ps y more d

-- a slot that is empty
pub none_more : (chunk : ℕ) (b : List ℕ) (ps : List Pair) (x : Pair) → 0 < chunk → (more : List Pair) × (pairs_of chunk b ≡ ps ++ more) → x ≡ slot chunk b (length ps) → x.new ≡ 0 → pairs_of chunk b ≡ ps
none_more chunk b ps x some ([], is) here empty = is ∙ append-nil ps
none_more chunk b ps x some (y ∷ more, is) here empty =
    let listed = IsListed-pairs chunk b some in
    let long : length (pairs_of chunk b) ≡ length ps + suc (length more) = ap length is ∙ length-append ps (y ∷ more) in
    absurd (listed.valid (length ps) (omega arith) (ap (λ (p : Pair). p.new) (sym here) ∙ empty))

-- what was read of a slot's sector tells the slot at that moment
pub slot_in : (history : Option (ℕ → Files)) (first last chunk number sector : ℕ) (bytes : List ℕ) (pair : Pair) → 0 < chunk → sector ≡ chunk * (number / (32 * chunk) * (32 * chunk + 1) + 1) + number % (32 * chunk) / 32 → pair ≡ pair_in bytes (number % (32 * chunk) % 32) → IfSome history (λ h. IsReadOnce (λ m. (h m).store) first last sector bytes) → IfSome history (λ h. (m : ℕ) × (first ≤ m) × (m ≤ last) × (pair ≡ slot chunk (h m).store number))
slot_in None first last chunk number sector bytes pair some is here read = tt
slot_in (Some h) first last chunk number sector bytes pair some is here (m, low, high, read) = (m, low, high, here ∙ ap (λ (l : List ℕ). pair_in l (number % (32 * chunk) % 32)) read ∙ slot_there chunk (h m).store number sector some is)

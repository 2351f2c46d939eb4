-- Sectors of a picture, as they are read from the disks.
use Rattle.std.proofs.Common.{◌≡◌, ℕ, ◌+◌, ◌*◌, ◌-◌, ◌/◌, ◌%◌, ◌<◌, ◌≤◌, List, length, get_or, refl, ap, ◌∙◌, sym, subst, arith, length-take, length-drop, length-append, ◌++◌, inl, inr}
use Rattle.std.specs.Prelude.{Option, Some, None}
use Rattle.std.specs.List.{All}
use Rattle.std.proofs.lemmas.List.{places, ext_get_or, get_or_append_left}
use borrow.Rule.Slice.PartMut.{put_mid}
use Rattle.std.proofs.lemmas.Bool.{cases_lt}
use Rattle.sector.specs.Bytes.{sectors_at}
use Rattle.sector.proofs.Sectors.{byte_read}
use Rattle.sector.specs.declared.pair.Pair.{Pair}
use Rattle.cow_format.specs.Pairs.{pairs_of, IsInside}
use Rattle.cow_format.specs.Picture.{place_of, picture, picture_at}
use Rattle.chunk.proofs.PiecePlaces.{piece_high}
use Rattle.cow_format.proofs.Pictures.{picture-plain, picture-written, length-picture, get_or-picture, place_found}

length-sectors_of : (b : List ℕ) (first count : ℕ) → 512 * (first + count) ≤ length b → length (sectors_at b first count) ≡ 512 * count
length-sectors_of b first count fits = simp (length-take, length-drop) (omega arith)

-- two runs of as many sectors are one, by their bytes
pub same_sectors : (a b : List ℕ) (f g count : ℕ) → 512 * (f + count) ≤ length a → 512 * (g + count) ≤ length b → ((k : ℕ) → k < 512 * count → get_or a (512 * f + k) 0 ≡ get_or b (512 * g + k) 0) → sectors_at a f count ≡ sectors_at b g count
same_sectors a b f g count fits fits' same =
    let len = length-sectors_of a f count fits in
    let len' = length-sectors_of b g count fits' in
    ext_get_or 0 _ _ (len ∙ sym len') (λ k lt. let short : k < 512 * count = omega arith in byte_read a f count k short ∙ same k short ∙ sym (byte_read b g count k short))

-- a sector's place in its chunk
pub at_place : (chunk first : ℕ) → first ≡ chunk * (first / chunk) + first % chunk
at_place chunk first = omega arith

-- sectors of a chunk without a copy are read from the origin
pub shown_plain : (chunk first count : ℕ) (disk store : List ℕ) → 0 < chunk → place_of (pairs_of chunk store) (first / chunk) ≡ None → first % chunk + count ≤ chunk → 512 * (first + count) ≤ length disk → sectors_at disk first count ≡ sectors_at (picture chunk disk store) first count
shown_plain chunk first count disk store pos none fits inside =
    let whole = length-picture chunk disk store in
    let at : chunk * (first / chunk) + first % chunk ≡ first = sym (at_place chunk first) in
    same_sectors disk (picture chunk disk store) first first count inside (omega arith)
    (λ k lt. sym (get_or-picture chunk disk store (512 * first + k) (omega arith)
    ∙ ap (λ n. picture_at chunk disk store (pairs_of chunk store) (512 * n + k)) (sym at)
    ∙ picture-plain chunk (first / chunk) (first % chunk) count disk store (pairs_of chunk store) pos none fits k lt
    ∙ ap (λ n. get_or disk (512 * n + k) 0) at))

-- those of a chunk that has its copy from the store
pub shown_copied : (chunk first count n : ℕ) (disk store : List ℕ) → 0 < chunk → place_of (pairs_of chunk store) (first / chunk) ≡ Some n → first % chunk + count ≤ chunk → 512 * (first + count) ≤ length disk → 512 * (chunk * (n + 1)) ≤ length store → sectors_at store (chunk * n + first % chunk) count ≡ sectors_at (picture chunk disk store) first count
shown_copied chunk first count n disk store pos some fits inside room =
    let whole = length-picture chunk disk store in
    let at : chunk * (first / chunk) + first % chunk ≡ first = sym (at_place chunk first) in
    let end : chunk * (n + 1) ≡ chunk * n + chunk = grind arith in
    same_sectors store (picture chunk disk store) (chunk * n + first % chunk) first count (omega arith) (omega arith)
    (λ k lt. sym (get_or-picture chunk disk store (512 * first + k) (omega arith)
    ∙ ap (λ m. picture_at chunk disk store (pairs_of chunk store) (512 * m + k)) (sym at)
    ∙ picture-written chunk (first / chunk) n (first % chunk) count disk store (sectors_at store (chunk * n + first % chunk) count) (pairs_of chunk store) pos some fits refl k lt
    ∙ byte_read store (chunk * n + first % chunk) count k lt))

-- a place of a pair lies inside the store
pub place_inside : (chunk origin size c n : ℕ) (ps : List Pair) → All (IsInside chunk origin size) ps → place_of ps c ≡ Some n → chunk * (n + 1) ≤ size
place_inside chunk origin size c n ps inside some =
    let (k, lt, at) = place_found ps c n some in
    let d : Pair = record { old = 0; new = 0 } in
    subst (λ (x : ℕ). chunk * (x + 1) ≤ size) (at d).1 (inside k d lt).new

-- a piece of one chunk
pub one_chunk : (chunk first count : ℕ) → 0 < chunk → 0 < count → (first + count - 1) / chunk ≡ first / chunk → first % chunk + count ≤ chunk
one_chunk chunk first count pos some one =
    let at = at_place chunk first in
    let high = piece_high chunk first count pos some one in
    omega arith

-- where a store has the copy of a piece's chunk
pub listed_place : (chunk g first : ℕ) (store : List ℕ) (ps : List Pair) (o r : Option ℕ) → pairs_of chunk store ≡ ps → g ≡ chunk → o ≡ place_of ps (first / g) → o ≡ r → place_of (pairs_of chunk store) (first / chunk) ≡ r
listed_place chunk g first store ps o r listed same asked is = ap (λ q. place_of q (first / chunk)) listed ∙ ap (λ x. place_of ps (first / x)) (sym same) ∙ sym asked ∙ is

-- facts of the first of two lists
pub all_front : {X : Type 0} (P : X → Type 0) (xs ys : List X) → All P (xs ++ ys) → All P xs
all_front P xs ys all = λ k d lt. subst P (get_or_append_left xs ys d k lt) (all k d (omega (arith, length-append xs ys)))

-- a piece lies in one chunk, also by the store's size of it
pub one_of : (g chunk first count : ℕ) → 0 < chunk → g ≡ chunk → 0 < count → (first + count - 1) / g ≡ first / g → first % chunk + count ≤ chunk
one_of g chunk first count pos same some one = one_chunk chunk first count pos some (sym (ap (λ x. (first + count - 1) / x) same) ∙ one ∙ ap (λ x. first / x) same)

-- bytes that were read into their place in a buffer
pub read_next : (from first pfirst pcount : ℕ) (out part pic : List ℕ) → from + pcount * 512 ≤ length out → part ≡ sectors_at pic pfirst pcount → length part ≡ pcount * 512 → 512 * pfirst ≡ 512 * first + from → ((k : ℕ) → k < from → get_or out k 0 ≡ get_or pic (512 * first + k) 0) → (k : ℕ) → k < from + pcount * 512 → get_or (put_mid from (from + pcount * 512 - from) out part) k 0 ≡ get_or pic (512 * first + k) 0
read_next from first pfirst pcount out part pic fits is len place done k lt = elim (cases_lt k from) [
  | inl below ↦ kept from (from + pcount * 512 - from) out part k (omega arith) (omega arith) below ∙ done k below
  | inr above ↦ (let at : k ≡ from + (k - from) = omega arith in
      ap (λ n. get_or (put_mid from (from + pcount * 512 - from) out part) n 0) at
      ∙ put from (from + pcount * 512 - from) out part (k - from) (omega arith) (omega arith) (omega arith)
      ∙ ap (λ b. get_or b (k - from) 0) is ∙ byte_read pic pfirst pcount (k - from) (omega arith) ∙ ap (λ n. get_or pic n 0) (omega arith))
]
  where
    kept : (a n : ℕ) (xs ys : List ℕ) (i : ℕ) → a + n ≤ length xs → length ys ≡ n → i < a → get_or (put_mid a n xs ys) i 0 ≡ get_or xs i 0
    kept a n xs ys i fits len lt = grind (arith, places)

    put : (a n : ℕ) (xs ys : List ℕ) (i : ℕ) → a + n ≤ length xs → length ys ≡ n → i < n → get_or (put_mid a n xs ys) (a + i) 0 ≡ get_or ys i 0
    put a n xs ys i fits len lt = grind (arith, places)

-- a buffer with all of a run's bytes
pub read_all : (from first count : ℕ) (out pic : List ℕ) → from ≡ 512 * count → length out ≡ 512 * count → 512 * (first + count) ≤ length pic → ((k : ℕ) → k < from → get_or out k 0 ≡ get_or pic (512 * first + k) 0) → out ≡ sectors_at pic first count
read_all from first count out pic end room inside done =
    let len = length-sectors_of pic first count inside in
    ext_get_or 0 _ _ (room ∙ sym len) (λ k lt. done k (omega arith) ∙ sym (byte_read pic first count k (omega arith)))

-- Bytes of arrays.
use Rattle.std.proofs.Common.{◌≡◌, ℕ, zero, suc, ◌+◌, ◌-◌, ◌*◌, ◌/◌, ◌<◌, ◌≤◌, List, [], ◌++◌, length, take, drop, get_or, Option, None, Some, Bool, false, IfSome, refl, arith, ap, ◌∙◌, sym, subst, zero-add, drop_at, inl, inr}
use Rattle.std.proofs.Math.Seq.{take-append_seam}
use Rattle.std.proofs.lemmas.List.FromFn.{length-map-range_with_len, get_or-map-range_with_len}
use Rattle.std.specs.Option.{is_some}
use Rattle.sector.specs.declared.pair.Pair.{Pair}
use Rattle.cow_format.specs.Picture.{place_of, byte_of, picture_at}
use Rattle.cow_image.specs.Shown.{shown}
use Rattle.cow_image.specs.Fails.{ShownFails}
use Rattle.cow_image.proofs.Exports.{shown_parts}
use Rattle.cow_image.proofs.Fails.{shown_calm}
use Rattle.cow_nbd.specs.Shows.{has_copy, TellsChanges, known_shown, known_at, arrays, FailsAt, FailsFresh, OrChanged, IsServedBy}
use Rattle.nbd_read_session.proofs.Calm.{talk_calm}
use Rattle.nbd_read_session.specs.Talk.{beginning}

-- a part of what is shown
pub shown_part : (chunk : ℕ) (o b : List ℕ) (ps : List Pair) (at n end : ℕ) → at + n ≤ end → shown chunk o b ps at n ≡ take n (drop at (shown chunk o b ps 0 end))
shown_part chunk o b ps at n end inside =
    let front = shown chunk o b ps 0 at in
    let here = shown chunk o b ps at n in
    let left = end - (at + n) in
    let rest = shown chunk o b ps (at + n) left in
    let front_len : length front ≡ at = length-map-range_with_len (picture_at chunk o b ps) 0 at in
    let here_len : length here ≡ n = length-map-range_with_len (picture_at chunk o b ps) at n in
    let all : at + (n + left) ≡ end = omega arith in
    let behind : shown chunk o b ps at (n + left) ≡ here ++ rest = shown_parts chunk o b ps at n left in
    let whole : shown chunk o b ps 0 end ≡ front ++ (here ++ rest) =
    ap (shown chunk o b ps 0) (sym all) ∙ shown_parts chunk o b ps 0 at (n + left) ∙ ap (λ k. front ++ shown chunk o b ps k (n + left)) (zero-add at) ∙ ap (λ l. front ++ l) behind in
    sym (ap (λ l. take n (drop at l)) whole ∙ ap (take n) (drop_at front (here ++ rest) at front_len) ∙ take_here here rest n here_len)
  where
    take_here : (xs ys : List ℕ) (n : ℕ) → length xs ≡ n → take n (xs ++ ys) ≡ xs
    take_here xs ys n len = ap (λ k. take k (xs ++ ys)) (sym len) ∙ take-append_seam xs ys

-- what was read is a part of the array
pub snapshot_read : (chunk : ℕ) (ps : List Pair) (size at n : ℕ) (origin store : Option (List ℕ)) (out : List ℕ) → at + n ≤ 512 * size → ((o b : List ℕ) → origin ≡ Some o → store ≡ Some b → out ≡ shown chunk o b ps at n) → IfSome (known_shown chunk ps size origin store) (λ bytes. out ≡ take n (drop at bytes))
snapshot_read chunk ps size at n None store out inside read = tt
snapshot_read chunk ps size at n (Some o) None out inside read = tt
snapshot_read chunk ps size at n (Some o) (Some b) out inside read = read o b refl refl ∙ shown_part chunk o b ps at n (512 * size) inside

-- the arrays stay where the images do
pub same_arrays : (chunk : ℕ) (ps : List Pair) (size : ℕ) (o o' c c' : Option (List ℕ)) → o' ≡ o → c' ≡ c → (k : ℕ) → known_at chunk ps size o' c' k ≡ known_at chunk ps size o c k
same_arrays chunk ps size o o' c c' same same' k = ap (λ x. known_at chunk ps size x c' k) same ∙ ap (λ x. known_at chunk ps size o x k) same'

-- both arrays are known where both images are
pub known_both : (chunk : ℕ) (ps : List Pair) (size : ℕ) (origin store : Option (List ℕ)) (o b : List ℕ) → origin ≡ Some o → store ≡ Some b → (k : ℕ) → known_at chunk ps size origin store k ≡ Some (arrays (shown chunk o b ps 0 (512 * size)) o (has_copy chunk ps) k)
known_both chunk ps size origin store o b is is' k = same_arrays chunk ps size (Some o) origin (Some b) store is is' k ∙ both k
  where
    both : (k : ℕ) → known_at chunk ps size (Some o) (Some b) k ≡ Some (arrays (shown chunk o b ps 0 (512 * size)) o (has_copy chunk ps) k)
    both zero = refl
    both (suc k) = refl

-- a read that may fail later might before
pub fails_calm : (o o' c c' : ℕ → ℕ → Type 0) (chunk : ℕ) (ps : List Pair) (size k at n : ℕ) → ((k m : ℕ) → o k m → o' k m) → ((k m : ℕ) → c k m → c' k m) → FailsAt o c chunk ps size k at n → FailsAt o' c' chunk ps size k at n
fails_calm o o' c c' chunk ps size zero at n calm calm' (inl past) = inl past
fails_calm o o' c c' chunk ps size zero at n calm calm' (inr fails) = inr (shown_calm o o' c c' chunk ps at n calm calm' fails)
fails_calm o o' c c' chunk ps size (suc k) at n calm calm' (inl past) = inl past
fails_calm o o' c c' chunk ps size (suc k) at n calm calm' (inr fails) = inr (calm at n fails)

-- a read past the end
pub fails_past : (o c : ℕ → ℕ → Type 0) (chunk : ℕ) (ps : List Pair) (size k at n : ℕ) → 512 * size < at + n → FailsAt o c chunk ps size k at n
fails_past o c chunk ps size zero at n past = inl past
fails_past o c chunk ps size (suc k) at n past = inl past

-- a read of the snapshot
pub fails_shown : (o c : ℕ → ℕ → Type 0) (chunk : ℕ) (ps : List Pair) (size k at n : ℕ) → k ≡ 0 → ShownFails o c chunk ps at n → FailsAt o c chunk ps size k at n
fails_shown o c chunk ps size zero at n is fails = inr fails
fails_shown o c chunk ps size (suc k) at n is fails = absurd (omega arith)

-- a read of the origin
pub fails_own : (o c : ℕ → ℕ → Type 0) (chunk : ℕ) (ps : List Pair) (size k at n : ℕ) → (k ≡ 0 → ⊥) → o at n → FailsAt o c chunk ps size k at n
fails_own o c chunk ps size zero at n other fails = absurd (other refl)
fails_own o c chunk ps size (suc k) at n other fails = inr fails

-- without a pair the origin alone is read
pub fresh_fails : (o c : ℕ → ℕ → Type 0) (size k at n : ℕ) → FailsAt o c 128 [] size k at n → FailsFresh o size k at n
fresh_fails o c size zero at n (inl past) = inl past
fresh_fails o c size zero at n (inr (number, inside, m, low, high, fails)) = inr (512 * 128 * number + inside, m, omega arith, omega arith, fails)
fresh_fails o c size (suc k) at n (inl past) = inl past
fresh_fails o c size (suc k) at n (inr fails) = inr (at, n, omega arith, omega arith, inr fails)

-- the same session, whose reads of the origin alone may fail
pub served_fresh : (told : Bool) (changes : Type 0) (o c : ℕ → ℕ → Type 0) (size : ℕ) (pairs : List Pair) (snapshot origin : List ℕ) (marks : ℕ → Bool) (heard : List ℕ) (old new : Option (List ℕ)) → pairs ≡ [] → IsServedBy (OrChanged told changes (FailsAt o c 128 pairs size)) size snapshot origin marks heard old new → IsServedBy (OrChanged told changes (FailsFresh o size)) size snapshot origin marks heard old new
served_fresh told changes o c size pairs snapshot origin marks heard old new none (exports, are, said, turns, talk, written, tells) = (
  exports,
  are,
  said,
  turns,
  talk_calm exports (arrays snapshot origin marks) (OrChanged told changes (FailsAt o c 128 pairs size)) (OrChanged told changes (FailsFresh o size)) beginning heard said turns (λ k from count h. elim h [
    | inl fails ↦ inl (fresh_fails o c size k from count (subst (λ ps. FailsAt o c 128 ps size k from count) none fails))
    | inr changed ↦ inr changed
  ]) talk,
  written,
  tells,
)

-- what is known of an array's bytes is known of the array
pub known_snapshot : (chunk : ℕ) (ps : List Pair) (size k at n : ℕ) (origin store : Option (List ℕ)) (out : List ℕ) → k ≡ 0 → IfSome (known_shown chunk ps size origin store) (λ bytes. out ≡ take n (drop at bytes)) → IfSome (known_at chunk ps size origin store k) (λ array. out ≡ take n (drop at array.bytes))
known_snapshot chunk ps size zero at n None store out is read = tt
known_snapshot chunk ps size zero at n (Some o) None out is read = tt
known_snapshot chunk ps size zero at n (Some o) (Some b) out is read = read
known_snapshot chunk ps size (suc k) at n origin store out is read = absurd (omega arith)

pub known_origin : (chunk : ℕ) (ps : List Pair) (size k at n : ℕ) (origin store : Option (List ℕ)) (out : List ℕ) → (k ≡ 0 → ⊥) → IfSome origin (λ bytes. out ≡ take n (drop at bytes)) → IfSome (known_at chunk ps size origin store k) (λ array. out ≡ take n (drop at array.bytes))
known_origin chunk ps size zero at n origin store out other read = absurd (other refl)
known_origin chunk ps size (suc k) at n None store out other read = tt
known_origin chunk ps size (suc k) at n (Some o) store out other read = read

-- of both arrays the same bytes are marked
pub known_marks : (chunk : ℕ) (ps : List Pair) (size k : ℕ) (origin store : Option (List ℕ)) (P : (ℕ → Bool) → Type 0) → P (has_copy chunk ps) → IfSome (known_at chunk ps size origin store k) (λ array. P array.marks)
known_marks chunk ps size zero None store P holds = tt
known_marks chunk ps size zero (Some o) None P holds = tt
known_marks chunk ps size zero (Some o) (Some b) P holds = holds
known_marks chunk ps size (suc k) None store P holds = tt
known_marks chunk ps size (suc k) (Some o) store P holds = holds

-- a chunk without a copy is the origin's
own_byte : (chunk : ℕ) (o b : List ℕ) (i : ℕ) (place : Option ℕ) → is_some place ≡ false → byte_of chunk o b i place ≡ get_or o i 0
own_byte chunk o b i None none = refl
own_byte chunk o b i (Some place) none = absurd (cc)

pub tells_changes : (chunk : ℕ) (ps : List Pair) (size : ℕ) (o b : List ℕ) → TellsChanges (has_copy chunk ps) (shown chunk o b ps 0 (512 * size)) o
tells_changes chunk ps size o b i inside clean =
    let lt : i < 512 * size = (let len = length-map-range_with_len (picture_at chunk o b ps) 0 (512 * size) in omega arith) in
    get_or-map-range_with_len (picture_at chunk o b ps) 0 (512 * size) i i 0 lt (zero-add i) ∙ own_byte chunk o b i (place_of ps (i / (512 * chunk))) clean

-- without pairs no byte is marked
pub fresh_marks : (told : Bool) (changes : Type 0) (fails : ℕ → ℕ → ℕ → Type 0) (size : ℕ) (pairs : List Pair) (snapshot origin heard : List ℕ) (old new : Option (List ℕ)) → pairs ≡ [] → IsServedBy (OrChanged told changes fails) size snapshot origin (has_copy 128 pairs) heard old new → IsServedBy (OrChanged told changes fails) size snapshot origin (λ _. false) heard old new
fresh_marks told changes fails size pairs snapshot origin heard old new none served = subst (λ ps. IsServedBy (OrChanged told changes fails) size snapshot origin (has_copy 128 ps) heard old new) none served

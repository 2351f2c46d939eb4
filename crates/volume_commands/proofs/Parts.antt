-- Bytes that are written one run after the other, and what snapshots show then.
use Rattle.std.proofs.Common.{◌≡◌, inl, inr, ℕ, ◌+◌, ◌*◌, ◌≤◌, List, [], ◌∷◌, ◌++◌, length, take, drop, arith, refl, ap, ◌∙◌, sym, length-take, length-append}
use Rattle.std.specs.Prelude.{◌==◌}
use Rattle.std.proofs.Math.Seq.{take-append-add, drop-append-add, take-append_seam}
use Rattle.std.proofs.lemmas.List.{drop-drop, append_assoc, take-append-drop}
use Rattle.std.proofs.lemmas.Bool.{cases_Bool, cond-true, cond-false}
use Rattle.sector.specs.Bytes.{with_sectors}
use Rattle.plain_machine.specs.Plain.{Saved, Live, Invalid, Entry, marked_in, overflow_under, Shown}
use Rattle.plain_machine.specs.declared.request.Dev.{Dev}
use Rattle.plain_machine.specs.declared.request.Dev.TheVariants.{Origin, Snap as ToSnap}
use Rattle.plain_machine.specs.declared.request.Overflowing.{Overflowing}
use Rattle.plain_machine.specs.declared.request.Overflowing.TheVariants.{Did}
use Rattle.volume_commands.specs.Showing.{saved_at, saved_of, with_bytes, changed_at, AreKept, IsWritten, IsLost}

-- runs of sectors that are written one after the other are one
pub with_sectors_more : (a : List ℕ) (first m : ℕ) (x y : List ℕ) → length x ≡ 512 * m → 512 * first ≤ length a → with_sectors (with_sectors a first x) (first + m) y ≡ with_sectors a first (x ++ y)
with_sectors_more a first m x y len fits =
    let p : ℕ = 512 * first in
    let d : List ℕ = drop (p + length x) a in
    let w : List ℕ = take p a ++ (x ++ d) in
    let short : length (take p a) ≡ p = simp length-take (omega arith) in
    let front : take (512 * (first + m)) w ≡ take p a ++ x =
    ap (λ n. take n w) (omega (arith, len, short)) ∙ take-append-add (take p a) (x ++ d) (length x) ∙ ap (λ xs. take p a ++ xs) (take-append_seam x d) in
    let back : drop (512 * (first + m) + length y) w ≡ drop (p + length (x ++ y)) a =
    ap (λ n. drop n w) (omega (arith, len, short)) ∙ drop-append-add (take p a) (x ++ d) (length x + length y) ∙ drop-append-add x d (length y)
    ∙ drop-drop (length y) (p + length x) a ∙ ap (λ n. drop n a) (omega (arith, length-append x y)) in
    ap (λ xs. xs ++ (y ++ drop (512 * (first + m) + length y) w)) front ∙ ap (λ xs. (take p a ++ x) ++ (y ++ xs)) back
    ∙ append_assoc (take p a) x (y ++ drop (p + length (x ++ y)) a) ∙ ap (λ xs. take p a ++ xs) (sym (append_assoc x y (drop (p + length (x ++ y)) a)))

pub with_sectors_none : (a : List ℕ) (first : ℕ) → with_sectors a first [] ≡ a
with_sectors_none a first = ap (λ n. take (512 * first) a ++ drop n a) (omega arith) ∙ take-append-drop (512 * first) a

-- one change after the other
pub changed_twice : (number : ℕ) (f g h : Saved → Saved) (entries : List Entry) → ((saved : Saved) → saved_at number entries ≡ saved → g (f saved) ≡ h saved) → changed_at number g (changed_at number f entries) ≡ changed_at number h entries
changed_twice number f g h [] same = refl
changed_twice number f g h (e ∷ es) same = elim (cases_Bool (e.number == number)) [
  | inl this ↦ (let mk : Saved → List Entry = λ (s : Saved). (record e { saved = s }) ∷ es in
      ap (changed_at number g) (cond-true _ _ _ this) ∙ cond-true _ _ _ this ∙ ap mk (same e.saved (cond-true _ _ _ this)) ∙ sym (cond-true _ _ _ this))
  | inr other ↦ ap (changed_at number g) (cond-false _ _ _ other) ∙ cond-false _ _ _ other
      ∙ ap (λ (xs : List Entry). e ∷ xs) (changed_twice number f g h es (λ saved at. same saved (cond-false _ _ _ other ∙ at))) ∙ sym (cond-false _ _ _ other)
]

pub changed_none : (number : ℕ) (f : Saved → Saved) (entries : List Entry) → ((saved : Saved) → saved_at number entries ≡ saved → f saved ≡ saved) → changed_at number f entries ≡ entries
changed_none number f [] same = refl
changed_none number f (e ∷ es) same = elim (cases_Bool (e.number == number)) [
  | inl this ↦ (let mk : Saved → List Entry = λ (s : Saved). (record e { saved = s }) ∷ es in cond-true _ _ _ this ∙ ap mk (same e.saved (cond-true _ _ _ this)))
  | inr other ↦ cond-false _ _ _ other ∙ ap (λ (xs : List Entry). e ∷ xs) (changed_none number f es (λ saved at. same saved (cond-false _ _ _ other ∙ at)))
]

-- what is shown has no part in what a full store does
pub overflow_changed : (number : ℕ) (f : Saved → Saved) (entries : List Entry) → overflow_under number (changed_at number f entries) ≡ overflow_under number entries
overflow_changed number f [] = refl
overflow_changed number f (e ∷ es) = elim (cases_Bool (e.number == number)) [
  | inl this ↦ ap (overflow_under number) (cond-true _ _ _ this) ∙ cond-true _ _ _ this ∙ sym (cond-true _ _ _ this)
  | inr other ↦ ap (overflow_under number) (cond-false _ _ _ other) ∙ cond-false _ _ _ other ∙ overflow_changed number f es ∙ sym (cond-false _ _ _ other)
]

-- one that is marked already stays as it is
pub marked_again : (number : ℕ) (entries : List Entry) → overflow_under number entries ≡ Did → marked_in number entries ≡ entries
marked_again number [] did = refl
marked_again number (e ∷ es) did = elim (cases_Bool (e.number == number)) [
  | inl this ↦ (let mk : Overflowing → List Entry = λ (o : Overflowing). (record e { overflow = o }) ∷ es in cond-true _ _ _ this ∙ ap mk (sym did ∙ cond-true _ _ _ this))
  | inr other ↦ cond-false _ _ _ other ∙ ap (λ (xs : List Entry). e ∷ xs) (marked_again number es (sym (cond-false _ _ _ other) ∙ did))
]

-- snapshots that are kept, and kept again
pub kept_none : (es : List Entry) → AreKept es es
kept_none [] = tt
kept_none (e ∷ es) = (refl, refl, inl refl, kept_none es)

pub kept_more : (es fs hs : List Entry) → AreKept es fs → AreKept fs hs → AreKept es hs
kept_more [] [] [] h k = tt
kept_more [] [] (c ∷ hs) h k = k
kept_more [] (b ∷ fs) hs h k = absurd h
kept_more (a ∷ es) [] hs h k = absurd h
kept_more (a ∷ es) (b ∷ fs) [] h k = k
kept_more (a ∷ es) (b ∷ fs) (c ∷ hs) h k = (k.0 ∙ h.0, k.1 ∙ h.1, elim k.2 [ inl same ↦ elim h.2 [ inl was ↦ inl (same ∙ was) | inr lost ↦ inr (same ∙ lost) ] | inr lost ↦ inr lost ], kept_more es fs hs h.3 k.3)

-- nothing was written
pub written_none : (dev : Dev) (first : ℕ) (v : Shown) → IsWritten dev first [] v v
written_none Origin first v = (sym (with_sectors_none v.origin first), kept_none v.saved, refl)
written_none (ToSnap number) first v = (refl, sym (changed_none number (with_bytes first []) v.saved (λ saved at. same saved)), refl)
  where
    same : (saved : Saved) → with_bytes first [] saved ≡ saved
    same (Live array) = ap Live (with_sectors_none array first)
    same Invalid = refl

-- bytes were written, and then those after them
pub written_more : (dev : Dev) (first m : ℕ) (x y : List ℕ) (old mid new : Shown) → length x ≡ 512 * m → ((array : List ℕ) → saved_of dev old ≡ Live array → 512 * first ≤ length array) → IsWritten dev first x old mid → IsWritten dev (first + m) y mid new → IsWritten dev first (x ++ y) old new
written_more Origin first m x y old mid new len fits here more =
    (more.0 ∙ ap (λ (b : List ℕ). with_sectors b (first + m) y) here.0 ∙ with_sectors_more old.origin first m x y len (fits old.origin refl), kept_more old.saved mid.saved new.saved here.1 more.1, more.2 ∙ here.2)
written_more (ToSnap number) first m x y old mid new len fits here more =
    (more.0 ∙ here.0, more.1 ∙ ap (changed_at number (with_bytes (first + m) y)) here.1 ∙ changed_twice number (with_bytes first x) (with_bytes (first + m) y) (with_bytes first (x ++ y)) old.saved same, more.2 ∙ here.2)
  where
    same : (saved : Saved) → saved_at number old.saved ≡ saved → with_bytes (first + m) y (with_bytes first x saved) ≡ with_bytes first (x ++ y) saved
    same (Live array) at = ap Live (with_sectors_more array first m x y len (fits array at))
    same Invalid at = refl

-- and then the snapshot was lost
pub lost_more : (dev : Dev) (first : ℕ) (x : List ℕ) (old mid new : Shown) → IsWritten dev first x old mid → IsLost dev mid new → IsLost dev old new
lost_more Origin first x old mid new here lost = lost
lost_more (ToSnap number) first x old mid new here lost =
    (lost.0 ∙ here.0, lost.1 ∙ ap (changed_at number (λ saved. Invalid)) here.1 ∙ changed_twice number (with_bytes first x) (λ saved. Invalid) (λ saved. Invalid) old.saved (λ saved at. refl), lost.2 ∙ here.2)

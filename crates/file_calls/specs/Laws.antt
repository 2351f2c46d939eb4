-- Laws of what a file holds by its calls: a stop may leave what is there and what was kept, and where the answers are those of a file
-- that keeps what is written, a read changes nothing.
use Rattle.std.specs.Option.{is_some}
use Rattle.std.specs.Prelude.{◌≡◌, ℕ, ◌+◌, ◌≤◌, ◌&&◌, ◌||◌, Bool, true, false, List, [], ◌∷◌, Some, None, length, refl, take, drop}
use mathlib.Core.Logic.{inl, inr}
use Rattle.std.proofs.Common.{◌∙◌, ap, subst, sym, arith}
use Rattle.std.proofs.lemmas.List.{places, same_lists}
use Rattle.std.proofs.lemmas.Slice.Eq.{bytes_eq-Decides}
use Rattle.sector.specs.Bytes.{sector_at, with_part}
use Rattle.file_calls.specs.Calls.{Call, Len, Read, Write, SetLen, Sync}
use Rattle.file_calls.specs.Kept.{with_len, with_bytes, now_in, kept_in, MayHold, all_answered, are_answered, is_kept}

pub length-with_len : (bytes : List ℕ) (n : ℕ) → length (with_len bytes n) ≡ n
length-with_len bytes n = grind (arith, places)

-- bytes that lie inside
pub with_bytes_inside : (old : List ℕ) (at : ℕ) (bytes : List ℕ) → at + length bytes ≤ length old → with_bytes old at bytes ≡ with_part old at bytes
with_bytes_inside old at [] fits = same_lists _ _ (grind (arith, places)) (λ k d h. grind (arith, places))
with_bytes_inside old at (byte ∷ bytes) fits = same_lists _ _ (grind (arith, places)) (λ k d h. grind (arith, places))

-- a stop may leave what is there
pub now_held : (start : List ℕ) (calls : List Call) (s : ℕ) → MayHold start calls s (sector_at (now_in start calls) s)
now_held start [] s = refl
now_held start (Len answer ∷ calls) s = now_held start calls s
now_held start (Read at count None ∷ calls) s = now_held start calls s
now_held start (Read at count (Some bytes) ∷ calls) s = inr refl
now_held start (Write at bytes done ∷ calls) s = inr refl
now_held start (SetLen n done ∷ calls) s = inr refl
now_held start (Sync done promised ∷ calls) s = (now_held start calls s, λ counts. refl)

synced_held : (start : List ℕ) (calls : List Call) (s : ℕ) (counts : Bool) → MayHold start calls s (sector_at (kept_in start calls) s) → (done promised : Bool) → (done || promised) ≡ counts → MayHold start (Sync done promised ∷ calls) s (sector_at (kept_in start (Sync done promised ∷ calls)) s)
synced_held start calls s counts before true promised is = (now_held start calls s, λ so. refl)
synced_held start calls s counts before false true is = (now_held start calls s, λ so. refl)
synced_held start calls s counts before false false is = (before, λ so. absurd (let no : ⊥ = cc in no))

-- and what was kept
pub kept_held : (start : List ℕ) (calls : List Call) (s : ℕ) → MayHold start calls s (sector_at (kept_in start calls) s)
kept_held start [] s = refl
kept_held start (Len answer ∷ calls) s = kept_held start calls s
kept_held start (Read at count None ∷ calls) s = kept_held start calls s
kept_held start (Read at count (Some bytes) ∷ calls) s = inl (kept_held start calls s)
kept_held start (Write at bytes done ∷ calls) s = inl (kept_held start calls s)
kept_held start (SetLen n done ∷ calls) s = inl (kept_held start calls s)
kept_held start (Sync done promised ∷ calls) s = synced_held start calls s (done || promised) (kept_held start calls s) done promised refl

pub of_both : (one other : Bool) → (one && other) ≡ true → (one ≡ true) × (other ≡ true)
of_both true true is = (refl, refl)
of_both true false is = absurd (let no : ⊥ = cc in no)
of_both false other is = absurd (let no : ⊥ = cc in no)

pub to_both : (one other : Bool) → one ≡ true → other ≡ true → (one && other) ≡ true
to_both true true is so = refl
to_both true false is so = absurd (let no : ⊥ = cc in no)
to_both false other is so = absurd (let no : ⊥ = cc in no)

-- where every call was answered, all that changes a file was
pub changes_answered : (calls : List Call) → all_answered calls ≡ true → are_answered calls ≡ true
changes_answered [] is = refl
changes_answered (Len answer ∷ calls) is = changes_answered calls (of_both (is_some answer) (all_answered calls) is).1
changes_answered (Read at count bytes ∷ calls) is = changes_answered calls (of_both (is_some bytes) (all_answered calls) is).1
changes_answered (Write at bytes done ∷ calls) is = let both = of_both done (all_answered calls) is in to_both done (are_answered calls) both.0 (changes_answered calls both.1)
changes_answered (SetLen n done ∷ calls) is = let both = of_both done (all_answered calls) is in to_both done (are_answered calls) both.0 (changes_answered calls both.1)
changes_answered (Sync done promised ∷ calls) is = let both = of_both done (all_answered calls) is in to_both done (are_answered calls) both.0 (changes_answered calls both.1)

-- what is kept was kept before each call
pub kept_before : (start : List ℕ) (call : Call) (calls : List Call) → is_kept start (call ∷ calls) ≡ true → is_kept start calls ≡ true
kept_before start (Len None) calls is = is
kept_before start (Len (Some n)) calls is = (of_both (is_kept start calls) _ is).0
kept_before start (Read at count None) calls is = is
kept_before start (Read at count (Some bytes)) calls is = (of_both (is_kept start calls) _ is).0
kept_before start (Write at bytes done) calls is = is
kept_before start (SetLen n done) calls is = is
kept_before start (Sync done promised) calls is = (of_both (is_kept start calls) _ is).0

-- a read gave what was there
pub read_gives : (start : List ℕ) (calls : List Call) (at count : ℕ) (bytes : List ℕ) → is_kept start (Read at count (Some bytes) ∷ calls) ≡ true → bytes ≡ take count (drop at (now_in start calls))
read_gives start calls at count bytes is = (bytes_eq-Decides bytes (take count (drop at (now_in start calls)))).0 (of_both (is_kept start calls) _ is).1

-- and so it changed nothing
pub read_leaves : (start : List ℕ) (calls : List Call) (at count : ℕ) (bytes : List ℕ) → at + count ≤ length (now_in start calls) → is_kept start (Read at count (Some bytes) ∷ calls) ≡ true → now_in start (Read at count (Some bytes) ∷ calls) ≡ now_in start calls
read_leaves start calls at count bytes inside is =
    let same = read_gives start calls at count bytes is in
    let long : length bytes ≡ count = ap length same ∙ short (now_in start calls) at count inside in
    with_bytes_inside (now_in start calls) at bytes (omega (arith, inside, long)) ∙ ap (with_part (now_in start calls) at) same ∙ again (now_in start calls) at count inside
  where
    short : (b : List ℕ) (at count : ℕ) → at + count ≤ length b → length (take count (drop at b)) ≡ count
    short b at count inside = grind (arith, places)

    again : (b : List ℕ) (at count : ℕ) → at + count ≤ length b → with_part b at (take count (drop at b)) ≡ b
    again b at count inside = same_lists _ _ (grind (arith, places)) (λ k d h. grind (arith, places))

-- a stop may leave no more after it
pub read_adds_none : (start : List ℕ) (calls : List Call) (at count : ℕ) (bytes : List ℕ) → at + count ≤ length (now_in start calls) → is_kept start (Read at count (Some bytes) ∷ calls) ≡ true → (s : ℕ) (v : List ℕ) → MayHold start (Read at count (Some bytes) ∷ calls) s v → MayHold start calls s v
read_adds_none start calls at count bytes inside is s v (inl held) = held
read_adds_none start calls at count bytes inside is s v (inr now) =
    subst (MayHold start calls s) (sym (now ∙ ap (λ b. sector_at b s) (read_leaves start calls at count bytes inside is))) (now_held start calls s)

-- nor after a sync
pub sync_adds_none : (start : List ℕ) (calls : List Call) (done promised : Bool) (s : ℕ) (v : List ℕ) → MayHold start (Sync done promised ∷ calls) s v → MayHold start calls s v
sync_adds_none start calls done promised s v held = held.0

-- and one that counts leaves what is there alone
pub sync_firm : (start : List ℕ) (calls : List Call) (done promised : Bool) → (done || promised) ≡ true → (s : ℕ) (v : List ℕ) → MayHold start (Sync done promised ∷ calls) s v → v ≡ sector_at (now_in start calls) s
sync_firm start calls done promised counts s v held = held.1 counts

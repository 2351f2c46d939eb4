-- Queries, one after the other.
use Rattle.std.proofs.Common.{◌≡◌, ℕ, zero, suc, ◌+◌, ◌-◌, ◌<◌, ◌≤◌, Bool, true, false, List, length, take, drop, Option, None, Some, refl, arith, ap, ◌∙◌, sym, length-drop}
use Rattle.std.specs.Prelude.{slice_range, nat_lt, ◌==◌, if◌then◌else◌}
use Rattle.std.proofs.Math.Seq.{take-length}
use Rattle.nbd_messages.specs.Layout.{number_at}
use Rattle.nbd_options.specs.Haggled.{asked_by, is_fitting}
use Rattle.nbd_options.specs.declared.context.Context.{Context}

-- a query without its length
pub asked_short : (context : Context) (chooses found : Bool) (count : ℕ) (text : List ℕ) → 0 < count → length text < 4 → None ≡ asked_by context chooses found count text
unfolding asked_by
asked_short context chooses found zero text some short = absurd (omega arith)
asked_short context chooses found (suc count) text some short = let a : nat_lt (length text) 4 ≡ true = grind arith in rw a refl

-- a query that is shorter than its length says
pub asked_cut : (context : Context) (chooses found : Bool) (count len : ℕ) (text : List ℕ) → 0 < count → 4 ≤ length text → length text - 4 < len → len ≡ number_at text 0 4 → None ≡ asked_by context chooses found count text
unfolding asked_by
asked_cut context chooses found zero len text some long short is = absurd (omega arith)
asked_cut context chooses found (suc count) len text some long short is =
    let a : nat_lt (length text) 4 ≡ false = grind arith in
    let b : nat_lt (length text) (4 + number_at text 0 4) ≡ true = grind arith in
    rw (a, b) refl

rest_is : (k : ℕ) (xs : List ℕ) → take (length xs - k) (drop k xs) ≡ drop k xs
rest_is k xs = ap (λ (n : ℕ). take n (drop k xs)) (sym (length-drop k xs)) ∙ take-length (drop k xs)

-- a whole query
pub asked_next : (context : Context) (chooses found found' : Bool) (count len : ℕ) (text : List ℕ) → 0 < count → 4 ≤ length text → len ≤ length text - 4 → len ≡ number_at text 0 4 → found' ≡ (if is_fitting context chooses (slice_range text 4 (4 + len)) then true else found) → asked_by context chooses found' (count - 1) (take (length text - (4 + len)) (drop (4 + len) text)) ≡ asked_by context chooses found count text
unfolding asked_by
asked_next context chooses found found' zero len text some long inside is now = absurd (omega arith)
asked_next context chooses found found' (suc count) len text some long inside is now =
    let a : nat_lt (length text) 4 ≡ false = grind arith in
    let b : nat_lt (length text) (4 + number_at text 0 4) ≡ false = grind arith in
    let e : suc count - 1 ≡ count = omega arith in
    rw (rest_is (4 + len) text, e, now, is, a, b) refl

-- no query is left
pub asked_end : (context : Context) (chooses found : Bool) (count : ℕ) (text : List ℕ) → count ≤ 0 → asked_by context chooses found count text ≡ (if length text == 0 then Some found else None)
unfolding asked_by
asked_end context chooses found zero text none = refl
asked_end context chooses found (suc count) text none = absurd (omega arith)

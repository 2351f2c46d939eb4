-- The chunks that a run of sectors touches, one after the other: the first that a store lacks, and the rounds in which each
-- snapshot saves one of them.
use Rattle.std.proofs.Common.{◌≡◌, inl, inr, ℕ, zero, suc, ◌+◌, ◌*◌, ◌-◌, ◌/◌, ◌<◌, ◌≤◌, Bool, true, false, List, [], ◌∷◌, Option, Some, None, arith, refl, ap, ◌∙◌, sym, subst}
use Rattle.std.specs.Prelude.{not, if◌then◌else◌}
use Rattle.std.specs.List.{range_with_len}
use Rattle.std.specs.Option.{unwrap_or}
use Rattle.std.proofs.lemmas.Bool.{cases_Bool, cases_lt, cond-true, cond-false}
use Rattle.std.proofs.lemmas.Nat.{mul-le}
use Rattle.std.proofs.Math.Nat.{mul-div-le, lt-mul-div-succ}
use Rattle.chunk.specs.Pieces.{Span, touched}
use Rattle.chunk.proofs.PiecePlaces.{piece_low}
use Rattle.chunk.proofs.Cuts.{touched_some}
use Rattle.chunk.proofs.Wider.{by_border}
use Rattle.chunk.proofs.Over.{touches}
use Rattle.in_flight.specs.Due.{first_by}
use Rattle.whole_commands.specs.Snaps.{Snap, Volume}
use Rattle.whole_commands.specs.Saving.{has_chunk}
use Rattle.whole_commands.specs.Merges.{unsaved_in, next_over, saved_round, saved_rounds}
use Rattle.whole_commands.proofs.Each.{Each}
use Rattle.whole_commands.proofs.Chunks.{OfChunks, at_keep}
use Rattle.whole_commands.proofs.SavedBytes.{save_at_bytes}

-- the first of some numbers in order that passes a test
module _ (test : ℕ → Bool) where
  abbrev pub first_of : ℕ → ℕ → Option ℕ
  first_of a n = first_by test (λ c. c) (range_with_len a n)

  pub first_in : (n a c : ℕ) → first_of a n ≡ Some c → (a ≤ c) × (c < a + n) × (test c ≡ true)
  first_in zero a c is = absurd (cc)
  first_in (suc n) a c is = elim (cases_Bool (test a)) [
    | inl pass ↦ (let e : Some a ≡ Some c = sym (cond-true _ _ _ pass) ∙ is in
        let same : a ≡ c = cc in
        (omega arith, omega arith, ap test (sym same) ∙ pass))
    | inr fails ↦ (let (low, high, pass) = first_in n (a + 1) c (sym (cond-false _ _ _ fails) ∙ is) in (omega arith, omega arith, pass))
  ]

  pub first_at : (n a c : ℕ) → a ≤ c → c < a + n → test c ≡ true → ((d : ℕ) → a ≤ d → d < c → test d ≡ false) → first_of a n ≡ Some c
  first_at zero a c low high pass before = absurd (omega arith)
  first_at (suc n) a c low high pass before = elim (cases_lt a c) [
    | inl above ↦ cond-false _ _ _ (before a (omega arith) above) ∙ first_at n (a + 1) c (omega arith) (omega arith) pass (λ d from to. before d (omega arith) to)
    | inr here ↦ (let same : a ≡ c = omega arith in cond-true _ _ _ (ap test same ∙ pass) ∙ ap Some same)
  ]

-- where none passes
pub fails_all : (test : ℕ → Bool) (n a : ℕ) → ((c : ℕ) → a ≤ c → c < a + n → test c ≡ false) → first_of test a n ≡ None
fails_all test zero a fails = refl
fails_all test (suc n) a fails = cond-false _ _ _ (fails a (omega arith) (omega arith)) ∙ fails_all test n (a + 1) (λ c low high. fails c (omega arith) (omega arith))

-- two tests that are one
pub first_same : (f g : ℕ → Bool) (xs : List ℕ) → ((c : ℕ) → f c ≡ g c) → first_by f (λ c. c) xs ≡ first_by g (λ c. c) xs
first_same f g [] same = refl
first_same f g (x ∷ xs) same = ap (λ b. if b then Some x else first_by f (λ c. c) xs) (same x) ∙ ap (λ o. if g x then Some x else o) (first_same f g xs same)

-- no more chunks are touched than there are sectors
pub touched_few : (chunk : ℕ) (s : Span) → 0 < chunk → 0 < s.count → touched chunk s ≤ s.count
touched_few chunk s some full =
    let last : ℕ = s.first + s.count - 1 in
    let is : touched chunk s ≡ last / chunk - s.first / chunk + 1 = touched_some chunk s full in
    let low : chunk * (last / chunk) ≤ last = mul-div-le last chunk in
    let high : s.first < chunk * (s.first / chunk + 1) = lt-mul-div-succ s.first some in
    let more : s.count - 1 ≤ chunk * (s.count - 1) = by_one (s.count - 1) in
    let sum : chunk * (s.first / chunk + 1) + chunk * (s.count - 1) ≡ chunk * (s.first / chunk + 1 + (s.count - 1)) = grind arith in
    let below : last / chunk < s.first / chunk + 1 + (s.count - 1) = by_border chunk (last / chunk) (s.first / chunk + 1 + (s.count - 1)) last low (omega (arith, high, more, sum, full)) in
    omega (arith, is, below, full)
  where
    by_one : (n : ℕ) → n ≤ chunk * n
    by_one n = let h : 1 * n ≤ chunk * n = mul-le 1 n chunk n some (omega arith) in omega (arith, h)

-- the span of so many sectors
abbrev pub span_over : ℕ → ℕ → Span
span_over first count = record { first = first; count = count; size = first + count }

-- how many chunks of a snapshot they touch
abbrev pub count_over : ℕ → ℕ → Snap → ℕ
count_over first count s = touched s.chunk (span_over first count)

abbrev pub lacks_one : Snap → ℕ → Bool
lacks_one s c = not (has_chunk c s)

-- the chunk that is saved next begins inside the origin
pub next_inside : (sectors first count : ℕ) (s : Snap) → 0 < s.chunk → 0 < count → first + count ≤ sectors → s.chunk * next_over first count s < sectors
next_inside sectors first count s some full inside = by_next (unsaved_in first count s) refl
  where
    by_next : (o : Option ℕ) → unsaved_in first count s ≡ o → s.chunk * unwrap_or o (first / s.chunk) < sectors
    by_next None is = let low = piece_low s.chunk first in omega (arith, low, full, inside)
    by_next (Some c) is =
        let (from, to, lacks) = first_in (lacks_one s) (count_over first count s) (first / s.chunk) c is in
        let (i, short, at) = touches s.chunk (span_over first count) c some full from to in
        let low : s.chunk * ((first + i) / s.chunk) ≤ first + i = piece_low s.chunk (first + i) in
        let here : s.chunk * c ≤ first + i = subst (λ (n : ℕ). s.chunk * n ≤ first + i) at low in
        omega (arith, here, short, inside)

-- where it has those before one, and lacks that one, that one is next
pub next_here : (first count c : ℕ) (s : Snap) → first / s.chunk ≤ c → c < first / s.chunk + count_over first count s → has_chunk c s ≡ false → ((d : ℕ) → first / s.chunk ≤ d → d < c → has_chunk d s ≡ true) → next_over first count s ≡ c
next_here first count c s low high lacks before =
    ap (λ o. unwrap_or o (first / s.chunk)) (first_at (lacks_one s) (count_over first count s) (first / s.chunk) c low high (ap not lacks) (λ d from to. ap not (before d from to)))

-- where it has them all, none is next, and it has the one that is taken for it
pub none_next : (first count : ℕ) (s : Snap) → ((c : ℕ) → first / s.chunk ≤ c → c < first / s.chunk + count_over first count s → has_chunk c s ≡ true) → unsaved_in first count s ≡ None
none_next first count s has = fails_all (lacks_one s) (count_over first count s) (first / s.chunk) (λ c low high. ap not (has c low high))

pub next_has : (first count : ℕ) (s : Snap) → 0 < count → ((c : ℕ) → first / s.chunk ≤ c → c < first / s.chunk + count_over first count s → has_chunk c s ≡ true) → has_chunk (next_over first count s) s ≡ true
next_has first count s full has =
    let some : 0 < count_over first count s = (let is = touched_some s.chunk (span_over first count) full in omega (arith, is)) in
    ap (λ o. has_chunk (unwrap_or o (first / s.chunk)) s) (none_next first count s has) ∙ has (first / s.chunk) (omega arith) (omega (arith, some))

-- rounds
module _ (first count : ℕ) where
  pub rounds_bytes : (n : ℕ) (v : Volume) → (saved_rounds first count n v).origin.bytes ≡ v.origin.bytes
  rounds_bytes zero v = refl
  rounds_bytes (suc n) v = rounds_bytes n (saved_round first count v) ∙ save_at_bytes (next_over first count) v.origin v.snaps

  pub rounds_keep : (P : ℕ → Type 0) (n : ℕ) (v : Volume) → Each (OfChunks P) v.snaps → Each (OfChunks P) (saved_rounds first count n v).snaps
  rounds_keep P zero v all = all
  rounds_keep P (suc n) v all = rounds_keep P n (saved_round first count v) (at_keep P (next_over first count) v.origin v.snaps all)

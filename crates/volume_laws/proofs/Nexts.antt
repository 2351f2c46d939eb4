-- The chunks that so many sectors touch: which of them a snapshot has published, and which is the first that it has not.
use Rattle.std.proofs.Common.{◌≡◌, ◌⊎◌, inl, inr, ℕ, ◌+◌, ◌-◌, ◌/◌, ◌<◌, ◌≤◌, Bool, true, false, List, [], ◌∷◌, ◌++◌, Option, Some, None, get_or, refl, sym, ◌∙◌, ap, subst, arith, if◌then◌else◌}
use Rattle.std.specs.Prelude.{not, ◌||◌}
use Rattle.std.specs.List.{All}
use Rattle.std.specs.Option.{is_some, unwrap_or}
use Rattle.std.proofs.lemmas.Bool.{cases_Bool, cases_eq, false≢true}
use Rattle.std.proofs.lemmas.List.Elements.{All-nil, All-cons}
use Rattle.std.proofs.lemmas.List.FromFn.{length-range_with_len, get_or-range_with_len}
use Rattle.chunk.specs.Pieces.{Span, touched, chunks_over}
use Rattle.chunk.proofs.Over.{in_touched, touches}
use Rattle.in_flight.specs.Due.{first_by}
use Rattle.volume_laws.specs.Books.{SnapBooks}
use Rattle.volume_laws.specs.Published.{IsPublished, is_published, IsSavedOver, unpublished_in, next_over, is_saved_over}
use Rattle.volume_laws.proofs.Due.{first_none}
use Rattle.volume_laws.proofs.Clear.{published_true}
use Rattle.volume_laws.proofs.Keeping.{published_test}

-- the first number of a list that passes a test stands behind some that do not
pub record IsFirst (p : ℕ → Bool) (xs : List ℕ) (c : ℕ) : Type 0 where
  pub front : List ℕ
  pub back : List ℕ
  pub is : xs ≡ front ++ c ∷ back
  pub fails : All (λ x. p x ≡ false) front
  pub passes : p c ≡ true

pub first_is : (p : ℕ → Bool) (xs : List ℕ) (c : ℕ) → first_by p (λ n. n) xs ≡ Some c → IsFirst p xs c
first_is p [] c e = (let none : None ≡ Some c = e in absurd (cc))
first_is p (x ∷ xs) c e = elim (cases_Bool (p x)) [
  | inl here ↦ (let at : Some x ≡ Some c = ap (λ b. if b then Some x else first_by p (λ n. n) xs) (sym here) ∙ e in
      let same : x ≡ c = cc in
      record { front = []; back = xs; is = ap (λ n. n ∷ xs) same; fails = All-nil (λ x. p x ≡ false); passes = ap p (sym same) ∙ here })
  | inr fails ↦ (let rest = first_is p xs c (ap (λ b. if b then Some x else first_by p (λ n. n) xs) (sym fails) ∙ e) in
      record { front = x ∷ rest.front; back = rest.back; is = ap (λ l. x ∷ l) rest.is; fails = All-cons (λ x. p x ≡ false) x rest.front fails rest.fails; passes = rest.passes })
]

-- by a test that passes of the same numbers
pub first_same : (p q : ℕ → Bool) (xs : List ℕ) → ((x : ℕ) → p x ≡ q x) → first_by p (λ n. n) xs ≡ first_by q (λ n. n) xs
first_same p q [] same = refl
first_same p q (x ∷ xs) same = ap (λ b. if b then Some x else first_by p (λ n. n) xs) (same x) ∙ ap (λ o. if q x then Some x else o) (first_same p q xs same)

-- what so many sectors touch from one on
abbrev pub span : ℕ → ℕ → Span
span first count = record { first = first; count = count; size = first + count }

pub touched_none : (chunk first count : ℕ) → count ≡ 0 → touched chunk (span first count) ≡ 0
touched_none chunk first count none = ap (λ n. touched chunk (span first n)) none

pub touched_all : (P : ℕ → Type 0) (chunk first count : ℕ) → ((c : ℕ) → first / chunk ≤ c → c < first / chunk + touched chunk (span first count) → P c) → All P (chunks_over chunk first count)
touched_all P chunk first count h k d lt =
    let n : ℕ = touched chunk (span first count) in
    let within : k < touched chunk (span first count) = omega (arith, lt, length-range_with_len (first / chunk) (touched chunk (span first count))) in
    subst P (sym (get_or-range_with_len (first / chunk) (touched chunk (span first count)) k d within)) (h (first / chunk + k) (omega arith) (omega (arith, within)))

pub touched_one : (P : ℕ → Type 0) (chunk first count c : ℕ) → All P (chunks_over chunk first count) → first / chunk ≤ c → c < first / chunk + touched chunk (span first count) → P c
touched_one P chunk first count c all from to =
    let k : ℕ = c - first / chunk in
    let within : c - first / chunk < touched chunk (span first count) = omega (arith, from, to) in
    let here : first / chunk + (c - first / chunk) ≡ c = omega (arith, from) in
    subst P (get_or-range_with_len (first / chunk) (touched chunk (span first count)) (c - first / chunk) 0 within ∙ here)
    (all (c - first / chunk) 0 (omega (arith, within, length-range_with_len (first / chunk) (touched chunk (span first count)))))

-- what is published wherever it touches, is published in each chunk that is touched, and the other way round
pub over_chunks : (first count : ℕ) (s : SnapBooks) → 0 < s.chunk → IsSavedOver first count s → s.live ≡ true → All (IsPublished s.pairs s.marks) (chunks_over s.chunk first count)
over_chunks first count s some saved live = touched_all (IsPublished s.pairs s.marks) s.chunk first count (λ c from to. elim (cases_eq count 0) [
  | inl none ↦ absurd (omega (arith, from, to, touched_none s.chunk first count none))
  | inr full ↦ (let (i, lt, is) = touches s.chunk (span first count) c some (omega (arith, full)) from to in subst (IsPublished s.pairs s.marks) is (saved i lt live))
])

pub chunks_saved : (first count : ℕ) (s : SnapBooks) → (s.live ≡ true → 0 < s.chunk) → (s.live ≡ true → All (IsPublished s.pairs s.marks) (chunks_over s.chunk first count)) → IsSavedOver first count s
chunks_saved first count s some all i lt live =
    let (from, to) = in_touched s.chunk (span first count) i (some live) lt in
    touched_one (IsPublished s.pairs s.marks) s.chunk first count ((first + i) / s.chunk) (all live) from to

not_false : (b : Bool) → not b ≡ false → b ≡ true
not_false true e = refl
not_false false e = absurd (false≢true (sym e))

not_true : (b : Bool) → not b ≡ true → b ≡ false
not_true true e = absurd (false≢true e)
not_true false e = refl

-- where none is the first that is not published, all are
pub none_unpublished : (first count : ℕ) (s : SnapBooks) → unpublished_in first count s ≡ None → All (IsPublished s.pairs s.marks) (chunks_over s.chunk first count)
none_unpublished first count s none k d lt = published_true s.pairs s.marks (get_or (chunks_over s.chunk first count) k d)
    (not_false _ (first_none (λ c. not (is_published s.pairs s.marks c)) (λ c. c) (chunks_over s.chunk first count) none k d lt))

-- the test of MergeWrite in one snapshot
pub over_saved : (first count : ℕ) (s : SnapBooks) → (s.live ≡ true → 0 < s.chunk) → is_saved_over first count s ≡ true → IsSavedOver first count s
over_saved first count s some e = chunks_saved first count s some (λ live. none_unpublished first count s (none_is (unpublished_in first count s) (test live)))
  where
    test : s.live ≡ true → is_some (unpublished_in first count s) ≡ false
    test live = not_true (is_some (unpublished_in first count s)) (ap (λ b. not b || not (is_some (unpublished_in first count s))) (sym live) ∙ e)

    none_is : (o : Option ℕ) → is_some o ≡ false → o ≡ None
    none_is None e = refl
    none_is (Some c) e = absurd (false≢true (sym e))

-- the first that is not published stands among those that are touched, and all below it are published
pub record IsNext (first count : ℕ) (s : SnapBooks) (c : ℕ) : Type 0 where
  pub lower : List ℕ
  pub higher : List ℕ
  pub is : chunks_over s.chunk first count ≡ lower ++ c ∷ higher
  pub published : All (IsPublished s.pairs s.marks) lower
  pub unpublished : is_published s.pairs s.marks c ≡ false

pub next_is : (first count : ℕ) (s : SnapBooks) (c : ℕ) → unpublished_in first count s ≡ Some c → IsNext first count s c
next_is first count s c e =
    let one = first_is (λ n. not (is_published s.pairs s.marks n)) (chunks_over s.chunk first count) c e in
    record {
      lower = one.front;
      higher = one.back;
      is = one.is;
      published = λ k d lt. published_true s.pairs s.marks (get_or one.front k d) (not_false _ (one.fails k d lt));
      unpublished = not_true (is_published s.pairs s.marks c) one.passes;
    }

-- where some sector is touched and not all chunks are published, the next one is the first that is not
unwrap_cases : (o : Option ℕ) (d : ℕ) → (o ≡ None) ⊎ (o ≡ Some (unwrap_or o d))
unwrap_cases None d = inl refl
unwrap_cases (Some c) d = inr refl

pub next_unpublished : (first count : ℕ) (s : SnapBooks) → 0 < s.chunk → 0 < count → is_published s.pairs s.marks (next_over first count s) ≡ false → unpublished_in first count s ≡ Some (next_over first count s)
next_unpublished first count s some full e = elim (unwrap_cases (unpublished_in first count s) (first / s.chunk)) [
  | inl none ↦ (let at : next_over first count s ≡ first / s.chunk = ap (λ o. unwrap_or o (first / s.chunk)) none in
      let (from, to) = in_touched s.chunk (span first count) 0 some full in
      let begins : (first + 0) / s.chunk ≡ first / s.chunk = ap (λ n. n / s.chunk) (omega arith) in
      let published = touched_one (IsPublished s.pairs s.marks) s.chunk first count (first / s.chunk) (none_unpublished first count s none) (omega arith) (omega (arith, to, begins)) in
      absurd (false≢true (sym e ∙ ap (is_published s.pairs s.marks) at ∙ published_test s.pairs s.marks (first / s.chunk) published)))
  | inr some_is ↦ some_is
]

-- where the next one is published, all are
pub next_published : (first count : ℕ) (s : SnapBooks) → is_published s.pairs s.marks (next_over first count s) ≡ true → unpublished_in first count s ≡ None
next_published first count s e = elim (unwrap_cases (unpublished_in first count s) (first / s.chunk)) [
  | inl none ↦ none
  | inr some_is ↦ absurd (false≢true (sym (next_is first count s (next_over first count s) some_is).unpublished ∙ e))
]

-- of two snapshots that have published the same chunks, of one size
pub next_same : (first count : ℕ) (s s' : SnapBooks) → s'.chunk ≡ s.chunk → ((c : ℕ) → is_published s'.pairs s'.marks c ≡ is_published s.pairs s.marks c) → next_over first count s' ≡ next_over first count s
next_same first count s s' chunk same =
    let found : (n : ℕ) → first_by (λ c. not (is_published s'.pairs s'.marks c)) (λ c. c) (chunks_over n first count) ≡ first_by (λ c. not (is_published s.pairs s.marks c)) (λ c. c) (chunks_over n first count) =
    λ n. first_same (λ c. not (is_published s'.pairs s'.marks c)) (λ c. not (is_published s.pairs s.marks c)) (chunks_over n first count) (λ c. ap not (same c)) in
    ap (λ n. unwrap_or (first_by (λ c. not (is_published s'.pairs s'.marks c)) (λ c. c) (chunks_over n first count)) (first / n)) chunk ∙ ap (λ o. unwrap_or o (first / s.chunk)) (found s.chunk)

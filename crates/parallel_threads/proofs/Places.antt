-- Tasks at their places, and seats in their order.
use Rattle.std.proofs.Common.{◌≡◌, ◌≢◌, ◌+◌, ◌<◌, ◌≤◌, ℕ, zero, suc, List, [], ◌∷◌, ◌++◌, get_or, length, set, refl, sym, ap, ◌∙◌, subst, arith, below_more, inl, inr}
use Rattle.std.proofs.lemmas.Bool.{cases_lt}
use Rattle.std.specs.Global.{Vec}
use Rattle.std.specs.List.{remove}
use Rattle.std.proofs.Math.ListN.{get_or-append}
use Rattle.std.proofs.Math.Seq.{get_or-append_seam}
use Rattle.volume_threads.specs.Rigs.{SeatShape}
use Rattle.parallel_threads.specs.declared.task.Task.{Task}
use Rattle.parallel_threads.specs.Tasks.{IsNew, tasks_at}

pub behind : (all : List (Vec Task)) (i : ℕ) → length all ≤ i → tasks_at all i ≡ []
behind [] i last = refl
behind (x ∷ xs) zero last = absurd (omega (arith, last))
behind (x ∷ xs) (suc i) last = behind xs i (omega (arith, last))

pub at : (all : List (Vec Task)) (i : ℕ) (v : Vec Task) → i < length all → v ≡ get_or all i v → v.items ≡ tasks_at all i
at [] i v low is = absurd (omega (arith, low))
at (x ∷ xs) zero v low is = ap (λ w. w.items) is
at (x ∷ xs) (suc i) v low is = at xs i v (omega (arith, low)) is

pub here : (all : List (Vec Task)) (i : ℕ) (v : Vec Task) → i < length all → tasks_at (set all i v) i ≡ v.items
here [] i v low = absurd (omega (arith, low))
here (x ∷ xs) zero v low = refl
here (x ∷ xs) (suc i) v low = here xs i v (omega (arith, low))

pub apart : (all : List (Vec Task)) (i k : ℕ) (v : Vec Task) → k ≢ i → tasks_at (set all i v) k ≡ tasks_at all k
apart [] i k v other = refl
apart (x ∷ xs) zero zero v other = absurd (other refl)
apart (x ∷ xs) zero (suc k) v other = refl
apart (x ∷ xs) (suc i) zero v other = refl
apart (x ∷ xs) (suc i) (suc k) v other = apart xs i k v (λ same. other (ap suc same))

-- new seats, the first of which has this number
abbrev pub AreNewFrom : ℕ → List SeatShape → Type 0
AreNewFrom n seats = (k : ℕ) (d : SeatShape) → k < length seats → ((get_or seats k d).number ≡ n + k) × IsNew (get_or seats k d)

pub first_of : (n : ℕ) (seats : List SeatShape) (s : SeatShape) → 0 < length seats → s ≡ get_or seats 0 s → AreNewFrom n seats → (s.number ≡ n) × IsNew s
first_of n seats s some is all =
    let one = subst (λ x. (x.number ≡ n + 0) × IsNew x) (sym is) (all 0 s some) in
    (omega (arith, one.0), one.1)

pub rest_of : (n : ℕ) (seats : List SeatShape) → 0 < length seats → AreNewFrom n seats → AreNewFrom (n + 1) (remove seats 0)
rest_of n [] some all k d low = absurd (omega (arith, some))
rest_of n (x ∷ xs) some all k d low =
    let one = all (suc k) d (omega (arith, low)) in
    (omega (arith, one.0), one.1)

-- one seat more
pub seats_more : (P : ℕ → SeatShape → Type 0) (n : ℕ) (seats : List SeatShape) (seat : SeatShape) → length seats ≡ n → ((j : ℕ) (d : SeatShape) → j < n → P j (get_or seats j d)) → P n seat
    → (j : ℕ) (d : SeatShape) → j < n + 1 → P j (get_or (seats ++ seat ∷ []) j d)
seats_more P n seats seat long all one j d =
    below_more (λ m. P m (get_or (seats ++ seat ∷ []) m d)) n
    (λ m low. subst (P m) (sym (get_or-append seats (seat ∷ []) d m (omega (arith, long, low)))) (all m d low))
    (subst (P n) (sym (ap (λ m. get_or (seats ++ seat ∷ []) m d) (sym long) ∙ get_or-append_seam seats seat [] d)) one)
    j

-- the seats before this place gave these tasks back
module _ (Gave : ℕ → List Task → SeatShape → Type 0) where
  abbrev pub HaveGiven : ℕ → ℕ → List (Vec Task) → List SeatShape → Type 0
  HaveGiven places n tasks seats = (j : ℕ) (d : SeatShape) → j < n → j < places → Gave j (tasks_at tasks j) (get_or seats j d)

  pub given_more : (places n : ℕ) (old new : List (Vec Task)) (seats : List SeatShape) (list : List Task) (seat : SeatShape) → length seats ≡ n
      → HaveGiven places n old seats → (n < places → tasks_at new n ≡ list) → ((k : ℕ) → k ≢ n → tasks_at new k ≡ tasks_at old k) → Gave n list seat
      → HaveGiven places (n + 1) new (seats ++ seat ∷ [])
  given_more places n old new seats list seat long all put others one j d =
      below_more (λ m. m < places → Gave m (tasks_at new m) (get_or (seats ++ seat ∷ []) m d)) n
      (λ m low within. subst (λ (x : List Task × SeatShape). Gave m x.0 x.1)
      (λ i. (sym (others m (λ same. omega (arith, low, same))) i, sym (get_or-append seats (seat ∷ []) d m (omega (arith, long, low))) i))
      (all m d low within))
      (λ within. subst (λ (x : List Task × SeatShape). Gave n x.0 x.1)
      (λ i. (sym (put within) i, sym (ap (λ m. get_or (seats ++ seat ∷ []) m d) (sym long) ∙ get_or-append_seam seats seat [] d) i))
      one)
      j

-- tasks that are as they were at each of the first places, and behind them
pub tasks_same : (old new : List (Vec Task)) → length new ≡ length old → ((i : ℕ) → i < 8 → i < length old → tasks_at new i ≡ tasks_at old i) → ((i : ℕ) → 8 ≤ i → tasks_at new i ≡ tasks_at old i)
    → (i : ℕ) → tasks_at new i ≡ tasks_at old i
tasks_same old new many firsts others i = elim (cases_lt i 8) [
  | inl low ↦ elim (cases_lt i (length old)) [
    | inl within ↦ firsts i low within
    | inr last ↦ behind new i (omega (arith, many, last)) ∙ sym (behind old i last)
  ]
  | inr high ↦ others i high
]

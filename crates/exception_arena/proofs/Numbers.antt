-- Pending pairs, by their numbers.
use Rattle.std.proofs.Common.{◌≡◌, ◌≢◌, inl, inr, ℕ, zero, suc, ◌+◌, ◌<◌, List, [], ◌∷◌, ◌++◌, length, get_or, take, drop, Some, None, IsSome, IfSome, refl, ap, ◌∙◌, sym, subst, arith, append_assoc, drop-cons}
use Rattle.std.specs.List.{All}
use Rattle.std.proofs.lemmas.List.{take_more}
use Rattle.std.proofs.lemmas.Bool.{false≢true, cases_eq, cond-true, cond-false, eq-eqb, ne_eqb}
use Rattle.exception_arena.specs.declared.begun.Begun.{Begun}
use Rattle.exception_arena.specs.Pending.{begun_under, without}
use Rattle.exception_arena.specs.Links.{IsSmall}
use Rattle.exception_arena.specs.Arenas.{ArePending}
use Rattle.sector.specs.declared.pair.Pair.{Pair}

-- a number that is greater than each one in use is in no use
pub begun_none : (next : ℕ) (all : List Begun) → All (λ begun. begun.id < next) all → begun_under next all ≡ None
begun_none next [] below = refl
begun_none next (begun ∷ others) below =
    let here : begun.id < next = below 0 begun (omega arith) in
    let apart : begun.id ≢ next = omega arith in
    cond-false _ _ _ (ne_eqb _ _ apart) ∙ begun_none next others (λ k d lt. below (suc k) d (omega arith))

-- the first that has the number stands at i
pub under_here : (id : ℕ) (all : List Begun) (i : ℕ) (d : Begun) → i < length all → (get_or all i d).id ≡ id → (begun_under id (drop i all) ≡ Some (get_or all i d).pair) × (without id (drop i all) ≡ drop (suc i) all)
under_here id all i d lt is =
    let front : drop i all ≡ get_or all i d ∷ drop (suc i) all = drop-cons all i d lt in
    (ap (begun_under id) front ∙ cond-true _ _ _ (eq-eqb _ _ is), ap (without id) front ∙ cond-true _ _ _ (eq-eqb _ _ is))

-- it stands after i
pub under_next : (id : ℕ) (all : List Begun) (i : ℕ) (d : Begun) → i < length all → (get_or all i d).id ≢ id → (begun_under id (drop i all) ≡ begun_under id (drop (suc i) all)) × (without id (drop i all) ≡ get_or all i d ∷ without id (drop (suc i) all))
under_next id all i d lt apart =
    let front : drop i all ≡ get_or all i d ∷ drop (suc i) all = drop-cons all i d lt in
    (ap (begun_under id) front ∙ cond-false _ _ _ (ne_eqb _ _ apart), ap (without id) front ∙ cond-false _ _ _ (ne_eqb _ _ apart))

-- a search that has come to i
pub record IsPast (id : ℕ) (all : List Begun) (i : ℕ) : Type 0 where
  pub under : begun_under id all ≡ begun_under id (drop i all)
  pub rest : without id all ≡ take i all ++ without id (drop i all)

pub past_more : (id : ℕ) (all : List Begun) (i : ℕ) (d : Begun) → IsPast id all i → i < length all → (get_or all i d).id ≢ id → IsPast id all (i + 1)
past_more id all i d is lt apart =
    let next = under_next id all i d lt apart in
    let e : suc i ≡ i + 1 = omega arith in
    record {
      under = is.under ∙ next.0 ∙ ap (λ n. begun_under id (drop n all)) e;
      rest = is.rest ∙ ap (λ x. take i all ++ x) next.1
          ∙ sym (append_assoc (take i all) (get_or all i d ∷ []) (without id (drop (suc i) all)))
          ∙ ap (λ x. x ++ without id (drop (suc i) all)) (sym (take_more all i d lt))
          ∙ ap (λ n. take (i + 1) all ++ without id (drop n all)) e;
    }

-- the first of a list
pub first_begun : (all : List Begun) (begun : Begun) → 0 < length all → ((d : Begun) → begun ≡ get_or all 0 d) → (begun_under begun.id all ≡ Some begun.pair) × (without begun.id all ≡ drop 1 all)
first_begun all begun some first =
    let e : get_or all 0 begun ≡ begun = sym (first begun) in
    let here = under_here begun.id all 0 begun some (ap (λ x. x.id) e) in
    (here.0 ∙ ap (λ x. Some x.pair) e, here.1)

-- a pair of a list is found by its number, or another one that has the number
pub found_under : (all : List Begun) (i : ℕ) (begun : Begun) → i < length all → ((d : Begun) → begun ≡ get_or all i d) → IsSome (begun_under begun.id all)
found_under [] i begun lt is = absurd (omega arith)
found_under (first ∷ others) zero begun lt is = subst IsSome (sym (cond-true _ _ _ (eq-eqb _ _ (sym (ap (λ (b : Begun). b.id) (is first)))))) refl
found_under (first ∷ others) (suc k) begun lt is = elim (cases_eq first.id begun.id) [
  | inl e ↦ subst IsSome (sym (cond-true _ _ _ (eq-eqb _ _ e))) refl
  | inr ne ↦ subst IsSome (sym (cond-false _ _ _ (ne_eqb _ _ ne))) (found_under others k begun (omega arith) is)
]

all_front : (Q : Begun → Type 0) (first : Begun) (others : List Begun) → Q first → All Q others → All Q (first ∷ others)
all_front Q first others here rest zero d lt = here
all_front Q first others here rest (suc k) d lt = rest k d (omega arith)

-- one pair less is pending
pub without_less : (id : ℕ) (all : List Begun) → IsSome (begun_under id all) → length (without id all) + 1 ≡ length all
without_less id [] some = absurd (false≢true some)
without_less id (first ∷ others) some = elim (cases_eq first.id id) [
  | inl e ↦ ap (λ x. length x + 1) (cond-true _ _ _ (eq-eqb _ _ e)) ∙ omega arith
  | inr ne ↦ (
      let rest : IsSome (begun_under id others) = subst IsSome (cond-false _ _ _ (ne_eqb _ _ ne)) some in
      ap (λ x. length x + 1) (cond-false _ _ _ (ne_eqb _ _ ne)) ∙ omega (arith, without_less id others rest))
]

-- what is true of all that are pending is true of the others
pub without_all : (Q : Begun → Type 0) (id : ℕ) (all : List Begun) → All Q all → All Q (without id all)
without_all Q id [] each = each
without_all Q id (first ∷ others) each =
    let rest : All Q others = λ k d lt. each (suc k) d (omega arith) in
    elim (cases_eq first.id id) [
      | inl e ↦ subst (All Q) (sym (cond-true _ _ _ (eq-eqb _ _ e))) rest
      | inr ne ↦ subst (All Q) (sym (cond-false _ _ _ (ne_eqb _ _ ne))) (all_front Q first (without id others) (each 0 first (omega arith)) (without_all Q id others rest))
    ]

-- and of the one that leaves
pub under_all : (Q : Pair → Type 0) (id : ℕ) (all : List Begun) (pair : Pair) → All (λ begun. Q begun.pair) all → IsSome (begun_under id all) → IfSome (begun_under id all) (λ under. pair ≡ under) → Q pair
under_all Q id [] pair each some is = absurd (false≢true some)
under_all Q id (first ∷ others) pair each some is = elim (cases_eq first.id id) [
  | inl e ↦ (
      let h = cond-true _ _ _ (eq-eqb _ _ e) in
      let same : pair ≡ first.pair = subst (λ x. IfSome x (λ under. pair ≡ under)) h is in
      subst Q (sym same) (each 0 first (omega arith)))
  | inr ne ↦ (
      let h = cond-false _ _ _ (ne_eqb _ _ ne) in
      under_all Q id others pair (λ k d lt. each (suc k) d (omega arith)) (subst IsSome h some) (subst (λ x. IfSome x (λ under. pair ≡ under)) h is))
]

-- the queue after one leaves
pub pending_less : (pending pending' : List Begun) (id next reserved capacity capacity' : ℕ) → IsSome (begun_under id pending) → pending' ≡ without id pending → capacity' ≡ capacity → ArePending pending next reserved capacity → ArePending pending' next reserved capacity' × (length pending' + 1 ≡ length pending)
pending_less pending pending' id next reserved capacity capacity' some is same are =
    let less : length pending' + 1 ≡ length pending = ap (λ x. length x + 1) is ∙ without_less id pending some in (
      record {
        room = omega (arith, are.room);
        numbers = are.numbers;
        given = subst (All (λ begun. begun.id < next)) (sym is) (without_all (λ begun. begun.id < next) id pending are.given);
        small = subst (All (λ begun. IsSmall begun.pair)) (sym is) (without_all (λ begun. IsSmall begun.pair) id pending are.small);
      },
      less,
    )

-- The lists of a group.
use Rattle.std.proofs.Common.{◌≡◌, ◌⊎◌, inl, inr, ℕ, zero, suc, ◌+◌, ◌-◌, ◌*◌, ◌^◌, ◌<◌, ◌≤◌, true, false, List, ◌∷◌, ◌++◌, arith, refl, ap, ◌∙◌, sym, subst, append-nil}
use Rattle.std.specs.Prelude.{Some}
use Rattle.sector.specs.declared.pair.Pair.{Pair}
use Rattle.cow_format.specs.Pairs.{IsInside}
use Rattle.store.specs.Grouping.{shifted, run_at}
use Rattle.store.proofs.Groups.{get_or-run, run-append, length-run}
use Rattle.store.specs.declared.state.State.{State}
use Rattle.merge.specs.declared.group.Group.{Group}
use Rattle.merge.specs.declared.group.Progress.{Progress}
use Rattle.merge.specs.declared.group.Progress.TheVariants.{Open, Full, Flushed, Committed}
use Rattle.merge.specs.Lists.{total, all_in, group_pairs, has_place, reading_at, copied_at, released_at, buffered_count}
use Rattle.merge.specs.Held.{IsGroupOf, IsSmall}
use Rattle.volume_laws.specs.Again.{has_chunk}
use Rattle.std.proofs.lemmas.Bool.{cases_lt}

-- the last pair of a group is inside
pub group_small : (s : State) (ps : List Pair) (g : Group) → IsGroupOf s ps g → 0 < s.chunk → s.origin < 2 ^ 64 → s.size < 2 ^ 64 → IsSmall g
group_small s ps g h some origin size =
    let n = total g in
    let positive = h.some in
    let e : shifted g.first (0 + (n - 1)) ≡ shifted g.first (n - 1) = (let z : 0 + (n - 1) ≡ n - 1 = omega arith in ap (shifted g.first) z) in
    let is : IsInside s.chunk s.origin s.size (shifted g.first (n - 1)) =
    subst (λ (p : Pair). IsInside s.chunk s.origin s.size p) (get_or-run g.first 0 n (n - 1) g.first (omega arith) ∙ e) (h.inside (n - 1) g.first (let l = length-run g.first 0 n in omega arith)) in
    let old : g.first.old + (n - 1) ≤ s.chunk * (g.first.old + (n - 1)) = grind arith in
    let new : g.first.new + (n - 1) + 1 ≤ s.chunk * (g.first.new + (n - 1) + 1) = grind arith in
    record { old = (let i = is.old in omega (arith, i, old)); new = (let i = is.new in omega (arith, i, new)) }

-- a chunk is one of a run's where it lies between its ends
pub any_in : (first : Pair) (k n c : ℕ) → first.old + k ≤ c → c < first.old + k + n → has_chunk (run_at first k n) c ≡ true
any_in first k zero c lo hi = absurd (omega arith)
any_in first k (suc n) c lo hi = elim (cases_lt (first.old + k) c) [
  | inl lt ↦ (let rest : has_chunk (run_at first (k + 1) n) c ≡ true = any_in first (k + 1) n c (omega arith) (omega arith) in grind (arith, rest))
  | inr ge ↦ (let e : first.old + k ≡ c = omega arith in grind (arith, e))
]

pub any_out : (first : Pair) (k n c : ℕ) → (c < first.old + k) ⊎ (first.old + k + n ≤ c) → has_chunk (run_at first k n) c ≡ false
any_out first k zero c out = refl
any_out first k (suc n) c (inl lo) = (let rest : has_chunk (run_at first (k + 1) n) c ≡ false = any_out first (k + 1) n c (inl (omega arith)) in grind (arith, rest))
any_out first k (suc n) c (inr hi) = (let rest : has_chunk (run_at first (k + 1) n) c ≡ false = any_out first (k + 1) n c (inr (omega arith)) in grind (arith, rest))

-- so is a place
pub place_in : (first : Pair) (k n c : ℕ) → first.new + k ≤ c → c < first.new + k + n → has_place (run_at first k n) c ≡ true
place_in first k zero c lo hi = absurd (omega arith)
place_in first k (suc n) c lo hi = elim (cases_lt (first.new + k) c) [
  | inl lt ↦ (let rest : has_place (run_at first (k + 1) n) c ≡ true = place_in first (k + 1) n c (omega arith) (omega arith) in grind (arith, rest))
  | inr ge ↦ (let e : first.new + k ≡ c = omega arith in grind (arith, e))
]

pub place_out : (first : Pair) (k n c : ℕ) → (c < first.new + k) ⊎ (first.new + k + n ≤ c) → has_place (run_at first k n) c ≡ false
place_out first k zero c out = refl
place_out first k (suc n) c (inl lo) = (let rest : has_place (run_at first (k + 1) n) c ≡ false = place_out first (k + 1) n c (inl (omega arith)) in grind (arith, rest))
place_out first k (suc n) c (inr hi) = (let rest : has_place (run_at first (k + 1) n) c ≡ false = place_out first (k + 1) n c (inr (omega arith)) in grind (arith, rest))

-- the four lists of a group are all of it
parts : (p : Progress) (g : Group) → g.progress ≡ p → run_at g.first 0 g.waiting ++ (reading_at p g ++ (copied_at p g ++ released_at p g)) ≡ run_at g.first 0 (g.waiting + (buffered_count p + g.copied))
parts Open g is =
    let e : 0 + g.waiting ≡ g.waiting = omega arith in
    let f : 0 + g.copied ≡ g.copied = omega arith in
    ap (λ x. run_at g.first 0 g.waiting ++ x) (append-nil (run_at g.first g.waiting g.copied)) ∙ ap (λ (k : ℕ). run_at g.first 0 g.waiting ++ run_at g.first k g.copied) (sym e)
    ∙ sym (run-append g.first 0 g.waiting g.copied) ∙ ap (λ (n : ℕ). run_at g.first 0 (g.waiting + n)) (sym f)
parts Full g is =
    let e : 0 + g.waiting ≡ g.waiting = omega arith in
    let f : 1 + g.copied ≡ suc g.copied = omega arith in
    ap (λ x. run_at g.first 0 g.waiting ++ (shifted g.first g.waiting ∷ x)) (append-nil (run_at g.first (g.waiting + 1) g.copied)) ∙ ap (λ (k : ℕ). run_at g.first 0 g.waiting ++ run_at g.first k (suc g.copied)) (sym e)
    ∙ sym (run-append g.first 0 g.waiting (suc g.copied)) ∙ ap (λ (n : ℕ). run_at g.first 0 (g.waiting + n)) (sym f)
parts Flushed g is =
    let e : 0 + g.waiting ≡ g.waiting = omega arith in
    let f : 0 + g.copied ≡ g.copied = omega arith in
    ap (λ x. run_at g.first 0 g.waiting ++ x) (append-nil (run_at g.first g.waiting g.copied)) ∙ ap (λ (k : ℕ). run_at g.first 0 g.waiting ++ run_at g.first k g.copied) (sym e)
    ∙ sym (run-append g.first 0 g.waiting g.copied) ∙ ap (λ (n : ℕ). run_at g.first 0 (g.waiting + n)) (sym f)
parts Committed g is =
    let e : 0 + g.waiting ≡ g.waiting = omega arith in
    let f : 0 + g.copied ≡ g.copied = omega arith in
    ap (λ (k : ℕ). run_at g.first 0 g.waiting ++ run_at g.first k g.copied) (sym e)
    ∙ sym (run-append g.first 0 g.waiting g.copied) ∙ ap (λ (n : ℕ). run_at g.first 0 (g.waiting + n)) (sym f)

pub group_all : (g : Group) → group_pairs (Some g) ≡ all_in g
group_all g = parts g.progress g refl

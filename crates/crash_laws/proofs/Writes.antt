-- A store's own facts before and after a commit, as what its slots hold.
use Rattle.std.proofs.Common.{◌≡◌, ◌≢◌, inl, inr, ℕ, ◌+◌, ◌*◌, ◌-◌, ◌<◌, ◌≤◌, List, ◌++◌, length, get_or, arith, ap, ◌∙◌}
use Rattle.std.proofs.lemmas.Bool.{cases_lt}
use Rattle.sector.specs.declared.pair.Pair.{Pair}
use Rattle.cow_format.specs.Slots.{pair_in}
use Rattle.cow_format.specs.Places.{area_place, chunk_at, slot}
use Rattle.cow_format.specs.Pairs.{pairs_of}
use Rattle.cow_format.proofs.Slots.{slot-at}
use Rattle.crash_laws.proofs.Between.{IsBetween}
use Rattle.crash_laws.proofs.Areas.{between_first}

-- an area of which so many slots are in use, and the first slot of the next where they fill it
pub record IsTidy (chunk a filled count : ℕ) (b : List ℕ) : Type 0 where
  pub empty : (i : ℕ) → filled ≤ i → i < 32 * chunk → (pair_in (chunk_at chunk b (area_place chunk a)) i).new ≡ 0
  pub next : filled + count ≡ 32 * chunk → (pair_in (chunk_at chunk b (area_place chunk (a + 1))) 0).new ≡ 0

-- the slots after those in use
pub tidy_slots : (chunk a filled count n : ℕ) (b : List ℕ) → 0 < chunk → filled + count ≤ 32 * chunk → n ≡ a * (32 * chunk) + filled → IsTidy chunk a filled count b → (k : ℕ) → n ≤ k → k ≤ n + count → (slot chunk b k).new ≡ 0
tidy_slots chunk a filled count n b pos fits is tidy k lo hi =
    let i : ℕ = k - a * (32 * chunk) in
    let e : k ≡ a * (32 * chunk) + (k - a * (32 * chunk)) = omega arith in
    elim (cases_lt (k - a * (32 * chunk)) (32 * chunk)) [
      | inl lt ↦ ap (λ x. (slot chunk b x).new) e ∙ ap (λ p. p.new) (slot-at chunk b a (k - a * (32 * chunk)) lt) ∙ tidy.empty (k - a * (32 * chunk)) (omega arith) lt
      | inr ge ↦ (let at : k ≡ (a + 1) * (32 * chunk) + 0 = let h : a * (32 * chunk) + 32 * chunk ≡ (a + 1) * (32 * chunk) = grind arith in omega arith in
          ap (λ x. (slot chunk b x).new) at ∙ ap (λ p. p.new) (slot-at chunk b (a + 1) 0 (omega arith)) ∙ tidy.next (omega arith))
    ]

-- A store before a commit, of which nothing but the first pairs is there: what its slots hold, as to the list after it.
pub before_commit : (chunk a filled : ℕ) (b : List ℕ) (ps qs : List Pair) → 0 < chunk → filled + length qs ≤ 32 * chunk → length ps ≡ a * (32 * chunk) + filled → pairs_of chunk b ≡ ps → IsTidy chunk a filled (length qs) b → ((k : ℕ) (d : Pair) → k < length (ps ++ qs) → (get_or (ps ++ qs) k d).new ≢ 0) → IsBetween (slot chunk b) (length ps) (ps ++ qs)
before_commit chunk a filled b ps qs pos fits count is tidy valid = between_first chunk b ps qs pos is (tidy_slots chunk a filled (length qs) (length ps) b pos fits count tidy) valid

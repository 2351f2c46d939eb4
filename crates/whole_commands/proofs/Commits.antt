-- One pair put into an area, and an area zeroed.
use Rattle.std.proofs.Common.{◌≡◌, ◌≢◌, ℕ, zero, ◌+◌, ◌*◌, ◌^◌, ◌<◌, ◌≤◌, List, [], ◌∷◌, ◌++◌, length, get_or, arith, ap, ◌∙◌, sym, subst}
use Rattle.std.specs.Prelude.{replicate}
use Rattle.std.proofs.lemmas.List.{length-replicate}
use Rattle.sector.specs.Bytes.{with_part}
use Rattle.sector.specs.declared.pair.Pair.{Pair}
use Rattle.cow_format.specs.Slots.{pair_in, pair_bytes, with_pair}
use Rattle.cow_format.specs.Places.{chunk_at, area_place, ChangesOnly}
use Rattle.cow_format.specs.Pairs.{pairs_of}
use Rattle.cow_format.proofs.AreaPlaces.{places_apart}
use Rattle.cow_format.proofs.Slots.{pairs-committed}
use Rattle.whole_commands.specs.Saves.{zeroed}
use Rattle.whole_commands.specs.Order.{AreEmptyFrom}
use Rattle.whole_commands.proofs.Parts.{part_only, part_here, whole_here, length-chunk_at}
use Rattle.whole_commands.proofs.PairParts.{length-pair_bytes, pair_here, pair_others, pair_of_zeros, zero_byte}

-- an area with a pair in a slot
abbrev pub put : ℕ → List ℕ → ℕ → ℕ → Pair → List ℕ
put chunk store a j pair = with_part store (512 * (chunk * area_place chunk a) + 16 * j) (pair_bytes pair)

pub put_only : (chunk a j : ℕ) (store : List ℕ) (pair : Pair) → j < 32 * chunk → 512 * (chunk * area_place chunk a + chunk) ≤ length store → ChangesOnly chunk (area_place chunk a) store (put chunk store a j pair)
put_only chunk a j store pair lt fits =
    let len = length-pair_bytes pair in part_only chunk (area_place chunk a) (16 * j) store (pair_bytes pair) (omega arith) (omega arith)

pub put_here : (chunk a j : ℕ) (store : List ℕ) (pair : Pair) → j < 32 * chunk → 512 * (chunk * area_place chunk a + chunk) ≤ length store → chunk_at chunk (put chunk store a j pair) (area_place chunk a) ≡ with_pair (chunk_at chunk store (area_place chunk a)) j pair
put_here chunk a j store pair lt fits =
    let len = length-pair_bytes pair in part_here chunk (area_place chunk a) (16 * j) store (pair_bytes pair) (omega arith) fits

put_pair : (chunk a j : ℕ) (store : List ℕ) (pair : Pair) → j < 32 * chunk → 512 * (chunk * area_place chunk a + chunk) ≤ length store → pair.old < 256 ^ 8 → pair.new < 256 ^ 8 → pair_in (chunk_at chunk (put chunk store a j pair) (area_place chunk a)) j ≡ pair
put_pair chunk a j store pair lt fits old new =
    let len = length-chunk_at chunk (area_place chunk a) store fits in
    ap (λ x. pair_in x j) (put_here chunk a j store pair lt fits) ∙ pair_here (chunk_at chunk store (area_place chunk a)) j pair (omega arith) old new

put_other : (chunk a j i : ℕ) (store : List ℕ) (pair : Pair) → j < 32 * chunk → 512 * (chunk * area_place chunk a + chunk) ≤ length store → i ≢ j → pair_in (chunk_at chunk (put chunk store a j pair) (area_place chunk a)) i ≡ pair_in (chunk_at chunk store (area_place chunk a)) i
put_other chunk a j i store pair lt fits ne =
    let len = length-chunk_at chunk (area_place chunk a) store fits in
    ap (λ x. pair_in x i) (put_here chunk a j store pair lt fits) ∙ pair_others (chunk_at chunk store (area_place chunk a)) j i pair (omega arith) ne

-- what a pair put into the first empty slot leaves
pub put_pairs : (chunk a j : ℕ) (store : List ℕ) (ps : List Pair) (pair : Pair) → 0 < chunk → pairs_of chunk store ≡ ps → length ps ≡ a * (32 * chunk) + j → j < 32 * chunk → 512 * (chunk * area_place chunk a + chunk) ≤ length store → pair.old < 256 ^ 8 → pair.new < 256 ^ 8 → pair.new ≢ 0 → AreEmptyFrom chunk a j store → (j + 1 ≡ 32 * chunk → AreEmptyFrom chunk (a + 1) 0 store) → pairs_of chunk (put chunk store a j pair) ≡ ps ++ pair ∷ []
put_pairs chunk a j store ps pair pos is len lt fits old new some tail next =
    pairs-committed chunk a j store (put chunk store a j pair) ps (pair ∷ []) pos is len (omega arith) (put_only chunk a j store pair lt fits)
    (λ i below. put_other chunk a j i store pair lt fits (omega arith))
    (λ i d inside. let e : i ≡ 0 = omega arith in let at : j + i ≡ j = omega arith in
    ap (pair_in (chunk_at chunk (put chunk store a j pair) (area_place chunk a))) at ∙ put_pair chunk a j store pair lt fits old new ∙ sym (ap (λ n. get_or (pair ∷ []) n d) e))
    (λ i d inside. let e : i ≡ 0 = omega arith in λ h. some (ap (λ n. (get_or (pair ∷ []) n d).new) (sym e) ∙ h))
    (record {
      here = λ more. ap (λ p. p.new) (put_other chunk a j (j + 1) store pair lt fits (omega arith)) ∙ tail.each (j + 1) (omega arith) more;
      next = λ full. ap (λ x. (pair_in x 0).new) ((put_only chunk a j store pair lt fits).rest (area_place chunk (a + 1)) (places_apart chunk (a + 1) a (omega arith))) ∙ (next full).each 0 (omega arith) (omega arith);
    })

-- and the slots after it are empty as before
pub put_tail : (chunk a j : ℕ) (store : List ℕ) (pair : Pair) → j < 32 * chunk → 512 * (chunk * area_place chunk a + chunk) ≤ length store → AreEmptyFrom chunk a j store → AreEmptyFrom chunk a (j + 1) (put chunk store a j pair)
put_tail chunk a j store pair lt fits tail = record {
  each = λ i from to. ap (λ p. p.new) (put_other chunk a j i store pair lt fits (omega arith)) ∙ tail.each i (omega arith) to;
}

-- another chunk's change leaves an area empty
pub tail_kept : (chunk n a j : ℕ) (old new : List ℕ) → ChangesOnly chunk n old new → area_place chunk a ≢ n → AreEmptyFrom chunk a j old → AreEmptyFrom chunk a j new
tail_kept chunk n a j old new only ne tail = record {
  each = λ i from to. ap (λ x. (pair_in x i).new) (only.rest (area_place chunk a) ne) ∙ tail.each i from to;
}

-- area a zeroed
pub zeroed_only : (chunk a : ℕ) (store : List ℕ) → 512 * (chunk * area_place chunk a + chunk) ≤ length store → ChangesOnly chunk (area_place chunk a) store (zeroed chunk store a)
zeroed_only chunk a store fits =
    let len : length (replicate (512 * chunk) zero) ≡ 512 * chunk = length-replicate (512 * chunk) zero in
    subst (λ (at : ℕ). ChangesOnly chunk (area_place chunk a) store (with_part store at (replicate (512 * chunk) zero))) (omega arith)
    (part_only chunk (area_place chunk a) 0 store (replicate (512 * chunk) zero) (omega arith) (omega arith))

pub zeroed_empty : (chunk a : ℕ) (store : List ℕ) → 512 * (chunk * area_place chunk a + chunk) ≤ length store → AreEmptyFrom chunk a 0 (zeroed chunk store a)
zeroed_empty chunk a store fits = record {
  each = λ i from to.
      ap (λ x. (pair_in x i).new) (whole_here chunk (area_place chunk a) store (replicate (512 * chunk) zero) (length-replicate (512 * chunk) zero) fits)
      ∙ pair_of_zeros (replicate (512 * chunk) zero) i (λ k lo hi. zero_byte (512 * chunk) k (omega arith));
}

-- A written store whose tail was cleared holds the same pairs and shows the same array.
use Rattle.std.proofs.Common.{◌≡◌, inl, inr, ℕ, zero, ◌+◌, ◌*◌, ◌-◌, ◌/◌, ◌%◌, ◌<◌, ◌≤◌, List, length, get_or, arith, refl, ap, ◌∙◌, sym}
use Rattle.std.specs.Prelude.{replicate}
use Rattle.std.proofs.lemmas.List.{length-replicate, take_all}
use Rattle.std.proofs.lemmas.Bool.{cases_lt}
use Rattle.std.proofs.lemmas.Nat.{div-add-mod', mod_below}
use Rattle.sector.specs.Bytes.{with_part}
use Rattle.cow_format.specs.Slots.{pair_in}
use Rattle.cow_format.specs.Places.{chunk_at, area_place, slot, ChangesOnly}
use Rattle.cow_format.specs.Pairs.{pairs_of, AreWellFormed}
use Rattle.cow_format.specs.Picture.{picture}
use Rattle.cow_format.proofs.Slots.{IsListed-pairs, slot-at, pairs-cleared}
use Rattle.cow_format.proofs.Pictures.{same_picture}
use Rattle.cow_format.proofs.Views.{picture-only, place_unnamed}
use Rattle.whole_commands.specs.Loads.{trimmed}
use Rattle.whole_commands.specs.Order.{IsInOrder}
use Rattle.whole_commands.proofs.Parts.{part_only, part_here, part_outside, part_inside, length-chunk_at}
use Rattle.whole_commands.proofs.PairParts.{pair_same, pair_of_zeros, zero_byte}
use Rattle.whole_commands.proofs.Laws.{chunk_fits}

-- the bytes of area a after slot j zero
abbrev pub cleared : ℕ → List ℕ → ℕ → ℕ → List ℕ
cleared chunk store a j = with_part store (512 * (chunk * area_place chunk a) + 16 * (j + 1)) (replicate (512 * chunk - 16 * (j + 1)) zero)

cleared_only : (chunk a j : ℕ) (store : List ℕ) → j < 32 * chunk → 512 * (chunk * area_place chunk a + chunk) ≤ length store → ChangesOnly chunk (area_place chunk a) store (cleared chunk store a j)
cleared_only chunk a j store lt fits =
    let len = length-replicate (512 * chunk - 16 * (j + 1)) zero in
    part_only chunk (area_place chunk a) (16 * (j + 1)) store (replicate (512 * chunk - 16 * (j + 1)) zero) (omega arith) (omega arith)

cleared_here : (chunk a j : ℕ) (store : List ℕ) → j < 32 * chunk → 512 * (chunk * area_place chunk a + chunk) ≤ length store → chunk_at chunk (cleared chunk store a j) (area_place chunk a) ≡ with_part (chunk_at chunk store (area_place chunk a)) (16 * (j + 1)) (replicate (512 * chunk - 16 * (j + 1)) zero)
cleared_here chunk a j store lt fits =
    let len = length-replicate (512 * chunk - 16 * (j + 1)) zero in
    part_here chunk (area_place chunk a) (16 * (j + 1)) store (replicate (512 * chunk - 16 * (j + 1)) zero) (omega arith) fits

-- a slot up to j
cleared_below : (chunk a j i : ℕ) (store : List ℕ) → j < 32 * chunk → 512 * (chunk * area_place chunk a + chunk) ≤ length store → i ≤ j → pair_in (chunk_at chunk (cleared chunk store a j) (area_place chunk a)) i ≡ pair_in (chunk_at chunk store (area_place chunk a)) i
cleared_below chunk a j i store lt fits le =
    let len = length-replicate (512 * chunk - 16 * (j + 1)) zero in
    let whole = length-chunk_at chunk (area_place chunk a) store fits in
    ap (λ x. pair_in x i) (cleared_here chunk a j store lt fits)
    ∙ pair_same _ _ i (λ k lo hi. part_outside (chunk_at chunk store (area_place chunk a)) (replicate (512 * chunk - 16 * (j + 1)) zero) (16 * (j + 1)) k (omega arith) (inl (omega arith)))

-- a slot above j
cleared_above : (chunk a j i : ℕ) (store : List ℕ) → j < 32 * chunk → 512 * (chunk * area_place chunk a + chunk) ≤ length store → j < i → i < 32 * chunk → (pair_in (chunk_at chunk (cleared chunk store a j) (area_place chunk a)) i).new ≡ 0
cleared_above chunk a j i store lt fits above inside =
    let len = length-replicate (512 * chunk - 16 * (j + 1)) zero in
    let whole = length-chunk_at chunk (area_place chunk a) store fits in
    ap (λ x. (pair_in x i).new) (cleared_here chunk a j store lt fits)
    ∙ pair_of_zeros _ i (λ k lo hi. let at : k ≡ 16 * (j + 1) + (k - 16 * (j + 1)) = omega arith in
    ap (λ n. get_or (with_part (chunk_at chunk store (area_place chunk a)) (16 * (j + 1)) (replicate (512 * chunk - 16 * (j + 1)) zero)) n 0) at
    ∙ part_inside (chunk_at chunk store (area_place chunk a)) (replicate (512 * chunk - 16 * (j + 1)) zero) (16 * (j + 1)) (k - 16 * (j + 1)) (omega arith) (omega arith)
    ∙ zero_byte (512 * chunk - 16 * (j + 1)) (k - 16 * (j + 1)) (omega arith))

-- the slot after the last pair is empty
first_empty : (chunk a j : ℕ) (store : List ℕ) → 0 < chunk → length (pairs_of chunk store) ≡ a * (32 * chunk) + j → j < 32 * chunk → (pair_in (chunk_at chunk store (area_place chunk a)) j).new ≡ 0
first_empty chunk a j store pos len lt = ap (λ p. p.new) (sym (slot-at chunk store a j lt)) ∙ ap (λ n. (slot chunk store n).new) (sym len) ∙ (IsListed-pairs chunk store pos).ends

cleared_pairs : (chunk a j : ℕ) (store : List ℕ) → 0 < chunk → length (pairs_of chunk store) ≡ a * (32 * chunk) + j → j < 32 * chunk → 512 * (chunk * area_place chunk a + chunk) ≤ length store → pairs_of chunk (cleared chunk store a j) ≡ pairs_of chunk store
cleared_pairs chunk a j store pos len lt fits =
    pairs-cleared chunk a j j store (cleared chunk store a j) (pairs_of chunk store) pos refl len (omega arith) lt (cleared_only chunk a j store lt fits)
    (λ k below. cleared_below chunk a j k store lt fits (omega arith))
    (ap (λ p. p.new) (cleared_below chunk a j j store lt fits (omega arith)) ∙ first_empty chunk a j store pos len lt)
    ∙ take_all (a * (32 * chunk) + j) (pairs_of chunk store) (omega arith)

trimmed-is : (chunk : ℕ) (store : List ℕ) → trimmed chunk store ≡ cleared chunk store (length (pairs_of chunk store) / (32 * chunk)) (length (pairs_of chunk store) % (32 * chunk))
unfolding trimmed
trimmed-is chunk store = refl

-- a store whose pairs are well formed shows what it showed, once its tail is cleared
pub trimmed_shows : (chunk origin size : ℕ) (disk store : List ℕ) → 0 < chunk → 512 * (chunk * area_place chunk (length (pairs_of chunk store) / (32 * chunk)) + chunk) ≤ length store → AreWellFormed chunk origin size (pairs_of chunk store) → picture chunk disk (trimmed chunk store) ≡ picture chunk disk store
trimmed_shows chunk origin size disk store pos fits formed =
    let k : ℕ = length (pairs_of chunk store) in
    let a : ℕ = k / (32 * chunk) in
    let j : ℕ = k % (32 * chunk) in
    let at : k ≡ k / (32 * chunk) * (32 * chunk) + k % (32 * chunk) = sym (div-add-mod' k (32 * chunk)) in
    let lt : j < 32 * chunk = mod_below k (32 * chunk) (omega arith) in
    let new : List ℕ = cleared chunk store a j in
    let only = cleared_only chunk a j store lt fits in
    ap (picture chunk disk) (trimmed-is chunk store)
    ∙ same_picture chunk disk store disk new (pairs_of chunk store) refl (cleared_pairs chunk a j store pos at lt fits)
    (λ i inside. picture-only chunk (area_place chunk a) disk store new (pairs_of chunk store) pos only (place_unnamed chunk origin size a (pairs_of chunk store) pos formed.inside) i)

-- a store that may be loaded, once its tail is cleared
pub trimmed_law : (chunk origin size : ℕ) (disk store : List ℕ) → 0 < chunk → origin ≤ 2_147_483_648 → size ≤ 2_147_483_648 → length store ≡ 512 * size → AreWellFormed chunk origin size (pairs_of chunk store) → IsInOrder chunk origin size (trimmed chunk store) × (picture chunk disk store ≡ picture chunk disk (trimmed chunk store))
trimmed_law chunk origin size disk store pos small_o small whole formed =
    let k : ℕ = length (pairs_of chunk store) in
    let a : ℕ = k / (32 * chunk) in
    let j : ℕ = k % (32 * chunk) in
    let at : k ≡ k / (32 * chunk) * (32 * chunk) + k % (32 * chunk) = sym (div-add-mod' k (32 * chunk)) in
    let lt : j < 32 * chunk = mod_below k (32 * chunk) (omega arith) in
    let fits : 512 * (chunk * area_place chunk a + chunk) ≤ length store = chunk_fits chunk (area_place chunk a) size store whole formed.room in
    let new : List ℕ = cleared chunk store a j in
    let only = cleared_only chunk a j store lt fits in
    let pairs : pairs_of chunk new ≡ pairs_of chunk store = cleared_pairs chunk a j store pos at lt fits in
    rw (trimmed-is chunk store) (
      record {
        some = pos;
        small = small;
        origin_small = small_o;
        whole = only.len ∙ whole;
        pairs = rw pairs formed;
        tail = rw pairs (record {
          each = λ i from to. elim (cases_lt j i) [
            | inl above ↦ cleared_above chunk a j i store lt fits above to
            | inr le ↦ (let e : i ≡ j = omega arith in ap (λ n. (pair_in (chunk_at chunk new (area_place chunk a)) n).new) e ∙ ap (λ p. p.new) (cleared_below chunk a j j store lt fits (omega arith)) ∙ first_empty chunk a j store pos at lt)
          ];
        });
      },
      sym (trimmed_shows chunk origin size disk store pos fits formed) ∙ ap (picture chunk disk) (trimmed-is chunk store),
    )

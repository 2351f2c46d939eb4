-- A fresh store shows the origin.
use Rattle.std.proofs.Common.{◌≡◌, ℕ, ◌+◌, ◌*◌, ◌/◌, ◌%◌, ◌<◌, ◌≤◌, List, [], length, arith, refl, ap, ◌∙◌, sym, subst, Bool, true}
use Rattle.std.proofs.lemmas.List.{ext_get_or}
use Rattle.std.proofs.lemmas.List.Elements.{All-nil}
use Rattle.std.proofs.lemmas.Nat.{div-mul-add, mod-mul-add}
use Rattle.sector.specs.Bytes.{with_part}
use Rattle.cow_format.specs.Places.{slot, ChangesOnly}
use Rattle.cow_format.specs.Pairs.{pairs_of, IsInside}
use Rattle.cow_format.specs.Picture.{picture, picture_at}
use Rattle.cow_format.proofs.Slots.{pairs-are, slot-at}
use Rattle.cow_format.proofs.Pictures.{length-picture, get_or-picture}
use Rattle.cow_header.specs.HeaderText.{header_bytes}
use Rattle.whole_commands.specs.Saves.{zeroed}
use Rattle.whole_commands.specs.Loads.{made}
use Rattle.whole_commands.specs.Order.{AreEmptyFrom, IsInOrder}
use Rattle.whole_commands.proofs.Parts.{part_only}
use Rattle.whole_commands.proofs.Commits.{zeroed_only, zeroed_empty, tail_kept}
use Rattle.whole_commands.proofs.Laws.{length-header_bytes}

-- the header is written behind nothing but itself
headed_only : (chunk : ℕ) (valid : Bool) (store : List ℕ) → 0 < chunk → 512 * chunk ≤ length store → ChangesOnly chunk 0 store (with_part store 0 (header_bytes (512 * chunk) valid chunk))
headed_only chunk valid store pos fits =
    let len = length-header_bytes (512 * chunk) valid chunk (omega arith) in
    let at : 512 * (chunk * 0) + 0 ≡ 0 = omega arith in
    subst (λ (x : ℕ). ChangesOnly chunk 0 store (with_part store x (header_bytes (512 * chunk) valid chunk))) at
    (part_only chunk 0 0 store (header_bytes (512 * chunk) valid chunk) (omega arith) (omega arith))

first_slot : (chunk : ℕ) → 0 ≡ 0 * (32 * chunk) + 0
first_slot chunk = omega arith

-- an empty area 0 is no pairs
pub empty_pairs : (chunk : ℕ) (store : List ℕ) → 0 < chunk → AreEmptyFrom chunk 0 0 store → pairs_of chunk store ≡ []
empty_pairs chunk store pos tail = pairs-are chunk store [] pos (record {
  each = λ k d lt. absurd (omega arith);
  valid = λ k lt. absurd (omega arith);
  ends = ap (λ (x : ℕ). (slot chunk store x).new) (first_slot chunk) ∙ ap (λ p. p.new) (slot-at chunk store 0 0 (omega arith)) ∙ tail.each 0 (omega arith) (omega arith);
})

-- without pairs a snapshot shows the origin
pub picture_of_none : (chunk : ℕ) (disk store : List ℕ) → pairs_of chunk store ≡ [] → picture chunk disk store ≡ disk
picture_of_none chunk disk store none =
    ext_get_or 0 _ _ (length-picture chunk disk store) (λ i lt. let inside : i < length disk = rw (← length-picture chunk disk store) lt in
    get_or-picture chunk disk store i inside ∙ ap (λ ps. picture_at chunk disk store ps i) none)

made-is : (chunk : ℕ) (store : List ℕ) → made chunk store ≡ with_part (zeroed chunk store 0) 0 (header_bytes (512 * chunk) true chunk)
unfolding made
made-is chunk store = refl

-- a store without pairs, whose area 0 is there and empty
fresh_order : (chunk origin size : ℕ) (new : List ℕ) → 0 < chunk → origin ≤ 2_147_483_648 → size ≤ 2_147_483_648 → length new ≡ 512 * size → 2 * chunk ≤ size → AreEmptyFrom chunk 0 0 new → IsInOrder chunk origin size new
fresh_order chunk origin size new pos small_o small whole fits tail =
    let none : pairs_of chunk new ≡ [] = empty_pairs chunk new pos tail in
    let zero_area : 0 / (32 * chunk) ≡ 0 = ap (λ n. n / (32 * chunk)) (first_slot chunk) ∙ div-mul-add 0 (32 * chunk) 0 (omega arith) in
    let zero_slot : 0 % (32 * chunk) ≡ 0 = ap (λ n. n % (32 * chunk)) (first_slot chunk) ∙ mod-mul-add 0 (32 * chunk) 0 (omega arith) in
    record {
      some = pos;
      small = small;
      origin_small = small_o;
      whole = whole;
      pairs = rw none (record {
        inside = All-nil (IsInside chunk origin size);
        apart = λ i j d below lt. absurd (omega arith);
        room = rw zero_area (omega arith);
      });
      tail = rw (none, zero_area, zero_slot) tail;
    }

-- area 0 of what is made of a fresh store is empty
made_tail : (chunk : ℕ) (store : List ℕ) → 0 < chunk → 512 * (2 * chunk) ≤ length store → AreEmptyFrom chunk 0 0 (made chunk store)
made_tail chunk store pos fits =
    let blank = zeroed_only chunk 0 store (omega arith) in
    let mark = headed_only chunk true (zeroed chunk store 0) pos (let e = blank.len in omega arith) in
    subst (AreEmptyFrom chunk 0 0) (sym (made-is chunk store))
    (tail_kept chunk 0 0 0 (zeroed chunk store 0) _ mark (omega arith) (zeroed_empty chunk 0 store (omega arith)))

-- it shows the origin
pub made_shows : (chunk : ℕ) (disk store : List ℕ) → 0 < chunk → 512 * (2 * chunk) ≤ length store → picture chunk disk (made chunk store) ≡ disk
made_shows chunk disk store pos fits = picture_of_none chunk disk (made chunk store) (empty_pairs chunk (made chunk store) pos (made_tail chunk store pos fits))

-- what is made of a fresh store
pub made_law : (chunk origin size : ℕ) (disk store : List ℕ) → 0 < chunk → origin ≤ 2_147_483_648 → size ≤ 2_147_483_648 → length store ≡ 512 * size → 512 * (2 * chunk) ≤ length store → IsInOrder chunk origin size (made chunk store) × (disk ≡ picture chunk disk (made chunk store))
made_law chunk origin size disk store pos small_o small whole fits =
    let blank = zeroed_only chunk 0 store (omega arith) in
    let mark = headed_only chunk true (zeroed chunk store 0) pos (let e = blank.len in omega arith) in
    let tail : AreEmptyFrom chunk 0 0 (made chunk store) = made_tail chunk store pos fits in
    let len : length (made chunk store) ≡ 512 * size = ap length (made-is chunk store) ∙ mark.len ∙ blank.len ∙ whole in
    (fresh_order chunk origin size (made chunk store) pos small_o small len (omega arith) tail, sym (made_shows chunk disk store pos fits))

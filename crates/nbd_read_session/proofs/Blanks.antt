-- Blocks of one kind, one after the other.
use Rattle.std.proofs.Common.{◌≡◌, ℕ, zero, suc, ◌+◌, ◌-◌, ◌<◌, ◌≤◌, Bool, true, false, List, [], length, take, drop, refl, arith, ap, ◌∙◌, sym, zero-add, inl, inr}
use Rattle.std.specs.Prelude.{min, if◌then◌else◌}
use Rattle.std.proofs.lemmas.List.{drop-take, drop-drop, take-take, take_all, drop_all, length-take}
use Rattle.std.proofs.lemmas.Bool.{cases_lt}
use Rattle.nbd_read_session.specs.Blocks.{block, alike, is_blank, same_kind, most_blocks}

-- behind the end there is nothing
pub alike_none : (blocks : ℕ) (kind : Bool) → alike blocks kind [] ≡ 0
unfolding alike
alike_none zero kind = refl
alike_none (suc blocks) true = zero-add _ ∙ alike_none blocks true
alike_none (suc blocks) false = refl

alike_more : (blocks : ℕ) (kind : Bool) (bytes : List ℕ) → 0 < blocks → alike blocks kind bytes ≡ (if same_kind (is_blank (take block bytes)) kind then length (take block bytes) + alike (blocks - 1) kind (drop block bytes) else 0)
unfolding alike
alike_more zero kind bytes some = absurd (omega arith)
alike_more (suc blocks) kind bytes some = let e : suc blocks - 1 ≡ blocks = omega arith in rw e refl

-- what is asked about behind what is told of
inner : (b : List ℕ) (offset count done : ℕ) → done ≤ count → drop done (take count (drop offset b)) ≡ take (count - done) (drop (offset + done) b)
inner b offset count done inside =
    let e : count ≡ done + (count - done) = omega arith in
    ap (λ (n : ℕ). drop done (take n (drop offset b))) e ∙ drop-take done (count - done) (drop offset b) ∙ ap (take (count - done)) (drop-drop done offset b)

blocks_end : (b : List ℕ) (offset count more : ℕ) → count ≤ more → drop more (take count (drop offset b)) ≡ []
blocks_end b offset count more le = let len = length-take count (drop offset b) in drop_all more (take count (drop offset b)) (omega arith)

-- a block of the bytes that are asked about
block_of : (b : List ℕ) (offset count done part : ℕ) → done ≤ count → part ≡ min (count - done) 4096 → take 4096 (drop done (take count (drop offset b))) ≡ take part (drop (offset + done) b)
block_of b offset count done part inside is = ap (take 4096) (inner b offset count done inside) ∙ elim (cases_lt (count - done) 4096) [
  | inl lt ↦ (let l = drop (offset + done) b in let e : part ≡ count - done = omega arith in let len = length-take (count - done) l in
      take_all 4096 (take (count - done) l) (omega arith) ∙ ap (λ (n : ℕ). take n l) (sym e))
  | inr le ↦ (let l = drop (offset + done) b in let e : part ≡ 4096 = omega arith in
      take-take 4096 (count - done) l le ∙ ap (λ (n : ℕ). take n l) (sym e))
]

pub first_block : (b : List ℕ) (offset count part : ℕ) → part ≡ min count 4096 → take 4096 (take count (drop offset b)) ≡ take part (drop offset b)
first_block b offset count part is = elim (cases_lt count 4096) [
  | inl lt ↦ (let l = drop offset b in let e : part ≡ count = omega arith in let len = length-take count l in
      take_all 4096 (take count l) (omega arith) ∙ ap (λ (n : ℕ). take n l) (sym e))
  | inr le ↦ (let l = drop offset b in let e : part ≡ 4096 = omega arith in
      take-take 4096 count l le ∙ ap (λ (n : ℕ). take n l) (sym e))
]

behind_block : (b : List ℕ) (offset count done part : ℕ) → done ≤ count → part ≡ min (count - done) 4096 → drop 4096 (drop done (take count (drop offset b))) ≡ drop (done + part) (take count (drop offset b))
behind_block b offset count done part inside is = drop-drop 4096 done (take count (drop offset b)) ∙ elim (cases_lt (count - done) 4096) [
  | inl lt ↦ (let e : part ≡ count - done = omega arith in blocks_end b offset count (done + 4096) (omega arith) ∙ sym (blocks_end b offset count (done + part) (omega arith)))
  | inr le ↦ (let e : part ≡ 4096 = omega arith in ap (λ (n : ℕ). drop (done + n) (take count (drop offset b))) (sym e))
]

pub alike_start : (kind : Bool) (bytes : List ℕ) → 0 + alike 8192 kind bytes ≡ alike most_blocks kind bytes
unfolding most_blocks
alike_start kind bytes = zero-add (alike 8192 kind bytes)

-- all is told of
pub done_all : (b : List ℕ) (offset count done left : ℕ) (kind : Bool) → done ≡ count → done + alike left kind (drop done (take count (drop offset b))) ≡ done
done_all b offset count done left kind is =
    let none : alike left kind (drop done (take count (drop offset b))) ≡ 0 = ap (λ (n : ℕ). alike left kind (drop n (take count (drop offset b)))) is ∙ ap (alike left kind) (blocks_end b offset count count (omega arith)) ∙ alike_none left kind in
    omega arith

-- no block is left
pub done_most : (bytes : List ℕ) (done left : ℕ) (kind : Bool) → left ≤ 0 → done + alike left kind bytes ≡ done
unfolding alike
done_most bytes done zero kind none = let z : alike zero kind bytes ≡ 0 = refl in omega arith
done_most bytes done (suc left) kind none = absurd (omega arith)

-- the next block is of the other kind
pub done_other : (b : List ℕ) (offset count done part left : ℕ) (kind here : Bool) → 0 < left → done ≤ count → part ≡ min (count - done) 4096 → here ≡ is_blank (take part (drop (offset + done) b)) → same_kind here kind ≡ false → done + alike left kind (drop done (take count (drop offset b))) ≡ done
done_other b offset count done part left kind here some inside is blank other =
    let is_here : is_blank (take 4096 (drop done (take count (drop offset b)))) ≡ here = ap is_blank (block_of b offset count done part inside is) ∙ sym blank in
    let none : alike left kind (drop done (take count (drop offset b))) ≡ 0 =
    alike_more left kind (drop done (take count (drop offset b))) some ∙ rw (is_here, other) refl in
    omega arith

-- the next block is of the same kind
pub done_more : (b : List ℕ) (offset count done part left : ℕ) (kind here : Bool) → 0 < left → done ≤ count → part ≡ min (count - done) 4096 → here ≡ is_blank (take part (drop (offset + done) b)) → length (take part (drop (offset + done) b)) ≡ part → same_kind here kind ≡ true → done + part + alike (left - 1) kind (drop (done + part) (take count (drop offset b))) ≡ done + alike left kind (drop done (take count (drop offset b)))
done_more b offset count done part left kind here some inside is blank long same =
    let piece = block_of b offset count done part inside is in
    let is_here : is_blank (take 4096 (drop done (take count (drop offset b)))) ≡ here = ap is_blank piece ∙ sym blank in
    let len : length (take 4096 (drop done (take count (drop offset b)))) ≡ part = ap length piece ∙ long in
    let next : alike left kind (drop done (take count (drop offset b))) ≡ part + alike (left - 1) kind (drop (done + part) (take count (drop offset b))) =
    alike_more left kind (drop done (take count (drop offset b))) some ∙ rw (is_here, same, len, behind_block b offset count done part inside is) refl in
    omega arith

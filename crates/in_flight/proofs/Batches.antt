-- The copies at the front that are ready: how many there are after a change of the list, and that a batch is ready.
use Rattle.std.proofs.Common.{◌≡◌, ℕ, zero, suc, ◌+◌, ◌<◌, ◌≤◌, Bool, true, List, [], ◌∷◌, ◌++◌, length, get_or, set, map, take, drop, refl, ◌∙◌, ap, arith, inl, inr}
use Rattle.std.specs.Prelude.{if◌then◌else◌}
use Rattle.std.specs.List.{All, prefix_len}
use Rattle.std.proofs.lemmas.Bool.{cases_Bool, false≢true}
use Rattle.std.proofs.lemmas.List.Elements.{All-head, All-tail, All-nil, All-cons}
use Rattle.std.proofs.lemmas.List.Sums.{prefix_len-le-length}
use Rattle.in_flight.specs.Due.{is_stage, is_ready, front_ready, batch}
use Rattle.in_flight.specs.declared.copies.ChunkCopy.{ChunkCopy}
use Rattle.in_flight.specs.declared.copies.Stage.{Stage}
use Rattle.in_flight.specs.declared.copies.Stage.TheVariants.{Waiting, Read, Written, Flushed}

pub is_flushed : (stage : Stage) → is_stage Flushed stage ≡ true → stage ≡ Flushed
is_flushed Waiting e = absurd (false≢true e)
is_flushed Read e = absurd (false≢true e)
is_flushed Written e = absurd (false≢true e)
is_flushed Flushed e = refl

-- those that pass at the front, and one more list
pub prefix_more : {X : Type 0} (p : X → Bool) (xs ys : List X) → prefix_len p xs ≤ prefix_len p (xs ++ ys)
prefix_more p [] ys = omega arith
prefix_more p (x ∷ xs) ys = elim (cases_Bool (p x)) [
  | inl pass ↦ (let h = prefix_more p xs ys in rw pass (omega (arith, h)))
  | inr fails ↦ rw fails (omega arith)
]

-- one that passes is put in the place of another, or one in the place of one that does not
pub prefix_set : {X : Type 0} (p : X → Bool) (xs : List X) (k : ℕ) (x y : X) → x ≡ get_or xs k x → (p x ≡ true → p y ≡ true) → prefix_len p xs ≤ prefix_len p (set xs k y)
prefix_set p [] k x y is goes = omega arith
prefix_set p (z ∷ xs) zero x y is goes = elim (cases_Bool (p z)) [
  | inl pass ↦ rw (pass, goes (ap p is ∙ pass)) (omega arith)
  | inr fails ↦ rw fails (omega arith)
]
prefix_set p (z ∷ xs) (suc k) x y is goes = elim (cases_Bool (p z)) [
  | inl pass ↦ (let h = prefix_set p xs k x y is goes in rw pass (omega (arith, h)))
  | inr fails ↦ rw fails (omega arith)
]

-- the elements of another list that are seen as these
pub prefix_map : {X Y : Type 0} (f : X → Y) (p : Y → Bool) (xs : List X) → prefix_len p (map f xs) ≡ prefix_len (λ x. p (f x)) xs
prefix_map f p [] = refl
prefix_map f p (x ∷ xs) = ap (λ n. if p (f x) then 1 + n else 0) (prefix_map f p xs)

-- the first ones are taken away, all of them ready
pub ready_drop : (n : ℕ) (xs : List ChunkCopy) → n ≤ length xs → All (λ p. p.stage ≡ Flushed) (take n xs) → prefix_len is_ready xs ≡ n + prefix_len is_ready (drop n xs)
ready_drop zero xs le all = omega arith
ready_drop (suc n) [] le all = absurd (omega (arith, le))
ready_drop (suc n) (x ∷ xs) le all =
    let here : is_ready x ≡ true = ap (is_stage Flushed) (All-head (λ (p : ChunkCopy). p.stage ≡ Flushed) x (take n xs) all) in
    let rest = ready_drop n xs (omega (arith, le)) (All-tail (λ (p : ChunkCopy). p.stage ≡ Flushed) x (take n xs) all) in
    rw here (omega (arith, rest))

-- so many of those at the front are ready
pub ready_first : (n : ℕ) (xs : List ChunkCopy) → n ≤ prefix_len is_ready xs → All (λ p. p.stage ≡ Flushed) (take n xs)
ready_first zero xs le = All-nil (λ (p : ChunkCopy). p.stage ≡ Flushed)
ready_first (suc n) [] le = absurd (omega (arith, le))
ready_first (suc n) (x ∷ xs) le = elim (cases_Bool (is_ready x)) [
  | inl here ↦
      (let more : suc n ≤ 1 + prefix_len is_ready xs = rw here at le in
      All-cons (λ (p : ChunkCopy). p.stage ≡ Flushed) x (take n xs) (is_flushed x.stage here) (ready_first n xs (omega (arith, more))))
  | inr other ↦ (let none : suc n ≤ 0 = rw other at le in absurd (omega (arith, none)))
]

-- a batch is of copies that there are, no more than there are slots, all of them ready
pub batch_few : (slots : ℕ) (copies : List ChunkCopy) → batch slots copies ≤ length copies
batch_few slots copies = omega (arith, prefix_len-le-length is_ready copies)

pub batch_ready : (slots : ℕ) (copies : List ChunkCopy) → All (λ p. p.stage ≡ Flushed) (take (batch slots copies) copies)
batch_ready slots copies = ready_first (batch slots copies) copies (omega arith)

-- and not empty where the first copy is ready and there is a slot
pub front_leads : (copies : List ChunkCopy) → front_ready copies ≡ true → 0 < prefix_len is_ready copies
front_leads [] e = absurd (false≢true e)
front_leads (p ∷ ps) e = rw e (omega arith)

pub batch_some : (slots : ℕ) (copies : List ChunkCopy) → front_ready copies ≡ true → 0 < slots → 0 < batch slots copies
batch_some slots copies front some = (let h = front_leads copies front in omega (arith, h, some))

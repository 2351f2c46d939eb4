-- How many copies a snapshot can still start: none once it is spoiled, and one fewer with each that it starts.
use Rattle.std.proofs.Common.{◌≡◌, inl, inr, ℕ, ◌+◌, ◌*◌, ◌<◌, ◌≤◌, Bool, true, false, List, refl, sym, ◌∙◌, ap, arith}
use Rattle.std.specs.Prelude.{◌&&◌, ◌-◌, not}
use Rattle.std.proofs.lemmas.Bool.{cases_Bool, true≢false, ltb-false}
use Rattle.device.specs.Layers.{Layer}
use Rattle.cow_format.specs.NextPlace.{stepped}
use Rattle.cow_format.specs.Places.{is_area_place}
use Rattle.in_flight.specs.declared.copies.ChunkCopy.{ChunkCopy}
use Rattle.snapshot.specs.Kept.{Kept}
use Rattle.snapshot.specs.Calls.{StartsAt}
use Rattle.snapshot_list.specs.Starting.{lacks_chunk, is_full_of, starts_chunk}
use Rattle.volume.specs.Whole.{starts_left}

pub left_same : {B : Type 0} (s t : Kept B) → t.live ≡ s.live → t.state.size ≡ s.state.size → t.next ≡ s.next → starts_left t ≤ starts_left s
left_same s t live size next = rw (live, size, next) (omega arith)

pub left_spoilt : {B : Type 0} (s t : Kept B) → t.live ≡ false → starts_left t ≤ starts_left s
left_spoilt s t dead = rw dead (omega arith)

-- of a store that was just taken
pub left_whole : {B : Type 0} (s : Kept B) (size : ℕ) → s.state.size ≤ size → starts_left s ≤ size
left_whole s size small = elim (cases_Bool s.live) [
  | inl live ↦ rw live (omega (arith, small))
  | inr dead ↦ rw dead (omega arith)
]

is_live : (a b : Bool) → (a && not b) ≡ true → a ≡ true
is_live true b e = refl
is_live false b e = absurd (true≢false (sym e))

not_full : (a b : Bool) → (a && not b) ≡ true → b ≡ false
not_full true true e = absurd (true≢false (sym e))
not_full true false e = refl
not_full false b e = absurd (true≢false (sym e))

fits : (chunk n size : ℕ) → 0 < chunk → chunk * (n + 1) ≤ size → n + 1 ≤ size
fits chunk n size pos le = let turned : n + 1 ≤ chunk * (n + 1) = grind (arith, pos) in omega (arith, turned, le)

later : (chunk n : ℕ) → n ≤ stepped chunk n
later chunk n = elim (cases_Bool (is_area_place chunk n)) [
  | inl at ↦ rw at (omega arith)
  | inr out ↦ rw out (omega arith)
]

-- a copy is started
pub left_started : {B : Type 0} (contents : B → List ℕ) (layers : B → List Layer) (c : ℕ) (s t : Kept B) (p : ChunkCopy) → 0 < s.state.chunk → starts_chunk c s ≡ true → s.live ≡ true → StartsAt contents layers p s t → starts_left t + 1 ≤ starts_left s
left_started contents layers c s t p some begins live at =
    let room = ltb-false s.state.size (s.state.chunk * (s.next + 1)) (not_full (lacks_chunk c s) (is_full_of s) begins) in
    let inside = fits s.state.chunk s.next s.state.size some room in
    let next = ap (λ (x : Kept _). x.next) at.fields in
    let past = later s.state.chunk (s.next + 1) in
    let here : starts_left s ≡ s.state.size - s.next = rw live refl in
    let there : starts_left t ≡ s.state.size - stepped s.state.chunk (s.next + 1) = ap (λ (x : Kept _). starts_left x) at.fields ∙ rw live refl in
    omega (arith, inside, past, here, there)

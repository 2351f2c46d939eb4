-- A word stands for one usage.
use Rattle.std.proofs.Common.{◌≡◌, ℕ, zero, suc, ◌+◌, ◌*◌, ◌^◌, refl, sym, ap, ◌∙◌, arith}
use Rattle.thread_channels.specs.Words.{state_code, usage_word, IsNarrow}
use Rattle.thread_channels.specs.declared.usage.PlaceState.{PlaceState}
use Rattle.thread_channels.specs.declared.usage.PlaceState.TheVariants.{Good, Invalid, MergeFailed, Overflow, Empty}
use Rattle.thread_channels.specs.declared.usage.PlaceUsage.{PlaceUsage}

-- the state that a number stands for
abbrev of_code : ℕ → PlaceState
of_code zero = Good
of_code (suc zero) = Invalid
of_code (suc (suc zero)) = MergeFailed
of_code (suc (suc (suc zero))) = Overflow
of_code (suc (suc (suc (suc n)))) = Empty

coded : (a : PlaceState) → of_code (state_code a) ≡ a
coded Good = refl
coded Invalid = refl
coded MergeFailed = refl
coded Overflow = refl
coded Empty = refl

-- a state's number is that of no other state
same_state : (a b : PlaceState) → state_code a ≡ state_code b → a ≡ b
same_state a b e = sym (coded a) ∙ ap of_code e ∙ coded b

-- a usage's word is that of no other usage
pub same_usage : (a b : PlaceUsage) → IsNarrow a → IsNarrow b → usage_word a ≡ usage_word b → a ≡ b
same_usage a b narrow slim is =
    let front : state_code a.state * 2 ^ 28 + a.allocated ≡ state_code b.state * 2 ^ 28 + b.allocated = omega (arith, narrow.1, slim.1, is) in
    let state : state_code a.state ≡ state_code b.state = omega (arith, narrow.0, slim.0, front) in
    let s : a.state ≡ b.state = same_state a.state b.state state in
    let n : a.allocated ≡ b.allocated = omega (arith, front, state) in
    let m : a.metadata ≡ b.metadata = omega (arith, is, front) in
    λ i. record { state = s i; allocated = n i; metadata = m i }

-- Numbers of chunks: all that multiplies or divides by a chunk's size.
use Rattle.std.proofs.Common.{◌≡◌, ℕ, ◌+◌, ◌-◌, ◌*◌, ◌/◌, ◌%◌, ◌<◌, ◌≤◌, arith, ap, sym, ◌∙◌}
use Rattle.std.proofs.Math.Nat.{mul-div-le, lt-mul-div-succ}
use Rattle.std.proofs.lemmas.Nat.{div-mul-add, le-div}

-- a chunk begins at or before its sectors
pub chunk_begins : (chunk s : ℕ) → chunk * (s / chunk) ≤ s
chunk_begins chunk s = mul-div-le s chunk

-- and ends behind them
pub chunk_ends : (chunk s : ℕ) → 0 < chunk → s < chunk * (s / chunk + 1)
chunk_ends chunk s some = lt-mul-div-succ s some

-- a sector between the borders of a chunk lies in it
pub in_chunk : (chunk c s : ℕ) → chunk * c ≤ s → s < chunk * (c + 1) → s / chunk ≡ c
in_chunk chunk c s from to =
    let e : c * chunk + (s - chunk * c) ≡ s = omega arith in
    let lt : s - chunk * c < chunk = omega arith in
    ap (λ n. n / chunk) (sym e) ∙ div-mul-add c chunk (s - chunk * c) lt

-- a later sector lies in no earlier chunk
pub chunk_order : (chunk a b : ℕ) → 0 < chunk → a ≤ b → a / chunk ≤ b / chunk
chunk_order chunk a b some le = le-div (a / chunk) b chunk some (omega (arith, mul-div-le a chunk))

-- where the next chunk begins
pub next_border : (chunk s : ℕ) → 0 < chunk → s + (chunk - s % chunk) ≡ chunk * (s / chunk + 1)
next_border chunk s some = omega arith

-- before that, a sector lies in the same chunk
pub same_chunk : (chunk s n : ℕ) → 0 < chunk → n < chunk - s % chunk → (s + n) / chunk ≡ s / chunk
same_chunk chunk s n some lt = in_chunk chunk (s / chunk) (s + n) (omega (arith, mul-div-le s chunk)) (omega (arith, next_border chunk s some))
